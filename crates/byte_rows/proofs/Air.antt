-- What can be worked out, and what the bytes of a lock stand for. Assumes nothing.
use Rattle.std.proofs.Common.{◌≡◌, ℕ, suc, Bool, true, false, cond, ◌⊎◌, List, [], ◌∷◌, ◌++◌, map, length, take, Some, None, sym, refl, ap, ◌∙◌, subst, inl, inr, arith}
use Rattle.byte_rows.specs.Premise.{MadeSo, Try, WorkedOut, nonces}
use Rattle.byte_rows.specs.System.{Basis, Bytewise, Made, lock_of}
use Rattle.byte_rows.specs.Term.{Whole, air_of, inside_term, lock_term, made_term, name_in, term_among}
use Rattle.locked.specs.Locked.{Bytes, Locks}
use Rattle.rows.proofs.Names.{same-eq, same_refl}
use Rattle.rows.specs.Name.{Apart, draw_name, spell}
use Rattle.std.specs.Str.{bytes_eq}
use Rattle.tickets.proofs.Bools.{clash}
use Rattle.tickets.specs.Term.{Gets, Lock, Term}
use Rattle.tickets.specs.Term
use mathlib.Core.List.Memᴰ
use mathlib.Core.List.{Memᴰ}

-- whoever gets all of these gets what can be worked out of them
pub gets-all : {xs ys : List Term} → ((x : Term) → Memᴰ x xs → Gets ys x) → {x : Term} → Gets xs x → Gets ys x
gets-all f {x} (Term.has h) = f x h
gets-all f (Term.num k) = Term.num k
gets-all f (Term.odd k) = Term.odd k
gets-all f (Term.pair a e) = Term.pair (gets-all f a) (gets-all f e)
gets-all f (Term.left h) = Term.left (gets-all f h)
gets-all f (Term.right h) = Term.right (gets-all f h)
gets-all f (Term.lock k a e) = Term.lock k (gets-all f a) (gets-all f e)
gets-all f (Term.open' k a e) = Term.open' k (gets-all f a) (gets-all f e)

-- what anybody can write
pub gets-spelled : {xs : List Term} (bs : Bytes) → Gets xs (spell bs)
unfolding spell
gets-spelled [] = Term.num 0
gets-spelled (b ∷ bs) = Term.pair (Term.num b) (gets-spelled bs)

-- where more was said
pub gets-later : {xs : List Term} (ys : List Term) {x : Term} → Gets xs x → Gets (ys ++ xs) x
gets-later [] h = h
gets-later (y ∷ ys) h = gets-all (λ x k. Term.has (Memᴰ.tail k)) (gets-later ys h)

-- one of many that were made from others
pub map-mem : {A B : Type 0} (f : A → B) {x : A} {xs : List A} → Memᴰ x xs → Memᴰ (f x) (map f xs)
map-mem f (Memᴰ.head e) = Memᴰ.head (ap f e)
map-mem f (Memᴰ.tail h) = Memᴰ.tail (map-mem f h)

-- bytes that were not drawn are none of those that were
not-drawn : (ds : List Bytes) (x y : Bytes) → draw_name ds x ≡ None → Memᴰ y ds → y ≡ x → ⊥
unfolding draw_name
not-drawn [] x y h m e = Memᴰ.not-nil m
not-drawn (d ∷ ds) x y h m e = go (λ k i. not-drawn ds x y k i e) (bytes_eq d x) refl h (Memᴰ.cases_cons m)
  where
    go : (draw_name ds x ≡ None → Memᴰ y ds → ⊥) → (b : Bool) → bytes_eq d x ≡ b → cond b (Some (suc (length ds))) (draw_name ds x) ≡ None → (y ≡ d) ⊎ Memᴰ y ds → ⊥
    go rest true f k o = let z : ◌≡◌ {A = ℕ} 0 1 = cc in omega arith
    go rest false f k (inl i) = clash (subst (λ (z : Bytes). bytes_eq d z ≡ true) (sym i ∙ e) (same_refl d)) f
    go rest false f k (inr i) = rest k i

module _ (l : Locks) (c : Basis) (g : Whole) where
  -- the first 12 bytes of a lock are those that were drawn for it
  abbrev pub Fronted : List Made → Type 0
  Fronted ms = (m : Made) → Memᴰ m ms → take 12 (lock_of l m) ≡ take 12 m.drawn

  among : (ms : List Made) → Apart [] (nonces ms) → Fronted ms → (m : Made) → Memᴰ m ms → term_among l c g ms (lock_of l m) ≡ made_term l c g m
  unfolding term_among Apart
  among [] a f m h = absurd (Memᴰ.not-nil h)
  among (x ∷ ms) a f m h = go (λ i. among ms a.2 (λ z k. f z (Memᴰ.tail k)) m i) (Memᴰ.cases_cons h) (bytes_eq (lock_of l x) (lock_of l m)) refl
    where
      go : (Memᴰ m ms → term_among l c g ms (lock_of l m) ≡ made_term l c g m) → (m ≡ x) ⊎ Memᴰ m ms → (b : Bool) → bytes_eq (lock_of l x) (lock_of l m) ≡ b
          → cond b (made_term l c g x) (term_among l c g ms (lock_of l m)) ≡ made_term l c g m
      go rest (inl e) true s = ap (λ (z : Made). made_term l c g z) (sym e)
      go rest (inl e) false s = absurd (clash (subst (λ (z : Made). bytes_eq (lock_of l z) (lock_of l m) ≡ true) e (same_refl (lock_of l m))) s)
      go rest (inr i) true s =
          absurd
          (not-drawn (nonces ms) (take 12 x.drawn) (take 12 m.drawn) a.0 (map-mem (λ z. take 12 z.drawn) i)
          (sym (f m h) ∙ ap (λ (z : Bytes). take 12 z) (sym (same-eq (lock_of l x) (lock_of l m) s)) ∙ f x (Memᴰ.head refl)))
      go rest (inr i) false s = rest i

  -- a lock that was made stands for what was locked
  pub made-stands : Apart [] (nonces g.made) → Fronted g.made → (m : Made) → Memᴰ m g.made → lock_term l c g (lock_of l m) ≡ made_term l c g m
  made-stands a f m h = among g.made a f m h

  -- a lock that is tried and opens, and can be worked out as a word, can be worked out as a lock
  pub opened-gets : Apart [] (nonces g.made) → Fronted g.made → {air : List Term} (s : Bytewise)
      → ((m : Made) → Memᴰ m s.made → Memᴰ m g.made)
      → ((x : Term) → Memᴰ x (air_of l c g s) → Gets air x)
      → (x : Try) (inside : Bytes) → Gets air (lock_term l c g x.lock) → MadeSo l c g s x inside ⊎ WorkedOut l c g s x inside
      → Gets air (Lock x.kind (name_in l c g x.key) (inside_term l c g x.kind inside))
  opened-gets a f {air} s sub gets x inside h (inl m) =
      subst (λ (y : Term). Gets air y)
      (ap (λ (w : Bytes). lock_term l c g w) (sym m.same)
      ∙ made-stands a f (record { kind = x.kind; key = x.key; drawn = m.drawn; inside = inside }) (sub _ m.known))
      h
  opened-gets a f s sub gets x inside h (inr w) = Term.lock x.kind (gets-all gets w.key) (gets-all gets w.content)
