-- Different keys and numbers have different names, and a draw is named by its place. Assumes nothing.
use Rattle.std.proofs.Common.{◌≡◌, ℕ, zero, suc, ◌+◌, ◌*◌, ◌<◌, ◌≤◌, Bool, true, false, cond, ◌&&◌, eqb, ◌⊎◌, List, [], ◌∷◌, ◌++◌, length, Some, None, Option, sym, refl, ap, ◌∙◌, subst, inl, inr, arith, eq-eqb, eqb-true}
use Rattle.std.specs.Str.{bytes_eq}
use Rattle.parts.specs.declared.word.Key.{Key}
use Rattle.tickets.specs.Term.{Own, Drawn, even}
use Rattle.tickets.proofs.Bools.{clash, either, even-injective}
use Rattle.rows.specs.Name.{Apart, DrawsNamed, Bytes, spell, own_name, draw_name, named, name_of, own_of, Naming}

pub same-eq : (x y : Bytes) → bytes_eq x y ≡ true → x ≡ y
same-eq [] [] h = refl
same-eq [] (b ∷ y) h = absurd (clash {b = false} h refl)
same-eq (a ∷ x) [] h = absurd (clash {b = false} h refl)
same-eq (a ∷ x) (b ∷ y) h = go (same-eq x y) (either (eqb a b))
  where
    go : (bytes_eq x y ≡ true → x ≡ y) → (eqb a b ≡ true) ⊎ (eqb a b ≡ false) → (a ∷ x) ≡ (b ∷ y)
    go rest (inl e) =
        let r : bytes_eq x y ≡ true = subst (λ (t : Bool). (t && bytes_eq x y) ≡ true) e h in
        let p = eqb-true a b e in
        let q = rest r in
        cc
    go rest (inr e) = absurd (clash (subst (λ (t : Bool). (t && bytes_eq x y) ≡ true) e h) refl)

pub same_refl : (x : Bytes) → bytes_eq x x ≡ true
same_refl [] = refl
same_refl (a ∷ x) = subst (λ (t : Bool). (t && bytes_eq x x) ≡ true) (sym (eq-eqb a a refl)) (same_refl x)

pub spell-apart : (x y : Bytes) → spell x ≡ spell y → x ≡ y
unfolding spell
spell-apart [] [] e = refl
spell-apart [] (b ∷ y) e = absurd (let z : ◌≡◌ {A = ℕ} 0 1 = cc in omega arith)
spell-apart (a ∷ x) [] e = absurd (let z : ◌≡◌ {A = ℕ} 0 1 = cc in omega arith)
spell-apart (a ∷ x) (b ∷ y) e =
    let p : a ≡ b = cc in
    let q : x ≡ y = spell-apart x y (cc) in
    cc

spell-no-own : (x : Bytes) (n : ℕ) → spell x ≡ Own n → ⊥
unfolding spell
spell-no-own [] n e = let z : ◌≡◌ {A = ℕ} 0 1 = cc in omega arith
spell-no-own (b ∷ x) n e = let z : ◌≡◌ {A = ℕ} 0 1 = cc in omega arith

spell-no-draw : (x : Bytes) (n : ℕ) → spell x ≡ Drawn n → ⊥
unfolding spell
spell-no-draw [] n e = let z : ◌≡◌ {A = ℕ} 0 1 = cc in omega arith
spell-no-draw (b ∷ x) n e = let z : ◌≡◌ {A = ℕ} 0 1 = cc in omega arith

-- the own key that was found has these bytes
pub own-found : (ks : List Key) (n a : ℕ) (x : Bytes) → own_name ks n x ≡ Some a → (i : ℕ) × (a ≡ n + i) × (i < length ks) × ((own_of ks i).0 ≡ x)
unfolding own_name
own-found [] n a x e = absurd (let z : ◌≡◌ {A = ℕ} 0 1 = cc in omega arith)
own-found (k ∷ ks) n a x e = go (own-found ks (suc n) a x) (bytes_eq k.0 x) refl e
  where
    go : (own_name ks (suc n) x ≡ Some a → (i : ℕ) × (a ≡ suc n + i) × (i < length ks) × ((own_of ks i).0 ≡ x))
        → (b : Bool) → bytes_eq k.0 x ≡ b → cond b (Some n) (own_name ks (suc n) x) ≡ Some a
        → (i : ℕ) × (a ≡ n + i) × (i < length (k ∷ ks)) × ((own_of (k ∷ ks) i).0 ≡ x)
    go rest true f g = let p : n ≡ a = cc in (0, omega arith, omega arith, same-eq k.0 x f)
    go rest false f g =
        let r = rest g in
        let p = r.1 in
        let q = r.2 in
        (suc r.0, omega arith, omega arith, r.3)

-- an own key is found
pub own-there : (ks : List Key) (n i : ℕ) (x : Bytes) → i < length ks → (own_of ks i).0 ≡ x → (a : ℕ) × (own_name ks n x ≡ Some a)
unfolding own_name
own-there [] n i x h e = absurd (omega arith)
own-there (k ∷ ks) n zero x h e = (n, ap (λ (b : Bool). cond b (Some n) (own_name ks (suc n) x)) (subst (λ (y : Bytes). bytes_eq k.0 y ≡ true) e (same_refl k.0)))
own-there (k ∷ ks) n (suc i) x h e = go (own-there ks (suc n) i x (omega arith) e) (bytes_eq k.0 x)
  where
    go : (a : ℕ) × (own_name ks (suc n) x ≡ Some a) → (b : Bool) → (a : ℕ) × (cond b (Some n) (own_name ks (suc n) x) ≡ Some a)
    go r true = (n, refl)
    go r false = r

pub draw-low : (ds : List Bytes) (x : Bytes) (p : ℕ) → draw_name ds x ≡ Some p → p ≤ length ds
unfolding draw_name
draw-low [] x p e = absurd (let z : ◌≡◌ {A = ℕ} 0 1 = cc in omega arith)
draw-low (d ∷ ds) x p e = go (draw-low ds x p) (bytes_eq d x) e
  where
    go : (draw_name ds x ≡ Some p → p ≤ length ds) → (b : Bool) → cond b (Some (suc (length ds))) (draw_name ds x) ≡ Some p → p ≤ length (d ∷ ds)
    go rest true g = let q : suc (length ds) ≡ p = cc in omega arith
    go rest false g = let q = rest g in omega arith

-- a place among the draws has one row of bytes
pub draw-apart : (ds : List Bytes) (x y : Bytes) (p : ℕ) → draw_name ds x ≡ Some p → draw_name ds y ≡ Some p → x ≡ y
unfolding draw_name
draw-apart [] x y p e f = absurd (let z : ◌≡◌ {A = ℕ} 0 1 = cc in omega arith)
draw-apart (d ∷ ds) x y p e f = go (draw-apart ds x y p) (bytes_eq d x) (bytes_eq d y) refl refl e f
  where
    go : (draw_name ds x ≡ Some p → draw_name ds y ≡ Some p → x ≡ y) → (a b : Bool) → bytes_eq d x ≡ a → bytes_eq d y ≡ b
        → cond a (Some (suc (length ds))) (draw_name ds x) ≡ Some p → cond b (Some (suc (length ds))) (draw_name ds y) ≡ Some p → x ≡ y
    go rest true true i j g h = sym (same-eq d x i) ∙ same-eq d y j
    go rest true false i j g h = absurd (let q : suc (length ds) ≡ p = cc in let l = draw-low ds y p h in omega arith)
    go rest false true i j g h = absurd (let q : suc (length ds) ≡ p = cc in let l = draw-low ds x p g in omega arith)
    go rest false false i j g h = rest g h

module _ (own : List Key) (ds : List Bytes) where
  -- different bytes have different names
  pub name-apart : (x y : Bytes) → name_of own ds x ≡ name_of own ds y → x ≡ y
  name-apart x y e = go (own_name own 0 x) (own_name own 0 y) (draw_name ds x) (draw_name ds y) refl refl refl refl e
    where
      go : (a b c d : Option ℕ) → own_name own 0 x ≡ a → own_name own 0 y ≡ b → draw_name ds x ≡ c → draw_name ds y ≡ d
          → named Own a (named even c (spell x)) ≡ named Own b (named even d (spell y)) → x ≡ y
      go (Some a) (Some b) c d i j k l h =
          let p = own-found own 0 a x i in
          let q = own-found own 0 b y j in
          let r : a ≡ b = cc in
          let s : p.0 ≡ q.0 = let u = p.1 in let v = q.1 in omega arith in
          sym p.3 ∙ ap (λ (n : ℕ). (own_of own n).0) s ∙ q.3
      go (Some a) None c (Some d) i j k l h = absurd (let z : ◌≡◌ {A = ℕ} 0 1 = cc in omega arith)
      go (Some a) None c None i j k l h = absurd (spell-no-own y a (sym h))
      go None (Some b) (Some c) d i j k l h = absurd (let z : ◌≡◌ {A = ℕ} 0 1 = cc in omega arith)
      go None (Some b) None d i j k l h = absurd (spell-no-own x b h)
      go None None (Some c) (Some d) i j k l h =
          let r : c ≡ d = even-injective c d h in
          draw-apart ds x y c k (l ∙ ap (λ (n : ℕ). Some n) (sym r))
      go None None (Some c) None i j k l h = absurd (spell-no-draw y (c * 2) (sym h))
      go None None None (Some d) i j k l h = absurd (spell-no-draw x (d * 2) h)
      go None None None None i j k l h = spell-apart x y h

  abbrev pub key_name : ℕ → ℕ
  key_name n = named (λ a. a) (own_name own 0 (own_of own n).0) n

  pub own-named : (n : ℕ) → n < length own → name_of own ds (own_of own n).0 ≡ Own (key_name n)
  own-named n h = go (own_name own 0 (own_of own n).0) refl (own-there own 0 n (own_of own n).0 h refl)
    where
      go : (o : Option ℕ) → own_name own 0 (own_of own n).0 ≡ o → (a : ℕ) × (own_name own 0 (own_of own n).0 ≡ Some a)
          → named Own o (named even (draw_name ds (own_of own n).0) (spell (own_of own n).0)) ≡ Own (named (λ a. a) o n)
      go (Some a) e t = refl
      go None e t = absurd (let f = t.1 in let z : ◌≡◌ {A = ℕ} 0 1 = cc in omega arith)

  pub naming : Naming own
  naming = record { name = name_of own ds; key_of = key_name; apart = name-apart; of_own = own-named }

-- a draw that comes later is another
later-other : (own : List Key) (later earlier : List Bytes) (d x : Bytes) → draw_name (later ++ (d ∷ earlier)) x ≡ None → bytes_eq x d ≡ true → ⊥
unfolding draw_name
later-other own [] earlier d x h e = go (bytes_eq d x) refl h
  where
    go : (b : Bool) → bytes_eq d x ≡ b → cond b (Some (suc (length earlier))) (draw_name earlier x) ≡ None → ⊥
    go true f g = let z : ◌≡◌ {A = ℕ} 0 1 = cc in omega arith
    go false f g = clash (subst (λ (y : Bytes). bytes_eq d y ≡ true) (sym (same-eq x d e)) (same_refl d)) f
later-other own (y ∷ later) earlier d x h e = go (later-other own later earlier d x) (bytes_eq y x) h
  where
    go : (draw_name (later ++ (d ∷ earlier)) x ≡ None → bytes_eq x d ≡ true → ⊥) → (b : Bool) → cond b (Some (suc (length (later ++ (d ∷ earlier))))) (draw_name (later ++ (d ∷ earlier)) x) ≡ None → ⊥
    go rest true g = let z : ◌≡◌ {A = ℕ} 0 1 = cc in omega arith
    go rest false g = rest g e

draw-place : (own : List Key) (later earlier : List Bytes) (d : Bytes) → Apart own (later ++ (d ∷ earlier)) → (draw_name (later ++ (d ∷ earlier)) d ≡ Some (suc (length earlier))) × (own_name own 0 d ≡ None)
unfolding Apart draw_name
draw-place own [] earlier d a = (ap (λ (b : Bool). cond b (Some (suc (length earlier))) (draw_name earlier d)) (same_refl d), a.1)
draw-place own (y ∷ later) earlier d a = go (draw-place own later earlier d a.2) (bytes_eq y d) refl
  where
    go : (draw_name (later ++ (d ∷ earlier)) d ≡ Some (suc (length earlier))) × (own_name own 0 d ≡ None) → (b : Bool) → bytes_eq y d ≡ b
        → (cond b (Some (suc (length (later ++ (d ∷ earlier))))) (draw_name (later ++ (d ∷ earlier)) d) ≡ Some (suc (length earlier))) × (own_name own 0 d ≡ None)
    go rest true e = absurd (later-other own later earlier d y a.0 e)
    go rest false e = rest

pub draws-named : DrawsNamed
draws-named own later earlier d a =
    let h = draw-place own later earlier d a in
    ap (λ (o : Option ℕ). named Own o (named even (draw_name (later ++ (d ∷ earlier)) d) (spell d))) h.1
    ∙ ap (λ (o : Option ℕ). named even o (spell d)) h.0
