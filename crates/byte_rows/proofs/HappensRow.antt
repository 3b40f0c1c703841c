-- The row of specs/Happens.antt meets every premise. Assumes nothing.
use Rattle.std.proofs.Common.{◌≡◌, ℕ, ◌+◌, ◌-◌, Bool, true, ◌&&◌, ltb, ◌⊎◌, List, [], ◌∷◌, ◌++◌, map, length, take, drop, replicate, Some, None, sym, refl, ap, ◌∙◌, subst, inl, inr, arith}
use Rattle.byte_rows.proofs.Air.{gets-spelled, map-mem}
use Rattle.byte_rows.proofs.Ranges.{take_short}
use Rattle.byte_rows.specs.Happens.{CanHappen, asks, basis, before, happens, key_of, mark, plain, served, number_of, plain_lock, w1, w2, w3, w4, w5, w6, words}
use Rattle.byte_rows.specs.Premise.{Alone, Each, Fair, Heard, MadeSo, Row, Sound, Try, WorkedOut, whole_of}
use Rattle.byte_rows.specs.Served.{Opens, Ready, service_letter}
use Rattle.byte_rows.specs.System.{Bytewise, Call, brings, run, steals, wants}
use Rattle.byte_rows.specs.Term.{Whole, air_of, inside_term, name_in, term_among, word_term}
use Rattle.contents.specs.Field.{Bytes as Octets, part}
use Rattle.contents.specs.Inside.{write_login}
use Rattle.house_side.specs.House.{Read, logs}
use Rattle.locked.specs.Locked.{Bytes, letter_lock}
use Rattle.parts.specs.Condition.{first_fault}
use Rattle.parts.specs.declared.word.Key.{Key}
use Rattle.parts.specs.declared.word.Login.{Login}
use Rattle.rows.proofs.Names.{same_refl}
use Rattle.rows.specs.Name.{Apart, draw_name, own_name}
use Rattle.rows.specs.System.{House, Reader, Service}
use Rattle.std.proofs.lemmas.List.{drop_at, drop-drop, length-append, take_at}
use Rattle.std.proofs.lemmas.Bool.{cond-true, ltb-true}
use Rattle.std.specs.Str.{bytes_eq}
use Rattle.tickets.specs.Term.{Gets, Own, Term}
use Rattle.tickets.specs.Term
use mathlib.Core.List.Memᴰ
use mathlib.Core.List.{Memᴰ}
use Rattle.rows.proofs.Sides.{and_left, and_right}

-- each is a byte, tested
abbrev all_bytes : Bytes → Bool
all_bytes [] = true
all_bytes (b ∷ bs) = ltb b 256 && all_bytes bs

octets : (bs : Bytes) → all_bytes bs ≡ true → Octets bs
octets [] h = tt
octets (b ∷ bs) h = (ltb-true b 256 (and_left (ltb b 256) (all_bytes bs) h), octets bs (and_right (ltb b 256) (all_bytes bs) h))

plain-fair : Fair plain
plain-fair =
    record {
      front = λ kind key drawn inside n. take_at drawn (mark kind key ++ (inside ++ replicate 16 0)) 16 n;
      long = λ kind key drawn inside n. let a = length-append drawn (mark kind key ++ (inside ++ replicate 16 0)) in let b = length-append (mark kind key) (inside ++ replicate 16 0) in let d = length-append inside (replicate 16 0) in omega arith;
      short = λ kind key drawn inside n k. let a = length-append drawn (mark kind key ++ (inside ++ replicate 16 0)) in let b = length-append (mark kind key) (inside ++ replicate 16 0) in let d = length-append inside (replicate 16 0) in let e = take_short 32 key in omega arith;
    }

module _ (g : Whole) (s : Bytewise) where
  -- one lock that is tried is sound
  abbrev One : Try → Type 0
  One x = (inside : Bytes) → plain.opens x.kind x.key x.lock ≡ Some inside → MadeSo plain basis g s x inside ⊎ WorkedOut plain basis g s x inside

  -- it was made so
  was-made : (x : Try) (drawn i : Bytes) → plain.opens x.kind x.key x.lock ≡ Some i → Memᴰ (record { kind = x.kind; key = x.key; drawn = drawn; inside = i }) s.made
      → plain.lock x.kind x.key drawn i ≡ x.lock → One x
  was-made x drawn i o k e inside p =
      let q : i ≡ inside = cc in
      inl (record {
        drawn = drawn;
        known = subst (λ (z : Bytes). Memᴰ (record { kind = x.kind; key = x.key; drawn = drawn; inside = z }) s.made) q k;
        same = subst (λ (z : Bytes). plain.lock x.kind x.key drawn z ≡ x.lock) q e;
      })

  -- it does not open
  stays-shut : (x : Try) → plain.opens x.kind x.key x.lock ≡ None → One x
  stays-shut x o inside p = absurd (let z : ◌≡◌ {A = ℕ} 0 1 = cc in omega arith)

  -- so are some
  abbrev All : List Try → Type 0
  All [] = Unit {0}
  All (x ∷ xs) = One x × All xs

  all_sound : (xs : List Try) → All xs → Sound plain basis g s xs
  all_sound [] h x m = absurd (Memᴰ.not-nil m)
  all_sound (y ∷ xs) h x m = go (λ k. all_sound xs h.1 x k) (Memᴰ.cases_cons m)
    where
      go : (Memᴰ x xs → One x) → (x ≡ y) ⊎ Memᴰ x xs → One x
      go rest (inl e) = subst (λ (z : Try). One z) (sym e) h.0
      go rest (inr k) = rest k

  -- a word that was sent
  was-sent : (w : Bytes) (xs : List Try) → all_bytes w ≡ true → Memᴰ w s.words → All xs → Heard plain basis g s w xs
  was-sent w xs o k h = record { octets = octets w o; worked = Term.has (Memᴰ.append_right (map Own s.stolen) (map-mem (word_term plain basis g) k)); sound = all_sound xs h }

reader : Alone basis 1
unfolding own_name
reader = record { there = omega arith; alone = refl }

-- whose login it is
login-of : (r : Read) (a b : ℕ) (x y : Login) → r ≡ logs b y → Alone basis b → r ≡ logs a x → Alone basis a
login-of r a b x y e h f = let p : b ≡ a = cc in subst (λ (n : ℕ). Alone basis n) p h

module _ (g : Whole) where
  before-meets : Each plain basis g 10 before
  before-meets = (tt, (tt, (tt, (record { there = omega arith; own = refl }, (record { there = omega arith; own = refl }, (record { there = omega arith; own = refl }, omega arith))))))

  line-meets : Each plain basis g 10 (wants 1 2 None words ∷ before)
  line-meets = (reader, before-meets)

  -- the login opens with the reader's own key
  abbrev after1 : List Call
  after1 = wants 1 2 None words ∷ before

  login-meets : Each plain basis g 10 (brings House w1 ∷ after1)
  unfolding first_fault
  login-meets = (
    record {
      heard =
          was-sent g (run plain basis 10 after1) w1 _ refl (Memᴰ.head refl)
          (was-made g (run plain basis 10 after1) _ (replicate 16 12) _ refl (Memᴰ.head refl) refl, tt);
      reader = λ a x e. login-of _ a 1 x _ refl reader e;
    },
    line-meets,
  )

  -- the first letter opens with it too
  abbrev after2 : List Call
  after2 = brings House w1 ∷ after1

  letter-meets : Each plain basis g 10 (brings (Reader 1) w2 ∷ after2)
  unfolding first_fault
  letter-meets = (
    record {
      reader = reader;
      heard =
          was-sent g (run plain basis 10 after2) w2 _ refl (Memᴰ.head refl)
          (was-made g (run plain basis 10 after2) _ (replicate 16 23) _ refl (Memᴰ.tail (Memᴰ.head refl)) refl, tt);
    },
    login-meets,
  )

  -- the house's own ticket, and the asking under its key
  abbrev after3 : List Call
  after3 = brings (Reader 1) w2 ∷ after2

  asking_meets : Each plain basis g 10 (brings House w3 ∷ after3)
  unfolding first_fault
  asking_meets = (
    record {
      heard =
          was-sent g (run plain basis 10 after3) w3 _ refl (Memᴰ.head refl) (
            was-made g (run plain basis 10 after3) _ (replicate 16 22) _ refl (Memᴰ.tail (Memᴰ.head refl)) refl,
            (was-made g (run plain basis 10 after3) _ (replicate 16 14) _ refl (Memᴰ.head refl) refl, tt),
          );
      reader = λ a x e. absurd (let z : ◌≡◌ {A = ℕ} 0 1 = cc in omega arith);
    },
    letter-meets,
  )

  -- the second letter does not open with the own key, but with that of the house's ticket
  abbrev after4 : List Call
  after4 = brings House w3 ∷ after3

  second_meets : Each plain basis g 10 asks
  unfolding first_fault
  second_meets = (
    record {
      reader = reader;
      heard =
          was-sent g (run plain basis 10 after4) w4 _ refl (Memᴰ.head refl) (
            stays-shut g (run plain basis 10 after4) _ refl,
            (was-made g (run plain basis 10 after4) _ (replicate 16 26) _ refl (Memᴰ.tail (Memᴰ.head refl)) refl, tt),
          );
    },
    asking_meets,
  )

  -- the service's ticket, and the asking under its key; and once more
  served-meets : Each plain basis g 10 served
  unfolding first_fault
  served-meets = (
    record {
      a_service = λ e. omega arith;
      there = omega arith;
      heard =
          was-sent g (run plain basis 10 asks) w5 _ refl (Memᴰ.head refl) (
            was-made g (run plain basis 10 asks) _ (replicate 16 25) _ refl (Memᴰ.tail (Memᴰ.head refl)) refl,
            (was-made g (run plain basis 10 asks) _ (replicate 16 16) _ refl (Memᴰ.head refl) refl, tt),
          );
    },
    second_meets,
  )

  again-meets : Each plain basis g 10 (brings (Service 2) w5 ∷ served)
  unfolding first_fault
  again-meets = (
    record {
      a_service = λ e. omega arith;
      there = omega arith;
      heard =
          was-sent g (run plain basis 10 served) w5 _ refl (Memᴰ.tail (Memᴰ.head refl)) (
            was-made g (run plain basis 10 served) _ (replicate 16 25) _ refl (Memᴰ.tail (Memᴰ.tail (Memᴰ.head refl))) refl,
            (was-made g (run plain basis 10 served) _ (replicate 16 16) _ refl (Memᴰ.tail (Memᴰ.head refl)) refl, tt),
          );
    },
    served-meets,
  )

  -- bytes that are no word
  abbrev after7 : List Call
  after7 = brings House (9 ∷ 9 ∷ []) ∷ brings (Service 2) w5 ∷ served

  junk-meets : Each plain basis g 10 after7
  unfolding first_fault
  junk-meets = (
    record {
      heard = record { octets = octets (9 ∷ 9 ∷ []) refl; worked = gets-spelled (9 ∷ 9 ∷ []); sound = λ x m. absurd (Memᴰ.not-nil m) };
      reader = λ a x e. absurd (let z : ◌≡◌ {A = ℕ} 0 1 = cc in omega arith);
    },
    again-meets,
  )

-- the whole row
abbrev whole : Whole
whole = whole_of plain basis 10 happens

-- what could be made by whoever has what was sent and stolen
could-be : (s : Bytewise) (x : Try) (i : Bytes) → plain.opens x.kind x.key x.lock ≡ Some i → Gets (air_of plain basis whole s) (name_in plain basis whole x.key) → Gets (air_of plain basis whole s) (inside_term plain basis whole x.kind i) → One whole s x
could-be s x i o k c inside p =
    let q : i ≡ inside = cc in
    inr (record { key = k; content = subst (λ (z : Bytes). Gets (air_of plain basis whole s) (inside_term plain basis whole x.kind z)) q c })

other-reader : Alone basis 3
unfolding own_name
other-reader = record { there = omega arith; alone = refl }

-- the outsiders' login: they have the stolen key, and can write the rest
theft-meets : Each plain basis whole 10 (brings House w6 ∷ steals 3 ∷ after7 whole)
unfolding first_fault term_among own_name draw_name
theft-meets = (
  record {
    heard =
        record {
          octets = octets w6 refl;
          worked = Term.pair (Term.num 3) (gets-spelled (plain_lock 4 (replicate 32 4) (replicate 16 41) (write_login (record { number = number_of 42; tick = 10 }))));
          sound =
              all_sound whole (run plain basis 10 (steals 3 ∷ after7 whole)) _
              (could-be (run plain basis 10 (steals 3 ∷ after7 whole)) _ _ refl (Term.has (Memᴰ.head refl)) (Term.pair (gets-spelled (replicate 16 42)) (Term.num 10)), tt);
        };
    reader = λ a x e. login-of _ a 3 x _ refl other-reader e;
  },
  (omega arith, junk-meets whole),
)

row : Row plain basis 10 happens
unfolding first_fault Apart draw_name own_name
row =
    record {
      each = (tt, (tt, theft-meets));
      draws = (refl, refl, (refl, refl, (refl, refl, (refl, refl, (refl, refl, (refl, refl, tt))))));
      locks = (refl, refl, (refl, refl, (refl, refl, (refl, refl, (refl, refl, (refl, refl, (refl, refl, (refl, refl, (refl, refl, (refl, refl, tt))))))))));
      start = omega arith;
      life = omega arith;
      numbers = omega arith;
    }

-- before the line: no word was brought yet
before_row : Row plain basis 10 before
unfolding Apart
before_row =
    record {
      each = before-meets (whole_of plain basis 10 before);
      draws = tt;
      locks = tt;
      start = omega arith;
      life = omega arith;
      numbers = omega arith;
    }

-- what was locked so that it hides nothing opens again
plain-opens : Opens plain
plain-opens kind key drawn inside n =
    let m = mark kind key in
    let rest = inside ++ replicate 16 0 in
    let e : drop 16 (drawn ++ (m ++ rest)) ≡ m ++ rest = drop_at drawn (m ++ rest) 16 n in
    let a : part 16 (length m) (drawn ++ (m ++ rest)) ≡ m = ap (λ (z : Bytes). take (length m) z) e ∙ take_at m rest (length m) refl in
    let d : drop (16 + length m) (drawn ++ (m ++ rest)) ≡ rest = sym (drop-drop (length m) 16 (drawn ++ (m ++ rest))) ∙ ap (λ (z : Bytes). drop (length m) z) e ∙ drop_at m rest (length m) refl in
    let n1 = length-append drawn (m ++ rest) in
    let n2 = length-append m rest in
    let n3 = length-append inside (replicate 16 0) in
    let k : length inside ≡ length (drawn ++ (m ++ rest)) - (32 + length m) = omega arith in
    cond-true (bytes_eq (part 16 (length m) (drawn ++ (m ++ rest))) m) (Some (part (16 + length m) (length (drawn ++ (m ++ rest)) - (32 + length m)) (drawn ++ (m ++ rest)))) None
    (subst (λ (z : Bytes). bytes_eq z m ≡ true) (sym a) (same_refl m))
    ∙ ap (λ (z : Bytes). Some (take (length (drawn ++ (m ++ rest)) - (32 + length m)) z)) d
    ∙ ap (λ (z : Bytes). Some z) (take_at inside (replicate 16 0) (length (drawn ++ (m ++ rest)) - (32 + length m)) k)

ready-before : Ready plain basis (run plain basis 10 before) 1 2 words
unfolding first_fault own_name draw_name
ready-before =
    record {
      known = refl;
      is_open = refl;
      service_known = refl;
      words = omega arith;
      house_at_work = record { awake = refl; writes = refl; room = omega arith; drawn = omega arith };
      at_work = record { awake = refl; writes = refl; room = omega arith; drawn = omega arith };
      drawn = omega arith;
      lines = omega arith;
      tickets = omega arith;
      first_new = refl;
      second_new = refl;
      no_own_key = refl;
      house_digest = refl;
      digest = refl;
      one_key = λ k x m e. one k x e (Memᴰ.cases_cons m);
    }
  where
    one : (k : Key) (x : Bytes) → plain.opens 2 k.0 (letter_lock plain (service_letter plain (run plain basis 10 before) 1 2 words)) ≡ Some x → (k ≡ key_of 2) ⊎ Memᴰ k (key_of 21 ∷ []) → k ≡ key_of 21
    one k x e (inl i) =
        absurd (shut x (subst (λ (z : Key). plain.opens 2 z.0 (letter_lock plain (service_letter plain (run plain basis 10 before) 1 2 words)) ≡ Some x) i e))
      where
        shut : (y : Bytes) → None ≡ Some y → ⊥
        shut y f = let z : ◌≡◌ {A = ℕ} 0 1 = cc in omega arith
    one k x e (inr i) = Memᴰ.eq_of_singleton i

pub can-happen : CanHappen
unfolding first_fault own_name
can-happen =
    record {
      fair = plain-fair;
      row = row;
      deed = refl;
      line = refl;
      gives = refl;
      again = refl;
      is-closed = refl;
      stolen = refl;
      before_row = before_row;
      opens_again = plain-opens;
      ready = ready-before;
    }
