-- The five words: read and written are each other's inverse, and none is the front of another.
use Rattle.std.proofs.Common.{◌≡◌, ℕ, ◌+◌, ◌<◌, ◌≤◌, Bool, true, false, cond, eqb, leb, ◌⊎◌, List, [], ◌∷◌, ◌++◌, length, take, drop, Some, None, Ok, Err, Option, sym, refl, ap, ◌∙◌, subst, inl, inr, arith}
use Rattle.std.specs.Option.{option_map, ok_or as ok_or_of}
use Rattle.parts.specs.Fault.{class_number}
use Rattle.parts.specs.declared.fault.Class.{Class}
use Rattle.parts.specs.declared.fault.Class.TheVariants.{NotReadable, NotNow, NotYou}
use Rattle.parts.specs.declared.fault.Fault.{Fault}
use Rattle.parts.specs.declared.fault.Fault.TheVariants.{Malformed}
use Rattle.std.proofs.lemmas.List.{append-nil, drop-append-le, drop_at, drop-drop, length-append, length-drop, nil_from_length, take-append-drop, take-append-le, take_at}
use Rattle.std.proofs.lemmas.Bool.{cond-false, cond-true, eqb-true, le-leb, leb-true, ne_eqb}
use Rattle.contents.specs.Field.{bytes_of, number, part, Bytes}
use Rattle.codec.specs.Law.{WordCodec, WordCut, WordFits, WordLonger}
use Rattle.wire.specs.Word.{Frame, login, ticket_and_letter, asking, receipt, refusal, alone, asking_from, class_from, cut, frame_from, framed, grant_from, lock_bytes, lock_fits, lock_length, login_from, paired, receipt_from, refusal_from, write_word}
use Rattle.codec.proofs.Insides.{both, cond-both-true}
use Rattle.codec.proofs.Numbers.{bytes_drop, length_part, number-bytes_of, number-part-lt, number-rest, part-rest}

-- a test that gave Some came out true, with this value
some-test : {X : Type 0} (b : Bool) (x y : X) → cond b (Some x) None ≡ Some y → (b ≡ true) × (x ≡ y)
some-test true x y e = (refl, cc)
some-test false x y e = let z : ◌≡◌ {A = ℕ} 0 1 = cc in absurd (omega arith)

-- what a map gave came from something
some_mapped : {X Y : Type 0} (f : X → Y) (o : Option X) (y : Y) → option_map f o ≡ Some y → (x : X) × (o ≡ Some x) × (f x ≡ y)
some_mapped f None y e = let z : ◌≡◌ {A = ℕ} 0 1 = cc in absurd (omega arith)
some_mapped f (Some x) y e = (x, refl, cc)

-- a lock at the front

-- what is written of a lock is cut off again
pub cut-lock_bytes : (lock rest : List ℕ) → lock_fits lock ≡ true → cut (lock_bytes lock ++ rest) ≡ Some (lock, rest)
cut-lock_bytes lock rest f =
    let fs = both (leb 32 (length lock)) (leb (length lock) 65535) f in
    let low = leb-true 32 (length lock) fs.0 in
    let high = leb-true (length lock) 65535 fs.1 in
    let bs = lock_bytes lock ++ rest in
    let n : lock_length bs ≡ length lock = number-bytes_of 2 (length lock) (omega arith) in
    let p : part 2 (lock_length bs) bs ≡ lock = ap (λ k. take k (lock ++ rest)) n ∙ take_at lock rest (length lock) refl in
    let d : drop (2 + lock_length bs) bs ≡ rest
    = ap (λ k. drop (2 + k) bs) n ∙ sym (drop-drop (length lock) 2 bs) ∙ drop_at lock rest (length lock) refl in
    let t₁ : leb 32 (lock_length bs) ≡ true = le-leb 32 (lock_length bs) (omega arith) in
    let t₂ : leb (2 + lock_length bs) (length bs) ≡ true
    = le-leb (2 + lock_length bs) (length bs) (simp length-append (omega arith)) in
    cond-true _ _ _ (cond-both-true _ _ t₁ t₂)
    ∙ ap (λ x. Some (x, drop (2 + lock_length bs) bs)) p ∙ ap (λ x. Some (lock, x)) d

-- a lock that was cut off, written again before what follows it
record Cuts (bs lock rest : List ℕ) : Type 0 where
  lower : 32 ≤ lock_length bs
  upper : 2 + lock_length bs ≤ length bs
  the-lock : part 2 (lock_length bs) bs ≡ lock
  the_rest : drop (2 + lock_length bs) bs ≡ rest

cuts : (bs lock rest : List ℕ) → cut bs ≡ Some (lock, rest) → Cuts bs lock rest
cuts bs lock rest e =
    let t = some-test _ (part 2 (lock_length bs) bs, drop (2 + lock_length bs) bs) (lock, rest) e in
    let ts = both (leb 32 (lock_length bs)) (leb (2 + lock_length bs) (length bs)) t.0 in
    record {
      lower = leb-true 32 (lock_length bs) ts.0;
      upper = leb-true (2 + lock_length bs) (length bs) ts.1;
      the-lock = ap (λ p. p.0) t.1;
      the_rest = ap (λ p. p.1) t.1;
    }

length-lock : (bs lock rest : List ℕ) → Cuts bs lock rest → length lock ≡ lock_length bs
length-lock bs lock rest c =
    ap length (sym c.the-lock) ∙ length_part 2 (lock_length bs) bs c.upper

cut_again : (bs lock rest : List ℕ) → Bytes bs → cut bs ≡ Some (lock, rest) → (lock_bytes lock ++ rest ≡ bs) × (lock_fits lock ≡ true)
cut_again bs lock rest b e =
    let c = cuts bs lock rest e in
    let n = length-lock bs lock rest c in
    let low = c.lower in
    let up = c.upper in
    let small = number-part-lt 0 2 bs b (omega arith) in
    let tail : lock ++ rest ≡ drop 2 bs
    = ap (λ x. x ++ rest) (sym c.the-lock) ∙ part-rest 2 (lock_length bs) bs rest (sym c.the_rest) in (
      ap (λ k. bytes_of 2 k ++ (lock ++ rest)) n ∙ number-rest 0 2 bs (lock ++ rest) b (omega arith) tail,
      cond-both-true _ _ (le-leb 32 (length lock) (omega arith)) (le-leb (length lock) 65535 (omega arith)),
    )

-- with more bytes behind it, the same lock is cut off
cut-longer : (bs lock rest more : List ℕ) → cut bs ≡ Some (lock, rest) → cut (bs ++ more) ≡ Some (lock, rest ++ more)
cut-longer bs lock rest more e =
    let c = cuts bs lock rest e in
    let low = c.lower in
    let up = c.upper in
    let n : lock_length (bs ++ more) ≡ lock_length bs = ap number (take-append-le 2 bs more (omega arith)) in
    let room : lock_length bs ≤ length (drop 2 bs) = simp length-drop (omega arith) in
    let p : part 2 (lock_length (bs ++ more)) (bs ++ more) ≡ lock
    = ap (λ k. part 2 k (bs ++ more)) n
    ∙ ap (take (lock_length bs)) (drop-append-le 2 bs more (omega arith))
    ∙ take-append-le (lock_length bs) (drop 2 bs) more room ∙ c.the-lock in
    let d : drop (2 + lock_length (bs ++ more)) (bs ++ more) ≡ rest ++ more
    = ap (λ k. drop (2 + k) (bs ++ more)) n
    ∙ drop-append-le (2 + lock_length bs) bs more up ∙ ap (λ x. x ++ more) c.the_rest in
    let t₁ : leb 32 (lock_length (bs ++ more)) ≡ true = le-leb 32 (lock_length (bs ++ more)) (omega arith) in
    let t₂ : leb (2 + lock_length (bs ++ more)) (length (bs ++ more)) ≡ true
    = le-leb (2 + lock_length (bs ++ more)) (length (bs ++ more)) (simp length-append (omega arith)) in
    cond-true _ _ _ (cond-both-true _ _ t₁ t₂)
    ∙ ap (λ x. Some (x, drop (2 + lock_length (bs ++ more)) (bs ++ more))) p ∙ ap (λ x. Some (lock, x)) d

-- one lock to the end

alone-cut : (o : Option (List ℕ × List ℕ)) (lock : List ℕ) → alone o ≡ Some lock → o ≡ Some (lock, [])
alone-cut None lock e = let z : ◌≡◌ {A = ℕ} 0 1 = cc in absurd (omega arith)
alone-cut (Some p) lock e =
    let t = some-test (eqb (length p.1) 0) p.0 lock e in
    let n = nil_from_length p.1 (eqb-true (length p.1) 0 t.0) in
    ap (λ x. Some (x, p.1)) t.1 ∙ ap (λ x. Some (lock, x)) n

alone-lock_bytes : (lock : List ℕ) → lock_fits lock ≡ true → alone (cut (lock_bytes lock)) ≡ Some lock
alone-lock_bytes lock f =
    ap (λ x. alone (cut x)) (sym (append-nil (lock_bytes lock))) ∙ ap alone (cut-lock_bytes lock [] f)

alone-again : (bs lock : List ℕ) → Bytes bs → alone (cut bs) ≡ Some lock → (lock_bytes lock ≡ bs) × (lock_fits lock ≡ true)
alone-again bs lock b e =
    let c = cut_again bs lock [] b (alone-cut (cut bs) lock e) in
    (sym (append-nil (lock_bytes lock)) ∙ c.0, c.1)

alone-longer : (bs lock more : List ℕ) (b : ℕ) → alone (cut bs) ≡ Some lock → alone (cut (bs ++ (b ∷ more))) ≡ None
alone-longer bs lock more b e =
    let n : eqb (length (b ∷ more)) 0 ≡ false = ne_eqb (length (b ∷ more)) 0 (λ z. omega arith) in
    ap alone (cut-longer bs lock [] (b ∷ more) (alone-cut (cut bs) lock e)) ∙ cond-false _ (Some lock) None n

-- there are two bytes before a lock
alone-long : (bs lock : List ℕ) → alone (cut bs) ≡ Some lock → 2 ≤ length bs
alone-long bs lock e =
    let c = cuts bs lock [] (alone-cut (cut bs) lock e) in
    let up = c.upper in
    omega arith

-- two locks to the end

paired-cut : (o : Option (List ℕ × List ℕ)) (p : List ℕ × List ℕ) → paired o ≡ Some p
    → (rest : List ℕ) × (o ≡ Some (p.0, rest)) × (alone (cut rest) ≡ Some p.1)
paired-cut None p e = let z : ◌≡◌ {A = ℕ} 0 1 = cc in absurd (omega arith)
paired-cut (Some q) p e =
    let m = some_mapped (λ lock. (q.0, lock)) (alone (cut q.1)) p e in
    (q.1, ap (λ x. Some (x, q.1)) (ap (λ x. x.0) m.2), m.1 ∙ ap Some (ap (λ x. x.1) m.2))

paired-lock_bytes : (first second : List ℕ) → lock_fits first ≡ true → lock_fits second ≡ true
    → paired (cut (lock_bytes first ++ lock_bytes second)) ≡ Some (first, second)
paired-lock_bytes first second f s =
    ap paired (cut-lock_bytes first (lock_bytes second) f) ∙ ap (option_map (λ lock. (first, lock))) (alone-lock_bytes second s)

paired-longer : (bs more : List ℕ) (p : List ℕ × List ℕ) (b : ℕ) → paired (cut bs) ≡ Some p → paired (cut (bs ++ (b ∷ more))) ≡ None
paired-longer bs more p b e =
    let c = paired-cut (cut bs) p e in
    ap paired (cut-longer bs p.0 c.0 (b ∷ more) c.1)
    ∙ ap (option_map (λ lock. (p.0, lock))) (alone-longer c.0 p.1 more b c.2)

paired-again : (bs : List ℕ) (p : List ℕ × List ℕ) → Bytes bs → paired (cut bs) ≡ Some p
    → (lock_bytes p.0 ++ lock_bytes p.1 ≡ bs) × (lock_fits p.0 ≡ true) × (lock_fits p.1 ≡ true)
paired-again bs p b e =
    let c = paired-cut (cut bs) p e in
    let rest = c.0 in
    let first = cut_again bs p.0 rest b c.1 in
    let r = (cuts bs p.0 rest c.1).the_rest in
    let second = alone-again rest p.1 (subst Bytes r (bytes_drop (2 + lock_length bs) bs b)) c.2 in
    (ap (λ x. lock_bytes p.0 ++ x) second.0 ∙ first.0, first.1, second.1)

-- which word it is

data Found (kind : ℕ) (body : List ℕ) (frame : Frame) : Type 0 where
  a-login : kind ≡ 1 → login_from body ≡ Some frame → Found kind body frame
  a-grant : kind ≡ 2 → grant_from body ≡ Some frame → Found kind body frame
  an-asking : kind ≡ 3 → asking_from body ≡ Some frame → Found kind body frame
  a-receipt : kind ≡ 4 → receipt_from body ≡ Some frame → Found kind body frame
  a-refusal : kind ≡ 5 → refusal_from body ≡ Some frame → Found kind body frame

either : {X : Type 0} (b : Bool) (x y : Option X) (z : X) → cond b x y ≡ Some z → ((b ≡ true) × (x ≡ Some z)) ⊎ (y ≡ Some z)
either true x y z e = inl (refl, e)
either false x y z e = inr e

found : (kind : ℕ) (body : List ℕ) (frame : Frame) → frame_from kind body ≡ Some frame → Found kind body frame
found kind body frame e = at1 (either (eqb kind 1) _ _ frame e)
  where
    at5 : ((eqb kind 5 ≡ true) × (refusal_from body ≡ Some frame)) ⊎ (◌≡◌ {A = Option Frame} None (Some frame)) → Found kind body frame
    at5 (inl p) = a-refusal (eqb-true kind 5 p.0) p.1
    at5 (inr q) = let z : ◌≡◌ {A = ℕ} 0 1 = cc in absurd (omega arith)

    at4 : ((eqb kind 4 ≡ true) × (receipt_from body ≡ Some frame)) ⊎ (cond (eqb kind 5) (refusal_from body) None ≡ Some frame) → Found kind body frame
    at4 (inl p) = a-receipt (eqb-true kind 4 p.0) p.1
    at4 (inr q) = at5 (either (eqb kind 5) _ _ frame q)

    at3 : ((eqb kind 3 ≡ true) × (asking_from body ≡ Some frame)) ⊎ (cond (eqb kind 4) (receipt_from body) (cond (eqb kind 5) (refusal_from body) None) ≡ Some frame) → Found kind body frame
    at3 (inl p) = an-asking (eqb-true kind 3 p.0) p.1
    at3 (inr q) = at4 (either (eqb kind 4) _ _ frame q)

    at2 : ((eqb kind 2 ≡ true) × (grant_from body ≡ Some frame)) ⊎ (cond (eqb kind 3) (asking_from body) (cond (eqb kind 4) (receipt_from body) (cond (eqb kind 5) (refusal_from body) None)) ≡ Some frame) → Found kind body frame
    at2 (inl p) = a-grant (eqb-true kind 2 p.0) p.1
    at2 (inr q) = at3 (either (eqb kind 3) _ _ frame q)

    at1 : ((eqb kind 1 ≡ true) × (login_from body ≡ Some frame)) ⊎ (cond (eqb kind 2) (grant_from body) (cond (eqb kind 3) (asking_from body) (cond (eqb kind 4) (receipt_from body) (cond (eqb kind 5) (refusal_from body) None))) ≡ Some frame) → Found kind body frame
    at1 (inl p) = a-login (eqb-true kind 1 p.0) p.1
    at1 (inr q) = at2 (either (eqb kind 2) _ _ frame q)

-- two bytes stand before the lock of a login
login-long : (body lock : List ℕ) → alone (cut (drop 2 body)) ≡ Some lock → 2 ≤ length body
login-long body lock e =
    let h = alone-long (drop 2 body) lock e in
    let l = length-drop 2 body in
    omega arith

-- nothing is read where bytes follow

login-longer : (body more : List ℕ) (frame : Frame) (b : ℕ) → login_from body ≡ Some frame → login_from (body ++ (b ∷ more)) ≡ None
login-longer body more frame b e =
    let m = some_mapped (login (number (part 0 2 body))) (alone (cut (drop 2 body))) frame e in
    let l = login-long body m.0 m.1 in
    ap (option_map (login (number (part 0 2 (body ++ (b ∷ more))))))
    (ap (λ x. alone (cut x)) (drop-append-le 2 body (b ∷ more) l) ∙ alone-longer (drop 2 body) m.0 more b m.1)

grant-longer : (body more : List ℕ) (frame : Frame) (b : ℕ) → grant_from body ≡ Some frame → grant_from (body ++ (b ∷ more)) ≡ None
grant-longer body more frame b e =
    let m = some_mapped (λ p. ticket_and_letter p.0 p.1) (paired (cut body)) frame e in
    ap (option_map (λ p. ticket_and_letter p.0 p.1)) (paired-longer body more m.0 b m.1)

asking-longer : (body more : List ℕ) (frame : Frame) (b : ℕ) → asking_from body ≡ Some frame → asking_from (body ++ (b ∷ more)) ≡ None
asking-longer body more frame b e =
    let m = some_mapped (λ p. asking p.0 p.1) (paired (cut body)) frame e in
    ap (option_map (λ p. asking p.0 p.1)) (paired-longer body more m.0 b m.1)

receipt-longer : (body more : List ℕ) (frame : Frame) (b : ℕ) → receipt_from body ≡ Some frame → receipt_from (body ++ (b ∷ more)) ≡ None
receipt-longer body more frame b e =
    let m = some_mapped receipt (alone (cut body)) frame e in
    ap (option_map receipt) (alone-longer body m.0 more b m.1)

refusal-longer : (body more : List ℕ) (frame : Frame) (b : ℕ) → refusal_from body ≡ Some frame → refusal_from (body ++ (b ∷ more)) ≡ None
refusal-longer [] more frame b e = let z : ◌≡◌ {A = ℕ} 0 1 = cc in absurd (omega arith)
refusal-longer (class ∷ rest) more frame b e =
    let l = length-append rest (b ∷ more) in
    cond-false _ (option_map refusal (class_from class)) None (ne_eqb (length (rest ++ (b ∷ more))) 0 (λ z. omega arith))

frame-longer : (kind : ℕ) (body more : List ℕ) (frame : Frame) (b : ℕ) → Found kind body frame → frame_from kind (body ++ (b ∷ more)) ≡ None
frame-longer kind body more frame b (a-login k e) = ap (λ n. frame_from n (body ++ (b ∷ more))) k ∙ login-longer body more frame b e
frame-longer kind body more frame b (a-grant k e) = ap (λ n. frame_from n (body ++ (b ∷ more))) k ∙ grant-longer body more frame b e
frame-longer kind body more frame b (an-asking k e) = ap (λ n. frame_from n (body ++ (b ∷ more))) k ∙ asking-longer body more frame b e
frame-longer kind body more frame b (a-receipt k e) = ap (λ n. frame_from n (body ++ (b ∷ more))) k ∙ receipt-longer body more frame b e
frame-longer kind body more frame b (a-refusal k e) = ap (λ n. frame_from n (body ++ (b ∷ more))) k ∙ refusal-longer body more frame b e

-- an answer that is Ok came from Some
ok_or : {X : Type 0} (o : Option X) (f : Fault) (x : X) → ok_or_of o f ≡ Ok x → o ≡ Some x
ok_or None f x e = let z : ◌≡◌ {A = ℕ} 0 1 = cc in absurd (omega arith)
ok_or (Some y) f x e = cc

pub word-longer : WordLonger
word-longer [] more frame b e = let z : ◌≡◌ {A = ℕ} 0 1 = cc in absurd (omega arith)
word-longer (kind ∷ body) more frame b e =
    ap (λ o. ok_or_of o Malformed) (frame-longer kind body more frame b (found kind body frame (ok_or (frame_from kind body) Malformed frame e)))

-- an answer is a word or Malformed
word-or : (bs : List ℕ) → ((frame : Frame) × (framed bs ≡ Ok frame)) ⊎ (framed bs ≡ Err Malformed)
word-or [] = inr refl
word-or (kind ∷ body) = go (frame_from kind body) refl
  where
    go : (o : Option Frame) → frame_from kind body ≡ o → ((frame : Frame) × (framed (kind ∷ body) ≡ Ok frame)) ⊎ (framed (kind ∷ body) ≡ Err Malformed)
    go None e = inr (ap (λ x. ok_or_of x Malformed) e)
    go (Some frame) e = inl (frame, ap (λ x. ok_or_of x Malformed) e)

pub word_cut : WordCut
word_cut bs frame n e h = go (word-or (take n bs))
  where
    last : (rest : List ℕ) → drop n bs ≡ rest → 0 < length rest → (front : Frame) → framed (take n bs) ≡ Ok front → ⊥
    last [] d p front f = omega arith
    last (b ∷ more) d p front f =
        let l = word-longer (take n bs) more front b f in
        let w : take n bs ++ (b ∷ more) ≡ bs = ap (λ x. take n bs ++ x) (sym d) ∙ take-append-drop n bs in
        let k : framed bs ≡ Err Malformed = ap framed (sym w) ∙ l in
        let z : ◌≡◌ {A = ℕ} 0 1 = cc in
        omega arith

    go : ((front : Frame) × (framed (take n bs) ≡ Ok front)) ⊎ (framed (take n bs) ≡ Err Malformed) → framed (take n bs) ≡ Err Malformed
    go (inl p) = absurd (last (drop n bs) refl (simp length-drop (omega arith)) p.0 p.1)
    go (inr q) = q

-- what is written reads back

class_back : (class : Class) → framed (write_word (refusal class)) ≡ Ok (refusal class)
class_back NotReadable = refl
class_back NotNow = refl
class_back NotYou = refl

word_back : (frame : Frame) → WordFits frame → framed (write_word frame) ≡ Ok frame
word_back (login reader lock) f =
    let n : number (bytes_of 2 reader) ≡ reader = number-bytes_of 2 reader f.1 in
    ap (λ o. ok_or_of (option_map (login (number (bytes_of 2 reader))) o) Malformed) (alone-lock_bytes lock f.0)
    ∙ ap (λ r. Ok (login r lock)) n
word_back (ticket_and_letter ticket letter) f =
    let fs = both (lock_fits ticket) (lock_fits letter) f.0 in
    ap (λ o. ok_or_of (option_map (λ p. ticket_and_letter p.0 p.1) o) Malformed) (paired-lock_bytes ticket letter fs.0 fs.1)
word_back (asking ticket lock) f =
    let fs = both (lock_fits ticket) (lock_fits lock) f.0 in
    ap (λ o. ok_or_of (option_map (λ p. asking p.0 p.1) o) Malformed) (paired-lock_bytes ticket lock fs.0 fs.1)
word_back (receipt lock) f = ap (λ o. ok_or_of (option_map receipt o) Malformed) (alone-lock_bytes lock f.0)
word_back (refusal class) f = class_back class

-- what is read is what is written

Same : ℕ → List ℕ → Frame → Type 0
Same kind body frame = WordFits frame × (write_word frame ≡ kind ∷ body)

login-same : (body : List ℕ) (frame : Frame) → Bytes body → login_from body ≡ Some frame → Same 1 body frame
unfolding Same
login-same body frame b e =
    let m = some_mapped (login (number (part 0 2 body))) (alone (cut (drop 2 body))) frame e in
    let l = login-long body m.0 m.1 in
    let a = alone-again (drop 2 body) m.0 (bytes_drop 2 body b) m.1 in
    let w = number-rest 0 2 body (lock_bytes m.0) b l a.0 in
    subst (Same 1 body) m.2 ((a.1, number-part-lt 0 2 body b l), ap (λ x. 1 ∷ x) w)

grant-same : (body : List ℕ) (frame : Frame) → Bytes body → grant_from body ≡ Some frame → Same 2 body frame
unfolding Same
grant-same body frame b e =
    let m = some_mapped (λ p. ticket_and_letter p.0 p.1) (paired (cut body)) frame e in
    let a = paired-again body m.0 b m.1 in
    subst (Same 2 body) m.2 ((cond-both-true _ _ a.1 a.2, tt), ap (λ x. 2 ∷ x) a.0)

asking-same : (body : List ℕ) (frame : Frame) → Bytes body → asking_from body ≡ Some frame → Same 3 body frame
unfolding Same
asking-same body frame b e =
    let m = some_mapped (λ p. asking p.0 p.1) (paired (cut body)) frame e in
    let a = paired-again body m.0 b m.1 in
    subst (Same 3 body) m.2 ((cond-both-true _ _ a.1 a.2, tt), ap (λ x. 3 ∷ x) a.0)

receipt-same : (body : List ℕ) (frame : Frame) → Bytes body → receipt_from body ≡ Some frame → Same 4 body frame
unfolding Same
receipt-same body frame b e =
    let m = some_mapped receipt (alone (cut body)) frame e in
    let a = alone-again body m.0 b m.1 in
    subst (Same 4 body) m.2 ((a.1, tt), ap (λ x. 4 ∷ x) a.0)

class_same : (n : ℕ) (class : Class) → class_from n ≡ Some class → class_number class ≡ n
class_same n class e = at1 (either (eqb n 1) _ _ class e)
  where
    at3 : ((eqb n 3 ≡ true) × (Some NotYou ≡ Some class)) ⊎ (◌≡◌ {A = Option Class} None (Some class)) → class_number class ≡ n
    at3 (inl p) = let c : NotYou ≡ class = cc in ap class_number (sym c) ∙ sym (eqb-true n 3 p.0)
    at3 (inr q) = let z : ◌≡◌ {A = ℕ} 0 1 = cc in absurd (omega arith)

    at2 : ((eqb n 2 ≡ true) × (Some NotNow ≡ Some class)) ⊎ (cond (eqb n 3) (Some NotYou) None ≡ Some class) → class_number class ≡ n
    at2 (inl p) = let c : NotNow ≡ class = cc in ap class_number (sym c) ∙ sym (eqb-true n 2 p.0)
    at2 (inr q) = at3 (either (eqb n 3) _ _ class q)

    at1 : ((eqb n 1 ≡ true) × (Some NotReadable ≡ Some class)) ⊎ (cond (eqb n 2) (Some NotNow) (cond (eqb n 3) (Some NotYou) None) ≡ Some class) → class_number class ≡ n
    at1 (inl p) = let c : NotReadable ≡ class = cc in ap class_number (sym c) ∙ sym (eqb-true n 1 p.0)
    at1 (inr q) = at2 (either (eqb n 2) _ _ class q)

refusal-same : (body : List ℕ) (frame : Frame) → refusal_from body ≡ Some frame → Same 5 body frame
unfolding Same
refusal-same [] frame e = let z : ◌≡◌ {A = ℕ} 0 1 = cc in absurd (omega arith)
refusal-same (byte ∷ rest) frame e = go (either (eqb (length rest) 0) _ _ frame e)
  where
    go : ((eqb (length rest) 0 ≡ true) × (option_map refusal (class_from byte) ≡ Some frame)) ⊎ (◌≡◌ {A = Option Frame} None (Some frame)) → Same 5 (byte ∷ rest) frame
    go (inl p) =
        let m = some_mapped refusal (class_from byte) frame p.1 in
        let n = nil_from_length rest (eqb-true (length rest) 0 p.0) in
        let c = class_same byte m.0 m.1 in
        subst (Same 5 (byte ∷ rest)) m.2 ((refl, tt), ap (λ x. 5 ∷ (x ∷ [])) c ∙ ap (λ x. 5 ∷ (byte ∷ x)) (sym n))
    go (inr q) = let z : ◌≡◌ {A = ℕ} 0 1 = cc in absurd (omega arith)

frame_same : (kind : ℕ) (body : List ℕ) (frame : Frame) → Bytes body → Found kind body frame → Same kind body frame
frame_same kind body frame b (a-login k e) = subst (λ n. Same n body frame) (sym k) (login-same body frame b e)
frame_same kind body frame b (a-grant k e) = subst (λ n. Same n body frame) (sym k) (grant-same body frame b e)
frame_same kind body frame b (an-asking k e) = subst (λ n. Same n body frame) (sym k) (asking-same body frame b e)
frame_same kind body frame b (a-receipt k e) = subst (λ n. Same n body frame) (sym k) (receipt-same body frame b e)
frame_same kind body frame b (a-refusal k e) = subst (λ n. Same n body frame) (sym k) (refusal-same body frame e)

word_same : (bs : List ℕ) (frame : Frame) → Bytes bs → framed bs ≡ Ok frame → WordFits frame × (write_word frame ≡ bs)
unfolding Same
word_same [] frame b e = let z : ◌≡◌ {A = ℕ} 0 1 = cc in absurd (omega arith)
word_same (kind ∷ body) frame b e =
    frame_same kind body frame b.1 (found kind body frame (ok_or (frame_from kind body) Malformed frame e))

word-only : (bs : List ℕ) → Bytes bs → ((frame : Frame) → WordFits frame → write_word frame ≡ bs → ⊥) → framed bs ≡ Err Malformed
word-only bs b never = go (word-or bs)
  where
    go : ((frame : Frame) × (framed bs ≡ Ok frame)) ⊎ (framed bs ≡ Err Malformed) → framed bs ≡ Err Malformed
    go (inl p) = let w = word_same bs p.0 b p.1 in absurd (never p.0 w.0 w.1)
    go (inr q) = q

pub word-codec : WordCodec
word-codec =
    record {
      back = word_back;
      within = λ bs frame b e. (word_same bs frame b e).0;
      again = λ bs frame b e. (word_same bs frame b e).1;
      only = word-only;
    }
