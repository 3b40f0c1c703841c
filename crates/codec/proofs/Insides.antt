-- The five insides: read and written are each other's inverse.
use Rattle.std.proofs.Common.{◌≡◌, ℕ, ◌+◌, Bool, true, false, cond, eqb, leb, List, [], ◌∷◌, ◌++◌, length, take, drop, Ok, Err, sym, refl, ap, ◌∙◌, subst, arith}
use Rattle.parts.specs.declared.fault.Fault.{Fault}
use Rattle.parts.specs.declared.fault.Fault.TheVariants.{BadInside}
use Rattle.parts.specs.declared.word.Letter.{Letter}
use Rattle.parts.specs.declared.word.Login.{Login}
use Rattle.parts.specs.declared.word.Receipt.{Receipt}
use Rattle.parts.specs.declared.word.Ticket.{Ticket}
use Rattle.std.proofs.lemmas.List.{drop_at, drop-drop, length-append, take_all, take_at}
use Rattle.std.proofs.lemmas.Bool.{cond-true, eq-eqb, eqb-true, false≢true, le-leb, leb-true}
use Rattle.contents.specs.Field.{bytes_of, number, part, Bytes}
use Rattle.contents.specs.Inside.{Asked, begins, is_asking, is_inside, key_of, number_of, what_length, write_asking, write_letter, write_login, write_receipt, write_ticket}
use Rattle.codec.specs.Law.{Codec, AskingCodec, AskingFits, LetterCodec, LetterFits, LoginCodec, LoginFits, ReceiptCodec, ReceiptFits, TicketCodec, TicketFits}
use Rattle.codec.proofs.Numbers.{length_part, number-bytes_of, number-last, number-part-lt, number-rest, part-last, part-rest}

-- both tests came out true
pub both : (a b : Bool) → cond a b false ≡ true → (a ≡ true) × (b ≡ true)
both true b h = (refl, h)
both false b h = absurd (false≢true h)

pub cond-both-true : (a b : Bool) → a ≡ true → b ≡ true → cond a b false ≡ true
cond-both-true a b p q = cond-true a b false p ∙ q

-- a reader that tests the bytes and then takes the value out of them
module _ {X : Type 0} (Fits : X → Type 0) (write : X → List ℕ) (test : List ℕ → Bool) (value : List ℕ → X) (fault : Fault) where
  ok-test : (b : Bool) (x y : X) → cond b (Ok x) (Err fault) ≡ Ok y → (b ≡ true) × (x ≡ y)
  ok-test true x y e = (refl, cc)
  ok-test false x y e = let z : ◌≡◌ {A = ℕ} 0 1 = cc in absurd (omega arith)

  err-test : (b : Bool) (x : X) → (b ≡ true → ⊥) → cond b (Ok x) (Err fault) ≡ Err fault
  err-test true x n = absurd (n refl)
  err-test false x n = refl

  pub by-test :
      ((x : X) → Fits x → (test (write x) ≡ true) × (value (write x) ≡ x))
      → ((bs : List ℕ) → Bytes bs → test bs ≡ true → Fits (value bs) × (write (value bs) ≡ bs))
      → Codec Fits write (λ bs. cond (test bs) (Ok (value bs)) (Err fault)) fault
  by-test there forth =
      record {
        back = λ x f. cond-true (test (write x)) (Ok (value (write x))) (Err fault) (there x f).0 ∙ ap Ok (there x f).1;
        within = λ bs x b e. let o = ok-test (test bs) (value bs) x e in subst Fits o.1 (forth bs b o.0).0;
        again = λ bs x b e. let o = ok-test (test bs) (value bs) x e in ap write (sym o.1) ∙ (forth bs b o.0).1;
        only = λ bs b n. err-test (test bs) (value bs) (λ t. n (value bs) (forth bs b t).0 (forth bs b t).1);
      }

-- an inside of this kind and length begins with the kind
inside-length : (kind n : ℕ) (bs : List ℕ) → is_inside kind n bs ≡ true → length bs ≡ n
inside-length kind n bs h = eqb-true (length bs) n (both (eqb (length bs) n) (begins kind bs) h).0

inside-begins : (kind n : ℕ) (bs : List ℕ) → is_inside kind n bs ≡ true → kind ∷ drop 1 bs ≡ bs
inside-begins kind n [] h = absurd (false≢true (both (eqb 0 n) false h).1)
inside-begins kind n (b ∷ bs) h =
    ap (λ k. k ∷ bs) (sym (eqb-true b kind (both (eqb (length (b ∷ bs)) n) (eqb b kind) h).1))

is-inside : (kind n : ℕ) (bs : List ℕ) → length bs + 1 ≡ n → is_inside kind n (kind ∷ bs) ≡ true
is-inside kind n bs h =
    cond-both-true (eqb (length (kind ∷ bs)) n) (eqb kind kind) (eq-eqb (length (kind ∷ bs)) n (omega arith)) (eq-eqb kind kind refl)

-- a part that starts past a front of n bytes
part-past : (p q : List ℕ) (n at k : ℕ) → length p ≡ n → part (n + at) k (p ++ q) ≡ part at k q
part-past p q n at k l =
    ap (take k) (sym (drop-drop at n (p ++ q)) ∙ ap (drop at) (drop_at p q n l))

ticket-same : (t : Ticket) (s r u : ℕ) (k : List ℕ) → s ≡ t.service → r ≡ t.reader → k ≡ t.key.0 → u ≡ t.until
    → ◌≡◌ {A = Ticket} record { service = s; reader = r; key = key_of k; until = u } t
ticket-same t s r u k a b c d = rw (a, b, c, d)

ticket_of : List ℕ → Ticket
ticket_of bs =
    record {
      service = number (part 1 2 bs);
      reader = number (part 3 2 bs);
      key = key_of (part 5 32 bs);
      until = number (part 37 8 bs);
    }

ticket-there : (t : Ticket) → TicketFits t → (is_inside 1 45 (write_ticket t) ≡ true) × (ticket_of (write_ticket t) ≡ t)
unfolding ticket_of
ticket-there t f =
    let u = bytes_of 8 t.until in
    let s : number (bytes_of 2 t.service) ≡ t.service = number-bytes_of 2 t.service f.0 in
    let r : number (bytes_of 2 t.reader) ≡ t.reader = number-bytes_of 2 t.reader f.1 in
    let k : take 32 (t.key.0 ++ u) ≡ t.key.0 = take_at t.key.0 u 32 f.2 in
    let e : part 32 8 (t.key.0 ++ u) ≡ u = part-past t.key.0 u 32 0 8 f.2 in
    let v : number (part 32 8 (t.key.0 ++ u)) ≡ t.until = ap number e ∙ number-bytes_of 8 t.until f.3 in
    (is-inside 1 45 (bytes_of 2 t.service ++ (bytes_of 2 t.reader ++ (t.key.0 ++ u))) (simp length-append (omega arith)), ticket-same t _ _ _ _ s r k v)

ticket-forth : (bs : List ℕ) → Bytes bs → is_inside 1 45 bs ≡ true → TicketFits (ticket_of bs) × (write_ticket (ticket_of bs) ≡ bs)
unfolding ticket_of
ticket-forth bs b h =
    let l = inside-length 1 45 bs h in
    let u = number-last 37 8 bs b (omega arith) in
    let k = part-rest 5 32 bs _ u in
    let r = number-rest 3 2 bs _ b (omega arith) k in
    let s = number-rest 1 2 bs _ b (omega arith) r in (
      (number-part-lt 1 2 bs b (omega arith), number-part-lt 3 2 bs b (omega arith), length_part 5 32 bs (omega arith), number-part-lt 37 8 bs b (omega arith)),
      ap (λ x. 1 ∷ x) s ∙ inside-begins 1 45 bs h,
    )

pub ticket-codec : TicketCodec
unfolding ticket_of
ticket-codec = by-test TicketFits write_ticket (is_inside 1 45) ticket_of BadInside ticket-there ticket-forth

letter_of : List ℕ → Letter
letter_of bs =
    record {
      number = number_of (part 1 16 bs);
      service = number (part 17 2 bs);
      key = key_of (part 19 32 bs);
      until = number (part 51 8 bs);
    }

letter-same : (l : Letter) (n k : List ℕ) (s u : ℕ) → n ≡ l.number.0 → s ≡ l.service → k ≡ l.key.0 → u ≡ l.until
    → ◌≡◌ {A = Letter} record { number = number_of n; service = s; key = key_of k; until = u } l
letter-same l n k s u a b c d = rw (a, b, c, d)

letter-there : (l : Letter) → LetterFits l → (is_inside 2 59 (write_letter l) ≡ true) × (letter_of (write_letter l) ≡ l)
unfolding letter_of
letter-there l f =
    let n = l.number.0 in
    let u = bytes_of 8 l.until in
    let ku = l.key.0 ++ u in
    let sku = bytes_of 2 l.service ++ ku in
    let e₁ : take 16 (n ++ sku) ≡ n = take_at n sku 16 f.0 in
    let e₂ : number (part 16 2 (n ++ sku)) ≡ l.service
    = ap number (part-past n sku 16 0 2 f.0) ∙ number-bytes_of 2 l.service f.1 in
    let e₃ : part 18 32 (n ++ sku) ≡ l.key.0 = part-past n sku 16 2 32 f.0 ∙ take_at l.key.0 u 32 f.2 in
    let e₄ : part 50 8 (n ++ sku) ≡ u = part-past n sku 16 34 8 f.0 ∙ part-past l.key.0 u 32 0 8 f.2 in
    let e₅ : number (part 50 8 (n ++ sku)) ≡ l.until = ap number e₄ ∙ number-bytes_of 8 l.until f.3 in
    (is-inside 2 59 (n ++ sku) (simp length-append (omega arith)), letter-same l _ _ _ _ e₁ e₂ e₃ e₅)

letter-forth : (bs : List ℕ) → Bytes bs → is_inside 2 59 bs ≡ true → LetterFits (letter_of bs) × (write_letter (letter_of bs) ≡ bs)
unfolding letter_of
letter-forth bs b h =
    let l = inside-length 2 59 bs h in
    let u = number-last 51 8 bs b (omega arith) in
    let k = part-rest 19 32 bs _ u in
    let s = number-rest 17 2 bs _ b (omega arith) k in
    let n = part-rest 1 16 bs _ s in (
      (length_part 1 16 bs (omega arith), number-part-lt 17 2 bs b (omega arith), length_part 19 32 bs (omega arith), number-part-lt 51 8 bs b (omega arith)),
      ap (λ x. 2 ∷ x) n ∙ inside-begins 2 59 bs h,
    )

pub letter-codec : LetterCodec
unfolding letter_of
letter-codec = by-test LetterFits write_letter (is_inside 2 59) letter_of BadInside letter-there letter-forth

login_of : List ℕ → Login
login_of bs = record { number = number_of (part 1 16 bs); tick = number (part 17 8 bs) }

login-same : (l : Login) (n : List ℕ) (t : ℕ) → n ≡ l.number.0 → t ≡ l.tick
    → ◌≡◌ {A = Login} record { number = number_of n; tick = t } l
login-same l n t a b = rw (a, b)

login-there : (l : Login) → LoginFits l → (is_inside 4 25 (write_login l) ≡ true) × (login_of (write_login l) ≡ l)
unfolding login_of
login-there l f =
    let n = l.number.0 in
    let t = bytes_of 8 l.tick in
    let e₁ : take 16 (n ++ t) ≡ n = take_at n t 16 f.0 in
    let e₂ : number (part 16 8 (n ++ t)) ≡ l.tick
    = ap number (part-past n t 16 0 8 f.0) ∙ number-bytes_of 8 l.tick f.1 in
    (is-inside 4 25 (n ++ t) (simp length-append (omega arith)), login-same l _ _ e₁ e₂)

login-forth : (bs : List ℕ) → Bytes bs → is_inside 4 25 bs ≡ true → LoginFits (login_of bs) × (write_login (login_of bs) ≡ bs)
unfolding login_of
login-forth bs b h =
    let l = inside-length 4 25 bs h in
    let t = number-last 17 8 bs b (omega arith) in
    let n = part-rest 1 16 bs _ t in (
      (length_part 1 16 bs (omega arith), number-part-lt 17 8 bs b (omega arith)),
      ap (λ x. 4 ∷ x) n ∙ inside-begins 4 25 bs h,
    )

pub login-codec : LoginCodec
unfolding login_of
login-codec = by-test LoginFits write_login (is_inside 4 25) login_of BadInside login-there login-forth

receipt_of : List ℕ → Receipt
receipt_of bs = record { number = number_of (part 1 16 bs) }

receipt-there : (r : Receipt) → ReceiptFits r → (is_inside 5 17 (write_receipt r) ≡ true) × (receipt_of (write_receipt r) ≡ r)
unfolding receipt_of
receipt-there r f =
    let e : take 16 r.number.0 ≡ r.number.0 = take_all 16 r.number.0 (omega arith) in
    (is-inside 5 17 r.number.0 (omega arith), rw e)

receipt-forth : (bs : List ℕ) → Bytes bs → is_inside 5 17 bs ≡ true → ReceiptFits (receipt_of bs) × (write_receipt (receipt_of bs) ≡ bs)
unfolding receipt_of
receipt-forth bs b h =
    let l = inside-length 5 17 bs h in
    (length_part 1 16 bs (omega arith), ap (λ x. 5 ∷ x) (part-last 1 16 bs (omega arith)) ∙ inside-begins 5 17 bs h)

pub receipt-codec : ReceiptCodec
unfolding receipt_of
receipt-codec = by-test ReceiptFits write_receipt (is_inside 5 17) receipt_of BadInside receipt-there receipt-forth

asked_of : List ℕ → Asked
asked_of bs =
    record {
      service = number (part 1 2 bs);
      number = number_of (part 3 16 bs);
      what = part 21 (what_length bs) bs;
      tick = number (part (21 + what_length bs) 8 bs);
    }

asked-same : (a : Asked) (s t : ℕ) (n w : List ℕ) → s ≡ a.service → n ≡ a.number.0 → w ≡ a.what → t ≡ a.tick
    → ◌≡◌ {A = Asked} record { service = s; number = number_of n; what = w; tick = t } a
asked-same a s t n w e f g h = rw (e, f, g, h)

asking-there : (a : Asked) → AskingFits a → (is_asking (write_asking a) ≡ true) × (asked_of (write_asking a) ≡ a)
unfolding asked_of
asking-there a f =
    let n = a.number.0 in
    let w = a.what in
    let t = bytes_of 8 a.tick in
    let lwt = bytes_of 2 (length w) ++ (w ++ t) in
    let bs = write_asking a in
    let e₁ : number (bytes_of 2 a.service) ≡ a.service = number-bytes_of 2 a.service f.0 in
    let e₂ : take 16 (n ++ lwt) ≡ n = take_at n lwt 16 f.1 in
    let e₃ : what_length bs ≡ length w
    = ap number (part-past n lwt 16 0 2 f.1) ∙ number-bytes_of 2 (length w) (omega arith) in
    let d : drop 21 bs ≡ w ++ t = sym (drop-drop 2 16 (n ++ lwt)) ∙ ap (drop 2) (drop_at n lwt 16 f.1) in
    let e₄ : part 21 (what_length bs) bs ≡ w
    = ap (λ k. part 21 k bs) e₃ ∙ ap (take (length w)) d ∙ take_at w t (length w) refl in
    let e₅ : part (21 + what_length bs) 8 bs ≡ t
    = ap (λ k. part (21 + k) 8 bs) e₃
    ∙ ap (take 8) (sym (drop-drop (length w) 21 bs) ∙ ap (drop (length w)) d ∙ drop_at w t (length w) refl) in
    let e₆ : number (part (21 + what_length bs) 8 bs) ≡ a.tick = ap number e₅ ∙ number-bytes_of 8 a.tick f.3 in
    let i : is_inside 3 (29 + what_length bs) bs ≡ true
    = is-inside 3 (29 + what_length bs) (bytes_of 2 a.service ++ (n ++ lwt)) (simp length-append (omega arith)) in
    let m : leb (what_length bs) 1024 ≡ true = le-leb (what_length bs) 1024 (omega arith) in
    (cond-both-true _ _ i m, asked-same a _ _ _ _ e₁ e₂ e₄ e₆)

asking-forth : (bs : List ℕ) → Bytes bs → is_asking bs ≡ true → AskingFits (asked_of bs) × (write_asking (asked_of bs) ≡ bs)
unfolding asked_of
asking-forth bs b h =
    let k = what_length bs in
    let i = (both (is_inside 3 (29 + k) bs) (leb k 1024) h).0 in
    let m = leb-true k 1024 (both (is_inside 3 (29 + k) bs) (leb k 1024) h).1 in
    let l = inside-length 3 (29 + k) bs i in
    let lw = length_part 21 k bs (omega arith) in
    let t = number-last (21 + k) 8 bs b (omega arith) in
    let w = part-rest 21 k bs _ t in
    let c = number-rest 19 2 bs _ b (omega arith) w in
    let n = part-rest 3 16 bs _ c in
    let s = number-rest 1 2 bs _ b (omega arith) n in (
      (number-part-lt 1 2 bs b (omega arith), length_part 3 16 bs (omega arith), (omega arith), number-part-lt (21 + k) 8 bs b (omega arith)),
      ap (λ z. write_asked bs z) lw ∙ ap (λ x. 3 ∷ x) s ∙ inside-begins 3 (29 + k) bs i,
    )
  where
    write_asked : List ℕ → ℕ → List ℕ
    write_asked xs z = 3 ∷ (bytes_of 2 (number (part 1 2 xs)) ++ (part 3 16 xs ++ (bytes_of 2 z ++ (part 21 (what_length xs) xs ++ bytes_of 8 (number (part (21 + what_length xs) 8 xs))))))

pub asking-codec : AskingCodec
unfolding asked_of
asking-codec = by-test AskingFits write_asking is_asking asked_of BadInside asking-there asking-forth
