-- An argument is read from the text that writes it, and from no other. Assumes nothing.
--   Is P T s x       s is the text of x, if x is P
--   Begins P T s p   s begins so, and goes on after a space
use Rattle.std.proofs.Common.{◌≡◌, ℕ, true, false, cond, eqb, ltb, List, [], ◌∷◌, ◌++◌, length, Some, None, codes, decimal, Option, sym, refl, ap, ◌∙◌, arith}
use Rattle.std.specs.Str.{bytes_eq}
use Rattle.std.proofs.lemmas.Slice.Eq.{bytes_eq-Decides}
use Rattle.std.proofs.lemmas.Bool.{eqb-true, ltb-false, cond_both}
use Rattle.seal.specs.declared.kind.Kind.{Kind}
use Rattle.seal.specs.declared.kind.Kind.TheVariants as kind
use Rattle.words.specs.Laws.{bytes_text}
use Rattle.words.specs.Text.{word_then, cut_at, decimal_of, principal_of, decimal_then, principal_then, short_of, hex_of, key_of}
use Rattle.words.proofs.Bytes.{bytes-exact}
use Rattle.words.proofs.Cuts.{cut-joins}
use Rattle.words.proofs.Exact.{exact-decimal}
use Rattle.words.proofs.Pairs.{keys-exact}
use Rattle.held.specs.declared.cut.Cut.TheVariants as left
use Rattle.commands.specs.declared.line.Place.TheVariants as place
use Rattle.commands.specs.declared.line.Side.TheVariants as side
use Rattle.commands.specs.Arguments.{ticket_of, ticket_then, initial_of, lettered, side_of, side_then, place_of, piece_of, piece_then, kind_of, kind_then, key_then, short_then, left_of, writes_of}
use Rattle.commands.specs.Laws.{spaced, key_text, kind_text, ticket_text, side_text, place_text, piece_text, left_text, writes_text, Small, SmallTicket, SmallPiece}
use Rattle.commands.proofs.Ifs.{If, if-then, if-each}

abbrev pub Is : {A : Type 0} → (A → Type 0) → (A → List ℕ) → List ℕ → A → Type 0
Is P T s x = P x → s ≡ T x

abbrev pub Begins : {A : Type 0} → (A → Type 0) → (A → List ℕ) → List ℕ → (A × List ℕ) → Type 0
Begins P T s p = P p.0 → s ≡ spaced (T p.0) p.1

abbrev pub Any : {A : Type 0} → A → Type 0
Any x = Unit {0}

pub cut-text : (b : ℕ) (s : List ℕ) → If (λ p. s ≡ p.0 ++ (b ∷ p.1)) (cut_at b s)
cut-text b s = if-each (λ p. s ≡ p.0 ++ (b ∷ p.1)) (cut_at b s) (λ p e. cut-joins b s p e)

-- a word that is read exactly, and a space
pub then-text : {A : Type 0} (P : A → Type 0) (T : A → List ℕ) (read : List ℕ → Option A) → ((w : List ℕ) → If (Is P T w) (read w)) → (s : List ℕ) → If (Begins P T s) (word_then read s)
then-text P T read h s =
    if-then (λ p. s ≡ p.0 ++ (32 ∷ p.1)) (Begins P T s) (cut_at 32 s) _ (cut-text 32 s)
    (λ p joins. if-then (Is P T p.0) (Begins P T s) (read p.0) _ (h p.0)
    (λ x is plain. joins ∙ ap (λ (w : List ℕ). w ++ (32 ∷ p.1)) (is plain)))

pub decimal-text : (w : List ℕ) → If (Is Small decimal w) (decimal_of w)
decimal-text w = if-each (Is Small decimal w) (decimal_of w) (λ n e. exact-decimal w n e)

pub decimal-then : (s : List ℕ) → If (Begins Small decimal s) (decimal_then s)
decimal-then s = then-text Small decimal decimal_of decimal-text s

pub principal-text : (w : List ℕ) → If (Is Any decimal w) (principal_of w)
principal-text w =
    if-then (Is Small decimal w) (Is Any decimal w) (decimal_of w) _ (decimal-text w)
    (λ n is. cond_both (eqb n 0) None (cond (ltb 1023 n) None (Some n)) (If (Is Any decimal w)) (λ _. tt)
    (λ _. cond_both (ltb 1023 n) None (Some n) (If (Is Any decimal w)) (λ _. tt) (λ h _. is (omega (arith, ltb-false 1023 n h)))))

pub principal-then : (s : List ℕ) → If (Begins Any decimal s) (principal_then s)
principal-then s = then-text Any decimal principal_of principal-text s

pub short-text : (w : List ℕ) → If (Is Any decimal w) (short_of w)
short-text w =
    if-then (Is Small decimal w) (Is Any decimal w) (decimal_of w) _ (decimal-text w)
    (λ n is. cond_both (ltb 65535 n) None (Some n) (If (Is Any decimal w)) (λ _. tt) (λ h _. is (omega (arith, ltb-false 65535 n h))))

pub short-then : (s : List ℕ) → If (Begins Any decimal s) (short_then s)
short-then s = then-text Any decimal short_of short-text s

pub key-text : (w : List ℕ) → If (Is Any key_text w) (key_of w)
key-text w = if-each (Is Any key_text w) (key_of w) (λ k e _. keys-exact w k e)

pub key-then : (s : List ℕ) → If (Begins Any key_text s) (key_then s)
key-then s = then-text Any key_text key_of key-text s

pub bytes-text : (w : List ℕ) → If (Is Any bytes_text w) (hex_of w)
bytes-text w = if-each (Is Any bytes_text w) (hex_of w) (λ b e _. bytes-exact w b e)

-- a word that is just that text
pub word-text : {A : Type 0} (P : A → Type 0) (T : A → List ℕ) (w text : List ℕ) (x : A) (other : Option A) → T x ≡ text → If (Is P T w) other → If (Is P T w) (cond (bytes_eq w text) (Some x) other)
word-text P T w text x other e h =
    cond_both (bytes_eq w text) (Some x) other (If (Is P T w)) (λ s _. (bytes_eq-Decides w text).0 s ∙ sym e) (λ _. h)

pub ticket-text : (w : List ℕ) → If (Is SmallTicket ticket_text w) (ticket_of w)
ticket-text w =
    word-text SmallTicket ticket_text w (codes "none") None _ refl
    (if-then (Is Small decimal w) (Is SmallTicket ticket_text w) (decimal_of w) _ (decimal-text w) (λ n is. is))

pub ticket-then : (s : List ℕ) → If (Begins SmallTicket ticket_text s) (ticket_then s)
ticket-then s = then-text SmallTicket ticket_text ticket_of ticket-text s

-- a number with that letter before it
letter-text : (w : List ℕ) (p : ℕ × List ℕ) (n : ℕ) → w ≡ p.0 ∷ p.1 → p.1 ≡ decimal n → If (Is Any side_text w) (lettered p.0 n)
letter-text w p n joins is =
    cond_both (eqb p.0 115) (Some (side.Service n)) _ (If (Is Any side_text w))
    (λ e _. joins ∙ (λ i. eqb-true p.0 115 e i ∷ is i))
    (λ _. cond_both (eqb p.0 114) (Some (side.Reader n)) None (If (Is Any side_text w))
    (λ e _. joins ∙ (λ i. eqb-true p.0 114 e i ∷ is i))
    (λ _. tt))

initial-text : (w : List ℕ) → If (λ p. w ≡ p.0 ∷ p.1) (initial_of w)
initial-text [] = tt
initial-text (b ∷ w) =
    cond_both (eqb (length (b ∷ w)) 0) None (Some (b, w)) (If (λ p. b ∷ w ≡ p.0 ∷ p.1)) (λ _. tt) (λ _. refl)

pub side-text : (w : List ℕ) → If (Is Any side_text w) (side_of w)
side-text w =
    word-text Any side_text w (codes "house") side.House _ refl
    (if-then (λ p. w ≡ p.0 ∷ p.1) (Is Any side_text w) (initial_of w) _ (initial-text w)
    (λ p joins. if-then (Is Any decimal p.1) (Is Any side_text w) (principal_of p.1) _ (principal-text p.1)
    (λ n is. letter-text w p n joins (is tt))))

pub side_then_lem : (s : List ℕ) → If (Begins Any side_text s) (side_then s)
side_then_lem s = then-text Any side_text side_of side-text s

place-text : (w : List ℕ) → If (Is Any place_text w) (place_of w)
place-text w =
    word-text Any place_text w (codes "1") place.First _ refl
    (word-text Any place_text w (codes "2") place.Second None refl tt)

pub piece-text : (w : List ℕ) → If (Is SmallPiece piece_text w) (piece_of w)
piece-text w =
    if-then (λ p. w ≡ p.0 ++ (46 ∷ p.1)) (Is SmallPiece piece_text w) (cut_at 46 w) _ (cut-text 46 w)
    (λ p joins. if-then (Is Small decimal p.0) (Is SmallPiece piece_text w) (decimal_of p.0) _ (decimal-text p.0)
    (λ n is. if-then (Is Any place_text p.1) (Is SmallPiece piece_text w) (place_of p.1) _ (place-text p.1)
    (λ i at small. joins ∙ (λ j. is small j ++ (46 ∷ at tt j)))))

pub piece_then_lem : (s : List ℕ) → If (Begins SmallPiece piece_text s) (piece_then s)
piece_then_lem s = then-text SmallPiece piece_text piece_of piece-text s

-- the decimal of a kind
one-kind : (w : List ℕ) (n m : ℕ) (k : Kind) (other : Option Kind) → (Small n → w ≡ decimal n) → Small m → kind_text k ≡ decimal m → If (Is Any kind_text w) other → If (Is Any kind_text w) (cond (eqb n m) (Some k) other)
one-kind w n m k other is small e h =
    cond_both (eqb n m) (Some k) other (If (Is Any kind_text w))
    (λ s _. let same : n ≡ m = eqb-true n m s in is (omega arith) ∙ ap decimal same ∙ sym e)
    (λ _. h)

pub kind-text : (w : List ℕ) → If (Is Any kind_text w) (kind_of w)
kind-text w =
    if-then (Is Small decimal w) (Is Any kind_text w) (decimal_of w) _ (decimal-text w)
    (λ n is.
    one-kind w n 1 kind.Ticket _ is (omega arith) refl
    (one-kind w n 2 kind.Letter _ is (omega arith) refl
    (one-kind w n 3 kind.Asking _ is (omega arith) refl
    (one-kind w n 4 kind.Login _ is (omega arith) refl
    (one-kind w n 5 kind.Receipt None is (omega arith) refl tt)))))

pub kind-then : (s : List ℕ) → If (Begins Any kind_text s) (kind_then s)
kind-then s = then-text Any kind_text kind_of kind-text s

pub left-text : (w : List ℕ) → If (Is Any left_text w) (left_of w)
left-text w =
    word-text Any left_text w (codes "old") left.Old _ refl
    (word-text Any left_text w (codes "new") (left.New tt) _ refl
    (word-text Any left_text w (codes "junk") left.Junk None refl tt))

pub writes-text : (w : List ℕ) → If (Is Any writes_text w) (writes_of w)
writes-text w =
    word-text Any writes_text w (codes "ok") true _ refl
    (word-text Any writes_text w (codes "fail") false None refl tt)
