-- A line is read from the text that writes it, and from no other. Assumes nothing.
use Rattle.std.proofs.Common.{◌≡◌, ℕ, Bool, cond, eqb, ltb, List, ◌∷◌, ◌++◌, length, Some, None, codes, decimal, Option, refl, ap, ◌∙◌, arith}
use Rattle.std.proofs.lemmas.Bool.{eqb-true, cond_both}
use Rattle.words.specs.Laws.{bytes_text}
use Rattle.words.specs.Text.{and_then, cut_at, decimal_of, hex_of, key_of, decimal_then, principal_then}
use Rattle.commands.specs.declared.line.Join.{Join}
use Rattle.commands.specs.Left.{Left}
use Rattle.commands.specs.declared.line.Opening.{Opening}
use Rattle.commands.specs.declared.line.Settings.{Settings}
use Rattle.commands.specs.declared.line.Side.{Side}
use Rattle.commands.specs.declared.verbs.Verb.{Verb}
use Rattle.commands.specs.declared.verbs.Verb.TheVariants as verb
use Rattle.commands.specs.Arguments.{ticket_then, side_of, side_then, piece_of, piece_then, kind_then, key_then, short_then, left_of, writes_of}
use Rattle.commands.specs.Grammar.{settings_of, account_of, wish_of, repeat_of, login_of, letter_of, asking_of, join_of, making_of, opening_of, cut_of, device_of, says_of, saying_of, silent, read_of}
use Rattle.commands.specs.Laws.{spaced, key_text, kind_text, ticket_text, side_text, piece_text, left_text, writes_text, settings_text, account_text, wish_text, join_text, making_text, opening_text, line_text, Small, SmallTicket, SmallPiece, SmallJoin, Plain, LinesAreExact}
use Rattle.commands.specs.Said as say
use Rattle.commands.specs.Verbs.{verb_of}
use Rattle.commands.proofs.Forms.{Is, Begins, Any, cut-text, decimal-text, decimal-then, principal-then, short-then, key-text, key-then, bytes-text, word-text, ticket-then, side-text, side_then_lem, piece-text, piece_then_lem, kind-then, left-text, writes-text}
use Rattle.commands.proofs.Ifs.{If, if-then, if-each, if-is}

abbrev SmallSettings : Settings → Type 0
SmallSettings x = Small x.tick × Small x.life × Small x.lag

settings-text : (s : List ℕ) → If (Is SmallSettings settings_text s) (settings_of s)
settings-text s =
    if-then (Begins Small decimal s) (Is SmallSettings settings_text s) (decimal_then s) _ (decimal-then s)
    (λ a first. if-then (Begins Small decimal a.1) (Is SmallSettings settings_text s) (decimal_then a.1) _ (decimal-then a.1)
    (λ b second. if-then (Begins Small decimal b.1) (Is SmallSettings settings_text s) (decimal_then b.1) _ (decimal-then b.1)
    (λ c third. if-then (Is Any key_text c.1) (Is SmallSettings settings_text s) (key_of c.1) _ (key-text c.1)
    (λ k last small.
    first small.0
    ∙ ap (spaced (decimal a.0))
    (second small.1
    ∙ ap (spaced (decimal b.0))
    (third small.2 ∙ ap (spaced (decimal c.0)) (last tt)))))))

account-text : (s : List ℕ) → If (Is Any account_text s) (account_of s)
account-text s =
    if-then (Begins Any decimal s) (Is Any account_text s) (principal_then s) _ (principal-then s)
    (λ n first. if-then (Is Any key_text n.1) (Is Any account_text s) (key_of n.1) _ (key-text n.1)
    (λ k last _. first tt ∙ ap (spaced (decimal n.0)) (last tt)))

abbrev SmallWish : say.Wish → Type 0
SmallWish w = Small w.reader × Small w.service × SmallTicket w.ticket

wish-text : (s : List ℕ) → If (Is SmallWish wish_text s) (wish_of s)
wish-text s =
    if-then (Begins Small decimal s) (Is SmallWish wish_text s) (decimal_then s) _ (decimal-then s)
    (λ a first. if-then (Begins Small decimal a.1) (Is SmallWish wish_text s) (decimal_then a.1) _ (decimal-then a.1)
    (λ b second. if-then (Begins SmallTicket ticket_text b.1) (Is SmallWish wish_text s) (ticket_then b.1) _ (ticket-then b.1)
    (λ c third. if-then (Is Any bytes_text c.1) (Is SmallWish wish_text s) (hex_of c.1) _ (bytes-text c.1)
    (λ what last small.
    first small.0
    ∙ ap (spaced (decimal a.0))
    (second small.1
    ∙ ap (spaced (decimal b.0))
    (third small.2 ∙ ap (spaced (ticket_text c.0)) (last tt)))))))

-- a number and a side
abbrev brought_text : (ℕ × Side) → List ℕ
brought_text x = spaced (decimal x.0) (side_text x.1)

repeat-text : (s : List ℕ) → If (Is (λ x. Small x.0) brought_text s) (repeat_of s)
repeat-text s =
    if-then (Begins Small decimal s) (Is (λ x. Small x.0) brought_text s) (decimal_then s) _ (decimal-then s)
    (λ n first. if-then (Is Any side_text n.1) (Is (λ x. Small x.0) brought_text s) (side_of n.1) _ (side-text n.1)
    (λ at last small. first small ∙ ap (spaced (decimal n.0)) (last tt)))

-- what is joined, after its kind
abbrev Joins : ℕ → List ℕ → Join → Type 0
Joins n s j = SmallJoin j → spaced (decimal n) s ≡ join_text j

login-text : (s : List ℕ) → If (Joins 1 s) (login_of s)
login-text s =
    if-then (Begins Any decimal s) (Joins 1 s) (short_then s) _ (short-then s)
    (λ n first. if-then (Is SmallPiece piece_text n.1) (Joins 1 s) (piece_of n.1) _ (piece-text n.1)
    (λ p last small. ap (spaced (decimal 1)) (first tt ∙ ap (spaced (decimal n.0)) (last small))))

letter-text : (s : List ℕ) → If (Joins 2 s) (letter_of s)
letter-text s =
    if-then (Begins SmallPiece piece_text s) (Joins 2 s) (piece_then s) _ (piece_then_lem s)
    (λ a first. if-then (Is SmallPiece piece_text a.1) (Joins 2 s) (piece_of a.1) _ (piece-text a.1)
    (λ p last small. ap (spaced (decimal 2)) (first small.0 ∙ ap (spaced (piece_text a.0)) (last small.1))))

asking-text : (s : List ℕ) → If (Joins 3 s) (asking_of s)
asking-text s =
    if-then (Begins SmallPiece piece_text s) (Joins 3 s) (piece_then s) _ (piece_then_lem s)
    (λ a first. if-then (Is SmallPiece piece_text a.1) (Joins 3 s) (piece_of a.1) _ (piece-text a.1)
    (λ p last small. ap (spaced (decimal 3)) (first small.0 ∙ ap (spaced (piece_text a.0)) (last small.1))))

-- one kind of joining
one-join : (s : List ℕ) (n : ℕ × List ℕ) (m : ℕ) (o other : Option Join) → Begins Small decimal s n → Small m → If (Joins m n.1) o → If (Is SmallJoin join_text s) other → If (Is SmallJoin join_text s) (cond (eqb n.0 m) o other)
one-join s n m o other first small h rest =
    cond_both (eqb n.0 m) o other (If (Is SmallJoin join_text s))
    (λ e.
    let same : n.0 ≡ m = eqb-true n.0 m e in
    if-each (Is SmallJoin join_text s) o
    (λ j is plain. first (omega arith) ∙ ap (λ k. spaced (decimal k) n.1) same ∙ if-is (Joins m n.1) o j h is plain))
    (λ _. rest)

join-text : (s : List ℕ) → If (Is SmallJoin join_text s) (join_of s)
join-text s =
    if-then (Begins Small decimal s) (Is SmallJoin join_text s) (decimal_then s) _ (decimal-then s)
    (λ n first.
    one-join s n 1 _ _ first (omega arith) (login-text n.1)
    (one-join s n 2 _ _ first (omega arith) (letter-text n.1)
    (one-join s n 3 _ None first (omega arith) (asking-text n.1) tt)))

making-text : (s : List ℕ) → If (Is Any making_text s) (making_of s)
making-text s =
    if-then (Begins Any kind_text s) (Is Any making_text s) (kind_then s) _ (kind-then s)
    (λ a first. if-then (Begins Any key_text a.1) (Is Any making_text s) (key_then a.1) _ (key-then a.1)
    (λ b second. if-then (Is Any bytes_text b.1) (Is Any making_text s) (hex_of b.1) _ (bytes-text b.1)
    (λ inside last _. first tt ∙ ap (spaced (kind_text a.0)) (second tt ∙ ap (spaced (key_text b.0)) (last tt)))))

abbrev SmallOpening : Opening → Type 0
SmallOpening o = SmallPiece o.lock

opening-text : (s : List ℕ) → If (Is SmallOpening opening_text s) (opening_of s)
opening-text s =
    if-then (Begins SmallPiece piece_text s) (Is SmallOpening opening_text s) (piece_then s) _ (piece_then_lem s)
    (λ a first. if-then (Begins Any kind_text a.1) (Is SmallOpening opening_text s) (kind_then a.1) _ (kind-then a.1)
    (λ b second. if-then (Is Any key_text b.1) (Is SmallOpening opening_text s) (key_of b.1) _ (key-text b.1)
    (λ k last small. first small ∙ ap (spaced (piece_text a.0)) (second tt ∙ ap (spaced (kind_text b.0)) (last tt)))))

abbrev cut_text : (Side × Left) → List ℕ
cut_text x = spaced (side_text x.0) (left_text x.1)

cuts-text : (s : List ℕ) → If (Is Any cut_text s) (cut_of s)
cuts-text s =
    if-then (Begins Any side_text s) (Is Any cut_text s) (side_then s) _ (side_then_lem s)
    (λ a first. if-then (Is Any left_text a.1) (Is Any cut_text s) (left_of a.1) _ (left-text a.1)
    (λ x last _. first tt ∙ ap (spaced (side_text a.0)) (last tt)))

abbrev device_text : (Side × Bool) → List ℕ
device_text x = spaced (side_text x.0) (writes_text x.1)

device-text : (s : List ℕ) → If (Is Any device_text s) (device_of s)
device-text s =
    if-then (Begins Any side_text s) (Is Any device_text s) (side_then s) _ (side_then_lem s)
    (λ a first. if-then (Is Any writes_text a.1) (Is Any device_text s) (writes_of a.1) _ (writes-text a.1)
    (λ x last _. first tt ∙ ap (spaced (side_text a.0)) (last tt)))

abbrev verb_text : Verb → List ℕ
verb_text verb.Town = codes "town"
verb_text verb.Reader = codes "reader"
verb_text verb.Service = codes "service"
verb_text verb.Tick = codes "tick"
verb_text verb.Want = codes "want"
verb_text verb.Close = codes "close"
verb_text verb.Hold = codes "hold"
verb_text verb.Repeat = codes "repeat"
verb_text verb.Join = codes "join"
verb_text verb.Steal = codes "steal"
verb_text verb.Lock = codes "lock"
verb_text verb.Unlock = codes "unlock"
verb_text verb.Bytes = codes "bytes"
verb_text verb.Fall = codes "fall"
verb_text verb.Cut = codes "cut"
verb_text verb.Device = codes "device"

abbrev IsVerb : List ℕ → Verb → Type 0
IsVerb w v = Is Any verb_text w v

verb-text : (w : List ℕ) → If (IsVerb w) (verb_of w)
verb-text w =
    word-text Any verb_text w (codes "town") verb.Town _ refl
    (word-text Any verb_text w (codes "reader") verb.Reader _ refl
    (word-text Any verb_text w (codes "service") verb.Service _ refl
    (word-text Any verb_text w (codes "tick") verb.Tick _ refl
    (word-text Any verb_text w (codes "want") verb.Want _ refl
    (word-text Any verb_text w (codes "close") verb.Close _ refl
    (word-text Any verb_text w (codes "hold") verb.Hold _ refl
    (word-text Any verb_text w (codes "repeat") verb.Repeat _ refl
    (word-text Any verb_text w (codes "join") verb.Join _ refl
    (word-text Any verb_text w (codes "bytes") verb.Bytes _ refl
    (word-text Any verb_text w (codes "steal") verb.Steal _ refl
    (word-text Any verb_text w (codes "lock") verb.Lock _ refl
    (word-text Any verb_text w (codes "unlock") verb.Unlock _ refl
    (word-text Any verb_text w (codes "fall") verb.Fall _ refl
    (word-text Any verb_text w (codes "cut") verb.Cut _ refl
    (word-text Any verb_text w (codes "device") verb.Device None refl tt)))))))))))))))

-- the words after a verb, with the verb before them
abbrev Says : Verb → List ℕ → say.Said → Type 0
Says v s l = Plain l → spaced (verb_text v) s ≡ line_text l

-- what is read exactly is said exactly
says : {A : Type 0} (P : A → Type 0) (T : A → List ℕ) (v : Verb) (s : List ℕ) (o : Option A) (line : A → say.Said) → ((x : A) → Plain (line x) → P x) → ((x : A) → spaced (verb_text v) (T x) ≡ line_text (line x)) → If (Is P T s) o → If (Says v s) (and_then o (λ x. Some (line x)))
says P T v s o line small e h =
    if-then (Is P T s) (Says v s) o _ h (λ x is plain. ap (spaced (verb_text v)) (is (small x plain)) ∙ e x)

says-text : (v : Verb) (s : List ℕ) → If (Says v s) (says_of v s)
says-text verb.Town s = says SmallSettings settings_text verb.Town s (settings_of s) (λ x. say.Town x) (λ x p. p) (λ x. refl) (settings-text s)
says-text verb.Reader s = says Any account_text verb.Reader s (account_of s) (λ x. say.Reader x) (λ x p. p) (λ x. refl) (account-text s)
says-text verb.Service s = says Any account_text verb.Service s (account_of s) (λ x. say.Service x) (λ x p. p) (λ x. refl) (account-text s)
says-text verb.Tick s = says Small decimal verb.Tick s (decimal_of s) (λ x. say.Tick x) (λ x p. p) (λ x. refl) (decimal-text s)
says-text verb.Want s = says SmallWish wish_text verb.Want s (wish_of s) (λ x. say.Want x) (λ x p. p) (λ x. refl) (wish-text s)
says-text verb.Close s = says Small decimal verb.Close s (decimal_of s) (λ x. say.Close x) (λ x p. p) (λ x. refl) (decimal-text s)
says-text verb.Hold s = says Small decimal verb.Hold s (decimal_of s) (λ x. say.Hold x) (λ x p. p) (λ x. refl) (decimal-text s)
says-text verb.Repeat s = says (λ x. Small x.0) brought_text verb.Repeat s (repeat_of s) (λ x. say.Repeat x.0 x.1) (λ x p. p) (λ x. refl) (repeat-text s)
says-text verb.Join s = says SmallJoin join_text verb.Join s (join_of s) (λ x. say.Join x) (λ x p. p) (λ x. refl) (join-text s)
says-text verb.Steal s = says Small decimal verb.Steal s (decimal_of s) (λ x. say.Steal x) (λ x p. p) (λ x. refl) (decimal-text s)
says-text verb.Lock s = says Any making_text verb.Lock s (making_of s) (λ x. say.Lock x) (λ x p. p) (λ x. refl) (making-text s)
says-text verb.Unlock s = says SmallOpening opening_text verb.Unlock s (opening_of s) (λ x. say.Unlock x) (λ x p. p) (λ x. refl) (opening-text s)
says-text verb.Bytes s = says Any bytes_text verb.Bytes s (hex_of s) (λ x. say.Bytes x) (λ x p. p) (λ x. refl) (bytes-text s)
says-text verb.Fall s = says Any side_text verb.Fall s (side_of s) (λ x. say.Fall x) (λ x p. p) (λ x. refl) (side-text s)
says-text verb.Cut s = says Any cut_text verb.Cut s (cut_of s) (λ x. say.Cut x.0 x.1) (λ x p. p) (λ x. refl) (cuts-text s)
says-text verb.Device s = says Any device_text verb.Device s (device_of s) (λ x. say.Device x.0 x.1) (λ x p. p) (λ x. refl) (device-text s)

saying-text : (s : List ℕ) → If (Is Plain line_text s) (saying_of s)
saying-text s =
    if-then (λ p. s ≡ p.0 ++ (32 ∷ p.1)) (Is Plain line_text s) (cut_at 32 s) _ (cut-text 32 s)
    (λ p joins. if-then (IsVerb p.0) (Is Plain line_text s) (verb_of p.0) _ (verb-text p.0)
    (λ v is. if-each (Is Plain line_text s) (says_of v p.1)
    (λ l e plain. joins ∙ ap (λ (w : List ℕ). w ++ (32 ∷ p.1)) (is tt) ∙ if-is (Says v p.1) (says_of v p.1) l (says-text v p.1) e plain)))

line-text : (s : List ℕ) → If (Is Plain line_text s) (read_of s)
line-text s =
    cond_both (ltb 1048576 (length s)) None (cond (silent s) (Some say.Blank) (saying_of s)) (If (Is Plain line_text s)) (λ _. tt)
    (λ _. cond_both (silent s) (Some say.Blank) (saying_of s) (If (Is Plain line_text s)) (λ _ no. absurd no) (λ _. saying-text s))

pub lines-are-exact : LinesAreExact
lines-are-exact s l e plain = if-is (Is Plain line_text s) (read_of s) l (line-text s) e plain
