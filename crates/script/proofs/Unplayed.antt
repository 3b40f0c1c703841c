-- A line that is not played is refused. Assumes nothing.
use Rattle.std.proofs.Common.{◌≡◌, ℕ, true, false, cond, ltb, List, ◌∷◌, ◌++◌, length, Some, None, codes, Option, sym, refl, ap, ◌∙◌}
use Rattle.std.specs.List.{starts_with}
use Rattle.std.specs.Prelude.{nat_eq}
use Rattle.std.specs.Str.{bytes_eq}
use Rattle.std.proofs.lemmas.Bool.{cond_both, or_parts}
use Rattle.std.proofs.lemmas.Bool.Decides.{Decides-eqb}
use Rattle.std.proofs.lemmas.Slice.Eq.{bytes_eq-Decides, starts_is}
use Rattle.words.specs.Text.{and_then, cut_at, decimal_of, hex_of}
use Rattle.words.proofs.Cuts.{cut-joins}
use Rattle.commands.specs.declared.line.Settings.{Settings}
use Rattle.commands.specs.declared.verbs.Verb.{Verb}
use Rattle.commands.specs.declared.verbs.Verb.TheVariants as verb
use Rattle.commands.specs.Arguments.{side_of}
use Rattle.commands.specs.Grammar.{wish_of, repeat_of, join_of, making_of, opening_of, cut_of, device_of, says_of, saying_of, silent, read_of}
use Rattle.commands.specs.Said as say
use Rattle.commands.specs.Verbs.{verb_of}
use Rattle.commands.proofs.Ifs.{If, if-each}
use Rattle.script.specs.Play.{Seen, refused, begun, acted, heard, played}

-- refused as the first line, and as a later one
refused-by : (s : Seen) (l : say.Said) (o : Option Settings) → begun s l ≡ refused s → acted s l ≡ refused s → elim o [ None ↦ begun s l | Some x ↦ acted s l ] ≡ refused s
refused-by s l None first later = first
refused-by s l (Some x) first later = later

-- what a verb says is refused, and so is what can't be read
says-refused : {A : Type 0} (s : Seen) (o : Option A) (line : A → say.Said) → ((x : A) → begun s (line x) ≡ refused s) → ((x : A) → acted s (line x) ≡ refused s) → heard s (and_then o (λ x. Some (line x))) ≡ refused s
says-refused s None line first later = refl
says-refused s (Some x) line first later = refused-by s (line x) s.settings (first x) (later x)

-- the verb v before the text w is refused
abbrev Refused : Seen → List ℕ → Option Verb → Type 0
Refused s w v = heard s (and_then v (λ x. says_of x w)) ≡ refused s

-- one verb more
one-verb : (s : Seen) (word w text : List ℕ) (v : Verb) (other : Option Verb) → (bytes_eq word text ≡ true → Refused s w (Some v)) → Refused s w other → Refused s w (cond (bytes_eq word text) (Some v) other)
one-verb s word w text v other h rest = cond_both (bytes_eq word text) (Some v) other (Refused s w) h (λ _. rest)

-- a line that is cut after a word begins with that word and a space
begins : (l word rest text : List ℕ) → l ≡ word ++ (32 ∷ rest) → bytes_eq word text ≡ true → l ≡ text ++ (32 ∷ rest)
begins l word rest text joins same = joins ∙ ap (λ (x : List ℕ). x ++ (32 ∷ rest)) ((bytes_eq-Decides word text).0 same)

-- no line begins with a text and does not
begins-not : {A : Type 0} (l text rest : List ℕ) → starts_with nat_eq l text ≡ false → l ≡ text ++ rest → A
begins-not l text rest not is =
    let begun : starts_with nat_eq l text ≡ true = (starts_is Decides-eqb l text (starts_with nat_eq l text) refl).1 rest is in
    let z : true ≡ false = sym begun ∙ not in
    absurd cc

word-refused : (s : Seen) (l word rest : List ℕ) → l ≡ word ++ (32 ∷ rest) → starts_with nat_eq l (codes "town ") ≡ false → starts_with nat_eq l (codes "reader ") ≡ false → starts_with nat_eq l (codes "service ") ≡ false → starts_with nat_eq l (codes "tick ") ≡ false → Refused s rest (verb_of word)
word-refused s l word rest joins town reader service tick =
    one-verb s word rest (codes "town") verb.Town _ (λ e. begins-not l (codes "town ") rest town (begins l word rest (codes "town") joins e))
    (one-verb s word rest (codes "reader") verb.Reader _ (λ e. begins-not l (codes "reader ") rest reader (begins l word rest (codes "reader") joins e))
    (one-verb s word rest (codes "service") verb.Service _ (λ e. begins-not l (codes "service ") rest service (begins l word rest (codes "service") joins e))
    (one-verb s word rest (codes "tick") verb.Tick _ (λ e. begins-not l (codes "tick ") rest tick (begins l word rest (codes "tick") joins e))
    (one-verb s word rest (codes "want") verb.Want _ (λ _. says-refused s (wish_of rest) (λ x. say.Want x) (λ x. refl) (λ x. refl))
    (one-verb s word rest (codes "close") verb.Close _ (λ _. says-refused s (decimal_of rest) (λ x. say.Close x) (λ x. refl) (λ x. refl))
    (one-verb s word rest (codes "hold") verb.Hold _ (λ _. says-refused s (decimal_of rest) (λ x. say.Hold x) (λ x. refl) (λ x. refl))
    (one-verb s word rest (codes "repeat") verb.Repeat _ (λ _. says-refused s (repeat_of rest) (λ x. say.Repeat x.0 x.1) (λ x. refl) (λ x. refl))
    (one-verb s word rest (codes "join") verb.Join _ (λ _. says-refused s (join_of rest) (λ x. say.Join x) (λ x. refl) (λ x. refl))
    (one-verb s word rest (codes "bytes") verb.Bytes _ (λ _. says-refused s (hex_of rest) (λ x. say.Bytes x) (λ x. refl) (λ x. refl))
    (one-verb s word rest (codes "steal") verb.Steal _ (λ _. says-refused s (decimal_of rest) (λ x. say.Steal x) (λ x. refl) (λ x. refl))
    (one-verb s word rest (codes "lock") verb.Lock _ (λ _. says-refused s (making_of rest) (λ x. say.Lock x) (λ x. refl) (λ x. refl))
    (one-verb s word rest (codes "unlock") verb.Unlock _ (λ _. says-refused s (opening_of rest) (λ x. say.Unlock x) (λ x. refl) (λ x. refl))
    (one-verb s word rest (codes "fall") verb.Fall _ (λ _. says-refused s (side_of rest) (λ x. say.Fall x) (λ x. refl) (λ x. refl))
    (one-verb s word rest (codes "cut") verb.Cut _ (λ _. says-refused s (cut_of rest) (λ x. say.Cut x.0 x.1) (λ x. refl) (λ x. refl))
    (one-verb s word rest (codes "device") verb.Device None (λ _. says-refused s (device_of rest) (λ x. say.Device x.0 x.1) (λ x. refl) (λ x. refl))
    refl)))))))))))))))

-- a line that has no first word is refused too
cut-refused : (s : Seen) (o : Option (List ℕ × List ℕ)) → If (λ p. Refused s p.1 (verb_of p.0)) o → heard s (and_then o (λ p. and_then (verb_of p.0) (λ v. says_of v p.1))) ≡ refused s
cut-refused s None h = refl
cut-refused s (Some p) h = h

pub unplayed-refused : (s : Seen) (l : List ℕ) → played l ≡ false → heard s (read_of l) ≡ refused s
unplayed-refused s l h =
    let fourth = or_parts _ (starts_with nat_eq l (codes "tick ")) h in
    let third = or_parts _ (starts_with nat_eq l (codes "service ")) fourth.0 in
    let second = or_parts _ (starts_with nat_eq l (codes "reader ")) third.0 in
    let first = or_parts (silent l) (starts_with nat_eq l (codes "town ")) second.0 in
    cond_both (ltb 1048576 (length l)) None (cond (silent l) (Some say.Blank) (saying_of l)) (λ o. heard s o ≡ refused s) (λ _. refl)
    (λ _. cond_both (silent l) (Some say.Blank) (saying_of l) (λ o. heard s o ≡ refused s)
    (λ e. let z : true ≡ false = sym e ∙ first.0 in absurd cc)
    (λ _. cut-refused s (cut_at 32 l)
    (if-each (λ p. Refused s p.1 (verb_of p.0)) (cut_at 32 l)
    (λ p e. word-refused s l p.0 p.1 (cut-joins 32 l p e) first.1 second.1 third.1 fourth.1))))
