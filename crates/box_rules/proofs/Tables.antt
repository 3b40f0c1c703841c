-- What a search or a chain over a table gives, as the recursions over its rows say it. Assumes nothing.
use Rattle.std.proofs.Common.{◌≡◌, ℕ, Bool, true, false, cond, eqb, List, [], ◌∷◌, reverse, Some, None, Option, refl, ap, ◌∙◌}
use Rattle.box_rules.specs.Chest.{ticket_of}
use Rattle.box_rules.specs.Line.{pass_of}
use Rattle.box_rules.specs.Table.{matches, older, oldest}
use Rattle.box_rules.specs.declared.line.Held.{Held}
use Rattle.box_rules.specs.declared.line.Pending.{Pending}
use Rattle.box_rules.specs.declared.line.Sought.{Sought}
use Rattle.std.proofs.lemmas.Grind.{reverse_onto}
use Rattle.std.proofs.lemmas.List.Folds.{find-append}
use Rattle.std.specs.List.{find}
use Rattle.std.specs.Option.{option_map, option_or}

abbrev with_id : {T : Type 0} → ℕ → Held T → Bool
with_id i h = eqb h.pass.id i

pub pass-found : {T : Type 0} (i : ℕ) (hs : List (Held T)) → option_map (λ (h : Held T). h.pass) (find (with_id i) hs) ≡ pass_of i hs
pass-found i [] = refl
pass-found {T} i (h ∷ hs) = by (with_id i h) (pass-found i hs)
  where
    by : (b : Bool) → option_map (λ (x : Held T). x.pass) (find (with_id i) hs) ≡ pass_of i hs → option_map (λ (x : Held T). x.pass) (cond b (Some h) (find (with_id i) hs)) ≡ cond b (Some h.pass) (pass_of i hs)
    by true e = refl
    by false e = e

pub ticket-found : {T : Type 0} (i : ℕ) (hs : List (Held T)) → option_map (λ (h : Held T). h.ticket) (find (with_id i) hs) ≡ ticket_of i hs
ticket-found i [] = refl
ticket-found {T} i (h ∷ hs) = by (with_id i h) (ticket-found i hs)
  where
    by : (b : Bool) → option_map (λ (x : Held T). x.ticket) (find (with_id i) hs) ≡ ticket_of i hs → option_map (λ (x : Held T). x.ticket) (cond b (Some h) (find (with_id i) hs)) ≡ cond b (Some h.ticket) (ticket_of i hs)
    by true e = refl
    by false e = e

-- the first from the end is the oldest
pub oldest-found : (s : Sought) (xs : List Pending) → find (matches s) (reverse xs) ≡ oldest s xs
oldest-found s [] = refl
oldest-found s (x ∷ xs) =
    ap (find (matches s)) (reverse_onto xs x [])
    ∙ find-append (matches s) (reverse xs) (x ∷ [])
    ∙ same (find (matches s) (reverse xs))
    ∙ ap (λ (o : Option Pending). older o (cond (matches s x) (Some x) None)) (oldest-found s xs)
  where
    same : (o : Option Pending) → option_or o (cond (matches s x) (Some x) None) ≡ older o (cond (matches s x) (Some x) None)
    same None = refl
    same (Some y) = refl
