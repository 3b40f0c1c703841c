-- What stands among entries that are not forgotten. Assumes nothing.
use Rattle.std.proofs.Common.{◌≡◌, ℕ, Bool, true, false, cond, ◌&&◌, ◌||◌, eqb, List, [], ◌∷◌, refl, ap, ◌∙◌}
use Rattle.parts.specs.Tick.{live}
use Rattle.parts.specs.declared.account.Entry.{Entry}
use Rattle.service_rules.specs.Memory.{live_of, stands}
use Rattle.std.specs.List.{list_any}

-- this one, and not forgotten
abbrev pub is : (d t lag : ℕ) → Entry → Bool
is d t lag e = live t lag e.tick && eqb e.digest d

-- a digest stands among those that are not forgotten if one of all has it and is not forgotten
pub stands_any : (d t lag : ℕ) (es : List Entry) → list_any (is d t lag) es ≡ stands d (live_of t lag es)
stands_any d t lag [] = refl
stands_any d t lag (e ∷ es) = ap (λ (b : Bool). is d t lag e || b) (stands_any d t lag es) ∙ by (live t lag e.tick)
  where
    by : (b : Bool) → ((b && eqb e.digest d) || stands d (live_of t lag es)) ≡ stands d (cond b (e ∷ live_of t lag es) (live_of t lag es))
    by true = refl
    by false = refl
