-- What is remembered of things done, the oldest first. Assumes nothing.
--
-- live_of now lag es       those that are not forgotten yet
-- stands d es              a digest stands among them
-- recorded now lag d es    the live ones, and a new one of this tick
-- highest es               the highest tick, 0 if there is none
use Rattle.std.specs.Prelude.{ℕ, max, Bool, false, ◌||◌, List, [], ◌∷◌, ◌++◌, filter, ◌==◌}
use Rattle.parts.specs.Tick.{live}
use Rattle.parts.specs.declared.account.Entry.{Entry}

abbrev pub live_of : (now lag : ℕ) → List Entry → List Entry
live_of now lag es = filter (λ e. live now lag e.tick) es

abbrev pub stands : ℕ → List Entry → Bool
stands d [] = false
stands d (e ∷ es) = e.digest == d || stands d es

abbrev pub recorded : (now lag digest : ℕ) → List Entry → List Entry
recorded now lag d es = live_of now lag es ++ (record { digest = d; tick = now } ∷ [])

abbrev pub highest : List Entry → ℕ
highest [] = 0
highest (e ∷ es) = max e.tick (highest es)
