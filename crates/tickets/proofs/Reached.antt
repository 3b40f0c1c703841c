-- Every event keeps the invariant, so that it holds of every state that can be reached. Assumes nothing.
use mathlib.Core.Path.{refl}
use mathlib.Core.Bool.{false}
use mathlib.Core.List.Memᴰ
use mathlib.Core.List.{List}
use Rattle.tickets.specs.State.{Rules, State, is_in, start}
use Rattle.tickets.specs.Event
use Rattle.tickets.specs.Event.{Body, body_of, ticket, letter_of, asking_of, login_of, receipt, Event, after, May, Later, Reach, HearsLogin, Hears, Serves, Does, Takes, HoldsHouse, HoldsService, Wants, new_line, new_wish, new_asked, new_key, new_done}
use Rattle.tickets.proofs.Bools.{clash}
use Rattle.tickets.proofs.Inv.{Inv}
use Rattle.tickets.proofs.Keep.{Change, keep}
use Rattle.tickets.proofs.Steps.{step-ticks, step-steals, step-closes, step-begins, step-grants, step-wants, step-wish, step-again, step-serves, step-asks, step-does}

module _ {r : Rules} {s : State} (i : Inv r s) where
  -- every event changes only what it may
  pub change : (e : Event) → May r s e → Change r s (after r e s)
  change Event.ticks h = step-ticks i
  change (Event.steals a) h = step-steals i a
  change (Event.closes a) h = step-closes i a
  change (Event.begins a v w) h = step-begins i a v w h
  change (Event.grants a n t) h = step-grants i a n t h
  change (Event.wants x k u) h = step-wants i x k u h
  change (Event.wish q v w) h = step-wish i q v w h.0 h.1
  change (Event.again q w) h = step-again i q w h.0 h.1
  change (Event.serves b n v t) h = step-serves i b n v t h
  change (Event.asks x k u) h = step-asks i x k u h
  change (Event.does b n w t) h = step-does i b n w t h

  -- so every event keeps the invariant
  pub step : (e : Event) → May r s e → Inv r (after r e s)
  step e h = keep i (change e h)

-- at the start there is nothing
pub inv-start : (r : Rules) → Inv r start
unfolding is_in
inv-start r =
    record {
      air = λ x h. absurd (Memᴰ.not-nil h);
      lines = λ l h. absurd (Memᴰ.not-nil h);
      wishes = λ x h. absurd (Memᴰ.not-nil h);
      made = λ m h. absurd (Memᴰ.not-nil h);
      asked = λ q h. absurd (Memᴰ.not-nil h);
      done = λ d h. absurd (Memᴰ.not-nil h);
      one_key = λ m n h. absurd (Memᴰ.not-nil h);
      one_asking = λ p q h. absurd (Memᴰ.not-nil h);
      one_number = λ x y h. absurd (Memᴰ.not-nil h);
      key_no_wish = λ m x h. absurd (Memᴰ.not-nil h);
      key_no_asking = λ m q h. absurd (Memᴰ.not-nil h);
      one_wish = λ x y h. absurd (Memᴰ.not-nil h);
      login_taken = λ x y h. absurd (Memᴰ.not-nil h);
      wish_taken = λ q x h. absurd (Memᴰ.not-nil h);
      one_of_line = λ p q h. absurd (Memᴰ.not-nil h);
      upon_after = λ m x h. absurd (Memᴰ.not-nil h);
      closings = λ c m h. absurd (Memᴰ.not-nil h);
      each_once = tt;
      taken_low = λ n h. absurd (clash {b = false} h refl);
    }

-- the invariant holds of every state that can be reached
pub reached : {r : Rules} {es : List Event} {s : State} → Reach r es s → Inv r s
reached {r} Event.here = inv-start r
reached (Event.onward l e h) = step (reached l) e h
