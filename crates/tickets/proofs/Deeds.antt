-- What is done upon a ticket and an asking that were heard is as the invariant has it. Assumes nothing.
use mathlib.Core.Path.{◌≡◌, sym, subst}
use mathlib.Core.Bool.{true}
use mathlib.Core.Logic.{◌⊎◌, inl, inr}
use Prim.Native.Nat.{ℕ}
use native.Mathlib.Omega.{arith}
use Rattle.tickets.specs.Term.{Term}
use Rattle.tickets.specs.State.{Rules, Lately, Key, Asked, State, is_in}
use Rattle.tickets.specs.Event.{Body, Hears, new_done}
use Rattle.tickets.specs.Promise.{Answers, MadeFor, GaveKey}
use Rattle.tickets.proofs.Known.{Known, Grows, known-grows}
use Rattle.tickets.proofs.Inv.{Ticketed, ticket-made, ticket-forged, DoneOk, Inv, gets-known}
use Rattle.tickets.proofs.Hearing.{Sent, ticket-used, asking-safe, number-heard}

module _ {r : Rules} {s : State} (i : Inv r s) where
  -- what is done upon a ticket and an asking that were heard
  pub done_ok : (t : State) → Grows s t → (b : Body) (n w : Term) (at : ℕ) → Hears r s b n w at
      → (b.service ≡ r.house → (m : Key) × GaveKey t (new_done s b n w) m) → DoneOk r t (new_done s b n w)
  done_ok t g b n w at h gave =
      record {
        past = g.now_le;
        thefts = g.thefts;
        number = known-grows g (number-heard i b.key b.service n w at (gets-known i h.asking_heard));
        ticketed = ticketed (ticket-used i b n w at h);
        answers = λ safe. answers (asking-safe i b n w at h safe);
        gave = gave;
      }
    where
      ticketed : ((m : Key) × MadeFor s b m) ⊎ (Known r s b.key × (is_in (r.key_of b.service) s.stolen ≡ true)) → Ticketed r t (new_done s b n w)
      ticketed (inl (m, f)) =
          let e = f.same_until in
          let good = h.is_good in
          ticket-made m (record { known = g.made m f.known; for_reader = f.for_reader; for-service = f.for-service; same_key = f.same_key }) (omega arith)
      ticketed (inr (k, st)) = ticket-forged (known-grows g k) st

      answers : (q : Asked) × Sent s b n w at q → (q : Asked) × Answers r t (new_done s b n w) q
      answers (q, f) = (
        q,
        record {
          known = g.asked q f.known;
          by_reader = f.by_reader;
          of_service = f.of_service;
          same_key = f.same_key;
          same_number = f.same_number;
          in_words = f.in_words;
          in_time = subst (λ (x : ℕ). Lately 0 r.lag s.now x) (sym f.at_tick) h.in_time;
          from_line = g.lines q.line (i.asked q f.known).line;
        },
      )
