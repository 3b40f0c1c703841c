-- An asking under a key that is safe was sent by whoever the key was made for. Assumes nothing.
use mathlib.Core.Path.{◌≡◌, sym, subst, ◌∙◌, ap}
use mathlib.Core.Logic.{◌⊎◌, inl, inr}
use mathlib.Core.List.{Memᴰ}
use Prim.Native.Nat.{ℕ}
use Rattle.tickets.specs.Term.{Term, Num, Pair, Gets, even}
use Rattle.tickets.specs.State.{Rules, Key, Asked, State, Safe}
use Rattle.tickets.specs.Event.{asking}
use Rattle.tickets.specs.Promise.{MadeUpon, SentUnder}
use Rattle.tickets.proofs.Bools.{clash, even-injective}
use Rattle.tickets.proofs.Known.{Known}
use Rattle.tickets.proofs.Inv.{HoldsKey, key-given, key-forged, Inv, known-unsafe, gets-known, asking-cases}

module _ {r : Rules} {s : State} (i : Inv r s) where
  pub asking-was-made : (m : Key) (v : ℕ) (n w : Term) (t : ℕ) → Memᴰ m s.made → Safe r s.stolen m.who m.service
      → Gets s.air (asking (even m.key) v n w t) → (q : Asked) × SentUnder s m v n w t q
  asking-was-made m v n w t h safe l = go (asking-cases (gets-known i l))
    where
      holder : (q : Asked) → q.key ≡ even m.key → HoldsKey r s q.line.reader q.key (MadeUpon s q.line.reader q.service q.key q.upon q.since)
          → (q.line.reader ≡ m.who) × (q.service ≡ m.service)
      holder q e (key-forged k u) = absurd (clash (known-unsafe i m h (subst (Known r s) e k)) safe)
      holder q e (key-given p g) =
          let same : p ≡ m = i.one_key p m g.known h (even-injective p.key m.key (sym g.same_key ∙ e)) in
          (sym g.for_reader ∙ ap (λ (x : Key). x.who) same, sym g.for-service ∙ ap (λ (x : Key). x.service) same)

      go : (Known r s (even m.key) × Known r s (Pair (Num v) (Pair n (Pair w (Num t)))))
          ⊎ ((q : Asked) × Memᴰ q s.asked × (even m.key ≡ q.key)
          × (Pair (Num v) (Pair n (Pair w (Num t))) ≡ Pair (Num q.service) (Pair (even q.number) (Pair q.what (Num q.at)))))
          → (q : Asked) × SentUnder s m v n w t q
      go (inl k) = absurd (clash (known-unsafe i m h k.0) safe)
      go (inr k) =
          let e = k.3 in
          let f = holder k.0 (sym k.2) (i.asked k.0 k.1).holds in
          let v-is : k.0.service ≡ v = cc in (
            k.0,
            record {
              known = k.1;
              by_reader = f.0;
              of_service = v-is;
              key_for_service = sym f.1 ∙ v-is;
              same_key = sym k.2;
              same_number = cc;
              in_words = cc;
              at_tick = cc;
              from_line = (i.asked k.0 k.1).line;
            },
          )
