-- What whoever hears a ticket, a letter, an asking or a login may conclude from it. Assumes nothing.
use mathlib.Core.Path.{◌≡◌, refl, sym, subst, ◌∙◌, ap}
use mathlib.Core.Bool.{true}
use mathlib.Core.Logic.{◌⊎◌, inl, inr}
use mathlib.Core.List.{Memᴰ}
use Prim.Native.Nat.{ℕ, ◌*◌}
use native.Mathlib.Omega.{arith}
use Rattle.tickets.specs.Term.{Term, Num, Own, Pair, even}
use Rattle.tickets.specs.State.{Rules, AskingHouse, Wish, Key, Asked, Done, State, Safe, is_in}
use Rattle.tickets.specs.Event.{Body, body_term, body_of, ticket, letter, asking, Hears}
use Rattle.tickets.specs.Promise.{MadeUpon, MadeFor}
use Rattle.tickets.proofs.Bools.{Unsafe, clash, unsafe-reader, unsafe-house, safe-back, safe-service, even-injective}
use Rattle.tickets.proofs.Known.{Known}
use Rattle.tickets.proofs.Inv.{GivenKey, Under, by-own, by-session, by-forged, HoldsKey, key-given, key-forged, Ticketed, ticket-made, ticket-forged, Inv, known-unsafe, unsafe-known, own-stolen, safe-unknown, letter-unsafe, gets-known, ticket-cases, letter-cases, asking-cases}

-- an asking that was sent, with just this inside
pub record Sent (s : State) (b : Body) (n w : Term) (t : ℕ) (q : Asked) : Type 0 where
  pub known : Memᴰ q s.asked
  pub by_reader : q.line.reader ≡ b.who
  pub of_service : q.service ≡ b.service
  pub same_key : q.key ≡ b.key
  pub same_number : even q.number ≡ n
  pub in_words : q.what ≡ w
  pub at_tick : q.at ≡ t

pub pair-first : {r : Rules} {s : State} {a e : Term} → Known r s (Pair a e) → Known r s a
pair-first (Known.pair x y) = x

pub pair-second : {r : Rules} {s : State} {a e : Term} → Known r s (Pair a e) → Known r s e
pair-second (Known.pair x y) = y

module _ {r : Rules} {s : State} (i : Inv r s) where
  -- a ticket that may be known was made by the house, or made up with the service's stolen key
  pub ticket_heard : (b : Body) → Known r s (ticket r b)
      → ((m : Key) × MadeFor s b m) ⊎ (Known r s b.key × (is_in (r.key_of b.service) s.stolen ≡ true))
  ticket_heard b k = go (ticket-cases k)
    where
      go : (Known r s (Own (r.key_of b.service)) × Known r s (body_term b))
          ⊎ ((m : Key) × Memᴰ m s.made × (Own (r.key_of b.service) ≡ Own (r.key_of m.service)) × (body_term b ≡ body_term (body_of m)))
          → ((m : Key) × MadeFor s b m) ⊎ (Known r s b.key × (is_in (r.key_of b.service) s.stolen ≡ true))
      go (inl h) = inr (pair-first (pair-second (pair-second h.1)), own-stolen i (r.key_of b.service) h.0)
      go (inr h) =
          let e = h.3 in
          inl (h.0, record { known = h.1; for_reader = cc; for-service = cc; same_key = cc; same_until = cc })

  -- what stands in an asking that may be known may be known
  pub number-heard : (k : Term) (v : ℕ) (n w : Term) (t : ℕ) → Known r s (asking k v n w t) → Known r s n
  number-heard k v n w t h = go (asking-cases h)
    where
      go : (Known r s k × Known r s (Pair (Num v) (Pair n (Pair w (Num t)))))
          ⊎ ((q : Asked) × Memᴰ q s.asked × (k ≡ q.key) × (Pair (Num v) (Pair n (Pair w (Num t))) ≡ Pair (Num q.service) (Pair (even q.number) (Pair q.what (Num q.at)))))
          → Known r s n
      go (inl h) = pair-first (pair-second h.1)
      go (inr h) =
          let e = h.3 in
          let f : n ≡ even h.0.number = cc in
          subst (Known r s) (sym f) (Known.asking-number h.0 (h.0.number * 2) h.1 refl)

  -- an asking under a key that isn't known was sent by whom the key was made for
  pub asking_heard : (b : Body) (n w : Term) (t : ℕ) (m : Key) → MadeFor s b m → Safe r s.stolen m.who m.service
      → Known r s (asking b.key b.service n w t) → (q : Asked) × Sent s b n w t q
  asking_heard b n w t m f safe h = go (asking-cases h)
    where
      unknown : Known r s b.key → ⊥
      unknown k = safe-unknown i m f.known safe (m.key * 2) refl (subst (Known r s) f.same_key k)

      holder : (q : Asked) → q.key ≡ b.key → HoldsKey r s q.line.reader q.key (MadeUpon s q.line.reader q.service q.key q.upon q.since)
          → (q.line.reader ≡ b.who) × (q.service ≡ b.service)
      holder q e (key-forged k u) = absurd (unknown (subst (Known r s) e k))
      holder q e (key-given p g) =
          let same : p ≡ m = i.one_key p m g.known f.known (even-injective p.key m.key (sym g.same_key ∙ e ∙ f.same_key)) in
          (sym g.for_reader ∙ ap (λ (x : Key). x.who) same ∙ f.for_reader, sym g.for-service ∙ ap (λ (x : Key). x.service) same ∙ f.for-service)

      go : (Known r s b.key × Known r s (Pair (Num b.service) (Pair n (Pair w (Num t)))))
          ⊎ ((q : Asked) × Memᴰ q s.asked × (b.key ≡ q.key) × (Pair (Num b.service) (Pair n (Pair w (Num t))) ≡ Pair (Num q.service) (Pair (even q.number) (Pair q.what (Num q.at)))))
          → (q : Asked) × Sent s b n w t q
      go (inl h) = absurd (unknown h.0)
      go (inr h) =
          let e = h.3 in
          let w = holder h.0 (sym h.2) (i.asked h.0 h.1).holds in
          (h.0, record { known = h.1; by_reader = w.0; of_service = w.1; same_key = sym h.2; same_number = cc; in_words = cc; at_tick = cc })

  -- the ticket by which something is done now
  pub ticket-used : (b : Body) (n w : Term) (t : ℕ) → Hears r s b n w t
      → ((m : Key) × MadeFor s b m) ⊎ (Known r s b.key × (is_in (r.key_of b.service) s.stolen ≡ true))
  ticket-used b n w t h = ticket_heard b (gets-known i h.ticket_heard)

  -- with no key of the three stolen the ticket was made by the house
  pub ticket-safe : (b : Body) (n w : Term) (t : ℕ) → Hears r s b n w t → Safe r s.stolen b.who b.service → (m : Key) × MadeFor s b m
  ticket-safe b n w t h safe = go (ticket-used b n w t h)
    where
      go : ((m : Key) × MadeFor s b m) ⊎ (Known r s b.key × (is_in (r.key_of b.service) s.stolen ≡ true)) → (m : Key) × MadeFor s b m
      go (inl m) = m
      go (inr k) = absurd (clash k.1 (safe-service r s.stolen b.who b.service safe))

  safe-made : (b : Body) (m : Key) → MadeFor s b m → Safe r s.stolen b.who b.service → Safe r s.stolen m.who m.service
  safe-made b m f w =
      subst (λ (x : ℕ). Safe r s.stolen x m.service) (sym f.for_reader) (subst (λ (x : ℕ). Safe r s.stolen b.who x) (sym f.for-service) w)

  -- and the asking was sent by the reader
  pub asking-safe : (b : Body) (n w : Term) (t : ℕ) → Hears r s b n w t → Safe r s.stolen b.who b.service → (q : Asked) × Sent s b n w t q
  asking-safe b n w t h safe =
      let m = ticket-safe b n w t h safe in
      asking_heard b n w t m.0 m.1 (safe-made b m.0 m.1 safe) (gets-known i h.asking_heard)

  -- and it was not done before
  pub first-time : (b : Body) (n w : Term) (t : ℕ) → Hears r s b n w t → Safe r s.stolen b.who b.service
      → (e : Done) → Memᴰ e s.done → e.service ≡ b.service → e.key ≡ b.key → e.number ≡ n → ⊥
  first-time b n w t h safe e k same-service same_key same_number =
      let m = ticket-safe b n w t h safe in
      let q = asking-safe b n w t h safe in
      go m.0 m.1 q.0 q.1 (i.done e k).ticketed
    where
      by : (q : Asked) → Sent s b n w t q → e.who ≡ b.who → ⊥
      by q sent who =
          let mine : Safe r s.stolen e.who e.service =
          subst (λ (x : ℕ). Safe r s.stolen x e.service) (sym who) (subst (λ (x : ℕ). Safe r s.stolen b.who x) (sym same-service) safe)
          in
          let then : Safe r e.stolen e.who e.service = safe-back r e.stolen s.stolen e.who e.service (i.done e k).thefts mine in
          let a = (i.done e k).answers then in
          let same : a.0 ≡ q =
          i.one_asking a.0 q a.1.known sent.known
          (even-injective a.0.number q.number (a.1.same_number ∙ same_number ∙ sym sent.same_number))
          in
          let at : a.0.at ≡ t = ap (λ (x : Asked). x.at) same ∙ sent.at_tick in
          let early = a.1.in_time.not_ahead in
          let late = h.in_time.not_old in
          h.is-new (record {
            deed = e;
            known = k;
            at-service = same-service;
            same_key = same_key;
            same_number = same_number;
            remembered = omega arith;
          })

      go : (m : Key) → MadeFor s b m → (q : Asked) → Sent s b n w t q → Ticketed r s e → ⊥
      go m f q sent (ticket-made p g u) =
          let same : p ≡ m = i.one_key p m g.known f.known (even-injective p.key m.key (sym g.same_key ∙ same_key ∙ f.same_key)) in
          by q sent (sym g.for_reader ∙ ap (λ (x : Key). x.who) same ∙ f.for_reader)
      go m f q sent (ticket-forged j u) =
          safe-unknown i m f.known (safe-made b m f safe) (m.key * 2) refl (subst (Known r s) (same_key ∙ f.same_key) j)

  -- a letter under a reader's own key, for a login of that reader, brings a key made upon it, unless the reader's key is stolen
  pub login-letter : (x : Wish) (k : Term) (u : ℕ) → Memᴰ x s.wishes → Known r s (letter (Own x.line.reader) (even x.number) r.house k u)
      → HoldsKey r s x.line.reader k (MadeUpon s x.line.reader r.house k x.number x.since)
  login-letter x k u h l = go (letter-cases l)
    where
      under : (m : Key) → Memᴰ m s.made → Own x.line.reader ≡ m.under → m.upon ≡ even x.number → m.service ≡ r.house → k ≡ even m.key
          → Under r s m → HoldsKey r s x.line.reader k (MadeUpon s x.line.reader r.house k x.number x.since)
      under m j e n v f (by-own o) =
          key-given m (record { known = j; for_reader = cc; for-service = v; same_key = f; same_number = n; not_before = i.upon_after m x j h n })
      under m j e n v f (by-session g o) =
          let c = o.same_key in
          absurd (let z : ◌≡◌ {A = ℕ} 0 1 = cc in omega arith)
      under m j e n v f (by-forged o st) =
          key-forged (subst (Known r s) (sym f) (unsafe-known i m j (unsafe-house r s.stolen m.who m.service st)))
          (unsafe-house r s.stolen x.line.reader r.house st)

      go : (Known r s (Own x.line.reader) × Known r s (Pair (even x.number) (Pair (Num r.house) (Pair k (Num u)))))
          ⊎ ((m : Key) × Memᴰ m s.made × (Own x.line.reader ≡ m.under)
          × (Pair (even x.number) (Pair (Num r.house) (Pair k (Num u))) ≡ Pair m.upon (Pair (Num m.service) (Pair (even m.key) (Num m.until)))))
          → HoldsKey r s x.line.reader k (MadeUpon s x.line.reader r.house k x.number x.since)
      go (inl p) =
          key-forged (pair-first (pair-second (pair-second p.1)))
          (unsafe-reader r s.stolen x.line.reader r.house (own-stolen i x.line.reader p.0))
      go (inr p) =
          let e = p.3 in
          under p.0 p.1 p.2 (cc) (cc) (cc) (i.made p.0 p.1).under

  -- a letter under the key of a ticket for the house, for an asking of its reader, brings a key made upon it, unless the reader's key or the house's is stolen
  pub asking-letter : (x : Wish) (v : ℕ) (k : Term) (u : ℕ) → Memᴰ x s.wishes → x.stage ≡ AskingHouse → Known r s (letter x.key (even x.number) v k u)
      → HoldsKey r s x.line.reader k (MadeUpon s x.line.reader v k x.number x.since)
  asking-letter x v k u h st l = go ((i.wishes x h).holds st) (letter-cases l)
    where
      -- the ticket's key is known: so is what its letter brings
      loose : Unsafe r s.stolen x.line.reader r.house → Known r s k → HoldsKey r s x.line.reader k (MadeUpon s x.line.reader v k x.number x.since)
      loose u w = key-forged w u

      unsafe-given : (g : Key) → GivenKey s x.line.reader r.house x.key g → Known r s x.key → Unsafe r s.stolen x.line.reader r.house
      unsafe-given g o w =
          subst (λ (y : ℕ). Unsafe r s.stolen y r.house) o.for_reader
          (subst (λ (y : ℕ). Unsafe r s.stolen g.who y) o.for-service (known-unsafe i g o.known (subst (Known r s) o.same_key w)))

      from-unsafe : (m : Key) → Memᴰ m s.made → k ≡ even m.key → Unsafe r s.stolen m.who m.service → Known r s k
      from-unsafe m j f u = subst (Known r s) (sym f) (unsafe-known i m j u)

      -- the ticket's key was made for the reader
      tight : (g : Key) → GivenKey s x.line.reader r.house x.key g → (m : Key) → Memᴰ m s.made → x.key ≡ m.under → m.upon ≡ even x.number
          → m.service ≡ v → k ≡ even m.key → Under r s m → HoldsKey r s x.line.reader k (MadeUpon s x.line.reader v k x.number x.since)
      tight g o m j e n sv f (by-own w) =
          let c = o.same_key in
          absurd (let z : ◌≡◌ {A = ℕ} 0 1 = cc in omega arith)
      tight g o m j e n sv f (by-session p w) =
          let same : p ≡ g = i.one_key p g w.known o.known (even-injective p.key g.key (sym w.same_key ∙ sym e ∙ o.same_key)) in
          key-given m
          (record {
            known = j;
            for_reader = sym w.for_reader ∙ ap (λ (y : Key). y.who) same ∙ o.for_reader;
            for-service = sv;
            same_key = f;
            same_number = n;
            not_before = i.upon_after m x j h n;
          })
      tight g o m j e n sv f (by-forged w hs) =
          loose (unsafe-house r s.stolen x.line.reader r.house hs) (from-unsafe m j f (unsafe-house r s.stolen m.who m.service hs))

      -- the ticket's key is known
      slack : Known r s x.key → Unsafe r s.stolen x.line.reader r.house → (m : Key) → Memᴰ m s.made → x.key ≡ m.under → k ≡ even m.key
          → Known r s k
      slack w u m j e f = from-unsafe m j f (letter-unsafe i m j (subst (Known r s) e w))

      go : HoldsKey r s x.line.reader x.key (GivenKey s x.line.reader r.house x.key)
          → (Known r s x.key × Known r s (Pair (even x.number) (Pair (Num v) (Pair k (Num u)))))
          ⊎ ((m : Key) × Memᴰ m s.made × (x.key ≡ m.under)
          × (Pair (even x.number) (Pair (Num v) (Pair k (Num u))) ≡ Pair m.upon (Pair (Num m.service) (Pair (even m.key) (Num m.until)))))
          → HoldsKey r s x.line.reader k (MadeUpon s x.line.reader v k x.number x.since)
      go (key-given g o) (inl p) = loose (unsafe-given g o p.0) (pair-first (pair-second (pair-second p.1)))
      go (key-given g o) (inr p) =
          let e = p.3 in
          tight g o p.0 p.1 p.2 (cc) (cc) (cc) (i.made p.0 p.1).under
      go (key-forged w u) (inl p) = loose u (pair-first (pair-second (pair-second p.1)))
      go (key-forged w u) (inr p) =
          let e = p.3 in
          loose u (slack w u p.0 p.1 p.2 (cc))
