-- The promises of the whole, from the invariant. Assumes nothing.
use mathlib.Core.Path.{◌≡◌, sym, subst, ◌∙◌, ap}
use mathlib.Core.Bool.{true, false}
use mathlib.Core.Logic.{◌⊎◌, inl, inr}
use mathlib.Core.List.{List, [], ◌∷◌, ◌++◌, Memᴰ}
use Prim.Native.Nat.{ℕ, ◌+◌, ◌≤◌}
use native.Mathlib.Omega.{arith}
use Rattle.tickets.specs.Term.{Num, Gets, even}
use Rattle.tickets.specs.State.{Rules, Wish, Key, Asked, Done, Closing, State, Safe, is_in, any_in, relies}
use Rattle.tickets.specs.Event.{Body, ticket, receipt}
use Rattle.tickets.specs.Promise.{Answers, Origin, by_reader, origin_line, MadeUpon, MadeFor, CameBy, Whole, Main}
use Rattle.tickets.proofs.Bools.{clash, unsafe-wider, safe-back, even-injective}
use Rattle.tickets.proofs.Known.{Known}
use Rattle.tickets.proofs.Inv.{HoldsKey, key-given, key-forged, Ticketed, ticket-made, ticket-forged, NotBefore, EachOnce, Inv, known-unsafe, own-stolen, gets-known, receipt-cases}
use Rattle.tickets.proofs.Hearing.{ticket_heard}
use Rattle.tickets.proofs.AskingMade.{asking-was-made}
use Rattle.tickets.proofs.Reached.{reached}
use Rattle.tickets.proofs.SixEvents.{served}

-- each deed of a list is the first of its service, key and number
at_place : (r : Rules) (ds es : List Done) (d : Done) → EachOnce r (ds ++ (d ∷ es)) → NotBefore r d es
at_place r [] es d h = h.0
at_place r (x ∷ ds) es d h = at_place r ds es d h.1

module _ {r : Rules} {s : State} (i : Inv r s) where
  asked-for : (d : Done) → Memᴰ d s.done → (d.service ≡ r.house → ⊥) → Safe r d.stolen d.who d.service → Origin r s d
  asked-for d h v w =
      let a = (i.done d h).answers w in
      by_reader a.0 a.1 ((i.asked a.0 a.1.known).as_wanted (λ e. v (sym a.1.of_service ∙ e)))

  granted : (d : Done) → Memᴰ d s.done → d.service ≡ r.house → Safe r d.stolen d.who d.service
      → (q : Asked) × Answers r s d q × (Num q.line.service ≡ d.what)
  granted d h v w =
      let a = (i.done d h).answers w in
      let e = (i.asked a.0 a.1.known).house_what (a.1.of_service ∙ v) in
      (a.0, a.1, sym e ∙ a.1.in_words)

  once_by_number : (ds es : List Done) (d e : Done) → s.done ≡ ds ++ (d ∷ es) → Memᴰ e es → Safe r d.stolen d.who d.service
      → e.service ≡ d.service → e.key ≡ d.key → e.number ≡ d.number → ⊥
  once_by_number ds es d e split h = at_place r ds es d (subst (EachOnce r) split i.each_once) e h

  once : (ds es : List Done) (d e : Done) → s.done ≡ ds ++ (d ∷ es) → Memᴰ e es → Safe r d.stolen d.who d.service
      → (o : Origin r s d) (p : Origin r s e) → (origin_line o).id ≡ (origin_line p).id → ⊥
  once ds es d e split h safe (by_reader q a w) (by_reader p b z) same =
      let service : (x : Asked) → Memᴰ x s.asked → x.line.service ≡ x.service → x.service ≡ r.house → ⊥ =
      λ x k f g. (i.lines x.line (i.asked x k).line).a_service (f ∙ g)
      in
      let one : p ≡ q = i.one_of_line p q b.known a.known (service p b.known z.of_service) (service q a.known w.of_service) (sym same) in
      once_by_number ds es d e split h safe
      (sym b.of_service ∙ ap (λ (x : Asked). x.service) one ∙ a.of_service)
      (sym b.same_key ∙ ap (λ (x : Asked). x.key) one ∙ a.same_key)
      (sym b.same_number ∙ ap (λ (x : Asked). even x.number) one ∙ a.same_number)

  over : (c : Closing) (d : Done) → Memᴰ c s.closed → Memᴰ d s.done → d.who ≡ c.who → is_in (r.key_of d.service) d.stolen ≡ false
      → d.at ≤ c.at + r.life
  over c d h k who free = go (i.done d k).ticketed
    where
      go : Ticketed r s d → d.at ≤ c.at + r.life
      go (ticket-made m g u) =
          let l = i.closings c m h g.known (g.for_reader ∙ who) in
          let e = (i.made m g.known).lives in
          omega arith
      go (ticket-forged x st) = absurd (clash st free)

  heard : (q : Asked) → Memᴰ q s.asked → (q.service ≡ r.house → ⊥) → Safe r s.stolen q.line.reader q.service
      → Gets s.air (receipt q.key (even q.number)) → (d : Done) × Memᴰ d s.done × Answers r s d q
  heard q h v safe l = held (i.asked q h).holds
    where
      unknown : (m : Key) → MadeUpon s q.line.reader q.service q.key q.upon q.since m → Known r s q.key → ⊥
      unknown m g k =
          let u = known-unsafe i m g.known (subst (Known r s) g.same_key k) in
          clash
          (subst (λ (x : ℕ). any_in (relies r x q.service) s.stolen ≡ true) g.for_reader
          (subst (λ (x : ℕ). any_in (relies r m.who x) s.stolen ≡ true) g.for-service u))
          safe

      deed : (m : Key) → MadeUpon s q.line.reader q.service q.key q.upon q.since m → (d : Done) → (k : Memᴰ d s.done) → q.key ≡ d.key
          → even q.number ≡ d.number → Ticketed r s d → Answers r s d q
      deed m g d k e n (ticket-forged x st) = absurd (unknown m g (subst (Known r s) (sym e) x))
      deed m g d k e n (ticket-made p o u) =
          let one : p ≡ m = i.one_key p m o.known g.known (even-injective p.key m.key (sym o.same_key ∙ sym e ∙ g.same_key)) in
          let who : d.who ≡ q.line.reader = sym o.for_reader ∙ ap (λ (x : Key). x.who) one ∙ g.for_reader in
          let service : d.service ≡ q.service = sym o.for-service ∙ ap (λ (x : Key). x.service) one ∙ g.for-service in
          let mine : Safe r s.stolen d.who d.service =
          subst (λ (x : ℕ). Safe r s.stolen x d.service) (sym who) (subst (λ (x : ℕ). Safe r s.stolen q.line.reader x) (sym service) safe)
          in
          let a = (i.done d k).answers (safe-back r d.stolen s.stolen d.who d.service (i.done d k).thefts mine) in
          let same : a.0 ≡ q = i.one_asking a.0 q a.1.known h (even-injective a.0.number q.number (a.1.same_number ∙ sym n)) in
          subst (Answers r s d) same a.1

      found : (m : Key) → MadeUpon s q.line.reader q.service q.key q.upon q.since m
          → (Known r s q.key × Known r s (even q.number)) ⊎ ((d : Done) × Memᴰ d s.done × (q.key ≡ d.key) × (even q.number ≡ d.number))
          → (d : Done) × Memᴰ d s.done × Answers r s d q
      found m g (inl p) = absurd (unknown m g p.0)
      found m g (inr p) = (p.0, p.1, deed m g p.0 p.1 p.2 p.3 (i.done p.0 p.1).ticketed)

      held : HoldsKey r s q.line.reader q.key (MadeUpon s q.line.reader q.service q.key q.upon q.since)
          → (d : Done) × Memᴰ d s.done × Answers r s d q
      held (key-given m g) = found m g (receipt-cases (gets-known i l))
      held (key-forged k u) = absurd (clash (unsafe-wider r s.stolen q.line.reader q.service u) safe)

  ticket-was-made : (b : Body) → is_in (r.key_of b.service) s.stolen ≡ false → Gets s.air (ticket r b) → (m : Key) × MadeFor s b m
  ticket-was-made b free h = go (ticket_heard i b (gets-known i h))
    where
      go : ((m : Key) × MadeFor s b m) ⊎ (Known r s b.key × (is_in (r.key_of b.service) s.stolen ≡ true)) → (m : Key) × MadeFor s b m
      go (inl m) = m
      go (inr k) = absurd (clash k.1 free)

  fresh : (q : Asked) → Memᴰ q s.asked → Safe r q.stolen q.line.reader r.house
      → (x : Wish) × CameBy r s q x × (m : Key) × MadeUpon s q.line.reader q.service q.key x.number x.since m
  fresh q h safe =
      let x = (i.asked q h).came in
      let m = (i.asked q h).fresh safe in (
        x.0,
        x.1,
        m.0,
        record {
          known = m.1.known;
          for_reader = m.1.for_reader;
          for-service = m.1.for-service;
          same_key = m.1.same_key;
          same_number = m.1.same_number ∙ ap even (sym x.1.same_number);
          not_before = let e = x.1.same_since in let l = m.1.not_before in omega arith;
        },
      )

  whole : Whole r s
  whole =
      record {
        asked-for = asked-for;
        granted = granted;
        house_gave = λ d h. (i.done d h).gave;
        ticket_asked = λ m h. (i.made m h).wanted;
        once = once;
        once_by_number = once_by_number;
        kept = λ m h w k. clash (known-unsafe i m h (gets-known i k)) w;
        own_kept = λ a w k. clash (own-stolen i a (gets-known i k)) w;
        ticket-made = ticket-was-made;
        asking-made = asking-was-made i;
        over = over;
        no_ticket = i.closings;
        logged-in = λ m h. (i.made m h).began;
        fresh = fresh;
        heard = heard;
        served = served i;
      }

-- the promises hold of every state that can be reached
pub main : Main
main r es s l = whole (reached l)
