-- What is answered and left, by what was found wrong. Assumes nothing.
use Rattle.std.proofs.Common.{◌≡◌, ℕ, ◌<◌, ◌≤◌, Bool, true, false, cond, not, ◌&&◌, List, length, take, drop, Some, None, Err, Option, sym, refl, ap, ◌∙◌, subst}
use Rattle.parts.proofs.Conditions.{first_fault-cons, first_fault-last-none, first_fault-last-some, first_fault-nil, lowest-first, passed}
use Rattle.parts.specs.Condition.{Lowest, first_fault, unless}
use Rattle.parts.specs.declared.account.Entry.{Entry}
use Rattle.parts.specs.declared.fault.Fault.{Fault}
use Rattle.parts.specs.declared.fault.Fault.TheVariants.{NotNow}
use Rattle.parts.specs.declared.tick.Clock.{Clock}
use Rattle.parts.specs.declared.word.Asking.{Asking}
use Rattle.parts.specs.declared.word.Ticket.{Ticket}
use Rattle.service_rules.specs.Memory.{live_of, recorded}
use Rattle.service_rules.specs.Service.{Answer, Decides, View, after, answered, conditions, deed_of, done, done_by, judged, receipt_of, refusal, view}
use Rattle.service_rules.specs.Side.{clock_of}
use Rattle.service_rules.specs.declared.side.Side.{Side}
use Rattle.std.proofs.lemmas.Bool.{leb-false, ltb-false}

-- nothing is wrong before the write
abbrev pub Clear : Side → List Entry → List ℕ → Ticket → Asking → ℕ → Type 0
Clear s es bs t a d = first_fault (judged s es bs t a d) ≡ None

-- each condition is met
pub record Met (s : Side) (es : List Entry) (bs : List ℕ) (t : Ticket) (a : Asking) (d : ℕ) : Type 0 where
  pub room : length (live_of s.now s.lag es) < 8192
  pub drawn : 16 ≤ length bs

pub met : (s : Side) (es : List Entry) (bs : List ℕ) (t : Ticket) (a : Asking) (d : ℕ) → Clear s es bs t a d → Met s es bs t a d
met s es bs t a d h =
    let p2 = passed _ _ h in
    let p6 = passed _ _ p2.1 in
    let p7 = passed _ _ p6.1 in
    let p8 = passed _ _ p7.1 in
    let p9 = passed _ _ p8.1 in
    let p10 = passed _ _ p9.1 in
    let p12 = passed _ _ p10.1 in
    record { room = leb-false _ _ p9.0; drawn = ltb-false _ _ p12.0 }

-- there is room at the clock of the side
pub room_at : (s : Side) (k : Clock) (es : List Entry) (bs : List ℕ) (t : Ticket) (a : Asking) (d : ℕ) → k ≡ clock_of s → Clear s es bs t a d → length (live_of k.tick k.lag es) < 8192
room_at s k es bs t a d e h = subst (λ (x : Clock). length (live_of x.tick x.lag es) < 8192) (sym e) (met s es bs t a d h).room

-- what is left to go wrong is the write
pub at-write : (v : View) (t : Ticket) (a : Asking) (d : ℕ) → Clear v.side v.kept v.left t a d → first_fault (conditions v t a d) ≡ cond (not v.writes) (Some NotNow) None
at-write v t a d h =
    first_fault-last-none _ _ h ∙ first_fault-cons _ _ ∙ ap (λ (o : Option Fault). cond (not v.writes) (Some NotNow) o) first_fault-nil

-- something was wrong before
pub record Unchanged (v : View) (t : Ticket) (a : Asking) (d : ℕ) (f : Fault) : Type 0 where
  pub answer : answered v t a d ≡ Err f
  pub after : after v t a d ≡ v

pub refused : (v : View) (t : Ticket) (a : Asking) (d : ℕ) (f : Fault) → Some f ≡ first_fault (judged v.side v.kept v.left t a d) → Unchanged v t a d f
refused v t a d f e = by (first_fault-last-some _ _ f e)
  where
    by : first_fault (conditions v t a d) ≡ Some f → Unchanged v t a d f
    by h = record {
      answer = ap (λ (o : Option Fault). unless o (done (deed_of t a) (receipt_of v t a)) Err) h;
      after = ap (λ (o : Option Fault). unless o (done_by v d) (λ _. v)) h;
    }

pub unwritten : (v : View) (t : Ticket) (a : Asking) (d : ℕ) → Clear v.side v.kept v.left t a d → v.writes ≡ false → Unchanged v t a d NotNow
unwritten v t a d e w = by (at-write v t a d e ∙ ap (λ (b : Bool). cond (not b) (Some NotNow) None) w)
  where
    by : first_fault (conditions v t a d) ≡ Some NotNow → Unchanged v t a d NotNow
    by h = record {
      answer = ap (λ (o : Option Fault). unless o (done (deed_of t a) (receipt_of v t a)) Err) h;
      after = ap (λ (o : Option Fault). unless o (done_by v d) (λ _. v)) h;
    }

-- nothing was wrong
pub record Granted (v : View) (t : Ticket) (a : Asking) (d : ℕ) : Type 0 where
  pub answer : answered v t a d ≡ done (deed_of t a) (receipt_of v t a)
  pub after : after v t a d ≡ done_by v d

pub granted : (v : View) (t : Ticket) (a : Asking) (d : ℕ) → Clear v.side v.kept v.left t a d → v.writes ≡ true → Granted v t a d
granted v t a d e w = by (at-write v t a d e ∙ ap (λ (b : Bool). cond (not b) (Some NotNow) None) w)
  where
    by : first_fault (conditions v t a d) ≡ None → Granted v t a d
    by h = record {
      answer = ap (λ (o : Option Fault). unless o (done (deed_of t a) (receipt_of v t a)) Err) h;
      after = ap (λ (o : Option Fault). unless o (done_by v d) (λ _. v)) h;
    }

-- the fault answered is the lowest of those that there are
pub is-lowest : (v : View) (t : Ticket) (a : Asking) (d : ℕ) (r : Answer) → r ≡ answered v t a d → Lowest (conditions v t a d) (refusal r)
is-lowest v t a d r e = lowest-first (conditions v t a d) (refusal r) (ap (λ (x : Answer). refusal x) e ∙ told (first_fault (conditions v t a d))) refl
  where
    told : (o : Option Fault) → refusal (unless o (done (deed_of t a) (receipt_of v t a)) Err) ≡ o
    told None = refl
    told (Some f) = refl

-- something was wrong
pub refuses :
    (v : View) (t : Ticket) (a : Asking) (d : ℕ) (f : Fault) → Some f ≡ first_fault (judged v.side v.kept v.left t a d) →
    Decides v t a d (Err f) v
refuses v t a d f e =
    let u = refused v t a d f e in
    record { answer = sym u.answer; after = sym u.after; lowest = is-lowest v t a d (Err f) (sym u.answer) }

-- the device did not write, and what a memory then is
pub left_alone :
    (s : Side) (k : Clock) (es es' : List Entry) (j j' w r : Bool) (bs : List ℕ) (t : Ticket) (a : Asking) (d : ℕ) →
    k ≡ clock_of s → Clear s es bs t a d → r ≡ w → r ≡ false → es' ≡ cond r (recorded k.tick k.lag d es) es → j' ≡ (not r && j) →
    Decides (view s es j w bs) t a d (Err NotNow) (view s es' j' w bs)
left_alone s c es es' j j' w r bs t a d _ h e f k l =
    let u = unwritten (view s es j w bs) t a d h (sym e ∙ f) in
    let k' : es' ≡ es = k ∙ ap (λ (b : Bool). cond b (recorded c.tick c.lag d es) es) f in
    let l' : j' ≡ j = l ∙ ap (λ (b : Bool). not b && j) f in
    record {
      answer = sym u.answer;
      after = ap (λ (x : List Entry). view s x j' w bs) k' ∙ ap (λ (x : Bool). view s es x w bs) l' ∙ sym u.after;
      lowest = is-lowest (view s es j w bs) t a d (Err NotNow) (sym u.answer);
    }

-- the device wrote, and what a memory then is
pub written :
    (s : Side) (k : Clock) (es es' : List Entry) (j j' w r : Bool) (bs bs' salt : List ℕ) (t : Ticket) (a : Asking) (d : ℕ) →
    k ≡ clock_of s → Clear s es bs t a d → r ≡ w → r ≡ true → es' ≡ cond r (recorded k.tick k.lag d es) es → j' ≡ (not r && j) → salt ≡ take 16 bs → bs' ≡ drop 16 bs →
    Decides (view s es j w bs) t a d (done (deed_of t a) (record { key = t.key; salt = record { 0 = salt }; inside = record { number = a.number } })) (view s es' j' w bs')
written s c es es' j j' w r bs bs' salt t a d q h e f k l o m =
    let u = granted (view s es j w bs) t a d h (sym e ∙ f) in
    let k' : es' ≡ recorded s.now s.lag d es = k ∙ ap (λ (b : Bool). cond b (recorded c.tick c.lag d es) es) f ∙ ap (λ (x : Clock). recorded x.tick x.lag d es) q in
    let l' : j' ≡ false = l ∙ ap (λ (b : Bool). not b && j) f in
    let a' : told salt ≡ answered (view s es j w bs) t a d = ap (λ (x : List ℕ). told x) o ∙ sym u.answer in
    record {
      answer = a';
      after =
          ap (λ (x : List Entry). view s x j' w bs') k'
          ∙ ap (λ (x : Bool). view s (recorded s.now s.lag d es) x w bs') l'
          ∙ ap (λ (x : List ℕ). view s (recorded s.now s.lag d es) false w x) m
          ∙ sym u.after;
      lowest = is-lowest (view s es j w bs) t a d (told salt) a';
    }
  where
    told : List ℕ → Answer
    told x = done (deed_of t a) (record { key = t.key; salt = record { 0 = x }; inside = record { number = a.number } })
