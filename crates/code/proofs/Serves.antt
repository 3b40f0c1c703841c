-- The decisions of a service are what a service must be. Assumes nothing.
use Rattle.std.proofs.Common.{◌≡◌, ℕ, ◌+◌, Bool, true, false, cond, not, ◌&&◌, ◌||◌, eqb, ltb, List, ◌∷◌, drop, Some, None, Ok, Err, Option, Result, sym, refl, ap, ◌∙◌, arith}
use Rattle.code.specs.Code.{MayDo}
use Rattle.code.specs.Sides.{Kept, ServiceStands, fallen, kept_of, kept_view, refit}
use Rattle.parts.proofs.Conditions.{first_fault-cons, first_fault-nil, lowest-first, passed}
use Rattle.parts.specs.Condition.{first_fault, row, unless}
use Rattle.parts.specs.declared.condition.Condition.{Condition}
use Rattle.parts.specs.declared.fault.Fault.{Fault}
use Rattle.parts.specs.declared.fault.Fault.TheVariants.{DoneBefore, NoDrawnBytes, NoRoom, NotLately, NotNow, OutOfRange, TicketOver, Unknown, WrongService}
use Rattle.parts.specs.declared.word.Asking.{Asking}
use Rattle.parts.specs.declared.word.Ticket.{Ticket}
use Rattle.service_rules.specs.Memory.{recorded}
use Rattle.service_rules.specs.Service.{View, after, answered, conditions, deed_of, done, done_by, nobody, receipt_of, refusal}
use Rattle.service_rules.specs.Side.{begun, unfit}
use Rattle.service_rules.specs.declared.side.Side.{Side}
use Rattle.std.proofs.lemmas.Bool.{and_from, and_parts, eq-eqb, eqb-true, le-ltb, leb-false, lt-leb, ltb-false, not-false}

-- a row that is met changes nothing
pub clear : (f : Fault) (b : Bool) (cs : List Condition) → b ≡ false → first_fault cs ≡ None → first_fault (row f b ∷ cs) ≡ None
clear f b cs e h = first_fault-cons (row f b) cs ∙ ap (λ (c : Bool). cond c (Some f) (first_fault cs)) e ∙ h

pub not' : (b c : Bool) → b ≡ c → not b ≡ not c
not' b c e = ap (λ (x : Bool). not x) e

-- where all holds nothing is wrong
none-wrong : (v : View) (t : Ticket) (a : Asking) (d : ℕ) →
    MayDo v.side.lag v.side.number v.side.now (ltb v.side.now v.side.wake) v.writes v.kept v.left t a d →
    first_fault (conditions v t a d) ≡ None
none-wrong v t a d m =
    clear Unknown _ _ m.reader
    (clear NotLately _ _ (not' _ _ m.recent)
    (clear TicketOver _ _ m.good
    (clear DoneBefore _ _ m.free.new
    (clear NoRoom _ _ (lt-leb _ _ m.free.room)
    (clear WrongService _ _ (not' _ _ (and_from _ _ (eq-eqb _ _ m.ticket) (eq-eqb _ _ m.asking)))
    (clear NoDrawnBytes _ _ (le-ltb _ _ m.drawn)
    (clear NotNow _ _ m.free.awake
    (clear NotNow _ _ (not' _ _ m.free.writing) first_fault-nil))))))))

-- and where nothing is wrong all holds
all-holds : (v : View) (t : Ticket) (a : Asking) (d : ℕ) → first_fault (conditions v t a d) ≡ None →
    MayDo v.side.lag v.side.number v.side.now (ltb v.side.now v.side.wake) v.writes v.kept v.left t a d
all-holds v t a d h =
    let p2 = passed _ _ h in
    let p6 = passed _ _ p2.1 in
    let p7 = passed _ _ p6.1 in
    let p8 = passed _ _ p7.1 in
    let p9 = passed _ _ p8.1 in
    let p10 = passed _ _ p9.1 in
    let p12 = passed _ _ p10.1 in
    let p14 = passed _ _ p12.1 in
    let p15 = passed _ _ p14.1 in
    let both = and_parts (eqb t.service v.side.number) (eqb a.service v.side.number) (not-false _ p10.0) in
    record {
      reader = p2.0;
      recent = not-false _ p6.0;
      good = p7.0;
      ticket = eqb-true _ _ both.0;
      asking = eqb-true _ _ both.1;
      drawn = ltb-false _ _ p12.0;
      free = record { new = p8.0; room = leb-false _ _ p9.0; awake = p14.0; writing = not-false _ p15.0 };
    }

told : (v : View) (t : Ticket) (a : Asking) (o : Option Fault) → refusal (unless o (done (deed_of t a) (receipt_of v t a)) Err) ≡ o
told v t a None = refl
told v t a (Some f) = refl

answers : (v : View) (t : Ticket) (a : Asking) (d : ℕ) → refusal (answered v t a d) ≡ first_fault (conditions v t a d)
answers v t a d = told v t a (first_fault (conditions v t a d))

-- what a fall leaves, and when it waits
falls : (lag n : ℕ) (junk : Bool) (at : ℕ) (s : Kept) → nobody n ≡ false → unfit lag at s.kept ≡ false →
    fallen lag n junk at s ≡ record { now = at; wake = cond (junk || s.junk) (at + lag + 1) 0; kept = s.kept; junk = junk || s.junk; left = s.left }
falls lag n junk at s e u =
    ap (λ (x : Result Side Fault). refit s (junk || s.junk) x)
    (ap (λ (b : Bool). cond b (Err OutOfRange) (begun n lag at s.kept (junk || s.junk))) e ∙ ap (λ (b : Bool). cond b (Err OutOfRange) (Ok (record { number = n; lag = lag; now = at; wake = cond (junk || s.junk) (at + lag + 1) 0 }))) u)

waits-until : (j : Bool) (until later : ℕ) → ltb later (cond j until 0) ≡ (j && ltb later until)
waits-until true until later = refl
waits-until false until later = le-ltb later 0 (omega arith)

pub service-so : ServiceStands
service-so lag n = record {
  does_so = λ w t a d s m. ap (λ (o : Option Fault). unless o (done (deed_of t a) (receipt_of (v w s) t a)) Err) (none-wrong (v w s) t a d m);
  only_so = λ w t a d s e. all-holds (v w s) t a d (sym (answers (v w s) t a d) ∙ e);
  lowest_so = λ w t a d s. lowest-first (conditions (v w s) t a d) _ (answers (v w s) t a d) refl;
  after_so = λ w t a d s e. leaves w t a d s (sym (answers (v w s) t a d) ∙ e);
  refused_so = λ w t a d f s e. ap (λ (o : Option Fault). kept_of (unless o (done_by (v w s) d) (λ _. v w s))) (sym (answers (v w s) t a d) ∙ e);
  falls_so = λ junk at s e u. let k = falls lag n junk at s e u in
      (ap (λ (x : Kept). x.kept) k, ap (λ (x : Kept). x.now) k, λ later. ap (λ (x : Kept). ltb later x.wake) k ∙ waits-until (junk || s.junk) (at + lag + 1) later);
}
  where
    v : Bool → Kept → View
    v w s = kept_view lag n w s

    leaves : (w : Bool) (t : Ticket) (a : Asking) (d : ℕ) (s : Kept) → first_fault (conditions (v w s) t a d) ≡ None →
        ((kept_of (after (v w s) t a d)).kept ≡ recorded s.now lag d s.kept) × ((kept_of (after (v w s) t a d)).left ≡ drop 16 s.left)
        × ((kept_of (after (v w s) t a d)).now ≡ s.now) × ((at : ℕ) → ltb at (kept_of (after (v w s) t a d)).wake ≡ ltb at s.wake)
    leaves w t a d s e =
        let k : after (v w s) t a d ≡ done_by (v w s) d = ap (λ (o : Option Fault). unless o (done_by (v w s) d) (λ _. v w s)) e in
        (ap (λ (x : View). (kept_of x).kept) k, ap (λ (x : View). (kept_of x).left) k, ap (λ (x : View). (kept_of x).now) k, λ at. ap (λ (x : View). ltb at (kept_of x).wake) k)
