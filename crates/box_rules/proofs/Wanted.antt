-- What is answered to a line and left, by what was found wrong. Assumes nothing.
use Rattle.std.proofs.Common.{◌≡◌, ℕ, ◌≤◌, Bool, true, false, cond, List, length, Some, None, Ok, Err, Option, sym, refl, ap, ◌∙◌}
use Rattle.box_rules.specs.Chest.{Boxed, asked, asking_of}
use Rattle.box_rules.specs.Line.{Told, Wants, counted, line_conditions, line_judged, line_of, logged_in, login_of, pass_by, sent_after, sent_by, unread, wrong}
use Rattle.box_rules.specs.declared.answer.Answer.TheVariants.{Asks, LogsIn}
use Rattle.box_rules.specs.declared.line.Line.{Line}
use Rattle.box_rules.specs.declared.line.Pass.{Pass}
use Rattle.parts.proofs.Conditions.{lowest-first, passed}
use Rattle.parts.specs.Condition.{first_fault, unless}
use Rattle.parts.specs.declared.fault.Fault.{Fault}
use Rattle.parts.specs.declared.fault.Fault.TheVariants.{OutOfRange}
use Rattle.parts.specs.declared.lock.Lock.{Lock}
use Rattle.parts.specs.declared.word.Asking.{Asking}
use Rattle.parts.specs.declared.word.Login.{Login}
use Rattle.parts.specs.declared.word.What.{What}
use Rattle.std.proofs.lemmas.Bool.{both_ways, ltb-false}

pub line-drawn : (now : ℕ) (bs : List ℕ) (v : ℕ) (by : Option ℕ) (o : Option Pass) → None ≡ first_fault (line_judged now bs v by o) → 32 ≤ length bs
line-drawn now bs v by o h =
    let p2 = passed _ _ (sym h) in
    let p7 = passed _ _ p2.1 in
    let p10 = passed _ _ p7.1 in
    let p12 = passed _ _ p10.1 in
    ltb-false _ _ p12.0

-- what is sent is no fault
sent : {T : Type 0} (b : Boxed T) (o : Option Pass) (l : Line) → wrong (sent_by b o l) ≡ None
sent b None l = refl
sent b (Some p) l = refl

told : {T : Type 0} (b : Boxed T) (o : Option Pass) (l : Line) (f : Option Fault) → wrong (unless f (sent_by b o l) Err) ≡ f
told b o l None = sent b o l
told b o l (Some e) = refl

pub out_of_range : {T : Type 0} (b : Boxed T) (v : ℕ) (by : Option ℕ) (w : What) → true ≡ unread b.lines v w → Wants b v by w (Err OutOfRange) b
out_of_range b v by w e = record {
  answer = ap (λ (c : Bool). cond c (Err OutOfRange) (unless (first_fault (line_conditions b v by)) (sent_by b (pass_by by b.tickets) (line_of b v w)) Err)) e;
  after = ap (λ (c : Bool). cond c b (unless (first_fault (line_conditions b v by)) (sent_after b (pass_by by b.tickets) (line_of b v w)) (λ _. b))) e;
  lowest = λ n. absurd (both_ways (unread b.lines v w) n (sym e));
}

-- a line in range is answered by its table
pub by-table : {T : Type 0} (b : Boxed T) (v : ℕ) (by : Option ℕ) (w : What) (o : Option Pass) (f : Option Fault) (r : Told) (b' : Boxed T) →
    false ≡ unread b.lines v w → o ≡ pass_by by b.tickets → f ≡ first_fault (line_judged b.now b.left v by o) →
    r ≡ unless f (sent_by b o (line_of b v w)) Err → b' ≡ unless f (sent_after b o (line_of b v w)) (λ _. b) → Wants b v by w r b'
by-table {T} b v by w o f r b' n k e p q =
    let e' : f ≡ first_fault (line_conditions b v by) = e ∙ ap (λ (x : Option Pass). first_fault (line_judged b.now b.left v by x)) k in
    let a : r ≡ unless (first_fault (line_conditions b v by)) (sent_by b (pass_by by b.tickets) (line_of b v w)) Err =
    p ∙ ap (λ (x : Option Pass). unless f (sent_by b x (line_of b v w)) Err) k ∙ ap (λ (x : Option Fault). unless x (sent_by b (pass_by by b.tickets) (line_of b v w)) Err) e' in
    let d : b' ≡ unless (first_fault (line_conditions b v by)) (sent_after b (pass_by by b.tickets) (line_of b v w)) (λ _. b) =
    q ∙ ap (λ (x : Option Pass). unless f (sent_after b x (line_of b v w)) (λ _. b)) k ∙ ap (λ (x : Option Fault). unless x (sent_after b (pass_by by b.tickets) (line_of b v w)) (λ _. b)) e' in
    record {
      answer = a ∙ ap (λ (c : Bool). cond c (Err OutOfRange) (unless (first_fault (line_conditions b v by)) (sent_by b (pass_by by b.tickets) (line_of b v w)) Err)) n;
      after = d ∙ ap (λ (c : Bool). cond c b (unless (first_fault (line_conditions b v by)) (sent_after b (pass_by by b.tickets) (line_of b v w)) (λ _. b))) n;
      lowest = λ _. lowest-first (line_conditions b v by) (wrong r) (ap (λ (z : Told). wrong z) a ∙ told b (pass_by by b.tickets) (line_of b v w) (first_fault (line_conditions b v by))) refl;
    }

abbrev logs : Lock Login → Told
logs s = Ok (LogsIn s)

abbrev asks : ℕ → Lock Asking → Told
asks i s = Ok (Asks i s)

pub sends-login : {T : Type 0} (b : Boxed T) (v : ℕ) (by : Option ℕ) (w : What) (o : Option Pass) (s : Lock Login) (b' : Boxed T) →
    false ≡ unread b.lines v w → o ≡ pass_by by b.tickets → None ≡ first_fault (line_judged b.now b.left v by o) → o ≡ None →
    s ≡ login_of b → b' ≡ logged_in (counted b) (line_of b v w) → Wants b v by w (logs s) b'
sends-login b v by w o s b' n k e z p q =
    by-table b v by w o None (logs s) b' n k e
    (ap logs p ∙ ap (λ (x : Option Pass). sent_by b x (line_of b v w)) (sym z))
    (q ∙ ap (λ (x : Option Pass). sent_after b x (line_of b v w)) (sym z))

pub sends-asking : {T : Type 0} (b : Boxed T) (v : ℕ) (by : Option ℕ) (w : What) (o : Option Pass) (x : Pass) (s : Lock Asking) (b' : Boxed T) →
    false ≡ unread b.lines v w → o ≡ pass_by by b.tickets → None ≡ first_fault (line_judged b.now b.left v by o) → o ≡ Some x →
    s ≡ asking_of b x.key x.service (line_of b v w) → b' ≡ asked (counted b) x.key x.service (line_of b v w) → Wants b v by w (asks x.id s) b'
sends-asking b v by w o x s b' n k e z p q =
    by-table b v by w o None (asks x.id s) b' n k e
    (ap (asks x.id) p ∙ ap (λ (y : Option Pass). sent_by b y (line_of b v w)) (sym z))
    (q ∙ ap (λ (y : Option Pass). sent_after b y (line_of b v w)) (sym z))
