-- What a box sends is made of what was there before the decision and of the lock that came of it. Assumes nothing.
use Rattle.std.proofs.Common.{◌≡◌, ℕ, ◌+◌, ◌<◌, ◌≤◌, Bool, true, false, cond, eqb, leb, List, [], ◌∷◌, map, length, get_or, take, Some, None, Ok, Err, Option, Result, IsErr, IsErrAnd, sym, refl, ap, ◌∙◌, subst, ⊎_elim, arith}
use Rattle.box_rules.specs.Chest.{Boxed, asking_of, ticket_of}
use Rattle.box_rules.specs.Letter.{TakesLetter, letter_conditions, pending_for, taken, taken_after, taken_by, taken_from}
use Rattle.box_rules.specs.Line as line
use Rattle.box_rules.specs.Line.{Wants, line_conditions, line_of, pass_by, pass_of, sent_after, unread, wanted_after}
use Rattle.box_rules.specs.declared.answer.Answer.{Answer}
use Rattle.box_rules.specs.declared.line.Held.{Held}
use Rattle.box_rules.specs.declared.line.Line.{Line}
use Rattle.box_rules.specs.declared.line.Pass.{Pass}
use Rattle.box_rules.specs.declared.line.Pending.{Pending}
use Rattle.box_rules.specs.declared.line.Under.{Under}
use Rattle.box_side.proofs.Tickets.{taken-by, taken_after-by, ticket_of-by, wanted_by, wanted_after-by}
use Rattle.box_side.specs.Box.{Read, asking_sent, brings, letter_read, sent_by, under_of, wrong}
use Rattle.box_side.specs.Opened.{NotOpened, read_by, read_first}
use Rattle.box_side.specs.Sent.{asks_with, front_of, sent_with, ticket_by}
use Rattle.box_side.specs.Step.{Deals, Stepped, Steps, Wanted, bytes_of, sent_in, shown_in, shown_of}
use Rattle.box_side.specs.Tickets.{boxed_by, held_by}
use Rattle.box_side.specs.declared.open.Unlocked.{Unlocked}
use Rattle.box_side.specs.declared.ticket.TicketBytes.{TicketBytes}
use Rattle.box_side.specs.declared.told.NotDone.{NotDone}
use Rattle.box_side.specs.declared.told.NotDone.TheVariants.{NoMemory, Wrong}
use Rattle.box_side.specs.declared.told.Told.{Told}
use Rattle.codec.proofs.Insides.{both}
use Rattle.codec.proofs.Numbers.{bytes-from}
use Rattle.codec.proofs.Words.{word-codec}
use Rattle.contents.specs.Inside.{read_letter}
use Rattle.locked.specs.Locked.{Bytes, Tried, ours}
use Rattle.parts.specs.Condition.{first_fault, unless}
use Rattle.parts.specs.declared.fault.Fault.{Fault}
use Rattle.parts.specs.declared.fault.Fault.TheVariants.{OutOfRange}
use Rattle.parts.specs.declared.word.Letter.{Letter}
use Rattle.parts.specs.declared.word.What.{What}
use Rattle.std.proofs.lemmas.Bool.{cases_Bool, cond-false, cond-true, eq-eqb, eqb-true, leb-true}
use Rattle.box_side.specs.Box.{Sent}
use Rattle.std.proofs.lemmas.Result.{err_from_is_err_and}
use Rattle.std.specs.Option.{option_map}
use Rattle.wire.specs.Word.{framed, lock_fits, ticket_and_letter}

-- what is known of a ticket is known of one that is held, under its id
record Kept {T : Type 0} (i : ℕ) (hs : List (Held T)) (p : Pass) : Type 0 where
  ticket : T
  is : ticket_of i hs ≡ Some ticket
  id : p.id ≡ i

kept : {T : Type 0} (i : ℕ) (hs : List (Held T)) (p : Pass) → pass_of i hs ≡ Some p → Kept i hs p
kept i [] p e = absurd (let y : ◌≡◌ {A = ℕ} 0 1 = cc in omega arith)
kept i (h ∷ hs) p e =
    ⊎_elim
    (λ t.
    let s : Some h.pass ≡ Some p = sym (cond-true (eqb h.pass.id i) _ _ t) ∙ e in
    let q : h.pass ≡ p = cc in
    record {
      ticket = h.ticket;
      is = cond-true (eqb h.pass.id i) _ _ t;
      id = ap (λ (x : Pass). x.id) (sym q) ∙ eqb-true h.pass.id i t;
    })
    (λ f.
    let k = kept i hs p (sym (cond-false (eqb h.pass.id i) _ _ f) ∙ e) in
    record { ticket = k.ticket; is = cond-false (eqb h.pass.id i) _ _ f ∙ k.is; id = k.id })
    (cases_Bool (eqb h.pass.id i))

lost : {T : Type 0} (i : ℕ) (hs : List (Held T)) → pass_of i hs ≡ None → ticket_of i hs ≡ None
lost i [] e = refl
lost i (h ∷ hs) e =
    ⊎_elim
    (λ t.
    let s : Some h.pass ≡ None = sym (cond-true (eqb h.pass.id i) _ _ t) ∙ e in
    absurd (let y : ◌≡◌ {A = ℕ} 0 1 = cc in omega arith))
    (λ f. cond-false (eqb h.pass.id i) _ _ f ∙ lost i hs (sym (cond-false (eqb h.pass.id i) _ _ f) ∙ e))
    (cases_Bool (eqb h.pass.id i))

-- the word that goes out, where the part before is that
abbrev told_with : ℕ → Bytes → line.Told → Option Sent
told_with n front (Ok a) = sent_with n front a
told_with n front (Err f) = None

-- a line by a ticket
sent-by : (b : Boxed Bytes) (i : ℕ) (l : Line) (o : Option Pass) → pass_of i b.tickets ≡ o →
    told_with b.number (front_of (ticket_of i b.tickets)) (line.sent_by b o l) ≡ sent_by ours (sent_after b o l) (line.sent_by b o l)
sent-by b i l None e =
    ap (λ (x : Option Bytes). told_with b.number (front_of x) (line.sent_by b None l)) (lost i b.tickets e)
sent-by b i l (Some p) e =
    let k = kept i b.tickets p e in
    let q = asking_of b p.key p.service l in
    ap (λ (x : Option Bytes). asks_with (front_of x) q) k.is
    ∙ sym
    (ap (λ (x : ℕ). asking_sent ours (ticket_of x b.tickets) q) k.id
    ∙ ap (λ (x : Option Bytes). asking_sent ours x q) k.is)

-- a line
line-sent : (b : Boxed Bytes) (by : Option ℕ) (l : Line) →
    told_with b.number (front_of (ticket_by by b.tickets)) (line.sent_by b (pass_by by b.tickets) l)
    ≡ sent_by ours (sent_after b (pass_by by b.tickets) l) (line.sent_by b (pass_by by b.tickets) l)
line-sent b None l = refl
line-sent b (Some i) l = sent-by b i l (pass_of i b.tickets) refl

want-sent : (b : Boxed Bytes) (v : ℕ) (by : Option ℕ) (w : What) →
    told_with b.number (front_of (ticket_by by b.tickets)) (line.wanted b v by w) ≡ sent_by ours (wanted_after b v by w) (line.wanted b v by w)
want-sent b v by w = go (unread b.lines v w) (first_fault (line_conditions b v by))
  where
    go : (c : Bool) (f : Option Fault) →
        told_with b.number (front_of (ticket_by by b.tickets)) (cond c (Err OutOfRange) (unless f (line.sent_by b (pass_by by b.tickets) (line_of b v w)) Err))
        ≡ sent_by ours (cond c b (unless f (sent_after b (pass_by by b.tickets) (line_of b v w)) (λ _. b))) (cond c (Err OutOfRange) (unless f (line.sent_by b (pass_by by b.tickets) (line_of b v w)) Err))
    go true f = refl
    go false (Some e) = refl
    go false None = line-sent b by (line_of b v w)

-- a letter
letter-sent : (b : Boxed Bytes) (u : Under) (l : Letter) (t : Bytes) →
    told_with b.number (front_of (Some t)) (taken b u l) ≡ sent_by ours (taken_after b u l t) (taken b u l)
letter-sent b u l t = go (first_fault (letter_conditions b u l)) (pending_for b u l)
  where
    go : (f : Option Fault) (o : Option Pending) →
        told_with b.number (front_of (Some t)) (unless f (taken_by b l o) Err)
        ≡ sent_by ours (unless f (taken_from b u l t o) (λ _. b)) (unless f (taken_by b l o) Err)
    go (Some e) o = refl
    go None None = refl
    go None (Some p) =
        ap
        (λ (c : Bool). asking_sent ours (cond c (Some t) (ticket_of (b.taken + 1) (take 15 b.tickets))) (asking_of b l.key l.service p.line))
        (sym (eq-eqb (b.taken + 1) (b.taken + 1) refl))

-- the answer, what is left, what is shown and what is sent, as a step
pub stepped : (a : line.Told) (r : Answer) (after b' : Boxed Bytes) (t : Told) → Ok r ≡ a → b' ≡ after → t.show ≡ shown_of r →
    sent_in t.sent ≡ sent_by ours after a → Stepped a after b' t
stepped a r after b' t e l s g = record {
  told = record { shown = ap Ok s ∙ ap shown_in e; sent = g ∙ ap (λ (x : Boxed Bytes). sent_by ours x a) (sym l) };
  left = l;
}

ticket_by-by : (by : Option ℕ) (hs : List (Held TicketBytes)) → ticket_by by (map (held_by bytes_of) hs) ≡ option_map bytes_of (ticket_by by hs)
ticket_by-by None hs = refl
ticket_by-by (Some i) hs = ticket_of-by bytes_of i hs

abbrev pub view : Boxed TicketBytes → Boxed Bytes
view b = boxed_by bytes_of b

-- a line, over bytes
pub wants : (b b' : Boxed TicketBytes) (v : ℕ) (by : Option ℕ) (w : What) (r : Answer) (t : Told) (front : Bytes) → Wants b v by w (Ok r) b' →
    front ≡ front_of (option_map bytes_of (ticket_by by b.tickets)) → t.show ≡ shown_of r → sent_in t.sent ≡ sent_with b.number front r →
    Wanted (view b) v by w (view b') (Ok t)
wants b b' v by w r t front k e s g =
    let a : Ok r ≡ line.wanted (view b) v by w = k.answer ∙ sym (wanted_by bytes_of b v by w) in
    let l : view b' ≡ wanted_after (view b) v by w = ap view k.after ∙ wanted_after-by bytes_of b v by w in
    let f : front ≡ front_of (ticket_by by (view b).tickets) = e ∙ ap (λ (x : Option Bytes). front_of x) (sym (ticket_by-by by b.tickets)) in
    stepped (line.wanted (view b) v by w) r (wanted_after (view b) v by w) (view b') t a l s
    (g
    ∙ ap (λ (x : Bytes). sent_with b.number x r) f
    ∙ ap (told_with b.number (front_of (ticket_by by (view b).tickets))) a
    ∙ want-sent (view b) v by w)

-- what is wrong with it
pub unwanted : (b b' : Boxed TicketBytes) (v : ℕ) (by : Option ℕ) (w : What) (f : Fault) → Wants b v by w (Err f) b' → Wanted (view b) v by w (view b') (Err (Wrong f))
unwanted b b' v by w f k =
    (ap shown_in (k.answer ∙ sym (wanted_by bytes_of b v by w)), ap view k.after ∙ wanted_after-by bytes_of b v by w)

-- what a letter leaves, over bytes
left_by : (b b' : Boxed TicketBytes) (u : Under) (l : Letter) (h : TicketBytes) (ticket : Bytes) (r : line.Told) → TakesLetter b u l h r b' →
    bytes_of h ≡ ticket → view b' ≡ taken_after (view b) u l ticket
left_by b b' u l h ticket r k i = ap view k.after ∙ taken_after-by bytes_of b u l h ∙ ap (taken_after (view b) u l) i

-- a letter, over bytes
pub takes : (b b' : Boxed TicketBytes) (u : Under) (l : Letter) (h : TicketBytes) (ticket front : Bytes) (r : Answer) (t : Told) → TakesLetter b u l h (Ok r) b' →
    bytes_of h ≡ ticket → front ≡ front_of (Some ticket) → t.show ≡ shown_of r → sent_in t.sent ≡ sent_with b.number front r →
    Steps (view b) (taken (view b) u l) (taken_after (view b) u l ticket) (view b') (Ok t)
takes b b' u l h ticket front r t k i e s g =
    let a : Ok r ≡ taken (view b) u l = k.answer ∙ sym (taken-by bytes_of b u l) in
    stepped (taken (view b) u l) r (taken_after (view b) u l ticket) (view b') t a (left_by b b' u l h ticket (Ok r) k i) s
    (g
    ∙ ap (λ (x : Bytes). sent_with b.number x r) e
    ∙ ap (told_with b.number (front_of (Some ticket))) a
    ∙ letter-sent (view b) u l ticket)

-- what a lock was read as
abbrev pub letter_of : Bytes → Result (Unlocked Letter) Fault → Read
letter_of ticket (Ok y) = brings ticket (under_of y.found.place y.found.key) y.inside
letter_of ticket (Err f) = wrong f

pub letter-read : (ticket : Bytes) (o : Option Tried) → letter_read ticket o ≡ letter_of ticket (read_first read_letter o)
letter-read ticket None = refl
letter-read ticket (Some t) = by (read_letter t.inside)
  where
    by : (r : Result Letter Fault) → elim r [ Ok x ↦ brings ticket (under_of t.place t.key) x | Err f ↦ wrong f ] ≡ letter_of ticket (read_by t r)
    by (Ok x) = refl
    by (Err f) = refl

-- a ticket that was framed has as many bytes as a word can say
pub ticket-fits : (w ticket letter : Bytes) → ((i : ℕ) → get_or w i 0 < 256) → framed w ≡ Ok (ticket_and_letter ticket letter) →
    (32 ≤ length ticket) × (length ticket ≤ 65535)
ticket-fits w ticket letter h e =
    let f = (word-codec.within w (ticket_and_letter ticket letter) (bytes-from w h) e).0 in
    let a = (both (lock_fits ticket) (lock_fits letter) f).0 in
    let k = both (leb 32 (length ticket)) (leb (length ticket) 65535) a in
    (leb-true _ _ k.0, leb-true _ _ k.1)

-- a word dealt with, by what it was read as
module _ (b : Boxed Bytes) (x : Read) where
  pub deals-wrong : (f : Fault) → x ≡ wrong f → Deals b x b (Err (Wrong f))
  deals-wrong f e = subst (λ (y : Read). Deals b y b (Err (Wrong f))) (sym e) (refl, refl)

  -- a lock that was not opened
  pub deals-shut : {X : Type 0} (why : NotDone) (r : Result X Fault) (h : Result X Fault → Read) → ((f : Fault) → h (Err f) ≡ wrong f) →
      x ≡ h r → NotOpened r why → Deals b x b (Err why)
  deals-shut (Wrong f) r h w e n = deals-wrong f (e ∙ ap h n ∙ w f)
  deals-shut NoMemory r h w e n = refl

  pub deals-brings : (b' : Boxed Bytes) (ticket : Bytes) (u : Under) (l : Letter) (r : Result Told NotDone) → x ≡ brings ticket u l →
      Steps b (taken b u l) (taken_after b u l ticket) b' r → Deals b x b' r
  deals-brings b' ticket u l r e s = subst (λ (y : Read). Deals b y b' r) (sym e) s

-- the exit of a `?`
pub at_exit : (P : Result Told NotDone → Type 0) (r : Result Told NotDone) (why : NotDone) → IsErr r × IsErrAnd r (λ y. y ≡ why) → P (Err why) → P r
at_exit P r why e p =
    let y = err_from_is_err_and r e.1 in
    subst P (ap (λ (z : NotDone). let k : Result Told NotDone = Err z in k) (sym y.2) ∙ sym y.1) p
