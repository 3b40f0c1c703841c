-- Each call over bytes is an act on what was opened. Assumes nothing.
use Rattle.std.proofs.Common.{◌≡◌, ℕ, suc, Bool, true, false, cond, eqb, ◌⊎◌, List, [], ◌∷◌, ◌++◌, length, Some, None, Ok, Option, Result, sym, refl, ap, ◌∙◌, subst, inl, inr, eqb-true, Err}
use Rattle.box_rules.specs.Chest.{Boxed}
use Rattle.box_rules.specs.Keys.{letter_keys}
use Rattle.box_rules.specs.Letter.{confirmed, letter_conditions, pending_for, shown_for, taken, taken_after, taken_from}
use Rattle.box_rules.specs.Line.{line_conditions, line_of, pass_by, sent_after, unread, wanted, wanted_after}
use Rattle.box_rules.specs.Table.{oldest}
use Rattle.box_rules.specs.Line.{Told}
use Rattle.box_rules.specs.declared.answer.Answer.TheVariants as told
use Rattle.box_rules.specs.declared.line.Held.{Held}
use Rattle.box_rules.specs.declared.line.Pass.{Pass}
use Rattle.box_rules.specs.declared.line.Pending.{Pending}
use Rattle.box_rules.specs.declared.line.Sought.TheVariants.{AtService}
use Rattle.box_rules.specs.declared.line.Under.{Under}
use Rattle.box_rules.specs.declared.line.Under.TheVariants.{Own as OwnKey, Session}
use Rattle.box_side.proofs.Tickets.{taken-by, taken_after-by, wanted_by, wanted_after-by}
use Rattle.box_side.specs.Box as box
use Rattle.box_side.specs.Box.{under_of}
use Rattle.byte_rows.proofs.Air.{Fronted, gets-all, gets-later, map-mem, opened-gets}
use Rattle.byte_rows.proofs.Reading.{ReadAsking, asking-read-house, asking-read-service, letter-read, login-read, opened-as, opened-by, opened-first}
use Rattle.byte_rows.proofs.Simulates.{C, FitsAnswer, FitsCall, FitsReply, FitsTold, Goes, Known, N, answers, at-blind, at_same, blind, box-changed, more-words, quiet, replies, says, seen, stays, take-mem, theft, with-boxes}
use Rattle.byte_rows.specs.Premise.{Alone, Heard, HeardByBox, HeardByHouse, HeardByService, Meets, Try, asking_tries, box_tries, house_tries, nonces, service_tries, ticket_tries, tries_in}
use Rattle.byte_rows.specs.Row.{act_at_box, act_at_house, act_at_service, act_of}
use Rattle.byte_rows.specs.System.{Basis, Bytewise, Call, Made, answered, answer_made, box_says, box_left, brings, closes, crashes, device, hands, opens, read_by_box, read_by_house, read_by_service, replied, reply_made, sent_word, steals, step, tells, told_by, told_made, wants}
use Rattle.byte_rows.specs.System as bytes
use Rattle.byte_rows.specs.Term.{Content, Whole, air_of, content_term, framed_term, inside_term, lock_term, name_in, read_or, word_term}
use Rattle.byte_rows.specs.Term as term
use Rattle.contents.specs.Inside.{read_ticket}
use Rattle.house_rules.specs.Account.{own_key}
use Rattle.house_rules.specs.House.{Home}
use Rattle.house_rules.specs.Give.{Reply}
use Rattle.house_side.specs.House as house
use Rattle.locked.specs.Locked.{Bytes, Locks}
use Rattle.parts.specs.Condition.{first_fault, unless}
use Rattle.parts.specs.declared.fault.Fault.{Fault}
use Rattle.parts.specs.declared.word.Asking.{Asking}
use Rattle.parts.specs.declared.word.Key.{Key}
use Rattle.parts.specs.declared.word.Letter.{Letter}
use Rattle.parts.specs.declared.word.Login.{Login}
use Rattle.parts.specs.declared.word.Ticket.{Ticket}
use Rattle.parts.specs.declared.word.What.{What}
use Rattle.rows.proofs.Names.{draws-named}
use Rattle.rows.specs.Name.{Apart, name_of, own_of}
use Rattle.rows.specs.System.{Act, Box, Can, House, New, Reader, Service, System, at, under_key}
use Rattle.rows.specs.System as acts
use Rattle.rows.specs.Word.{answer_sent, asking_term, letter_term, reply_drawn, reply_sent, ticket_term, told_drawn, told_sent}
use Rattle.service_rules.specs.Service.{View}
use Rattle.service_rules.specs.Service.{Answer}
use Rattle.service_side.specs.Service as service
use Rattle.tickets.specs.Term.{Gets, Lock, Term, even}
use Rattle.tickets.specs.Term
use Rattle.wire.specs.Word.{Frame, framed}
use Rattle.wire.specs.Word as frame
use mathlib.Core.List.Memᴰ
use mathlib.Core.List.{Memᴰ}

module _ (l : Locks) (c : Basis) (g : Whole) (apart : Apart c.own g.draws) (locks : Apart [] (nonces g.made)) (fronted : Fronted l c g g.made) (b : Bytewise) (air : List Term) (known : Known l c g b air) (sub : (m : Made) → Memᴰ m b.made → Memᴰ m g.made) where
  -- these draws come next in the whole run
  abbrev pub Next : List Bytes → Type 0
  Next ds = (later : List Bytes) × (g.draws ≡ later ++ (ds ++ b.used))

  one-new : (d : Bytes) → Next (d ∷ []) → name_of c.own g.draws d ≡ even (suc (length b.used))
  one-new d n =
      subst (λ (ds : List Bytes). name_of c.own ds d ≡ even (suc (length b.used))) (sym n.1)
      (draws-named c.own n.0 b.used d (subst (λ (ds : List Bytes). Apart c.own ds) n.1 apart))

  told-new : (r : Told) → Next (told_drawn r) → New (C l c g) (N l c g) (seen b air) (told_drawn r)
  told-new (Ok (told.LogsIn x)) n = one-new _ n
  told-new (Ok (told.Asks i x)) n = one-new _ n
  told-new (Ok (told.Takes d x)) n = one-new _ n
  told-new (Ok (told.Receipt i)) n = tt
  told-new (Ok (told.Shown k)) n = tt
  told-new (Err f) n = tt

  reply-new : (r : Reply) → Next (reply_drawn r) → New (C l c g) (N l c g) (seen b air) (reply_drawn r)
  reply-new (Ok y) n = one-new _ n
  reply-new (Err f) n = tt

  alone-there : (a : ℕ) → Alone c a → acts.Alone (C l c g) (N l c g) a
  alone-there a h = record { there = h.there; alone = h.alone }

  -- a word that was brought and framed, by its pieces
  pieces : (w : Bytes) (tries : List Try) → Heard l c g b w tries → (f : Frame) → framed w ≡ Ok f → Gets air (term.frame_term l c g f)
  pieces w tries h f e = subst (λ (r : Result Frame Fault). Gets air (framed_term l c g w r)) e (gets-all known.gets h.worked)

  -- a lock of it that opened
  opened : (w : Bytes) (tries : List Try) → Heard l c g b w tries → (x : Try) → Memᴰ x tries → Gets air (lock_term l c g x.lock) → (inside : Bytes)
      → l.opens x.kind x.key x.lock ≡ Some inside → Gets air (Lock x.kind (name_in l c g x.key) (inside_term l c g x.kind inside))
  opened w tries h x m got inside o = opened-gets l c g locks fronted b sub known.gets x inside got (h.sound x m inside o)

  -- a ticket and an asking
  asking_heard : (k : Key) (w : Bytes) (tries : Frame → List Try) → ((t q : Bytes) → tries (frame.asking t q) ≡ ticket_tries l k t q)
      → Heard l c g b w (tries_in tries (framed w)) → (t : Ticket) (q : Asking) → ReadAsking l k w t q
      → (Gets air (ticket_term (name_in l c g) k t)) × (Gets air (asking_term (name_in l c g) t.key q))
  asking_heard k w tries tried h t q r =
      let fine = pieces w (tries_in tries (framed w)) h (frame.asking r.ticket r.asking) r.frames in
      let in-tries : (x : Try) → Memᴰ x (ticket_tries l k r.ticket r.asking) → Memᴰ x (tries_in tries (framed w)) =
      λ x m. subst (λ (z : Result Frame Fault). Memᴰ x (tries_in tries z)) (sym r.frames) (subst (λ (xs : List Try). Memᴰ x xs) (sym (tried r.ticket r.asking)) m)
      in
      let o = opened-as read_ticket (l.opens 1 k.0 r.ticket) t r.is_ticket in
      let one = opened w (tries_in tries (framed w)) h (record { kind = 1; key = k.0; lock = r.ticket }) (in-tries _ (Memᴰ.head refl)) (Term.left fine) o.inside o.opens in
      let two =
      opened w (tries_in tries (framed w)) h (record { kind = 3; key = t.key.0; lock = r.asking })
      (in-tries _ (Memᴰ.tail (subst (λ (z : Result Ticket Fault). Memᴰ (record { kind = 3; key = t.key.0; lock = r.asking }) (asking_tries l r.asking z)) (sym r.is_ticket) (Memᴰ.head refl))))
      (Term.right fine) r.opened.inside r.opened.opens
      in (
        subst (λ (z : Result Ticket Fault). Gets air (Lock 1 (name_in l c g k.0) (content_term (name_in l c g) (read_or Content.ticket o.inside z)))) o.reads one,
        subst (λ (z : Result Asking Fault). Gets air (Lock 3 (name_in l c g t.key.0) (content_term (name_in l c g) (read_or Content.asking r.opened.inside z)))) r.opened.reads two,
      )

  -- a word at the house
  at-house : (w : Bytes) → HeardByHouse l c g b w → FitsReply l c g (replied l c b w) → Next (reply_drawn (replied l c b w))
      → Goes l c g b air (act_at_house l c (read_by_house l c b w)) (step l c (brings House w) b)
  at-house w h fits n = go (read_by_house l c b w) refl fits n
    where
      gone : (r : Reply) (h' : Home) → FitsReply l c g r → Known l c g (bytes.with_sent (sent_word (house.sent_by l r)) (reply_drawn r) (reply_made r) (bytes.with_home h' b)) (reply_sent (name_in l c g) r ++ air)
      gone r h' f = record { gets = more-words l c g b (reply_sent (name_in l c g) r) (sent_word (house.sent_by l r)) known.gets (replies l c g b air known r f); held = λ a x k. gets-later (reply_sent (name_in l c g) r) (known.held a x k) }

      go : (r : house.Read) → read_by_house l c b w ≡ r → FitsReply l c g (house.answer_to l b.home r) → Next (reply_drawn (house.answer_to l b.home r))
          → Goes l c g b air (act_at_house l c r)
          (bytes.with_sent (sent_word (house.sent_by l (house.answer_to l b.home r))) (reply_drawn (house.answer_to l b.home r)) (reply_made (house.answer_to l b.home r)) (bytes.with_home (house.after_word l b.home r) b))
      go (house.logs a x) e f n =
          let r = login-read l b.home w a x e in
          let fine = pieces w (tries_in (house_tries l b.home) (framed w)) h.heard (frame.login a r.lock) r.frames in
          let one =
          opened w (tries_in (house_tries l b.home) (framed w)) h.heard (record { kind = 4; key = (own_key b.home.accounts a).0; lock = r.lock })
          (subst (λ (z : Result Frame Fault). Memᴰ (record { kind = 4; key = (own_key b.home.accounts a).0; lock = r.lock }) (tries_in (house_tries l b.home) z)) (sym r.frames) (Memᴰ.head refl))
          (Term.right fine) r.opened.inside r.opened.opens
          in
          record {
            can =
                record {
                  reader = alone-there a (h.reader a x e);
                  login = subst (λ (z : Result Login Fault). Gets air (Lock 4 (name_in l c g (own_key b.home.accounts a).0) (content_term (name_in l c g) (read_or Content.login r.opened.inside z)))) r.opened.reads one;
                  new = reply-new _ n;
                };
            air' = reply_sent (name_in l c g) (house.answer_to l b.home (house.logs a x)) ++ air;
            same = refl;
            known = gone _ _ f;
          }
      go (house.asks t q) e f n =
          let heard = asking_heard b.home.key w (house_tries l b.home) (λ x y. refl) h.heard t q (asking-read-house l b.home w t q e) in
          record {
            can = record { ticket = heard.0; asking = heard.1; new = reply-new _ n };
            air' = reply_sent (name_in l c g) (house.answer_to l b.home (house.asks t q)) ++ air;
            same = refl;
            known = gone _ _ f;
          }
      go (house.wrong k) e f n = record { can = tt; air' = air; same = refl; known = gone (Err k) b.home tt }

  -- a word at a service
  at-service : (v : ℕ) (w : Bytes) → HeardByService l c g b v w → FitsAnswer l c g (answered l c b v w)
      → Goes l c g b air (act_at_service l c v (read_by_service l c b v w)) (step l c (brings (Service v) w) b)
  at-service v w h fits = go (read_by_service l c b v w) refl fits
    where
      gone : (r : Answer) (v' : View) → FitsAnswer l c g r → Known l c g (bytes.with_sent (sent_word (service.sent_by l r)) [] (answer_made r) (bytes.with-side v v' b)) (answer_sent (name_in l c g) r ++ air)
      gone r v' f = record { gets = more-words l c g b (answer_sent (name_in l c g) r) (sent_word (service.sent_by l r)) known.gets (answers l c g b air known r f); held = λ a x k. gets-later (answer_sent (name_in l c g) r) (known.held a x k) }

      go : (r : service.Read) → read_by_service l c b v w ≡ r → FitsAnswer l c g (service.answer_to l (b.side v) r)
          → Goes l c g b air (act_at_service l c v r)
          (bytes.with_sent (sent_word (service.sent_by l (service.answer_to l (b.side v) r))) [] (answer_made (service.answer_to l (b.side v) r)) (bytes.with-side v (service.after_word l (b.side v) r) b))
      go (service.asks t q) e f =
          let heard = asking_heard (own_of c.own v) w (service_tries l (own_of c.own v)) (λ x y. refl) h.heard t q (asking-read-service l (own_of c.own v) w t q e) in
          record {
            can = record { a_service = h.a_service; there = h.there; ticket = heard.0; asking = heard.1 };
            air' = answer_sent (name_in l c g) (service.answer_to l (b.side v) (service.asks t q)) ++ air;
            same = refl;
            known = gone _ _ f;
          }
      go (service.wrong k) e f =
          record {
            can = tt;
            air' = air;
            same = ap (λ (x : ℕ → View). record { home = b.home; side = x; box = λ a. blind (b.box a); air = air; used = b.used; stolen = b.stolen }) (sym (at_same v b.side));
            known = gone (Err k) (b.side v) tt;
          }

  -- what a box says, here and there
  says_same : (a : ℕ) (r' r : Told) (y : Box) (x : Boxed Bytes) → r' ≡ r → y ≡ blind x
      → acts.with_sent (told_sent (name_in l c g) r') (told_drawn r') (acts.with_box a y (seen b air)) ≡ seen (box_says l c a x r b) (told_sent (name_in l c g) r ++ air)
  says_same a r' r y x e f =
      ap (λ (z : Told). acts.with_sent (told_sent (name_in l c g) z) (told_drawn z) (acts.with_box a y (seen b air))) e
      ∙ with-boxes (acts.with_sent (told_sent (name_in l c g) r) (told_drawn r) (seen b air)) (at-blind a x y b.box f)

  -- a line of a reader
  at-line : (a v : ℕ) (by : Option ℕ) (w : What) → Alone c a → FitsTold l c g (wanted_after (b.box a) v by w) (wanted (b.box a) v by w) → Next (told_drawn (wanted (b.box a) v by w))
      → Goes l c g b air (acts.wants a v by w) (step l c (wants a v by w) b)
  at-line a v by w h f n =
      record {
        can =
            record {
              reader = alone-there a h;
              new = subst (λ (r : Told). New (C l c g) (N l c g) (seen b air) (told_drawn r)) (sym (wanted_by (λ _. tt {0}) (b.box a) v by w)) (told-new _ n);
            };
        air' = told_sent (name_in l c g) (wanted (b.box a) v by w) ++ air;
        same = says_same a _ _ _ (wanted_after (b.box a) v by w) (wanted_by (λ _. tt {0}) (b.box a) v by w) (sym (wanted_after-by (λ _. tt {0}) (b.box a) v by w));
        known = says l c g b air known a (wanted_after (b.box a) v by w) (wanted (b.box a) v by w) f held;
      }
    where
      held : (x : Held Bytes) → Memᴰ x (wanted_after (b.box a) v by w).tickets → Gets air (lock_term l c g x.ticket)
      held x m = go (unread (b.box a).lines v w) (first_fault (line_conditions (b.box a) v by)) (pass_by by (b.box a).tickets) m
        where
          go : (u : Bool) (o : Option Fault) (p : Option Pass) → Memᴰ x (cond u (b.box a) (unless o (sent_after (b.box a) p (line_of (b.box a) v w)) (λ _. b.box a))).tickets → Gets air (lock_term l c g x.ticket)
          go true o p k = known.held a x k
          go false (Some f) p k = known.held a x k
          go false None None k = known.held a x k
          go false None (Some y) k = known.held a x k

  -- a box that hears and says nothing
  silent : (a : ℕ) (r : Told) → box_says l c a (b.box a) r b ≡ bytes.with_box a (b.box a) b → Goes l c g b air (acts.hears (Reader a)) (box_says l c a (b.box a) r b)
  silent a r e =
      subst (λ (z : Bytewise). Goes l c g b air (acts.hears (Reader a)) z) (sym e)
      (record {
        can = tt;
        air' = air;
        same = with-boxes (seen b air) (ap (λ (f : ℕ → Boxed Bytes). λ (k : ℕ). blind (f k)) (sym (at_same a b.box)));
        known = stays l c g b air known (bytes.with_box a (b.box a) b) refl refl (at_same a b.box);
      })

  -- a word at a box
  at-box : (a : ℕ) (w : Bytes) → HeardByBox l c g b a w → FitsTold l c g (box.after_word (b.box a) (read_by_box l c b a w)) (told_by l c b a w) → Next (told_drawn (told_by l c b a w))
      → Goes l c g b air (act_at_box l c a (read_by_box l c b a w)) (step l c (brings (Reader a) w) b)
  at-box a w h fits n = go (read_by_box l c b a w) refl fits n
    where
      confirms : (o : Option Pending) → box_says l c a (b.box a) (shown_for o) b ≡ bytes.with_box a (b.box a) b
      confirms None = refl
      confirms (Some p) = refl

      held : (ticket : Bytes) (u : Under) (x : Letter) → Gets air (lock_term l c g ticket) → (y : Held Bytes) → Memᴰ y (taken_after (b.box a) u x ticket).tickets → Gets air (lock_term l c g y.ticket)
      held ticket u x got y m = with (first_fault (letter_conditions (b.box a) u x)) (pending_for (b.box a) u x) m
        where
          one : (z : Held Bytes) → z.ticket ≡ ticket → (y ≡ z) ⊎ Memᴰ y (b.box a).tickets → Gets air (lock_term l c g y.ticket)
          one z e (inl i) = subst (λ (t : Bytes). Gets air (lock_term l c g t)) (sym (ap (λ (v : Held Bytes). v.ticket) i ∙ e)) got
          one z e (inr k) = known.held a y k

          with : (o : Option Fault) (p : Option Pending) → Memᴰ y (unless o (taken_from (b.box a) u x ticket p) (λ _. b.box a)).tickets → Gets air (lock_term l c g y.ticket)
          with (Some f) p k = known.held a y k
          with None None k = known.held a y k
          with None (Some p) k = one _ refl (Memᴰ.cases_cons (take-mem 16 _ k))

      go : (r : box.Read) → read_by_box l c b a w ≡ r → FitsTold l c g (box.after_word (b.box a) r) (box.answer_to (b.box a) r) → Next (told_drawn (box.answer_to (b.box a) r))
          → Goes l c g b air (act_at_box l c a r) (box_says l c a (box.after_word (b.box a) r) (box.answer_to (b.box a) r) b)
      go (box.brings ticket u x) e f n =
          let r = letter-read l (b.box a) w ticket u x e in
          let fine = pieces w (tries_in (box_tries l (b.box a)) (framed w)) h.heard (frame.ticket_and_letter ticket r.letter) r.frames in
          let o = opened-by l 2 0 (letter_keys (b.box a)) r.letter r.tried r.first in
          let one =
          opened w (tries_in (box_tries l (b.box a)) (framed w)) h.heard (record { kind = 2; key = r.tried.key.0; lock = r.letter })
          (subst (λ (z : Result Frame Fault). Memᴰ (record { kind = 2; key = r.tried.key.0; lock = r.letter }) (tries_in (box_tries l (b.box a)) z)) (sym r.frames)
          (map-mem (λ (k : Key). record { kind = 2; key = k.0; lock = r.letter }) o.known))
          (Term.right fine) r.tried.inside o.opens
          in
          let two = subst (λ (z : Result Letter Fault). Gets air (Lock 2 (name_in l c g r.tried.key.0) (content_term (name_in l c g) (read_or Content.letter r.tried.inside z)))) r.reads one in
          record {
            can =
                record {
                  reader = alone-there a h.reader;
                  letter_heard = subst (λ (z : Under). Gets air (letter_term (name_in l c g) (under_key (C l c g) (N l c g) (blind (b.box a)) z) x)) (sym r.under) (under r.tried.place r.tried.key (opened-first l 2 (b.box a).key _ r.letter r.tried r.first) x two);
                  new = subst (λ (z : Told). New (C l c g) (N l c g) (seen b air) (told_drawn z)) (sym (taken-by (λ _. tt {0}) (b.box a) u x)) (told-new _ n);
                };
            air' = told_sent (name_in l c g) (taken (b.box a) u x) ++ air;
            same = says_same a _ _ _ (taken_after (b.box a) u x ticket) (taken-by (λ _. tt {0}) (b.box a) u x) (sym (taken_after-by (λ _. tt {0}) (b.box a) u x ticket));
            known = says l c g b air known a (taken_after (b.box a) u x ticket) (taken (b.box a) u x) f (held ticket u x (Term.left fine));
          }
        where
          under : (p : ℕ) (k : Key) → (p ≡ 0 → k ≡ (b.box a).key) → (y : Letter) → Gets air (letter_term (name_in l c g) k y)
              → Gets air (letter_term (name_in l c g) (under_key (C l c g) (N l c g) (blind (b.box a)) (under_of p k)) y)
          under p k own y got = by (eqb p 0) refl
            where
              by : (i : Bool) → eqb p 0 ≡ i → Gets air (letter_term (name_in l c g) (under_key (C l c g) (N l c g) (blind (b.box a)) (cond i OwnKey (Session k))) y)
              by true i = subst (λ (z : Key). Gets air (letter_term (name_in l c g) z y)) (own (eqb-true p 0 i)) got
              by false i = got
      go (box.confirms k r) e f n = silent a (confirmed (b.box a).askings k r) (confirms (oldest (AtService k r.number) (b.box a).askings))
      go (box.refuses k) e f n = silent a (Ok (told.Shown k)) refl
      go (box.wrong k) e f n = silent a (Err k) refl

  -- every call
  pub goes : (e : Call) → Meets l c g b e → FitsCall l c g b e → (later : List Bytes) → g.draws ≡ later ++ (step l c e b).used → Goes l c g b air (act_of l c b e) (step l c e b)
  goes (tells to) h f y n = record { can = tt; air' = air; same = refl; known = record { gets = known.gets; held = known.held } }
  goes (hands House bs) h f y n = quiet l c g b air known (hands House bs) tt (acts.hands House bs) tt (step l c (hands House bs) b) refl refl refl refl
  goes (hands (Service v) bs) h f y n = quiet l c g b air known (hands (Service v) bs) tt (acts.hands (Service v) bs) tt (step l c (hands (Service v) bs) b) refl refl refl refl
  goes (hands (Reader a) bs) h f y n = box-changed l c g b air known (acts.hands (Reader a) bs) a (box_left ((b.box a).left ++ bs) (b.box a)) _ tt refl refl (known.held a)
  goes (steals m) h f y n = theft l c g b air known m h
  goes (opens m k w) h f y n = quiet l c g b air known (opens m k w) h (acts.opens m k w) (record { there = h.there; own = h.own }) (step l c (opens m k w) b) refl refl refl refl
  goes (closes m w) h f y n = quiet l c g b air known (closes m w) tt (acts.closes m w) tt (step l c (closes m w) b) refl refl refl refl
  goes (wants a v by w) h f y n = at-line a v by w h f (y, n)
  goes (brings House w) h f y n = at-house w h f (y, n)
  goes (brings (Service v) w) h f y n = at-service v w h f
  goes (brings (Reader a) w) h f y n = at-box a w h f (y, n)
  goes (device House w) h f y n = quiet l c g b air known (device House w) tt (acts.device House w) tt (step l c (device House w) b) refl refl refl refl
  goes (device (Service v) w) h f y n = quiet l c g b air known (device (Service v) w) tt (acts.device (Service v) w) tt (step l c (device (Service v) w) b) refl refl refl refl
  goes (device (Reader a) w) h f y n = quiet l c g b air known (device (Reader a) w) tt (acts.device (Reader a) w) tt b refl refl refl refl
  goes (crashes House cut) h f y n = quiet l c g b air known (crashes House cut) h (acts.crashes House cut) h (step l c (crashes House cut) b) refl refl refl refl
  goes (crashes (Service v) cut) h f y n = quiet l c g b air known (crashes (Service v) cut) h (acts.crashes (Service v) cut) h (step l c (crashes (Service v) cut) b) refl refl refl refl
  goes (crashes (Reader a) cut) h f y n = box-changed l c g b air known (acts.crashes (Reader a) cut) a _ _ tt refl refl (λ x k. absurd (Memᴰ.not-nil k))
