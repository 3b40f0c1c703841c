-- One call over bytes is one act on what was opened: the systems are the same, and what is sent can be worked out. Assumes nothing.
use Rattle.std.proofs.Common.{◌≡◌, ℕ, zero, suc, ◌<◌, Bool, true, false, cond, eqb, ◌⊎◌, List, [], ◌∷◌, ◌++◌, map, length, take, Some, None, Ok, Option, Result, sym, refl, ap, ◌∙◌, subst, inl, inr, arith, eqb-true, Err}
use Rattle.box_rules.specs.Chest.{Boxed, ticket_of}
use Rattle.box_rules.specs.Line.{wanted, wanted_after}
use Rattle.box_rules.specs.Line.{Told}
use Rattle.box_rules.specs.declared.answer.Answer.TheVariants as told
use Rattle.box_rules.specs.declared.line.Held.{Held}
use Rattle.box_side.specs.Box as box
use Rattle.box_side.specs.Box.{under_of}
use Rattle.box_side.specs.Tickets.{boxed_by}
use Rattle.byte_rows.proofs.Air.{gets-later, map-mem}
use Rattle.byte_rows.specs.Premise.{Meets}
use Rattle.byte_rows.specs.Row.{names_of}
use Rattle.byte_rows.specs.System.{Basis, Bytewise, Call, answered, box_says, box_word, brings, closes, crashes, device, hands, key_name, opens, read_by_box, replied, sent_word, setting_of, steals, step, tells, told_by, wants, with_box}
use Rattle.byte_rows.specs.Term.{Whole, air_of, frame_term, framed_term, lock_term, word_term}
use Rattle.house_rules.specs.Give.{Reply}
use Rattle.house_side.specs.House as house
use Rattle.locked.specs.Locked.{Bytes, Locks, asking_lock, letter_lock, login_lock, receipt_lock, refusal_word, ticket_lock}
use Rattle.parts.specs.Fault.{class_of}
use Rattle.parts.specs.declared.fault.Class.{Class}
use Rattle.parts.specs.declared.fault.Class.TheVariants.{NotNow, NotReadable, NotYou}
use Rattle.parts.specs.declared.fault.Fault.{Fault}
use Rattle.parts.specs.declared.lock.Lock.{Lock}
use Rattle.parts.specs.declared.word.Asking.{Asking}
use Rattle.rows.proofs.Names.{own-named}
use Rattle.rows.specs.Name.{Naming, own_of}
use Rattle.rows.specs.Setting.{Setting}
use Rattle.rows.specs.System.{Act, Box, Can, House, New, Reader, Service, System, at}
use Rattle.rows.specs.System as acts
use Rattle.rows.specs.Word.{answer_sent, asking_term, letter_term, login_term, receipt_term, reply_sent, ticket_term, told_sent}
use Rattle.service_rules.specs.Service.{Answer}
use Rattle.service_side.specs.Service as service
use Rattle.std.specs.Option.{option_map}
use Rattle.tickets.specs.Term.{Gets, Own, Term, even}
use Rattle.tickets.specs.Term
use Rattle.wire.specs.Word.{Frame, framed, refusal, write_word}
use Rattle.wire.specs.Word as frame
use mathlib.Core.List.Memᴰ
use mathlib.Core.List.{Memᴰ}
use mathlib.Core.Path.{fun_ext}

-- the tickets of a box are not looked into
abbrev pub blind : Boxed Bytes → Box
blind b = boxed_by (λ _. tt) b

-- a system over bytes as one of opened contents, with what was sent there
abbrev pub seen : Bytewise → List Term → System
seen b air = record { home = b.home; side = b.side; box = λ a. blind (b.box a); air = air; used = b.used; stolen = b.stolen }

-- one box of many is changed, here and there
pub at-blind : (a : ℕ) (x : Boxed Bytes) (y : Box) (f : ℕ → Boxed Bytes) → y ≡ blind x → at a y (λ k. blind (f k)) ≡ (λ k. blind (at a x f k))
at-blind a x y f e = fun_ext (λ k. go k (eqb k a))
  where
    go : (k : ℕ) (b : Bool) → cond b y (blind (f k)) ≡ blind (cond b x (f k))
    go k true = e
    go k false = refl

-- nothing is changed
pub at_same : {A : Type 0} (a : ℕ) (f : ℕ → A) → at a (f a) f ≡ f
at_same {A} a f = fun_ext (λ k. go k (eqb k a) refl)
  where
    go : (k : ℕ) (b : Bool) → eqb k a ≡ b → cond b (f a) (f k) ≡ f k
    go k true e = ap f (sym (eqb-true k a e))
    go k false e = refl

-- the same system with other boxes
abbrev boxes : System → (ℕ → Box) → System
boxes s f = record { home = s.home; side = s.side; box = f; air = s.air; used = s.used; stolen = s.stolen }

pub with-boxes : (s : System) {f h : ℕ → Box} → f ≡ h
    → boxes s f ≡ boxes s h
with-boxes s e = ap (λ (x : ℕ → Box). boxes s x) e

-- the ticket of an id is one that is held
pub ticket-held : (i : ℕ) (hs : List (Held Bytes)) (t : Bytes) → ticket_of i hs ≡ Some t → (h : Held Bytes) × Memᴰ h hs × (h.ticket ≡ t)
ticket-held i [] t e = absurd (let z : ◌≡◌ {A = ℕ} 0 1 = cc in omega arith)
ticket-held i (h ∷ hs) t e = go (λ k. ticket-held i hs t k) (eqb h.pass.id i) e
  where
    go : (ticket_of i hs ≡ Some t → (x : Held Bytes) × Memᴰ x hs × (x.ticket ≡ t)) → (b : Bool) → cond b (Some h.ticket) (ticket_of i hs) ≡ Some t → (x : Held Bytes) × Memᴰ x (h ∷ hs) × (x.ticket ≡ t)
    go rest true k = (h, Memᴰ.head refl, (cc))
    go rest false k = let r = rest k in (r.0, Memᴰ.tail r.1, r.2)

pub take-mem : {A : Type 0} (n : ℕ) (xs : List A) {x : A} → Memᴰ x (take n xs) → Memᴰ x xs
take-mem zero xs h = absurd (Memᴰ.not-nil h)
take-mem (suc n) [] h = absurd (Memᴰ.not-nil h)
take-mem {A} (suc n) (y ∷ xs) {x} h = go (λ k. take-mem n xs k) (Memᴰ.cases_cons h)
  where
    go : (Memᴰ x (take n xs) → Memᴰ x xs) → (x ≡ y) ⊎ Memᴰ x (take n xs) → Memᴰ x (y ∷ xs)
    go rest (inl e) = Memᴰ.head e
    go rest (inr k) = Memᴰ.tail (rest k)

module _ (l : Locks) (c : Basis) (g : Whole) where
  -- the setting and the names there
  abbrev pub C : Setting
  C = setting_of l c

  abbrev pub N : Naming c.own
  N = names_of l c g

  -- all that the bytes' words and thefts stand for can be worked out there, and so can each ticket that a box holds
  pub record Known (b : Bytewise) (air : List Term) : Type 0 where
    pub gets : (x : Term) → Memᴰ x (air_of l c g b) → Gets air x
    pub held : (a : ℕ) (h : Held Bytes) → Memᴰ h (b.box a).tickets → Gets air (lock_term l c g h.ticket)

  -- an act that can happen there, and what it leaves there
  pub record Goes (b : Bytewise) (air : List Term) (act : Act) (b' : Bytewise) : Type 0 where
    pub can : Can C N (seen b air) act
    pub air' : List Term
    pub same : acts.step C N act (seen b air) ≡ seen b' air'
    pub known : Known b' air'

  -- the words that go out frame as they were written, and the locks in them stand for what was locked
  abbrev pub FitsReply : Reply → Type 0
  FitsReply (Ok y) =
      (framed (write_word (frame.ticket_and_letter (ticket_lock l y.ticket) (letter_lock l y.letter))) ≡ Ok (frame.ticket_and_letter (ticket_lock l y.ticket) (letter_lock l y.letter)))
      × (lock_term l c g (ticket_lock l y.ticket) ≡ ticket_term N.name y.ticket.key y.ticket.inside)
      × (lock_term l c g (letter_lock l y.letter) ≡ letter_term N.name y.letter.key y.letter.inside)
  FitsReply (Err f) = Unit {0}

  abbrev pub FitsAnswer : Answer → Type 0
  FitsAnswer (Ok y) =
      (framed (write_word (frame.receipt (receipt_lock l y.receipt))) ≡ Ok (frame.receipt (receipt_lock l y.receipt)))
      × (lock_term l c g (receipt_lock l y.receipt) ≡ receipt_term N.name y.receipt.key y.receipt.inside)
  FitsAnswer (Err f) = Unit {0}

  abbrev pub FitsAsking : ℕ → Boxed Bytes → Lock Asking → Type 0
  FitsAsking i b q =
      ((t : Bytes) → ticket_of i b.tickets ≡ Some t → framed (write_word (frame.asking t (asking_lock l q))) ≡ Ok (frame.asking t (asking_lock l q)))
      × (lock_term l c g (asking_lock l q) ≡ asking_term N.name q.key q.inside)

  abbrev pub FitsTold : Boxed Bytes → Told → Type 0
  FitsTold b (Ok (told.LogsIn x)) =
      (framed (write_word (frame.login b.number (login_lock l x))) ≡ Ok (frame.login b.number (login_lock l x)))
      × (lock_term l c g (login_lock l x) ≡ login_term N.name x.key x.inside)
  FitsTold b (Ok (told.Asks i q)) = FitsAsking i b q
  FitsTold b (Ok (told.Takes d q)) = FitsAsking d.id b q
  FitsTold b (Ok (told.Receipt n)) = Unit {0}
  FitsTold b (Ok (told.Shown k)) = Unit {0}
  FitsTold b (Err f) = Unit {0}

  -- of one call
  abbrev pub FitsCall : Bytewise → Call → Type 0
  FitsCall s (tells to) = Unit {0}
  FitsCall s (hands who bs) = Unit {0}
  FitsCall s (steals m) = Unit {0}
  FitsCall s (opens m k w) = Unit {0}
  FitsCall s (closes m w) = Unit {0}
  FitsCall s (wants a v by w) = FitsTold (wanted_after (s.box a) v by w) (wanted (s.box a) v by w)
  FitsCall s (brings House w) = FitsReply (replied l c s w)
  FitsCall s (brings (Service v) w) = FitsAnswer (answered l c s v w)
  FitsCall s (brings (Reader a) w) = FitsTold (box.after_word (s.box a) (read_by_box l c s a w)) (told_by l c s a w)
  FitsCall s (device who w) = Unit {0}
  FitsCall s (crashes who cut) = Unit {0}

  -- what can be worked out of a word that was sent
  word-gets : {air : List Term} (f : Frame) → framed (write_word f) ≡ Ok f → Gets air (frame_term l c g f) → Gets air (word_term l c g (write_word f))
  word-gets {air} f e h = subst (λ (r : Result Frame Fault). Gets air (framed_term l c g (write_word f) r)) (sym e) h

  -- everybody can write a refusal
  refusal-gets : {air : List Term} (f : Fault) (x : Bytes) → Memᴰ x (sent_word (refusal_word f)) → Gets air (word_term l c g x)
  refusal-gets {air} f x h = go (class_of f) h
    where
      one : (k : Class) → Gets air (word_term l c g (write_word (refusal k)))
      one NotReadable = Term.num 1
      one NotNow = Term.num 2
      one NotYou = Term.num 3

      go : (o : Option Class) → Memᴰ x (sent_word (option_map (λ k. write_word (refusal k)) o)) → Gets air (word_term l c g x)
      go None k = absurd (Memᴰ.not-nil k)
      go (Some k) m = subst (λ (z : Bytes). Gets air (word_term l c g z)) (sym (Memᴰ.eq_of_singleton m)) (one k)

  -- one of those that are made from others comes from one of them
  map_back : {A : Type 0} (f : A → Term) (xs : List A) (y : Term) → Memᴰ y (map f xs) → (x : A) × Memᴰ x xs × (y ≡ f x)
  map_back f [] y h = absurd (Memᴰ.not-nil h)
  map_back {A} f (x ∷ xs) y h = go (λ k. map_back f xs y k) (Memᴰ.cases_cons h)
    where
      go : (Memᴰ y (map f xs) → (z : A) × Memᴰ z xs × (y ≡ f z)) → (y ≡ f x) ⊎ Memᴰ y (map f xs) → (z : A) × Memᴰ z (x ∷ xs) × (y ≡ f z)
      go rest (inl e) = (x, Memᴰ.head refl, e)
      go rest (inr k) = let r = rest k in (r.0, Memᴰ.tail r.1, r.2)

  -- new words are sent
  pub more-words : (b : Bytewise) {air : List Term} (more : List Term) (ws : List Bytes)
      → ((x : Term) → Memᴰ x (air_of l c g b) → Gets air x) → ((w : Bytes) → Memᴰ w ws → Gets (more ++ air) (word_term l c g w))
      → (x : Term) → Memᴰ x (map Own b.stolen ++ map (word_term l c g) (ws ++ b.words)) → Gets (more ++ air) x
  more-words b {air} more ws old new x h = go (Memᴰ.append_cases (map Own b.stolen) h)
    where
      word : (w : Bytes) → x ≡ word_term l c g w → Memᴰ w ws ⊎ Memᴰ w b.words → Gets (more ++ air) x
      word w e (inl k) = subst (λ (z : Term). Gets (more ++ air) z) (sym e) (new w k)
      word w e (inr k) = subst (λ (z : Term). Gets (more ++ air) z) (sym e) (gets-later more (old (word_term l c g w) (Memᴰ.append_right (map Own b.stolen) (map-mem (word_term l c g) k))))

      go : Memᴰ x (map Own b.stolen) ⊎ Memᴰ x (map (word_term l c g) (ws ++ b.words)) → Gets (more ++ air) x
      go (inl k) = gets-later more (old x (Memᴰ.append_left (map (word_term l c g) b.words) k))
      go (inr k) = let r = map_back (word_term l c g) (ws ++ b.words) x k in word r.0 r.2 (Memᴰ.append_cases ws r.1)

  -- the tickets of all boxes, where one box is changed
  pub held_at : {air : List Term} (a : ℕ) (x : Boxed Bytes) (f : ℕ → Boxed Bytes)
      → ((h : Held Bytes) → Memᴰ h x.tickets → Gets air (lock_term l c g h.ticket))
      → ((k : ℕ) (h : Held Bytes) → Memᴰ h (f k).tickets → Gets air (lock_term l c g h.ticket))
      → (k : ℕ) (h : Held Bytes) → Memᴰ h (at a x f k).tickets → Gets air (lock_term l c g h.ticket)
  held_at {air} a x f new old k h m = go (eqb k a) m
    where
      go : (b : Bool) → Memᴰ h (cond b x (f k)).tickets → Gets air (lock_term l c g h.ticket)
      go true i = new h i
      go false i = old k h i

  module _ (b : Bytewise) (air : List Term) (known : Known b air) where
    -- a box that goes on and sends what it answers
    pub says : (a : ℕ) (b' : Boxed Bytes) (r : Told) → FitsTold b' r
        → ((h : Held Bytes) → Memᴰ h b'.tickets → Gets air (lock_term l c g h.ticket))
        → Known (box_says l c a b' r b) (told_sent N.name r ++ air)
    says a b' r fit held =
        record {
          gets = more-words b (told_sent N.name r) (box_word (box.sent_by l b' r)) known.gets (go r fit);
          held = held_at a b' b.box (λ h k. gets-later (told_sent N.name r) (held h k)) (λ k h m. gets-later (told_sent N.name r) (known.held k h m));
        }
      where
        asks : (q : Lock Asking) (o : Option Bytes)
            → ((t : Bytes) → o ≡ Some t → framed (write_word (frame.asking t (asking_lock l q))) ≡ Ok (frame.asking t (asking_lock l q)))
            → ((t : Bytes) → o ≡ Some t → Gets air (lock_term l c g t))
            → lock_term l c g (asking_lock l q) ≡ asking_term N.name q.key q.inside
            → (w : Bytes) → Memᴰ w (box_word (box.asking_sent l o q)) → Gets (asking_term N.name q.key q.inside ∷ air) (word_term l c g w)
        asks q None f t e w k = absurd (Memᴰ.not-nil k)
        asks q (Some x) f t e w k =
            subst (λ (z : Bytes). Gets (asking_term N.name q.key q.inside ∷ air) (word_term l c g z)) (sym (Memᴰ.eq_of_singleton k))
            (word-gets (frame.asking x (asking_lock l q)) (f x refl)
            (Term.pair (gets-later (asking_term N.name q.key q.inside ∷ []) (t x refl)) (Term.has (Memᴰ.head e))))

        of-id : (i : ℕ) (t : Bytes) → ticket_of i b'.tickets ≡ Some t → Gets air (lock_term l c g t)
        of-id i t e =
            let x = ticket-held i b'.tickets t e in
            subst (λ (z : Bytes). Gets air (lock_term l c g z)) x.2 (held x.0 x.1)

        go : (r : Told) → FitsTold b' r → (w : Bytes) → Memᴰ w (box_word (box.sent_by l b' r)) → Gets (told_sent N.name r ++ air) (word_term l c g w)
        go (Ok (told.LogsIn x)) f w k =
            subst (λ (z : Bytes). Gets (login_term N.name x.key x.inside ∷ air) (word_term l c g z)) (sym (Memᴰ.eq_of_singleton k))
            (word-gets (frame.login b'.number (login_lock l x)) f.0 (Term.pair (Term.num _) (Term.has (Memᴰ.head f.1))))
        go (Ok (told.Asks i q)) f w k = asks q (ticket_of i b'.tickets) f.0 (of-id i) f.1 w k
        go (Ok (told.Takes d q)) f w k = asks q (ticket_of d.id b'.tickets) f.0 (of-id d.id) f.1 w k
        go (Ok (told.Receipt n)) f w k = absurd (Memᴰ.not-nil k)
        go (Ok (told.Shown n)) f w k = absurd (Memᴰ.not-nil k)
        go (Err n) f w k = absurd (Memᴰ.not-nil k)

    -- what the house sends
    pub replies : (r : Reply) → FitsReply r → (w : Bytes) → Memᴰ w (sent_word (house.sent_by l r)) → Gets (reply_sent N.name r ++ air) (word_term l c g w)
    replies (Ok y) f w k =
        subst (λ (z : Bytes). Gets (ticket_term N.name y.ticket.key y.ticket.inside ∷ letter_term N.name y.letter.key y.letter.inside ∷ air) (word_term l c g z)) (sym (Memᴰ.eq_of_singleton k))
        (word-gets (frame.ticket_and_letter (ticket_lock l y.ticket) (letter_lock l y.letter)) f.0
        (Term.pair (Term.has (Memᴰ.head f.1)) (Term.has (Memᴰ.tail (Memᴰ.head f.2)))))
    replies (Err e) f w k = refusal-gets e w k

    -- what a service sends
    pub answers : (r : Answer) → FitsAnswer r → (w : Bytes) → Memᴰ w (sent_word (service.sent_by l r)) → Gets (answer_sent N.name r ++ air) (word_term l c g w)
    answers (Ok y) f w k =
        subst (λ (z : Bytes). Gets (receipt_term N.name y.receipt.key y.receipt.inside ∷ air) (word_term l c g z)) (sym (Memᴰ.eq_of_singleton k))
        (word-gets (frame.receipt (receipt_lock l y.receipt)) f.0 (Term.has (Memᴰ.head f.1)))
    answers (Err e) f w k = refusal-gets e w k

    -- nothing but the house's, or a side's, own state is changed
    pub stays : (b' : Bytewise) → b'.words ≡ b.words → b'.stolen ≡ b.stolen → b'.box ≡ b.box → Known b' air
    stays b' e f h =
        record {
          gets = λ x k. known.gets x (subst (λ (ws : List Bytes). Memᴰ x (map Own b.stolen ++ map (word_term l c g) ws)) e (subst (λ (ns : List ℕ). Memᴰ x (map Own ns ++ map (word_term l c g) b'.words)) f k));
          held = λ a x k. known.held a x (subst (λ (p : ℕ → Boxed Bytes). Memᴰ x (p a).tickets) h k);
        }

    -- the tables' tickets of all boxes
    abbrev pub HeldOk : Boxed Bytes → Type 0
    HeldOk x = (h : Held Bytes) → Memᴰ h x.tickets → Gets air (lock_term l c g h.ticket)

    -- one box is changed, and nothing is sent
    pub box-changed : (act : Act) (a : ℕ) (x : Boxed Bytes) (y : Box) → Can C N (seen b air) act
        → acts.step C N act (seen b air) ≡ acts.with_box a y (seen b air) → y ≡ blind x → HeldOk x → Goes b air act (with_box a x b)
    box-changed act a x y can same e held =
        record {
          can = can;
          air' = air;
          same = same ∙ with-boxes (seen b air) (at-blind a x y b.box e);
          known = record { gets = known.gets; held = held_at a x b.box held known.held };
        }

    -- the calls that bring no word
    pub quiet : (e : Call) → Meets l c g b e → (act : Act) → acts.Can C N (seen b air) act → (b' : Bytewise) → acts.step C N act (seen b air) ≡ seen b' air
        → b'.words ≡ b.words → b'.stolen ≡ b.stolen → b'.box ≡ b.box → Goes b air act b'
    quiet e m act can b' same i j k = record { can = can; air' = air; same = same; known = stays b' i j k }

    -- a theft
    pub theft : (m : ℕ) → m < length c.own → Goes b air (acts.steals m) (step l c (steals m) b)
    theft m there =
        record {
          can = there;
          air' = N.name (own_of c.own m).0 ∷ air;
          same = refl;
          known = record { gets = λ x k. go x (Memᴰ.cases_cons k); held = λ a h k. gets-later (N.name (own_of c.own m).0 ∷ []) (known.held a h k) };
        }
      where
        go : (x : Term) → (x ≡ Own (key_name c.own m)) ⊎ Memᴰ x (air_of l c g b) → Gets (N.name (own_of c.own m).0 ∷ air) x
        go x (inl e) = Term.has (Memᴰ.head (e ∙ sym (own-named c.own g.draws m there)))
        go x (inr k) = gets-later (N.name (own_of c.own m).0 ∷ []) (known.gets x k)
