-- How the system stands to a state of the model that does the same. Assumes nothing.
use Rattle.std.proofs.Common.{◌≡◌, ℕ, suc, ◌<◌, ◌≤◌, true, false, List, length, sym, ◌∙◌, subst, arith}
use mathlib.Core.List.{Memᴰ}
use Rattle.parts.specs.declared.account.Account.{Account}
use Rattle.service_rules.specs.Service.{View}
use Rattle.house_rules.specs.Account.{closed, unknown, own_key}
use Rattle.house_rules.specs.House.{Home}
use Rattle.box_rules.specs.declared.line.Line.{Line as BoxLine}
use Rattle.box_rules.specs.declared.line.Pending.{Pending}
use Rattle.box_rules.specs.declared.line.Held.{Held}
use Rattle.tickets.specs.Term.{Term, Gets, has, num, odd, pair, left, right, lock, open', even}
use Rattle.tickets.specs.Term
use Rattle.tickets.specs.State.{Line, Stage, LoggingIn, AskingHouse, Wish, Asked, Done, Closing, State, is_in, is_closed}
use Rattle.tickets.proofs.Known.{Grows}
use Rattle.rows.specs.Name.{Naming, own_of, spell}
use Rattle.rows.specs.Word.{words_of}
use Rattle.rows.specs.Setting.{Setting}
use Rattle.rows.specs.System.{System, Box, box_now}
use Rattle.box_rules.specs.Chest.{set_tick as box_tick}
use Rattle.parts.specs.declared.tick.Ticked.{Ticked}
use Rattle.rows.proofs.Noting.{Notes, notes-later}

-- a box at the tick that it was told
abbrev pub told_box : Box → ℕ → Ticked → Box
told_box b to k = box_now (box_tick b to k) b

module _ (c : Setting) (n : Naming c.own) where
  -- an account was closed by now
  pub record ClosedBy (m : State) (k : ℕ) : Type 0 where
    pub closing : Closing
    pub known : Memᴰ closing m.closed
    pub whose : closing.who ≡ k
    pub past : closing.at ≤ m.now

  pub record AccountOk (xs : List Account) (k : ℕ) : Type 0 where
    pub there : k < length c.own
    pub own : own_key xs k ≡ own_of c.own k

  pub record HomeOk (m : State) (h : Home) : Type 0 where
    pub now_is : h.side.now ≡ m.now
    pub lag_is : h.side.lag ≡ c.lag
    pub number_is : h.side.number ≡ 0
    pub life_is : h.life ≡ c.life
    pub key_is : h.key ≡ own_of c.own 0
    pub accounts : (k : ℕ) → unknown h.accounts k ≡ false → AccountOk h.accounts k
    pub is_open : (k : ℕ) → closed h.accounts k ≡ false → is_closed k m.closed ≡ false
    pub is-closed : (k : ℕ) → closed h.accounts k ≡ true → ClosedBy m k
    pub notes : Notes c n m 0 h.side.wake h.junk h.kept

  pub record SideOk (m : State) (v : ℕ) (w : View) : Type 0 where
    pub now_is : w.side.now ≡ m.now
    pub lag_is : w.side.lag ≡ c.lag
    pub number_is : w.side.number ≡ v
    pub notes : Notes c n m v w.side.wake w.junk w.kept

  -- the line of a wish, as the box has it
  pub record LineOk (a : ℕ) (l : BoxLine) (x : Line) : Type 0 where
    pub reader : x.reader ≡ a
    pub service : x.service ≡ l.service
    pub what : x.what ≡ spell (words_of l.what)
    pub at : x.at ≡ l.tick

  -- what is under way in a box is under way in the model, and its letter not taken
  pub record PendingOk (m : State) (a : ℕ) (stage : Stage) (p : Pending) : Type 0 where
    pub wish : Wish
    pub known : Memᴰ wish m.wishes
    pub at_stage : wish.stage ≡ stage
    pub number : n.name p.number.0 ≡ even wish.number
    pub key : wish.key ≡ n.name p.key.0
    pub not_taken : is_in wish.number m.taken ≡ false
    pub line : LineOk a p.line wish.line

  -- a ticket in a box: something was asked under its key
  pub record TicketOk (m : State) (a : ℕ) (h : Held (Unit {0})) : Type 0 where
    pub asked : Asked
    pub known : Memᴰ asked m.asked
    pub reader : asked.line.reader ≡ a
    pub service : asked.service ≡ h.pass.service
    pub key : asked.key ≡ n.name h.pass.key.0

  pub record BoxOk (m : State) (a : ℕ) (b : Box) : Type 0 where
    pub now_is : b.now ≡ m.now
    pub key_is : b.key ≡ own_of c.own a
    pub logins : (p : Pending) → Memᴰ p b.logins → PendingOk m a LoggingIn p
    pub askings : (p : Pending) → Memᴰ p b.askings → p.asks ≡ 0 → PendingOk m a AskingHouse p
    pub tickets : (h : Held (Unit {0})) → Memᴰ h b.tickets → TicketOk m a h

  pub record NetOk (s : System) (m : State) : Type 0 where
    pub air : (x : Term) → Memᴰ x s.air → Memᴰ x m.air
    pub next : m.next ≡ suc (length s.used)
    pub stolen : m.stolen ≡ s.stolen

  pub record Matches (s : System) (m : State) : Type 0 where
    pub net : NetOk s m
    pub home : HomeOk m s.home
    pub side : (v : ℕ) → (v ≡ 0 → ⊥) → SideOk m v (s.side v)
    pub box : (a : ℕ) → BoxOk m a (s.box a)

-- whoever has more can work out more
pub gets_more : {xs ys : List Term} → ((x : Term) → Memᴰ x xs → Memᴰ x ys) → {x : Term} → Gets xs x → Gets ys x
gets_more f {x} (Term.has h) = Term.has (f x h)
gets_more f (Term.num k) = Term.num k
gets_more f (Term.odd k) = Term.odd k
gets_more f (Term.pair a e) = Term.pair (gets_more f a) (gets_more f e)
gets_more f (Term.left h) = Term.left (gets_more f h)
gets_more f (Term.right h) = Term.right (gets_more f h)
gets_more f (Term.lock k a e) = Term.lock k (gets_more f a) (gets_more f e)
gets_more f (Term.open' k a e) = Term.open' k (gets_more f a) (gets_more f e)

module _ (c : Setting) (n : Naming c.own) {m t : State} where
  closed-by-later : m.now ≤ t.now → ((o : Closing) → Memᴰ o m.closed → Memᴰ o t.closed) → (k : ℕ) → ClosedBy c n m k → ClosedBy c n t k
  closed-by-later h f k o = record { closing = o.closing; known = f o.closing o.known; whose = o.whose; past = let p = o.past in omega arith }

  -- the model goes on at the same tick, and the house does nothing
  pub home_stays : (h : Home) → t.now ≡ m.now → ((d : Done) → Memᴰ d t.done → d.service ≡ 0 → Memᴰ d m.done) → t.closed ≡ m.closed
      → HomeOk c n m h → HomeOk c n t h
  home_stays h same old cl o =
      record {
        now_is = o.now_is ∙ sym same;
        lag_is = o.lag_is;
        number_is = o.number_is;
        life_is = o.life_is;
        key_is = o.key_is;
        accounts = o.accounts;
        is_open = λ k e. subst (λ (x : List Closing). is_closed k x ≡ false) (sym cl) (o.is_open k e);
        is-closed =
            λ k e. closed-by-later (omega arith) (λ x y. subst (λ (z : List Closing). Memᴰ x z) (sym cl) y) k (o.is-closed k e);
        notes = notes-later c n m t 0 h.side.wake h.junk h.kept (omega arith) old o.notes;
      }

  pub side-stays : (v : ℕ) (w : View) → t.now ≡ m.now → ((d : Done) → Memᴰ d t.done → d.service ≡ v → Memᴰ d m.done)
      → SideOk c n m v w → SideOk c n t v w
  side-stays v w same old o =
      record {
        now_is = o.now_is ∙ sym same;
        lag_is = o.lag_is;
        number_is = o.number_is;
        notes = notes-later c n m t v w.side.wake w.junk w.kept (omega arith) old o.notes;
      }

  -- what is under way stays so, if its letter is not the one that is taken
  pub pending-stays : (a : ℕ) (g : Stage) (p : Pending) → ((x : Wish) → Memᴰ x m.wishes → Memᴰ x t.wishes) → (o : PendingOk c n m a g p)
      → is_in o.wish.number t.taken ≡ false → PendingOk c n t a g p
  pending-stays a g p f o e =
      record {
        wish = o.wish;
        known = f o.wish o.known;
        at_stage = o.at_stage;
        number = o.number;
        key = o.key;
        not_taken = e;
        line = o.line;
      }

  pub ticket-stays : (a : ℕ) (h : Held (Unit {0})) → ((q : Asked) → Memᴰ q m.asked → Memᴰ q t.asked) → TicketOk c n m a h → TicketOk c n t a h
  ticket-stays a h f o =
      record { asked = o.asked; known = f o.asked o.known; reader = o.reader; service = o.service; key = o.key }

  -- a box whose letters are not those that are taken
  pub box-stays : (a : ℕ) (b : Box) → t.now ≡ m.now → Grows m t
      → ((p : Pending) (g : Stage) → (o : PendingOk c n m a g p) → is_in o.wish.number t.taken ≡ false) → BoxOk c n m a b → BoxOk c n t a b
  box-stays a b same g free o =
      record {
        now_is = o.now_is ∙ sym same;
        key_is = o.key_is;
        logins = λ p h. let x = o.logins p h in pending-stays a LoggingIn p g.wishes x (free p LoggingIn x);
        askings = λ p h e. let x = o.askings p h e in pending-stays a AskingHouse p g.wishes x (free p AskingHouse x);
        tickets = λ h k. ticket-stays a h g.asked (o.tickets h k);
      }
