-- The house, the services and the boxes together, and every act, by the definitions that their contracts cite. Assumes nothing.
--
-- System       one house, any services, any boxes; all that was sent and stolen, all draws that were used, the newest first
-- Act          what happens: a reader's line, a word that was opened, a tick, an account, a theft, a crash, a device, drawn bytes
-- step         what an act leaves
-- Can          what an act rests on: what is heard can be worked out of all that was sent and stolen; draws are new
use Rattle.std.specs.Prelude.{◌≡◌, ℕ, suc, ◌<◌, Bool, true, false, cond, List, [], ◌∷◌, ◌++◌, length, replicate, Ok, Err, Option, Result, ◌==◌}
use Rattle.parts.specs.declared.account.Account.{Account}
use Rattle.parts.specs.declared.account.Account.TheVariants.{Absent}
use Rattle.parts.specs.declared.account.Entry.{Entry}
use Rattle.parts.specs.declared.fault.Fault.{Fault}
use Rattle.parts.specs.declared.word.Key.{Key}
use Rattle.parts.specs.declared.word.Ticket.{Ticket}
use Rattle.parts.specs.declared.word.Letter.{Letter}
use Rattle.parts.specs.declared.word.Asking.{Asking}
use Rattle.parts.specs.declared.word.Login.{Login}
use Rattle.parts.specs.declared.word.What.{What}
use Rattle.service_rules.specs.Service.{View, view}
use Rattle.service_rules.specs.Service as service
use Rattle.service_rules.specs.Side.{begun, on_tick}
use Rattle.held.specs.Crash.{reread, rejunk}
use Rattle.held.specs.declared.cut.Cut.{Cut}
use Rattle.service_rules.specs.declared.side.Side.{Side}
use Rattle.house_rules.specs.Account.{own_key}
use Rattle.house_rules.specs.Change.{opened_after, shut_after}
use Rattle.house_rules.specs.House.{Home}
use Rattle.house_rules.specs.House as house
use Rattle.box_rules.specs.Chest.{Boxed, box_on_tick, fresh}
use Rattle.box_rules.specs.Line as line
use Rattle.box_rules.specs.Letter as letter
use Rattle.box_rules.specs.declared.line.Under.{Under}
use Rattle.box_rules.specs.declared.line.Under.TheVariants.{Own as OwnKey, Session}
use Rattle.tickets.specs.Term.{Term, Gets, even}
use Rattle.rows.specs.Name.{Bytes, Naming, own_of}
use Rattle.rows.specs.Word.{ticket_term, letter_term, asking_term, login_term, reply_sent, answer_sent, told_sent, told_drawn, reply_drawn}
use Rattle.rows.specs.Setting.{Setting, Writing}

-- a box; the tickets' own bytes do not matter here
abbrev pub Box : Type 0
Box = Boxed (Unit {0})

-- stolen: the names of the own keys that were stolen
pub record System : Type 0 where
  pub home : Home
  pub side : ℕ → View
  pub box : ℕ → Box
  pub air : List Term
  pub used : List Bytes
  pub stolen : List ℕ

-- whose device, or whose drawn bytes
pub data Who : Type 0 where
  House : Who
  Service : (v : ℕ) → Who
  Reader : (a : ℕ) → Who

-- what happens; words are those that were opened and read, with whatever key
pub data Act : Type 0 where
  -- everybody is told a tick
  tells : (to : ℕ) → Act
  -- somebody is handed drawn bytes
  hands : (who : Who) (bytes : Bytes) → Act
  -- the own key of a number is stolen
  steals : (n : ℕ) → Act
  -- the house is told to open or to close an account; its file is written or not
  opens : (n : ℕ) (key : Key) (writes : Bool) → Act
  closes : (n : ℕ) (writes : Bool) → Act
  -- a reader wants something of a service, by a ticket or by none
  wants : (reader service : ℕ) (by : Option ℕ) (what : What) → Act
  -- the house hears a login of a reader
  logs_in : (reader : ℕ) (login : Login) → Act
  -- the house hears a ticket of its own and an asking under its key
  asks_house : (ticket : Ticket) (asking : Asking) → Act
  -- a service hears a ticket of its own and an asking under its key
  asks : (service : ℕ) (ticket : Ticket) (asking : Asking) → Act
  -- a box hears a letter, under its own key or another
  takes : (reader : ℕ) (under : Under) (letter : Letter) → Act
  -- somebody hears a word that can't be read, a receipt or a refusal
  hears : (who : Who) → Act
  -- a device writes from now on, or does not
  device : (who : Who) (writes : Bool) → Act
  -- somebody crashes and starts again, and its last write was cut so
  crashes : (who : Who) (cut : Cut ℕ) → Act

-- one of many is changed
abbrev pub at : {A : Type 0} → ℕ → A → (ℕ → A) → ℕ → A
at n x f k = cond (k == n) x (f k)

abbrev pub with_home : Home → System → System
with_home h s = record { home = h; side = s.side; box = s.box; air = s.air; used = s.used; stolen = s.stolen }

abbrev pub with-side : ℕ → View → System → System
with-side v w s = record { home = s.home; side = at v w s.side; box = s.box; air = s.air; used = s.used; stolen = s.stolen }

abbrev pub with_box : ℕ → Box → System → System
with_box a b s = record { home = s.home; side = s.side; box = at a b s.box; air = s.air; used = s.used; stolen = s.stolen }

-- these words are sent, and these draws used
abbrev pub with_sent : List Term → List Bytes → System → System
with_sent ts ds s = record { home = s.home; side = s.side; box = s.box; air = ts ++ s.air; used = ds ++ s.used; stolen = s.stolen }

-- a home with another side, other accounts, another memory, other drawn bytes
abbrev pub home_side : Side → Home → Home
home_side x h = record { side = x; life = h.life; key = h.key; accounts = h.accounts; kept = h.kept; junk = h.junk; writes = h.writes; left = h.left }

abbrev pub home_accounts : List Account → Home → Home
home_accounts xs h = record { side = h.side; life = h.life; key = h.key; accounts = xs; kept = h.kept; junk = h.junk; writes = h.writes; left = h.left }

abbrev pub home_memory : Side → List Entry → Bool → Bool → Home → Home
home_memory x es j w h = record { side = x; life = h.life; key = h.key; accounts = h.accounts; kept = es; junk = j; writes = w; left = h.left }

abbrev pub home_left : Bytes → Home → Home
home_left bs h = record { side = h.side; life = h.life; key = h.key; accounts = h.accounts; kept = h.kept; junk = h.junk; writes = h.writes; left = bs }

-- a box at another tick, with other drawn bytes, and one that crashed, which is empty
abbrev pub box_now : ℕ → Box → Box
box_now t b = record { number = b.number; key = b.key; now = t; lines = b.lines; taken = b.taken; logins = b.logins; tickets = b.tickets; askings = b.askings; left = b.left }

abbrev pub box_left : Bytes → Box → Box
box_left bs b = record { number = b.number; key = b.key; now = b.now; lines = b.lines; taken = b.taken; logins = b.logins; tickets = b.tickets; askings = b.askings; left = bs }

abbrev pub empty_box : ℕ → Key → ℕ → Bytes → Box
empty_box a k t bs = fresh a t k bs

-- a side that starts again, where it does
abbrev pub restarted : Side → Result Side Fault → Side
restarted x (Ok y) = y
restarted x (Err f) = x

-- what a crash leaves of a service, and of the house
abbrev pub crashed_view : Cut ℕ → View → View
crashed_view cut w =
    view (restarted w.side (begun w.side.number w.side.lag w.side.now (reread w.side.now w.side.lag cut w.kept) (rejunk w.side.now w.side.lag cut w.kept w.junk)))
    (reread w.side.now w.side.lag cut w.kept) (rejunk w.side.now w.side.lag cut w.kept w.junk) w.writes w.left

abbrev pub view_of : Home → View
view_of h = view h.side h.kept h.junk h.writes h.left

abbrev pub crashed_home : Cut ℕ → Home → Home
crashed_home cut h =
    home_memory (crashed_view cut (view_of h)).side (crashed_view cut (view_of h)).kept (crashed_view cut (view_of h)).junk h.writes h

module _ (c : Setting) (n : Naming c.own) where
  -- what an act leaves; what is refused leaves all as it was, by the definitions of each side
  abbrev pub step : Act → System → System
  step (tells to) s = record {
    home = home_side (on_tick s.home.side to) s.home;
    side = λ v. view (on_tick (s.side v).side to) (s.side v).kept (s.side v).junk (s.side v).writes (s.side v).left;
    box = λ a. box_on_tick (s.box a) to;
    air = s.air;
    used = s.used;
    stolen = s.stolen;
  }
  step (hands House bs) s = with_home (home_left (s.home.left ++ bs) s.home) s
  step (hands (Service v) bs) s =
      with-side v (view (s.side v).side (s.side v).kept (s.side v).junk (s.side v).writes ((s.side v).left ++ bs)) s
  step (hands (Reader a) bs) s = with_box a (box_left ((s.box a).left ++ bs) (s.box a)) s
  step (steals m) s = record {
    home = s.home;
    side = s.side;
    box = s.box;
    air = n.name (own_of c.own m).0 ∷ s.air;
    used = s.used;
    stolen = n.key_of m ∷ s.stolen;
  }
  step (opens m k w) s = with_home (home_accounts (opened_after s.home.accounts m k w) s.home) s
  step (closes m w) s = with_home (home_accounts (shut_after s.home.accounts m w) s.home) s
  step (wants a v by w) s =
      with_sent (told_sent n.name (line.wanted (s.box a) v by w)) (told_drawn (line.wanted (s.box a) v by w))
      (with_box a (line.wanted_after (s.box a) v by w) s)
  step (logs_in a l) s =
      with_sent (reply_sent n.name (house.logged_in s.home a l)) (reply_drawn (house.logged_in s.home a l))
      (with_home (house.login_after s.home a l) s)
  step (asks_house t q) s =
      with_sent (reply_sent n.name (house.answered s.home t q (c.digest t.key q.number)))
      (reply_drawn (house.answered s.home t q (c.digest t.key q.number)))
      (with_home (house.after s.home t q (c.digest t.key q.number)) s)
  step (asks v t q) s =
      with_sent (answer_sent n.name (service.answered (s.side v) t q (c.digest t.key q.number))) []
      (with-side v (service.after (s.side v) t q (c.digest t.key q.number)) s)
  step (takes a u l) s =
      with_sent (told_sent n.name (letter.taken (s.box a) u l)) (told_drawn (letter.taken (s.box a) u l))
      (with_box a (letter.taken_after (s.box a) u l tt) s)
  step (hears who) s = s
  step (device House w) s = with_home (home_memory s.home.side s.home.kept s.home.junk w s.home) s
  step (device (Service v) w) s = with-side v (view (s.side v).side (s.side v).kept (s.side v).junk w (s.side v).left) s
  step (device (Reader a) w) s = s
  step (crashes House cut) s = with_home (crashed_home cut s.home) s
  step (crashes (Service v) cut) s = with-side v (crashed_view cut (s.side v)) s
  step (crashes (Reader a) cut) s = with_box a (empty_box (s.box a).number (s.box a).key (s.box a).now (s.box a).left) s

  -- a draw that is used now has the next name
  abbrev pub New : System → List Bytes → Type 0
  New s [] = Unit {0}
  New s (x ∷ xs) = n.name x ≡ even (suc (length s.used))

  -- a number that has an own key
  abbrev pub There : ℕ → Type 0
  There m = m < length c.own

  -- a reader has an own key that no other has
  pub record Alone (a : ℕ) : Type 0 where
    pub there : a < length c.own
    pub alone : n.key_of a ≡ a

  pub record HeardLogin (s : System) (a : ℕ) (l : Login) : Type 0 where
    pub reader : Alone a
    pub login : Gets s.air (login_term n.name (own_key s.home.accounts a) l)
    pub new : New s (reply_drawn (house.logged_in s.home a l))

  pub record HeardAtHouse (s : System) (t : Ticket) (q : Asking) : Type 0 where
    pub ticket : Gets s.air (ticket_term n.name s.home.key t)
    pub asking : Gets s.air (asking_term n.name t.key q)
    pub new : New s (reply_drawn (house.answered s.home t q (c.digest t.key q.number)))

  pub record HeardAtService (s : System) (v : ℕ) (t : Ticket) (q : Asking) : Type 0 where
    pub a_service : v ≡ 0 → ⊥
    pub there : v < length c.own
    pub ticket : Gets s.air (ticket_term n.name (own_of c.own v) t)
    pub asking : Gets s.air (asking_term n.name t.key q)

  -- the key under which a letter opens
  abbrev pub under_key : Box → Under → Key
  under_key b OwnKey = b.key
  under_key b (Session k) = k

  pub record HeardLetter (s : System) (a : ℕ) (u : Under) (l : Letter) : Type 0 where
    pub reader : Alone a
    pub letter_heard : Gets s.air (letter_term n.name (under_key (s.box a) u) l)
    pub new : New s (told_drawn (letter.taken (s.box a) u l))

  pub record Wanting (s : System) (a v : ℕ) (by : Option ℕ) (w : What) : Type 0 where
    pub reader : Alone a
    pub new : New s (told_drawn (line.wanted (s.box a) v by w))

  -- the house is told the own key that the card or the service has
  pub record OwnKeyTold (m : ℕ) (k : Key) : Type 0 where
    pub there : m < length c.own
    pub own : k ≡ own_of c.own m

  -- what an act rests on
  abbrev pub Can : System → Act → Type 0
  Can s (tells to) = Unit {0}
  Can s (hands who bs) = Unit {0}
  Can s (steals m) = m < length c.own
  Can s (opens m k w) = OwnKeyTold m k
  Can s (closes m w) = Unit {0}
  Can s (wants a v by w) = Wanting s a v by w
  Can s (logs_in a l) = HeardLogin s a l
  Can s (asks_house t q) = HeardAtHouse s t q
  Can s (asks v t q) = HeardAtService s v t q
  Can s (takes a u l) = HeardLetter s a u l
  Can s (hears who) = Unit {0}
  Can s (device who w) = Unit {0}
  Can s (crashes House cut) = Writing cut s.home.side.now s.home.side.wake
  Can s (crashes (Service v) cut) = Writing cut (s.side v).side.now (s.side v).side.wake
  Can s (crashes (Reader a) cut) = Unit {0}

  -- the first start, at a tick: no account, nothing remembered, nothing under way
  abbrev pub first : ℕ → System
  first t = record {
    home = record { side = record { number = 0; lag = c.lag; now = t; wake = 0 }; life = c.life; key = own_of c.own 0; accounts = replicate 1024 Absent; kept = []; junk = false; writes = true; left = [] };
    side = λ v. view (record { number = v; lag = c.lag; now = t; wake = 0 }) [] false true [];
    box = λ a. empty_box a (own_of c.own a) t [];
    air = [];
    used = [];
    stolen = [];
  }

  -- the system after these acts, the newest first
  abbrev pub run : ℕ → List Act → System
  run t [] = first t
  run t (e ∷ es) = step e (run t es)

  -- every act can happen where it does
  abbrev pub Possible : ℕ → List Act → Type 0
  Possible t [] = 0 < length c.own
  Possible t (e ∷ es) = Can (run t es) e × Possible t es
