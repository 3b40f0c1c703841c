-- The house, the services and the boxes over bytes, and every call, by the definitions that their contracts cite. Assumes nothing.
--
-- Basis         what is fixed over a whole run; setting_of: the same, with the digest of a way to lock
-- Made          a lock that was made; lock_of: its bytes
-- Bytewise      one house, any services, any boxes whose tickets are bytes; all words sent, all draws and locks made, the newest first
-- Call          what happens: a reader's line, a word of whatever bytes brought to a side, a tick, an account, a theft, ..
-- step          what a call leaves
-- key_name      the name of the own key of a number, one for all who have it by a slip
use Rattle.std.specs.Prelude.{ℕ, Bool, true, false, List, [], ◌∷◌, ◌++◌, replicate, Some, None, Option, Err, Ok}
use Rattle.box_rules.specs.Chest.{Boxed, box_on_tick, fresh}
use Rattle.box_rules.specs.Line.{wanted, wanted_after}
use Rattle.box_rules.specs.Line.{Told}
use Rattle.box_rules.specs.declared.answer.Answer.TheVariants as told
use Rattle.box_side.specs.Box as box
use Rattle.contents.specs.Inside.{write_asking, write_letter, write_login, write_receipt, write_ticket}
use Rattle.held.specs.declared.cut.Cut.{Cut}
use Rattle.house_rules.specs.Change.{opened_after, shut_after}
use Rattle.house_rules.specs.House.{Home}
use Rattle.house_rules.specs.Give.{Reply}
use Rattle.house_side.specs.House as house
use Rattle.locked.specs.Locked.{Bytes, Locks, asked_of, digest_of}
use Rattle.parts.specs.declared.account.Account.TheVariants.{Absent}
use Rattle.parts.specs.declared.lock.Lock.{Lock}
use Rattle.parts.specs.declared.word.Asking.{Asking}
use Rattle.parts.specs.declared.word.Key.{Key}
use Rattle.parts.specs.declared.word.What.{What}
use Rattle.rows.specs.Name.{named, own_name, own_of}
use Rattle.rows.specs.Setting.{Setting}
use Rattle.rows.specs.System.{House, Reader, Service, Who, at, crashed_home, crashed_view, home_accounts, home_left, home_memory, home_side}
use Rattle.rows.specs.Word.{reply_drawn, told_drawn}
use Rattle.service_rules.specs.Service.{View, view}
use Rattle.service_rules.specs.Side.{on_tick}
use Rattle.service_rules.specs.Service.{Answer}
use Rattle.service_side.specs.Service as service

-- life: for how many ticks a ticket is good; lag: for how many an asking is; own: the own keys, by number, the house's first
pub record Basis : Type 0 where
  pub life : ℕ
  pub lag : ℕ
  pub own : List Key

-- what is remembered of an asking is the digest of its key and number
abbrev pub setting_of : Locks → Basis → Setting
setting_of l c = record { life = c.life; lag = c.lag; own = c.own; digest = digest_of l }

-- the name of the own key of a number: the first number that has it
abbrev pub key_name : List Key → ℕ → ℕ
key_name own n = named (λ a. a) (own_name own 0 (own_of own n).0) n

-- a lock that was made: as which kind, with which key and drawn bytes, and what stands in it
pub record Made : Type 0 where
  pub kind : ℕ
  pub key : Bytes
  pub drawn : Bytes
  pub inside : Bytes

abbrev pub lock_of : Locks → Made → Bytes
lock_of l m = l.lock m.kind m.key m.drawn m.inside

-- words: all that was sent; used: the keys and numbers drawn; made: the locks; stolen: the names of the own keys that were stolen
pub record Bytewise : Type 0 where
  pub home : Home
  pub side : ℕ → View
  pub box : ℕ → Boxed Bytes
  pub words : List Bytes
  pub used : List Bytes
  pub made : List Made
  pub stolen : List ℕ

-- what happens
pub data Call : Type 0 where
  -- everybody is told a tick
  tells : (to : ℕ) → Call
  -- somebody is handed drawn bytes
  hands : (who : Who) (bytes : Bytes) → Call
  -- the own key of a number is stolen
  steals : (n : ℕ) → Call
  -- the house is told to open or to close an account; its file is written or not
  opens : (n : ℕ) (key : Key) (writes : Bool) → Call
  closes : (n : ℕ) (writes : Bool) → Call
  -- a reader wants something of a service, by a ticket or by none
  wants : (reader service : ℕ) (by : Option ℕ) (what : What) → Call
  -- a word of whatever bytes is brought to a side
  brings : (who : Who) (word : Bytes) → Call
  -- a device writes from now on, or does not
  device : (who : Who) (writes : Bool) → Call
  -- somebody crashes and starts again, and its last write was cut so
  crashes : (who : Who) (cut : Cut ℕ) → Call

-- the locks that are made with an answer, the last made first
abbrev pub reply_made : Reply → List Made
reply_made (Ok y) =
    record { kind = 1; key = y.ticket.key.0; drawn = y.ticket.salt.0; inside = write_ticket y.ticket.inside }
    ∷ record { kind = 2; key = y.letter.key.0; drawn = y.letter.salt.0; inside = write_letter y.letter.inside }
    ∷ []
reply_made (Err f) = []

abbrev pub answer_made : Answer → List Made
answer_made (Ok y) = record { kind = 5; key = y.receipt.key.0; drawn = y.receipt.salt.0; inside = write_receipt y.receipt.inside } ∷ []
answer_made (Err f) = []

abbrev pub asking_made : Lock Asking → Made
asking_made x = record { kind = 3; key = x.key.0; drawn = x.salt.0; inside = write_asking (asked_of x.inside) }

abbrev pub told_made : Told → List Made
told_made (Ok (told.LogsIn x)) = record { kind = 4; key = x.key.0; drawn = x.salt.0; inside = write_login x.inside } ∷ []
told_made (Ok (told.Asks i x)) = asking_made x ∷ []
told_made (Ok (told.Takes g x)) = asking_made x ∷ []
told_made (Ok (told.Receipt i)) = []
told_made (Ok (told.Shown k)) = []
told_made (Err f) = []

-- the word that goes out, if one does
abbrev pub sent_word : Option Bytes → List Bytes
sent_word None = []
sent_word (Some w) = w ∷ []

abbrev pub box_word : Option box.Sent → List Bytes
box_word None = []
box_word (Some x) = x.word ∷ []

abbrev pub with_home : Home → Bytewise → Bytewise
with_home h s = record { home = h; side = s.side; box = s.box; words = s.words; used = s.used; made = s.made; stolen = s.stolen }

abbrev pub with-side : ℕ → View → Bytewise → Bytewise
with-side v w s = record { home = s.home; side = at v w s.side; box = s.box; words = s.words; used = s.used; made = s.made; stolen = s.stolen }

abbrev pub with_box : ℕ → Boxed Bytes → Bytewise → Bytewise
with_box a b s = record { home = s.home; side = s.side; box = at a b s.box; words = s.words; used = s.used; made = s.made; stolen = s.stolen }

-- these words are sent, these draws used, and these locks made
abbrev pub with_sent : List Bytes → List Bytes → List Made → Bytewise → Bytewise
with_sent ws ds ms s = record { home = s.home; side = s.side; box = s.box; words = ws ++ s.words; used = ds ++ s.used; made = ms ++ s.made; stolen = s.stolen }

-- a box with other drawn bytes
abbrev pub box_left : Bytes → Boxed Bytes → Boxed Bytes
box_left bs b = record { number = b.number; key = b.key; now = b.now; lines = b.lines; taken = b.taken; logins = b.logins; tickets = b.tickets; askings = b.askings; left = bs }

module _ (l : Locks) (c : Basis) where
  -- what the house, a service and a box make of a word
  abbrev pub read_by_house : Bytewise → Bytes → house.Read
  read_by_house s w = house.read_at_house l s.home w

  abbrev pub read_by_service : Bytewise → ℕ → Bytes → service.Read
  read_by_service s v w = service.read_at_service l (own_of c.own v) w

  abbrev pub read_by_box : Bytewise → ℕ → Bytes → box.Read
  read_by_box s a w = box.read_at_box l (s.box a) w

  -- what they answer
  abbrev pub replied : Bytewise → Bytes → Reply
  replied s w = house.answer_to l s.home (read_by_house s w)

  abbrev pub answered : Bytewise → ℕ → Bytes → Answer
  answered s v w = service.answer_to l (s.side v) (read_by_service s v w)

  abbrev pub told_by : Bytewise → ℕ → Bytes → Told
  told_by s a w = box.answer_to (s.box a) (read_by_box s a w)

  -- a box that answered so goes on, sends and draws
  abbrev pub box_says : ℕ → Boxed Bytes → Told → Bytewise → Bytewise
  box_says a b r s = with_sent (box_word (box.sent_by l b r)) (told_drawn r) (told_made r) (with_box a b s)

  -- what a call leaves; what is refused or can't be read leaves all as it was, but for the refusal that is sent
  abbrev pub step : Call → Bytewise → Bytewise
  step (tells to) s = record {
    home = home_side (on_tick s.home.side to) s.home;
    side = λ v. view (on_tick (s.side v).side to) (s.side v).kept (s.side v).junk (s.side v).writes (s.side v).left;
    box = λ a. box_on_tick (s.box a) to;
    words = s.words;
    used = s.used;
    made = s.made;
    stolen = s.stolen;
  }
  step (hands House bs) s = with_home (home_left (s.home.left ++ bs) s.home) s
  step (hands (Service v) bs) s =
      with-side v (view (s.side v).side (s.side v).kept (s.side v).junk (s.side v).writes ((s.side v).left ++ bs)) s
  step (hands (Reader a) bs) s = with_box a (box_left ((s.box a).left ++ bs) (s.box a)) s
  step (steals m) s = record {
    home = s.home;
    side = s.side;
    box = s.box;
    words = s.words;
    used = s.used;
    made = s.made;
    stolen = key_name c.own m ∷ s.stolen;
  }
  step (opens m k w) s = with_home (home_accounts (opened_after s.home.accounts m k w) s.home) s
  step (closes m w) s = with_home (home_accounts (shut_after s.home.accounts m w) s.home) s
  step (wants a v by w) s = box_says a (wanted_after (s.box a) v by w) (wanted (s.box a) v by w) s
  step (brings House w) s =
      with_sent (sent_word (house.sent_by l (replied s w))) (reply_drawn (replied s w)) (reply_made (replied s w))
      (with_home (house.after_word l s.home (read_by_house s w)) s)
  step (brings (Service v) w) s =
      with_sent (sent_word (service.sent_by l (answered s v w))) [] (answer_made (answered s v w))
      (with-side v (service.after_word l (s.side v) (read_by_service s v w)) s)
  step (brings (Reader a) w) s = box_says a (box.after_word (s.box a) (read_by_box s a w)) (told_by s a w) s
  step (device House w) s = with_home (home_memory s.home.side s.home.kept s.home.junk w s.home) s
  step (device (Service v) w) s = with-side v (view (s.side v).side (s.side v).kept (s.side v).junk w (s.side v).left) s
  step (device (Reader a) w) s = s
  step (crashes House cut) s = with_home (crashed_home cut s.home) s
  step (crashes (Service v) cut) s = with-side v (crashed_view cut (s.side v)) s
  step (crashes (Reader a) cut) s = with_box a (fresh (s.box a).number (s.box a).now (s.box a).key (s.box a).left) s

  -- the first start, at a tick: no account, nothing remembered, nothing under way
  abbrev pub first : ℕ → Bytewise
  first t = record {
    home = record { side = record { number = 0; lag = c.lag; now = t; wake = 0 }; life = c.life; key = own_of c.own 0; accounts = replicate 1024 Absent; kept = []; junk = false; writes = true; left = [] };
    side = λ v. view (record { number = v; lag = c.lag; now = t; wake = 0 }) [] false true [];
    box = λ a. fresh a t (own_of c.own a) [];
    words = [];
    used = [];
    made = [];
    stolen = [];
  }

  -- the system after these calls, the newest first
  abbrev pub run : ℕ → List Call → Bytewise
  run t [] = first t
  run t (e ∷ es) = step e (run t es)
