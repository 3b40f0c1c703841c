-- Served over bytes: from every state of every row that meets the premises, six named calls, the line and each word as it was sent, end with
-- a new deed of this line. The proof is in proofs/ServedRow.antt. Assumes nothing.
--
-- Opens l                 what was locked opens again; proved of this code's own locks
-- login_word .. ask_word  the five words, by the drawn bytes that are left; done_word: the receipt
-- six_calls               the six calls by which reader a is served by v with words w, in system s
-- Ready                   what the six calls need
-- Served                  in every row that meets the premises, whoever is ready is served, at the same tick
use Rattle.std.specs.Prelude.{◌≡◌, ℕ, ◌+◌, ◌-◌, ◌^◌, ◌<◌, ◌≤◌, false, List, [], ◌∷◌, ◌++◌, length, drop, Some, None}
use Rattle.box_rules.specs.Chest.{Boxed, two_bytes}
use Rattle.box_rules.specs.Keys.{letter_keys}
use Rattle.box_rules.specs.Letter.{taken_after}
use Rattle.box_rules.specs.Line.{line_of, login_of, wanted_after}
use Rattle.box_rules.specs.declared.line.Line.{Line}
use Rattle.box_rules.specs.declared.line.Under.TheVariants.{Own as OwnKey}
use Rattle.byte_rows.specs.Premise.{Fair, Row}
use Rattle.byte_rows.specs.Row.{deeds, lines}
use Rattle.byte_rows.specs.System.{Basis, Bytewise, Call, brings, run, wants}
use Rattle.house_rules.specs.Account.{closed, own_key, unknown}
use Rattle.house_rules.specs.House.{until_of}
use Rattle.locked.specs.Locked.{Bytes, Locks, asking_lock, digest_of, letter_lock, login_lock, ours, receipt_lock, ticket_lock}
use Rattle.parts.specs.Drawn.{key_of, number_of, salt_of}
use Rattle.parts.specs.declared.lock.Lock.{Lock}
use Rattle.parts.specs.declared.word.Asking.{Asking}
use Rattle.parts.specs.declared.word.Key.{Key}
use Rattle.parts.specs.declared.word.Letter.{Letter}
use Rattle.parts.specs.declared.word.Ticket.{Ticket}
use Rattle.parts.specs.declared.word.What.{What}
use Rattle.rows.specs.Name.{draw_name, own_name}
use Rattle.rows.specs.Row.{Deed, Wanted}
use Rattle.rows.specs.Served.{AtWork, HouseAtWork}
use Rattle.rows.specs.System.{House, Reader, Service}
use Rattle.rows.specs.Word.{words_of}
use Rattle.service_rules.specs.Memory.{live_of, stands}
use Rattle.wire.specs.Word.{asking, login, receipt, ticket_and_letter, write_word}
use mathlib.Core.List.{Memᴰ}

-- what was locked opens again with its kind and key
abbrev pub Opens : Locks → Type 0
Opens l = (kind : ℕ) (key drawn inside : Bytes) → length drawn ≡ 16 → l.opens kind key (l.lock kind key drawn inside) ≡ Some inside

module _ (l : Locks) (s : Bytewise) (a v : ℕ) (w : What) where
  -- the house's and the box's drawn bytes, in the order in which they are used
  abbrev pub house_key : Key
  house_key = key_of s.home.left

  abbrev pub service_key : Key
  service_key = key_of (drop 64 s.home.left)

  abbrev pub the_line : Line
  the_line = line_of (s.box a) v w

  -- 1: the login
  abbrev pub login_word : Bytes
  login_word = write_word (login (s.box a).number (login_lock l (login_of (s.box a))))

  -- 2: the ticket for the house and its letter
  abbrev pub house_ticket : Lock Ticket
  house_ticket = record {
    key = s.home.key;
    salt = salt_of (drop 32 s.home.left);
    inside = record { service = 0; reader = a; key = house_key; until = until_of s.home };
  }

  abbrev pub house_letter : Lock Letter
  house_letter = record {
    key = own_key s.home.accounts a;
    salt = salt_of (drop 48 s.home.left);
    inside = record { number = number_of (s.box a).left; service = 0; key = house_key; until = until_of s.home };
  }

  abbrev pub grant_word : Bytes
  grant_word = write_word (ticket_and_letter (ticket_lock l house_ticket) (letter_lock l house_letter))

  -- 3: the asking for the house
  abbrev pub house_asking : Lock Asking
  house_asking = record {
    key = house_key;
    salt = salt_of (drop 16 (drop 32 (s.box a).left));
    inside = record { service = 0; number = number_of (drop 32 (s.box a).left); what = two_bytes v; tick = (s.box a).now };
  }

  abbrev pub house_word : Bytes
  house_word = write_word (asking (ticket_lock l house_ticket) (asking_lock l house_asking))

  -- 4: the ticket for the service and its letter
  abbrev pub service_ticket : Lock Ticket
  service_ticket = record {
    key = own_key s.home.accounts v;
    salt = salt_of (drop 32 (drop 64 s.home.left));
    inside = record { service = v; reader = a; key = service_key; until = until_of s.home };
  }

  abbrev pub service_letter : Lock Letter
  service_letter = record {
    key = house_key;
    salt = salt_of (drop 48 (drop 64 s.home.left));
    inside = record { number = number_of (drop 32 (s.box a).left); service = v; key = service_key; until = until_of s.home };
  }

  abbrev pub serve_word : Bytes
  serve_word = write_word (ticket_and_letter (ticket_lock l service_ticket) (letter_lock l service_letter))

  -- 5: the asking to the service
  abbrev pub service_asking : Lock Asking
  service_asking = record {
    key = service_key;
    salt = salt_of (drop 16 (drop 32 (drop 32 (s.box a).left)));
    inside = record { service = v; number = number_of (drop 32 (drop 32 (s.box a).left)); what = w; tick = (s.box a).now };
  }

  abbrev pub ask_word : Bytes
  ask_word = write_word (asking (ticket_lock l service_ticket) (asking_lock l service_asking))

  -- 6: the receipt of the service
  abbrev pub done_word : Bytes
  done_word =
      write_word (receipt (receipt_lock l (record {
        key = service_key;
        salt = salt_of (s.side v).left;
        inside = record { number = number_of (drop 32 (drop 32 (s.box a).left)) };
      })))

  -- the newest first: the line, and each word brought to whom it is for
  abbrev pub six_calls : List Call
  six_calls =
      brings (Service v) ask_word
      ∷ brings (Reader a) serve_word
      ∷ brings House house_word
      ∷ brings (Reader a) grant_word
      ∷ brings House login_word
      ∷ wants a v None w
      ∷ []

  -- the box when the second letter comes
  abbrev pub box_then : Boxed Bytes
  box_then = taken_after (wanted_after (s.box a) v None w) OwnKey house_letter.inside (ticket_lock l house_ticket)

  -- the line, at its place in the row, and the deed, five calls later, at the tick of the line
  abbrev pub wanted_line : ℕ → Wanted
  wanted_line p = record { place = p; reader = a; service = v; what = words_of w; at = s.home.side.now }

  abbrev pub new_deed : ℕ → Deed
  new_deed p = record {
    place = p + 5;
    service = v;
    reader = a;
    key = service_key.0;
    number = (number_of (drop 32 (drop 32 (s.box a).left))).0;
    what = words_of w;
    at = s.home.side.now;
    stolen = s.stolen;
  }

-- what the six calls need: both accounts are there, the reader's is not closed; all who take part are at work; the two numbers that the box
-- waits for are new, and the house's key is no own key. For Served alone: the two digests do not meet any that is remembered, and no other
-- key that the box tries opens the second letter.
pub record Ready (l : Locks) (c : Basis) (s : Bytewise) (a v : ℕ) (w : What) : Type 0 where
  pub known : unknown s.home.accounts a ≡ false
  pub is_open : closed s.home.accounts a ≡ false
  pub service_known : unknown s.home.accounts v ≡ false
  pub words : w.len ≤ 1024
  pub house_at_work : HouseAtWork s.home
  pub at_work : AtWork (s.side v)
  pub drawn : 96 ≤ length (s.box a).left
  pub lines : (s.box a).lines < 2 ^ 64 - 1
  pub tickets : (s.box a).taken + 1 < 2 ^ 64 - 1
  pub first_new : draw_name s.used (number_of (s.box a).left).0 ≡ None
  pub second_new : draw_name s.used (number_of (drop 32 (s.box a).left)).0 ≡ None
  pub no_own_key : own_name c.own 0 (house_key l s a v w).0 ≡ None
  pub house_digest : stands (digest_of l (house_key l s a v w) (number_of (drop 32 (s.box a).left))) (live_of s.home.side.now s.home.side.lag s.home.kept) ≡ false
  pub digest : stands (digest_of l (service_key l s a v w) (number_of (drop 32 (drop 32 (s.box a).left)))) (live_of (s.side v).side.now (s.side v).side.lag (s.side v).kept) ≡ false
  pub one_key : (k : Key) (x : Bytes) → Memᴰ k (letter_keys (box_then l s a v w)) → l.opens 2 k.0 (letter_lock l (service_letter l s a v w)) ≡ Some x → k ≡ house_key l s a v w

-- how the six calls end, upon a row: the deed and the line are new, each word that was brought was sent, and nothing is stolen or told on the way
pub record Ends (l : Locks) (c : Basis) (t : ℕ) (es : List Call) (a v : ℕ) (w : What) : Type 0 where
  pub deed : deeds l c t (six_calls l (run l c t es) a v w ++ es) ≡ new_deed l (run l c t es) a v w (length es) ∷ deeds l c t es
  pub line : lines l c t (six_calls l (run l c t es) a v w ++ es) ≡ wanted_line l (run l c t es) a v w (length es) ∷ lines l c t es
  pub sent : (run l c t (six_calls l (run l c t es) a v w ++ es)).words
      ≡ done_word l (run l c t es) a v w
      ∷ ask_word l (run l c t es) a v w
      ∷ serve_word l (run l c t es) a v w
      ∷ house_word l (run l c t es) a v w
      ∷ grant_word l (run l c t es) a v w
      ∷ login_word l (run l c t es) a v w
      ∷ (run l c t es).words
  pub stolen : (run l c t (six_calls l (run l c t es) a v w ++ es)).stolen ≡ (run l c t es).stolen
  pub accounts : (run l c t (six_calls l (run l c t es) a v w ++ es)).home.accounts ≡ (run l c t es).home.accounts
  pub house : (run l c t (six_calls l (run l c t es) a v w ++ es)).home.side ≡ (run l c t es).home.side
  pub sides : (j : ℕ) → ((run l c t (six_calls l (run l c t es) a v w ++ es)).side j).side ≡ ((run l c t es).side j).side
  pub boxes : (k : ℕ) → ((run l c t (six_calls l (run l c t es) a v w ++ es)).box k).now ≡ ((run l c t es).box k).now

-- in every row that meets the premises, whoever is ready is served
abbrev pub Served : (l : Locks) → Basis → Type 0
Served l c = (t : ℕ) (es : List Call) → Row l c t es → (a v : ℕ) (w : What) → Ready l c (run l c t es) a v w → Ends l c t es a v w

-- with every fair way to lock that opens what was locked, and with the locks of this code
abbrev pub ServedByAll : Type 0
ServedByAll = (l : Locks) → Fair l → Opens l → (c : Basis) → Served l c

abbrev pub ServedByOurs : Type 0
ServedByOurs = (c : Basis) → Served ours c
