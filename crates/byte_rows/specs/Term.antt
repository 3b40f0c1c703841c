-- From bytes to the model's terms, by all that was drawn and made in a whole run. Assumes nothing.
--
-- Content          what stands in a lock, read; read_as: by its kind
-- Whole            all draws and all locks of a whole run; name_in: what key or number some bytes are
-- lock_term        the first lock made with these bytes, as a term; bytes that nobody made are what anybody can write
-- word_term        a word is the pair of its pieces; what can't be framed is what anybody can write
-- air_of s         all that was sent and stolen so far
use Rattle.std.specs.Prelude.{ℕ, cond, List, [], ◌∷◌, ◌++◌, map, Ok, Err, Result, ◌==◌}
use Rattle.byte_rows.specs.System.{Basis, Bytewise, Made, lock_of}
use Rattle.contents.specs.Inside.{read_asking, read_letter, read_login, read_receipt, read_ticket}
use Rattle.locked.specs.Locked.{Bytes, Locks, asking_ok}
use Rattle.parts.specs.Fault.{class_number}
use Rattle.parts.specs.declared.fault.Fault.{Fault}
use Rattle.parts.specs.declared.word.Asking.{Asking}
use Rattle.parts.specs.declared.word.Letter.{Letter}
use Rattle.parts.specs.declared.word.Login.{Login}
use Rattle.parts.specs.declared.word.Receipt.{Receipt}
use Rattle.parts.specs.declared.word.Ticket.{Ticket}
use Rattle.rows.specs.Name.{name_of, spell}
use Rattle.rows.specs.Word.{body_of, what_term}
use Rattle.std.specs.Str.{bytes_eq}
use Rattle.tickets.specs.Event.{body_term}
use Rattle.tickets.specs.Term.{Lock, Num, Own, Pair, Term}
use Rattle.wire.specs.Word.{Frame, framed}
use Rattle.wire.specs.Word as frame

-- what stands in a lock; what can't be read stays bytes
pub data Content : Type 0 where
  ticket : Ticket → Content
  letter : Letter → Content
  asking : Asking → Content
  login : Login → Content
  receipt : Receipt → Content
  other : Bytes → Content

-- what was read, or the bytes
abbrev pub read_or : {X : Type 0} → (X → Content) → Bytes → Result X Fault → Content
read_or f bs (Ok x) = f x
read_or f bs (Err e) = other bs

-- an inside, read as a kind of lock has it
abbrev pub read_as : ℕ → Bytes → Content
read_as kind bs =
    cond (kind == 1) (read_or ticket bs (read_ticket bs))
    (cond (kind == 2) (read_or letter bs (read_letter bs))
    (cond (kind == 3) (read_or asking bs (asking_ok (read_asking bs)))
    (cond (kind == 4) (read_or login bs (read_login bs)) (cond (kind == 5) (read_or receipt bs (read_receipt bs)) (other bs)))))

-- a content as a term, by the names of keys and numbers
abbrev pub content_term : (Bytes → Term) → Content → Term
content_term name (ticket t) = body_term (body_of name t)
content_term name (letter x) = Pair (name x.number.0) (Pair (Num x.service) (Pair (name x.key.0) (Num x.until)))
content_term name (asking q) = Pair (Num q.service) (Pair (name q.number.0) (Pair (what_term q) (Num q.tick)))
content_term name (login x) = Pair (name x.number.0) (Num x.tick)
content_term name (receipt x) = name x.number.0
content_term name (other bs) = spell bs

-- draws: the keys and numbers drawn; made: the locks made; in a whole run, the newest first
pub record Whole : Type 0 where
  pub draws : List Bytes
  pub made : List Made

module _ (l : Locks) (c : Basis) (g : Whole) where
  -- what key or number these bytes are
  abbrev pub name_in : Bytes → Term
  name_in bs = name_of c.own g.draws bs

  -- an inside that was read as a kind of lock has it
  abbrev pub inside_term : ℕ → Bytes → Term
  inside_term kind bs = content_term name_in (read_as kind bs)

  -- a lock that was made
  abbrev pub made_term : Made → Term
  made_term m = Lock m.kind (name_in m.key) (inside_term m.kind m.inside)

  -- the first of these locks that has these bytes, else the bytes
  unfoldable pub term_among : List Made → Bytes → Term
  term_among [] w = spell w
  term_among (m ∷ ms) w = cond (bytes_eq (lock_of l m) w) (made_term m) (term_among ms w)

  abbrev pub lock_term : Bytes → Term
  lock_term w = term_among g.made w

  abbrev pub frame_term : Frame → Term
  frame_term (frame.login reader lock) = Pair (Num reader) (lock_term lock)
  frame_term (frame.ticket_and_letter t x) = Pair (lock_term t) (lock_term x)
  frame_term (frame.asking t q) = Pair (lock_term t) (lock_term q)
  frame_term (frame.receipt lock) = lock_term lock
  frame_term (frame.refusal class) = Num (class_number class)

  -- a word by its pieces, if it can be framed
  abbrev pub framed_term : Bytes → Result Frame Fault → Term
  framed_term w (Ok f) = frame_term f
  framed_term w (Err e) = spell w

  abbrev pub word_term : Bytes → Term
  word_term w = framed_term w (framed w)

  -- the own keys that were stolen and the words that were sent
  abbrev pub air_of : Bytewise → List Term
  air_of s = map Own s.stolen ++ map word_term s.words
