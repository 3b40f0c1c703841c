-- What holds of the lines that are read. Assumes nothing.
--   x_text x     how x is written
--   line_text l  how a line is written that says l
--   Plain l      l says something, in numbers below the one that stands for all larger
use Rattle.std.specs.Prelude.{◌≡◌, ℕ, ◌-◌, ◌^◌, ◌<◌, Bool, true, false, List, [], ◌∷◌, ◌++◌, Some, None, codes, decimal, Option}
use Rattle.seal.specs.Kind.{number_of}
use Rattle.seal.specs.declared.kind.Kind.{Kind}
use Rattle.parts.specs.declared.word.Key.{Key}
use Rattle.words.specs.Laws.{hex_text, bytes_text}
use Rattle.commands.specs.declared.line.Account.{Account}
use Rattle.commands.specs.declared.line.Join.{Join}
use Rattle.commands.specs.declared.line.Join.TheVariants as join
use Rattle.commands.specs.Left.{Left}
use Rattle.held.specs.declared.cut.Cut.TheVariants as left
use Rattle.commands.specs.declared.line.Opening.{Opening}
use Rattle.commands.specs.declared.line.Piece.{Piece}
use Rattle.commands.specs.declared.line.Place.{Place}
use Rattle.commands.specs.declared.line.Place.TheVariants as place
use Rattle.commands.specs.declared.line.Settings.{Settings}
use Rattle.commands.specs.declared.line.Side.{Side}
use Rattle.commands.specs.declared.line.Side.TheVariants as side
use Rattle.commands.specs.Grammar.{read_of}
use Rattle.commands.specs.Said as say

-- two texts with a space between them
abbrev pub spaced : List ℕ → List ℕ → List ℕ
spaced a b = a ++ (32 ∷ b)

abbrev pub key_text : Key → List ℕ
key_text k = hex_text k.0

abbrev pub kind_text : Kind → List ℕ
kind_text k = decimal (number_of k)

abbrev pub ticket_text : Option ℕ → List ℕ
ticket_text None = codes "none"
ticket_text (Some n) = decimal n

abbrev pub side_text : Side → List ℕ
side_text side.House = codes "house"
side_text (side.Service n) = 115 ∷ decimal n
side_text (side.Reader n) = 114 ∷ decimal n

abbrev pub place_text : Place → List ℕ
place_text place.First = codes "1"
place_text place.Second = codes "2"

abbrev pub piece_text : Piece → List ℕ
piece_text p = decimal p.word ++ (46 ∷ place_text p.place)

abbrev pub left_text : Left → List ℕ
left_text left.Old = codes "old"
left_text (left.New x) = codes "new"
left_text left.Junk = codes "junk"

abbrev pub writes_text : Bool → List ℕ
writes_text true = codes "ok"
writes_text false = codes "fail"

abbrev pub settings_text : Settings → List ℕ
settings_text x = spaced (decimal x.tick) (spaced (decimal x.life) (spaced (decimal x.lag) (key_text x.seed)))

abbrev pub account_text : Account → List ℕ
account_text a = spaced (decimal a.number) (key_text a.key)

abbrev pub wish_text : say.Wish → List ℕ
wish_text w = spaced (decimal w.reader) (spaced (decimal w.service) (spaced (ticket_text w.ticket) (bytes_text w.what)))

abbrev pub join_text : Join → List ℕ
join_text (join.Login n p) = spaced (decimal 1) (spaced (decimal n) (piece_text p))
join_text (join.Letter p q) = spaced (decimal 2) (spaced (piece_text p) (piece_text q))
join_text (join.Asking p q) = spaced (decimal 3) (spaced (piece_text p) (piece_text q))

abbrev pub making_text : say.Making → List ℕ
making_text m = spaced (kind_text m.kind) (spaced (key_text m.key) (bytes_text m.inside))

abbrev pub opening_text : Opening → List ℕ
opening_text o = spaced (piece_text o.lock) (spaced (kind_text o.kind) (key_text o.key))

-- an empty line stands for all that are passed over
abbrev pub line_text : say.Said → List ℕ
line_text say.Blank = []
line_text (say.Town x) = spaced (codes "town") (settings_text x)
line_text (say.Reader a) = spaced (codes "reader") (account_text a)
line_text (say.Service a) = spaced (codes "service") (account_text a)
line_text (say.Tick n) = spaced (codes "tick") (decimal n)
line_text (say.Want w) = spaced (codes "want") (wish_text w)
line_text (say.Close n) = spaced (codes "close") (decimal n)
line_text (say.Hold n) = spaced (codes "hold") (decimal n)
line_text (say.Repeat n at) = spaced (codes "repeat") (spaced (decimal n) (side_text at))
line_text (say.Join j) = spaced (codes "join") (join_text j)
line_text (say.Steal n) = spaced (codes "steal") (decimal n)
line_text (say.Lock m) = spaced (codes "lock") (making_text m)
line_text (say.Unlock o) = spaced (codes "unlock") (opening_text o)
line_text (say.Bytes b) = spaced (codes "bytes") (bytes_text b)
line_text (say.Fall at) = spaced (codes "fall") (side_text at)
line_text (say.Cut at x) = spaced (codes "cut") (spaced (side_text at) (left_text x))
line_text (say.Device at x) = spaced (codes "device") (spaced (side_text at) (writes_text x))

-- a number below the one that stands for all larger
abbrev pub Small : ℕ → Type 0
Small n = n < 2 ^ 64 - 1

abbrev pub SmallTicket : Option ℕ → Type 0
SmallTicket None = Unit {0}
SmallTicket (Some n) = Small n

abbrev pub SmallPiece : Piece → Type 0
SmallPiece p = Small p.word

abbrev pub SmallJoin : Join → Type 0
SmallJoin (join.Login n p) = SmallPiece p
SmallJoin (join.Letter p q) = SmallPiece p × SmallPiece q
SmallJoin (join.Asking p q) = SmallPiece p × SmallPiece q

abbrev pub Plain : say.Said → Type 0
Plain say.Blank = ⊥
Plain (say.Town x) = Small x.tick × Small x.life × Small x.lag
Plain (say.Reader a) = Unit {0}
Plain (say.Service a) = Unit {0}
Plain (say.Tick n) = Small n
Plain (say.Want w) = Small w.reader × Small w.service × SmallTicket w.ticket
Plain (say.Close n) = Small n
Plain (say.Hold n) = Small n
Plain (say.Repeat n at) = Small n
Plain (say.Join j) = SmallJoin j
Plain (say.Steal n) = Small n
Plain (say.Lock m) = Unit {0}
Plain (say.Unlock o) = SmallPiece o.lock
Plain (say.Bytes b) = Unit {0}
Plain (say.Fall at) = Unit {0}
Plain (say.Cut at x) = Unit {0}
Plain (say.Device at x) = Unit {0}

-- a line is read from the text that writes it, and from no other
abbrev pub LinesAreExact : Type 0
LinesAreExact = (s : List ℕ) (l : say.Said) → read_of s ≡ Some l → Plain l → s ≡ line_text l
