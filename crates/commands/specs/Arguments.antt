-- What an argument of a line says. Assumes nothing.
--   xOf s     what the word s says
--   xThen s   the same of the word that s begins with, and what comes after its space
use Rattle.std.specs.Prelude.{ℕ, Bool, true, false, cond, List, length, drop, Some, None, codes, Option, ◌==◌, slice_index}
use Rattle.std.specs.Str.{bytes_eq}
use Rattle.seal.specs.Kind.{numbered}
use Rattle.seal.specs.declared.kind.Kind.{Kind}
use Rattle.seal.specs.declared.kind.Kind.TheVariants as kind
use Rattle.parts.specs.declared.word.Key.{Key}
use Rattle.words.specs.Text.{and_then, word_then, cut_at, decimal_of, principal_of, short_of, key_of}
use Rattle.commands.specs.Left.{Left}
use Rattle.held.specs.declared.cut.Cut.TheVariants as left
use Rattle.commands.specs.declared.line.Piece.{Piece}
use Rattle.commands.specs.declared.line.Place.{Place}
use Rattle.commands.specs.declared.line.Place.TheVariants as place
use Rattle.commands.specs.declared.line.Side.{Side}
use Rattle.commands.specs.declared.line.Side.TheVariants as side

-- a ticket's id, or none
abbrev pub ticket_of : List ℕ → Option (Option ℕ)
ticket_of s = cond (bytes_eq s (codes "none")) (Some None) (and_then (decimal_of s) (λ n. Some (Some n)))

abbrev pub ticket_then : List ℕ → Option (Option ℕ × List ℕ)
ticket_then s = word_then ticket_of s

-- the first byte of a word, and the others
abbrev pub initial_of : List ℕ → Option (ℕ × List ℕ)
initial_of s = cond (length s == 0) None (Some (slice_index s 0, drop 1 s))

-- s is a service, r a reader's box
abbrev pub lettered : ℕ → ℕ → Option Side
lettered b n = cond (b == 115) (Some (side.Service n)) (cond (b == 114) (Some (side.Reader n)) None)

-- the house, or a letter with a principal's number
abbrev pub side_of : List ℕ → Option Side
side_of s = cond (bytes_eq s (codes "house")) (Some side.House)
    (and_then (initial_of s) (λ p. and_then (principal_of p.1) (lettered p.0)))

abbrev pub side_then : List ℕ → Option (Side × List ℕ)
side_then s = word_then side_of s

-- a word has a first and a second lock
abbrev pub place_of : List ℕ → Option Place
place_of s = cond (bytes_eq s (codes "1")) (Some place.First)
    (cond (bytes_eq s (codes "2")) (Some place.Second) None)

-- a word's number, a dot, and which of its locks
abbrev pub piece_of : List ℕ → Option Piece
piece_of s =
    and_then (cut_at 46 s) (λ p.
    and_then (decimal_of p.0) (λ n.
    and_then (place_of p.1) (λ i.
    Some (record { word = n; place = i }))))

abbrev pub piece_then : List ℕ → Option (Piece × List ℕ)
piece_then s = word_then piece_of s

-- the kinds of locks are 1 to 5
abbrev pub kind_numbered : ℕ → Option Kind
kind_numbered n = numbered n

abbrev pub kind_of : List ℕ → Option Kind
kind_of s = and_then (decimal_of s) kind_numbered

abbrev pub kind_then : List ℕ → Option (Kind × List ℕ)
kind_then s = word_then kind_of s

abbrev pub key_then : List ℕ → Option (Key × List ℕ)
key_then s = word_then key_of s

-- a number that two bytes hold, and what comes after
abbrev pub short_then : List ℕ → Option (ℕ × List ℕ)
short_then s = word_then short_of s

-- what a cut write leaves
abbrev pub left_of : List ℕ → Option Left
left_of s = cond (bytes_eq s (codes "old")) (Some left.Old)
    (cond (bytes_eq s (codes "new")) (Some (left.New tt))
    (cond (bytes_eq s (codes "junk")) (Some left.Junk) None))

-- whether a device writes
abbrev pub writes_of : List ℕ → Option Bool
writes_of s = cond (bytes_eq s (codes "ok")) (Some true)
    (cond (bytes_eq s (codes "fail")) (Some false) None)
