-- What a line of a script says. Assumes nothing.
--   line_of t, rest_of t  the first line of a text, and what comes after its end
--   read_of s             what the line s says; None where it can't be read
use Rattle.std.specs.Prelude.{ℕ, Bool, cond, ◌||◌, List, [], length, Some, None, Option, ◌==◌, nat_lt, slice_index}
use Rattle.words.specs.Text.{and_then, cut_at, decimal_of, hex_of, key_of, decimal_then, principal_then}
use Rattle.commands.specs.declared.line.Account.{Account}
use Rattle.commands.specs.declared.line.Join.{Join}
use Rattle.commands.specs.declared.line.Join.TheVariants as join
use Rattle.commands.specs.Left.{Left}
use Rattle.commands.specs.declared.line.Opening.{Opening}
use Rattle.commands.specs.declared.line.Settings.{Settings}
use Rattle.commands.specs.declared.line.Side.{Side}
use Rattle.commands.specs.declared.verbs.Verb.{Verb}
use Rattle.commands.specs.declared.verbs.Verb.TheVariants as verb
use Rattle.commands.specs.Arguments.{ticket_then, side_of, side_then, piece_of, piece_then, kind_then, key_then, short_then, left_of, writes_of}
use Rattle.commands.specs.Said as say
use Rattle.commands.specs.Verbs.{verb_of}

-- a line ends at LF, and the last one at the end of the text
abbrev pub line_of : List ℕ → List ℕ
line_of t = elim (cut_at 10 t) [ None ↦ t | Some p ↦ p.0 ]

abbrev pub rest_of : List ℕ → List ℕ
rest_of t = elim (cut_at 10 t) [ None ↦ [] | Some p ↦ p.1 ]

-- TICK LIFE LAG SEED
abbrev pub settings_of : List ℕ → Option Settings
settings_of s =
    and_then (decimal_then s) (λ a.
    and_then (decimal_then a.1) (λ b.
    and_then (decimal_then b.1) (λ c.
    and_then (key_of c.1) (λ k.
    Some (record { tick = a.0; life = b.0; lag = c.0; seed = k })))))

-- N KEY
abbrev pub account_of : List ℕ → Option Account
account_of s =
    and_then (principal_then s) (λ n.
    and_then (key_of n.1) (λ k.
    Some (record { number = n.0; key = k })))

-- READER SERVICE TICKET WHAT
abbrev pub wish_of : List ℕ → Option say.Wish
wish_of s =
    and_then (decimal_then s) (λ a.
    and_then (decimal_then a.1) (λ b.
    and_then (ticket_then b.1) (λ c.
    and_then (hex_of c.1) (λ what.
    Some (record { reader = a.0; service = b.0; ticket = c.0; what = what })))))

-- W SIDE
abbrev pub repeat_of : List ℕ → Option (ℕ × Side)
repeat_of s = and_then (decimal_then s) (λ n. and_then (side_of n.1) (λ at. Some (n.0, at)))

-- READER W.I
abbrev pub login_of : List ℕ → Option Join
login_of s = and_then (short_then s) (λ n. and_then (piece_of n.1) (λ a. Some (join.Login n.0 a)))

-- W.I W.J, a ticket and a letter
abbrev pub letter_of : List ℕ → Option Join
letter_of s = and_then (piece_then s) (λ a. and_then (piece_of a.1) (λ b. Some (join.Letter a.0 b)))

-- W.I W.J, a ticket and an asking
abbrev pub asking_of : List ℕ → Option Join
asking_of s = and_then (piece_then s) (λ a. and_then (piece_of a.1) (λ b. Some (join.Asking a.0 b)))

-- a word of an outer kind: 1 of a login, 2 of a ticket and a letter, 3 of an asking
abbrev pub join_numbered : ℕ → List ℕ → Option Join
join_numbered n s =
    cond (n == 1) (login_of s) (cond (n == 2) (letter_of s) (cond (n == 3) (asking_of s) None))

abbrev pub join_of : List ℕ → Option Join
join_of s = and_then (decimal_then s) (λ n. join_numbered n.0 n.1)

-- KIND KEY INSIDE
abbrev pub making_of : List ℕ → Option say.Making
making_of s =
    and_then (kind_then s) (λ a.
    and_then (key_then a.1) (λ b.
    and_then (hex_of b.1) (λ inside.
    Some (record { kind = a.0; key = b.0; inside = inside }))))

-- W.I KIND KEY
abbrev pub opening_of : List ℕ → Option Opening
opening_of s =
    and_then (piece_then s) (λ a.
    and_then (kind_then a.1) (λ b.
    and_then (key_of b.1) (λ k.
    Some (record { lock = a.0; kind = b.0; key = k }))))

-- SIDE and what a cut write leaves
abbrev pub cut_of : List ℕ → Option (Side × Left)
cut_of s = and_then (side_then s) (λ a. and_then (left_of a.1) (λ x. Some (a.0, x)))

-- SIDE and whether its device writes
abbrev pub device_of : List ℕ → Option (Side × Bool)
device_of s = and_then (side_then s) (λ a. and_then (writes_of a.1) (λ x. Some (a.0, x)))

-- what a verb says of the words after it
abbrev pub says_of : Verb → List ℕ → Option say.Said
says_of verb.Town s = and_then (settings_of s) (λ x. Some (say.Town x))
says_of verb.Reader s = and_then (account_of s) (λ x. Some (say.Reader x))
says_of verb.Service s = and_then (account_of s) (λ x. Some (say.Service x))
says_of verb.Tick s = and_then (decimal_of s) (λ x. Some (say.Tick x))
says_of verb.Want s = and_then (wish_of s) (λ x. Some (say.Want x))
says_of verb.Close s = and_then (decimal_of s) (λ x. Some (say.Close x))
says_of verb.Hold s = and_then (decimal_of s) (λ x. Some (say.Hold x))
says_of verb.Repeat s = and_then (repeat_of s) (λ x. Some (say.Repeat x.0 x.1))
says_of verb.Join s = and_then (join_of s) (λ x. Some (say.Join x))
says_of verb.Steal s = and_then (decimal_of s) (λ x. Some (say.Steal x))
says_of verb.Lock s = and_then (making_of s) (λ x. Some (say.Lock x))
says_of verb.Unlock s = and_then (opening_of s) (λ x. Some (say.Unlock x))
says_of verb.Bytes s = and_then (hex_of s) (λ x. Some (say.Bytes x))
says_of verb.Fall s = and_then (side_of s) (λ x. Some (say.Fall x))
says_of verb.Cut s = and_then (cut_of s) (λ x. Some (say.Cut x.0 x.1))
says_of verb.Device s = and_then (device_of s) (λ x. Some (say.Device x.0 x.1))

-- a verb, a space, and what it says
abbrev pub saying_of : List ℕ → Option say.Said
saying_of s =
    and_then (cut_at 32 s) (λ p. and_then (verb_of p.0) (λ v. says_of v p.1))

-- an empty line, or a comment
abbrev pub silent : List ℕ → Bool
silent s = length s == 0 || slice_index s 0 == 35

-- a line of more than 1,048,576 bytes can't be read
abbrev pub read_of : List ℕ → Option say.Said
read_of s = cond (nat_lt 1048576 (length s)) None (cond (silent s) (Some say.Blank) (saying_of s))
