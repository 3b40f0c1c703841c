-- What a line says, with the bytes that it gives. Assumes nothing.
--   Said     what a line says
--   said l   what the line l says, its words of hex being read as bytes
use Rattle.std.specs.Prelude.{ℕ, Bool, List, Option}
use Rattle.seal.specs.declared.kind.Kind.{Kind}
use Rattle.parts.specs.declared.word.Key.{Key}
use Rattle.words.specs.Text.{bytes_of}
use Rattle.commands.specs.declared.line.Account.{Account}
use Rattle.commands.specs.declared.line.Join.{Join as Joined}
use Rattle.commands.specs.Left.{Left}
use Rattle.commands.specs.declared.line.Line.{Line}
use Rattle.commands.specs.declared.line.Line.TheVariants as line
use Rattle.commands.specs.declared.line.NewLock.{NewLock}
use Rattle.commands.specs.declared.line.Opening.{Opening}
use Rattle.commands.specs.declared.line.Settings.{Settings}
use Rattle.commands.specs.declared.line.Side.{Side}
use Rattle.commands.specs.declared.line.Want.{Want as Wanted}

-- a reader's line: who, of which service, by which ticket, and what
pub record Wish : Type 0 where
  pub reader : ℕ
  pub service : ℕ
  pub ticket : Option ℕ
  pub what : List ℕ

-- a lock to be made: its kind, its key, and what is inside
pub record Making : Type 0 where
  pub kind : Kind
  pub key : Key
  pub inside : List ℕ

pub data Said : Type 0 where
  Blank : Said
  Town : Settings → Said
  Reader : Account → Said
  Service : Account → Said
  Tick : ℕ → Said
  Want : Wish → Said
  Close : ℕ → Said
  Hold : ℕ → Said
  Repeat : ℕ → Side → Said
  Join : Joined → Said
  Steal : ℕ → Said
  Lock : Making → Said
  Unlock : Opening → Said
  Bytes : List ℕ → Said
  Fall : Side → Said
  Cut : Side → Left → Said
  Device : Side → Bool → Said

abbrev pub wished : Wanted → Wish
wished w = record { reader = w.reader; service = w.service; ticket = w.ticket; what = bytes_of w.what.now }

abbrev pub making : NewLock → Making
making m = record { kind = m.kind; key = m.key; inside = bytes_of m.inside.now }

abbrev pub said : Line → Said
said line.Blank = Blank
said (line.Town x) = Town x
said (line.Reader a) = Reader a
said (line.Service a) = Service a
said (line.Tick n) = Tick n
said (line.Want w) = Want (wished w)
said (line.Close n) = Close n
said (line.Hold n) = Hold n
said (line.Repeat n at) = Repeat n at
said (line.Join j) = Join j
said (line.Steal n) = Steal n
said (line.Lock m) = Lock (making m)
said (line.Unlock o) = Unlock o
said (line.Bytes b) = Bytes (bytes_of b.now)
said (line.Fall at) = Fall at
said (line.Cut at left) = Cut at left
said (line.Device at writes) = Device at writes
