-- A box whose tickets are seen in another way: nothing that a box does looks into a ticket. Assumes nothing.
--
-- held_by f h    a ticket held, seen through f
-- boxed_by f b   a box whose tickets are seen through f
use Rattle.std.specs.Prelude.{map}
use Rattle.box_rules.specs.Chest.{Boxed}
use Rattle.box_rules.specs.declared.line.Held.{Held}

-- what is known of it stays
abbrev pub held_by : {T U : Type 0} → (T → U) → Held T → Held U
held_by f h = record { pass = h.pass; ticket = f h.ticket }

abbrev pub boxed_by : {T U : Type 0} → (T → U) → Boxed T → Boxed U
boxed_by f b = record {
  number = b.number;
  key = b.key;
  now = b.now;
  lines = b.lines;
  taken = b.taken;
  logins = b.logins;
  tickets = map (held_by f) b.tickets;
  askings = b.askings;
  left = b.left;
}
