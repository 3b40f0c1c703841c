-- The row of specs/Happens.antt can happen. Assumes nothing.
use Rattle.std.proofs.Common.{List, [], ◌∷◌, replicate, refl, arith}
use mathlib.Core.List.Memᴰ
use Rattle.parts.specs.Condition.{first_fault}
use Rattle.tickets.specs.Term.{has}
use Rattle.rows.specs.Name.{Bytes, Naming, name_of, own_name, draw_name}
use Rattle.rows.specs.System.{Possible, Alone, run}
use Rattle.rows.specs.Served.{Ready}
use Rattle.rows.specs.Happens.{CanHappen, setting, happens, before, begun, words}
use Rattle.rows.proofs.Names.{key_name, name-apart, own-named}

-- the draws that are used, the newest first
abbrev draws : List Bytes
draws = replicate 16 13 ∷ replicate 32 22 ∷ replicate 16 12 ∷ replicate 32 21 ∷ replicate 16 11 ∷ []

-- the naming by the own keys and these draws
abbrev pub n : Naming setting.own
n =
    record {
      name = name_of setting.own draws;
      key_of = key_name setting.own draws;
      apart = name-apart setting.own draws;
      of_own = own-named setting.own draws;
    }

reader : Alone setting n 1
unfolding own_name
reader = record { there = omega arith; alone = refl }

-- the accounts, with the keys that their numbers have
before-can : Possible setting n 10 before
before-can = (tt, (tt, (tt, (record { there = omega arith; own = refl }, (record { there = omega arith; own = refl }, (record { there = omega arith; own = refl }, omega arith))))))

-- the five acts up to the asking
begun-can : Possible setting n 10 begun
unfolding first_fault own_name draw_name
begun-can = (
  record { reader = reader; letter_heard = has (Memᴰ.tail (Memᴰ.head refl)); new = refl },
  (
    record { ticket = has (Memᴰ.tail (Memᴰ.head refl)); asking = has (Memᴰ.head refl); new = refl },
    (
      record { reader = reader; letter_heard = has (Memᴰ.tail (Memᴰ.head refl)); new = refl },
      (
        record { reader = reader; login = has (Memᴰ.head refl); new = refl },
        (record { reader = reader; new = refl }, (tt, (omega arith, before-can))),
      ),
    ),
  ),
)

-- the same asking comes again and again
pub happens-can : Possible setting n 10 happens
unfolding first_fault own_name draw_name
happens-can = (
  tt,
  (
    omega arith,
    (
      tt,
      (
        record { a_service = λ e. omega arith; there = omega arith; ticket = has (Memᴰ.tail (Memᴰ.tail (Memᴰ.head refl))); asking = has (Memᴰ.tail (Memᴰ.head refl)) },
        (
          record { a_service = λ e. omega arith; there = omega arith; ticket = has (Memᴰ.tail (Memᴰ.head refl)); asking = has (Memᴰ.head refl) },
          (
            tt,
            (
              record { a_service = λ e. omega arith; there = omega arith; ticket = has (Memᴰ.tail (Memᴰ.head refl)); asking = has (Memᴰ.head refl) },
              begun-can,
            ),
          ),
        ),
      ),
    ),
  ),
)

-- before the crash, what the six acts need is there
ready-before : Ready setting n (run setting n 10 before) 1 2 words
unfolding own_name draw_name
ready-before =
    record {
      reader = reader;
      known = refl;
      is_open = refl;
      service_known = refl;
      words = omega arith;
      house_at_work = record { awake = refl; writes = refl; room = omega arith; drawn = omega arith };
      at_work = record { awake = refl; writes = refl; room = omega arith; drawn = omega arith };
      box_at_work = record { drawn = omega arith; lines = omega arith; tickets = omega arith };
      draws = (refl, (refl, (refl, (refl, (refl, tt)))));
      house_digest = refl;
      digest = refl;
    }

pub can-happen : CanHappen
unfolding first_fault own_name
can-happen =
    record {
      naming = n;
      possible = happens-can;
      deed = refl;
      line = refl;
      waits = refl;
      again = refl;
      is-closed = refl;
      stolen = refl;
      before_possible = before-can;
      ready = ready-before;
    }
