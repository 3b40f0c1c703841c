-- The row and the cases of specs/Example.antt. Assumes nothing.
use Rattle.std.proofs.Common.{◌≡◌, ℕ, zero, suc, ◌<◌, length, refl, arith}
use Rattle.parts.specs.Condition.{first_fault}
use Rattle.rows.specs.Happens.{setting}
use Rattle.rows.specs.Name.{own_name}
use Rattle.rows.proofs.HappensRow.{happens-can, n}
use Rattle.judge.specs.Example.{Met, Worked, judge_there}
use Rattle.judge.specs.Hearing.{Introduced}
use Rattle.rows.specs.Happens.{happens}

-- four numbers have own keys, and no two the same
named-there : (m : ℕ) → m < length setting.own → n.key_of m < length setting.own
unfolding own_name
named-there zero h = omega arith
named-there (suc zero) h = omega arith
named-there (suc (suc zero)) h = omega arith
named-there (suc (suc (suc zero))) h = omega arith
named-there (suc (suc (suc (suc m)))) h = absurd (omega arith)

named-same : (m : ℕ) → m < length setting.own → n.key_of (n.key_of m) ≡ n.key_of m
unfolding own_name
named-same zero h = refl
named-same (suc zero) h = refl
named-same (suc (suc zero)) h = refl
named-same (suc (suc (suc zero))) h = refl
named-same (suc (suc (suc (suc m)))) h = absurd (omega arith)

introduced : Introduced setting n judge_there 10 happens
unfolding first_fault own_name
introduced =
    (tt, (refl, (tt, (record { of_service = refl; of_house = refl; of_reader = λ i. refl }, (record { of_service = refl; of_house = refl; of_reader = λ i. refl }, (tt, (record { of_service = refl; of_house = refl; of_reader = λ i. refl }, (tt, (tt, (tt, (tt, (tt, (tt, (tt, (tt, (tt, (tt, (tt, (tt, (tt, tt))))))))))))))))))))

pub met : Met
unfolding first_fault own_name
met =
    record {
      naming = n;
      named = record { there = named-there; same = named-same };
      possible = happens-can;
      begins = record { lag = refl; no_lines = refl; no_thefts = refl };
      introduced = introduced;
      says = refl;
    }

pub worked : Worked
worked =
    record {
      none = refl;
      ahead = refl;
      old = refl;
      lately = refl;
      twice = refl;
      oldest = refl;
      robbed = refl;
      after = refl;
      shared = refl;
      asked = refl;
    }
