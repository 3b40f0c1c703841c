use Rattle.play.proofs.Numbers.{numbers-all, numbers_more}
use Rattle.play.proofs.say.then_numbers.Goals as goal
use Rattle.play.specs.Say.{then_numbers}
use Rattle.printed.specs.Printed.{shown}
use Rattle.std.proofs.Common.{get_or, refl}

pub loop-n-preserved : goal.loop-n-preserved
loop-n-preserved c =
    numbers_more (shown c.loop-n.out) (shown c.then_number.new.out) c.args.ns.now c.loop-n.n-index (get_or c.args.ns.now c.loop-n.n-index 0) (then_numbers (shown c.args.out.now) c.args.ns.now)
    c.loop-n-test.true refl c.in_ok-then_number.ensures c.loop-n.invariant

pub returns : goal.returns
returns c = numbers-all (shown c.loop-n.out) c.args.ns.now c.loop-n.n-index (then_numbers (shown c.args.out.now) c.args.ns.now) c.loop-n-test.false c.loop-n.invariant
