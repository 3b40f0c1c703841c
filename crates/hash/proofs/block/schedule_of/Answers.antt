use Rattle.std.proofs.Common.{◌+◌, ◌*◌, arith, rules}
use Rattle.hash.specs.Sha256.{words, extended}
use Rattle.hash.proofs.Rounds.{made_more}
use Rattle.hash.proofs.block.schedule_of.Goals as goal

pub loop-t-init : goal.loop-t-init
unfolding extended
loop-t-init c = (search rules, c.words_of-w.ensures)

pub loop-t-preserved : goal.loop-t-preserved
loop-t-preserved c =
    let ws = words 16 c.args.block.now in
    let n = 4 * c.loop-t.t in
    let a = made_more n (n + 1) ws c.loop-t.w c.extend.new.w (omega arith) (omega arith) c.loop-t.invariant c.extend.ensures in
    let b = made_more (n + 1) (n + 2) ws _ c.extend-in-loop-t.new.w (omega arith) (omega arith) a c.extend-in-loop-t.ensures in
    let d = made_more (n + 2) (n + 3) ws _ c.extend-in-loop-t-2.new.w (omega arith) (omega arith) b c.extend-in-loop-t-2.ensures in
    made_more (n + 3) (4 * (c.loop-t.t + 1)) ws _ c.extend-in-loop-t-3.new.w (omega arith) (omega arith) d c.extend-in-loop-t-3.ensures
