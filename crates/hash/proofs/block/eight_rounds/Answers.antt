use Rattle.std.proofs.Common.{add-zero, sym, ap, ◌∙◌, arith}
use Rattle.hash.specs.Sha256.{rounds}
use Rattle.hash.proofs.Rounds.{round-of_eight}
use Rattle.hash.proofs.block.eight_rounds.Goals as goal

pub returns : goal.returns
returns c n v t ks-are ws-are e =
    let more = round-of_eight n c.args.k.now c.args.w.now v t ks-are ws-are in
    let e0 = e ∙ ap (λ j. rounds j v t) (sym (add-zero n)) in
    let e1 = more 0 _ _ (omega arith) e0 c.round-s.ensures in
    let e2 = more 1 _ _ (omega arith) e1 c.round-s-2.ensures in
    let e3 = more 2 _ _ (omega arith) e2 c.round-s-3.ensures in
    let e4 = more 3 _ _ (omega arith) e3 c.round-s-4.ensures in
    let e5 = more 4 _ _ (omega arith) e4 c.round-s-5.ensures in
    let e6 = more 5 _ _ (omega arith) e5 c.round-s-6.ensures in
    let e7 = more 6 _ _ (omega arith) e6 c.round-s-7.ensures in
    more 7 _ _ (omega arith) e7 c.round.ensures
