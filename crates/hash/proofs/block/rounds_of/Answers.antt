use Rattle.std.proofs.Common.{◌≡◌, ◌+◌, ◌*◌, ◌/◌, [], ◌∷◌, ◌++◌, length, sym, ap, ◌∙◌, arith, length-append}
use Rattle.std.proofs.lemmas.Slice.Zip.{zip_turn, zip_end}
use Rattle.hash.specs.Sha256.{rounds, ks}
use Rattle.hash.proofs.Rounds.{rounds-none, part-is}
use Rattle.hash.proofs.block.rounds_of.Goals as goal

pub loop-k-init : goal.loop-k-init
loop-k-init c = sym (rounds-none c.args.w.now c.args.state.now)

pub loop-k-preserved : goal.loop-k-preserved
unfolding ks
loop-k-preserved c =
    let w = c.args.w.now in
    let n = length c.loop-k.yielded in
    let turn =
    zip_turn c.as_chunks.result.0.now c.as_chunks-2.result.0.now c.loop-k.yielded c.into_iter-k-iterator.result c.loop-k.k-iterator
    c.next.new.self c.next.result (cc) (cc) c.loop-k.yielded_by (c.in-Some.k, c.in-Some.words) c.in-Some.is c.next.ensures.steps in
    let k = turn.2 [] ∙ part-is 8 8 n (8 * n) ks _ c.as_chunks.ensures.front (omega arith) (omega arith) in
    let words = turn.3 [] ∙ part-is 8 (length w / 8) n (8 * n) w _ c.as_chunks-2.ensures.front (omega arith) (omega arith) in
    let on : 8 * n + 8 ≡ 8 * length (c.loop-k.yielded ++ (c.in-Some.k, c.in-Some.words) ∷ []) = simp length-append (omega arith) in
    c.eight_rounds-next.ensures (8 * n) w c.args.state.now k words c.loop-k.invariant ∙ ap (λ j. rounds j w c.args.state.now) on

pub returns : goal.returns
returns c =
    let w = c.args.w.now in
    let ended =
    zip_end c.as_chunks.result.0.now c.as_chunks-2.result.0.now c.loop-k.yielded c.into_iter-k-iterator.result c.loop-k.k-iterator
    c.next.new.self c.next.result (cc) (cc) c.loop-k.yielded_by c.in-None.is c.next.ensures.steps in
    let all : 8 * length c.loop-k.yielded ≡ 64 = omega arith in
    c.loop-k.invariant ∙ ap (λ j. rounds j w c.args.state.now) all
