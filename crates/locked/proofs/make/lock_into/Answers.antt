use Rattle.std.proofs.Common.{◌≡◌, ◌+◌, ◌-◌, length, ap, ◌∙◌, arith, length-append}
use Rattle.locked.proofs.Laid.{sealed-laid}
use Rattle.locked.proofs.make.lock_into.Goals as goal
use Rattle.seal.specs.Kind.{number_of}
use Rattle.seal.specs.Lock.{lock}
use borrow.Rule.Slice.PartMut.{post_of}

pub returns : goal.returns
returns g c =
    let key = c.args.lock.now.key.0 in
    let drawn = c.copy_from_slice.new.self in
    let inside = c.write.new.out in
    let rest = post_of 0 16 c.args.out.now in
    let n = length c.args.out.now - 16 - 16 in
    let fit : length drawn ≡ 16 = omega arith in
    let whole = length-append drawn rest in
    let room : length rest ≡ n + 16 = omega arith in
    c.seal_in_place.ensures.word
    ∙ sealed-laid (number_of c.KIND.result) key drawn inside rest n fit room
    ∙ ap (λ k. lock (number_of k) key drawn inside) c.KIND.ensures
    ∙ ap (λ d. lock (number_of g.T.Inside.KIND) key d inside) c.copy_from_slice.ensures.after
    ∙ ap (lock (number_of g.T.Inside.KIND) key c.args.lock.now.salt.0) c.write.ensures
