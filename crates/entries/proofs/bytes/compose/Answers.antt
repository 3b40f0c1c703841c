use Rattle.entries.proofs.Packing.{length-packed, put-front, recorded-bytes}
use Rattle.entries.proofs.bytes.compose.Goals as goal
use Rattle.entries.specs.Bytes.{count_bytes, entry_bytes}
use Rattle.parts.specs.declared.account.Entry.{Entry}
use Rattle.service_rules.specs.Memory.{live_of, recorded}
use Rattle.std.proofs.lemmas.List.{length_push}
use Rattle.std.specs.List.{flat_map}
use Rattle.std.proofs.Common.{rules, ◌≡◌, ℕ, ◌+◌, List, ◌++◌, length, take, sym, ap, ◌∙◌, arith}

pub returns-clause-end : goal.returns-clause-end
returns-clause-end c =
    let es = c.args.entries.now in
    let new : Entry = record { digest = c.args.digest; tick = c.args.clock.tick } in
    let push = length_push (live_of c.args.clock.tick c.args.clock.lag es) new in
    omega (arith, push, length-packed (recorded c.args.clock.tick c.args.clock.lag c.args.digest es), c.put_live-at.ensures.end)

pub returns-clause-out : goal.returns-clause-out
unfolding count_bytes
returns-clause-out c =
    let es = c.args.entries.now in
    let live = live_of c.args.clock.tick c.args.clock.lag es in
    let new : Entry = record { digest = c.args.digest; tick = c.args.clock.tick } in
    let n = c.live_in-count.result + 1 in
    let more : n ≡ length live + 1 = ap (λ (k : ℕ). k + 1) c.live_in-count.ensures in
    let field : c.to_be_bytes.result ≡ count_bytes n = search rules in
    let count : take 10 c.put.new.out ≡ take 8 c.args.out.now ++ count_bytes n =
    ap (λ (k : ℕ). take (8 + k) c.put.new.out) (sym (ap length field)) ∙ put-front c.args.out.now c.to_be_bytes.result c.put.new.out 8 (omega (arith, ap length field, c.requires.1)) c.put.ensures ∙ ap (λ (x : List ℕ). take 8 c.args.out.now ++ x) field in
    c.put_entry.ensures
    ∙ ap (λ (x : List ℕ). x ++ entry_bytes new) (c.put_live-at.ensures.out ∙ ap (λ (x : List ℕ). x ++ flat_map entry_bytes live) count)
    ∙ recorded-bytes c.args.clock.tick c.args.clock.lag c.args.digest n es (take 8 c.args.out.now) more
