use Rattle.judge_rules.proofs.Lines.{first, none}
use Rattle.judge_rules.proofs.record.Judge.judge.Goals as goal
use Rattle.judge_rules.specs.Judge.{act_of, fits, plain}
use Rattle.std.proofs.Common.{◌≡◌, None, vec_items, sym, ◌∙◌, rules}
use Rattle.std.specs.List.{position}

pub returns-in_default-clause-answer : goal.returns-in_default-clause-answer
returns-in_default-clause-answer c =
    let a = act_of c.args.done.now in
    let e : position (λ l. fits c.args.self.now.lag a (plain l)) c.deref.result.now ≡ None = sym c.find.ensures ∙ c.in_default.is in
    let s = none c.args.self.now.lag a c.deref.result.now e in
    search rules

pub returns-in_default-clause-after : goal.returns-in_default-clause-after
returns-in_default-clause-after c =
    let a = act_of c.args.done.now in
    let e : position (λ l. fits c.args.self.now.lag a (plain l)) c.deref.result.now ≡ None = sym c.find.ensures ∙ c.in_default.is in
    let s = none c.args.self.now.lag a c.deref.result.now e in
    search rules

pub returns-clause-answer : goal.returns-clause-answer
returns-clause-answer c = search (rules, first)

pub returns-clause-after : goal.returns-clause-after
returns-clause-after c =
    let s = first c.args.self.now.lag (act_of c.args.done.now) (vec_items c.args.self.now.lines) c.in-Some.i c.index_mut-line.result.now in
    search rules
