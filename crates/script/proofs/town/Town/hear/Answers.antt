use Rattle.std.proofs.Common.{◌≡◌, ◌≤◌, sym, refl, ap, ◌∙◌, subst, arith, rules}
use Rattle.commands.specs.Grammar.{read_of}
use Rattle.script.specs.Laws.{Orderly}
use Rattle.script.specs.Play.{Seen, Outcome, seen, refused, heard}
use Rattle.script.proofs.Order.{stays-orderly, faults-change-nothing, time-goes-on}
use Rattle.script.proofs.Unplayed.{unplayed-refused}
use Rattle.script.proofs.town.Town.hear.Goals as goal

pub returns-in-Some : goal.returns-in-Some
returns-in-Some c =
    let was : Seen = seen c.args.self.now in
    let line = c.args.line.now in
    let says : c.obey.result ≡ (heard was (read_of line)).answer = search rules in
    let becomes : seen c.obey.new.self ≡ (heard was (read_of line)).town = search rules in
    record {
      answer = says;
      after = becomes;
      orderly = λ h. subst Orderly (sym becomes) (stays-orderly was line h);
      refusal = λ e. becomes ∙ faults-change-nothing was line (sym says ∙ e);
      time = λ h. subst (λ (s : Seen). was.tick ≤ s.tick) (sym becomes) (time-goes-on was line h);
    }

pub returns-then-not-is_played : goal.returns-then-not-is_played
returns-then-not-is_played c =
    let was : Seen = seen c.args.self.now in
    let line = c.args.line.now in
    let is : heard was (read_of line) ≡ refused was = unplayed-refused was line (search rules) in
    record {
      answer = ap (λ (o : Outcome). o.answer) (sym is);
      after = ap (λ (o : Outcome). o.town) (sym is);
      orderly = λ h. h;
      refusal = λ e. refl;
      time = λ h. omega arith;
    }
