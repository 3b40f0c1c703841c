use Rattle.house_rules.specs.House.{home}
use Rattle.house_side.proofs.Words.{heard-as, told-login}
use Rattle.house_side.proofs.house.House.hear.Goals as goal
use Rattle.house_side.specs.House.{logs, read_at_house, wrong}
use Rattle.locked.specs.Locked.{ours}
use Rattle.std.proofs.Common.{◌≡◌, sym, refl, subst, rules}

pub returns-in-Ok-Login : goal.returns-in-Ok-Login
returns-in-Ok-Login g c =
    let s = c.args.self.now in
    let m = g.M.Memory in
    let last = c.log_in.new.self in
    let es = m.kept s.memory in
    let j = m.junk s.memory in
    let w = m.writes last.memory in
    let bs = g.D.Drawn.left s.drawn in
    let h = home s.house (g.A.Accounts.listed s.accounts) es j w bs in
    let h' = home last.house (g.A.Accounts.listed last.accounts) (m.kept last.memory) (m.junk last.memory) w (g.D.Drawn.left last.drawn) in
    let reader = c.in-Ok-Login.reader in
    let login = c.in-Ok-Login.login in
    let r = c.in-Ok-Login.ensures es j w bs in
    let e : read_at_house ours h c.args.word.now ≡ logs reader login = search rules in
    let k = c.log_in.ensures in
    record {
      hears = heard-as ours h c.args.word.now (logs reader login) c.told_login.result h' e (told-login ours h reader login c.log_in.result c.told_login.result k.answer c.told_login.ensures) k.after;
      accounts = k.accounts;
      keeps = subst (m.keeps s.memory) (sym k.memory) (g.met.M.Memory.same s.memory);
      same = search rules;
    }

pub returns-in-Err-Wrong : goal.returns-in-Err-Wrong
returns-in-Err-Wrong g c =
    let s = c.args.self.now in
    let m = g.M.Memory in
    let es = m.kept s.memory in
    let j = m.junk s.memory in
    let w = m.writes s.memory in
    let bs = g.D.Drawn.left s.drawn in
    let h = home s.house (g.A.Accounts.listed s.accounts) es j w bs in
    let r = c.in-Err-Wrong.ensures es j w bs in
    let e : read_at_house ours h c.args.word.now ≡ wrong c.in-Err-Wrong.fault = search rules in
    record {
      hears = heard-as ours h c.args.word.now (wrong c.in-Err-Wrong.fault) c.refused.result h e record { event = c.refused.ensures.event; sent = c.refused.ensures.sent } refl;
      accounts = refl;
      keeps = g.met.M.Memory.same s.memory;
      same = λ _. refl;
    }
