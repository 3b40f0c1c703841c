use Rattle.play.proofs.say.then_verdict.Goals as goal

pub returns-in-NotAsked : goal.returns-in-NotAsked
returns-in-NotAsked c = rw c.in-NotAsked.is c.plain-in-NotAsked.ensures
