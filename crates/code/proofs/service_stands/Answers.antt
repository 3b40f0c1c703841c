use Rattle.code.proofs.Serves.{service-so}
use Rattle.code.proofs.service_stands.Goals as goal

pub returns : goal.returns
returns c = service-so
