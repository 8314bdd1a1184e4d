use Rattle.evaluation.proofs.Determinism.{deterministic}
use Rattle.evaluation.proofs.laws.deterministic.Goals as goal

pub returns : goal.returns
returns g c = deterministic g.K.Number.kind
