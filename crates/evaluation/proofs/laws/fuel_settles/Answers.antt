use Rattle.evaluation.proofs.Runs.{runs_settle}
use Rattle.evaluation.proofs.Settled.{fuel_settles_lem}
use Rattle.evaluation.proofs.laws.fuel_settles.Goals as goal

pub returns : goal.returns
returns g c = record { evaluations = fuel_settles_lem g.K.Number.kind; runs = runs_settle g.K.Number.kind }
