use Rattle.guarantees.proofs.Admitted.{admitted_typed}
use Rattle.guarantees.proofs.Promised.{confinement}
use Rattle.guarantees.proofs.runs_are_confined.Goals as goal

pub returns : goal.returns
returns g c n flows rs h a = confinement g.K.Number.kind _ (admitted_typed n flows rs h a) flows
