use Rattle.guarantees.proofs.Admitted.{admitted_typed}
use Rattle.guarantees.proofs.Promised.{two_runs}
use Rattle.guarantees.proofs.runs_agree.Goals as goal

pub returns : goal.returns
returns g c n flows rs h a = two_runs g.K.Number.kind _ (admitted_typed n flows rs h a) flows
