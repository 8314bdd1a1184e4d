use Rattle.guarantees.proofs.Admitted.{admitted_typed}
use Rattle.guarantees.proofs.Promised.{soundness}
use Rattle.guarantees.proofs.runs_are_sound.Goals as goal

pub returns : goal.returns
returns g c n flows rs h a = soundness g.K.Number.kind _ (admitted_typed n flows rs h a)
