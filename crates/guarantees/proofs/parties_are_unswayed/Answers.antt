use Rattle.guarantees.proofs.Admitted.{parties}
use Rattle.guarantees.proofs.parties_are_unswayed.Goals as goal

pub returns : goal.returns
returns g c n flows rs h a = parties g.K.Number.kind n flows rs h a
