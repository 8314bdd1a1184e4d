use Rattle.admission.proofs.Yes.{exactly}
use Rattle.admission.proofs.guarantees.admitted_exactly.Goals as goal

pub returns : goal.returns
returns c = exactly
