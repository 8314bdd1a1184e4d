use Rattle.shaping.proofs.Exactly.{exactly}
use Rattle.shaping.proofs.guarantees.shaped_exactly.Goals as goal

pub returns : goal.returns
returns c = exactly
