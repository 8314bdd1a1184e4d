use Rattle.typing.proofs.Exactly.{exactly}
use Rattle.typing.proofs.guarantees.fits_exactly.Goals as goal

pub returns : goal.returns
returns c = exactly
