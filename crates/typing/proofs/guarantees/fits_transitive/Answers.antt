use Rattle.typing.proofs.Exactly.{transitive}
use Rattle.typing.proofs.guarantees.fits_transitive.Goals as goal

pub returns : goal.returns
returns c = transitive
