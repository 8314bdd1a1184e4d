use Rattle.admission.proofs.Shape.{preorder}
use Rattle.admission.proofs.guarantees.fits_preorder.Goals as goal

pub returns : goal.returns
returns c = preorder
