use Rattle.number.proofs.FloatLaws.{nan_laws, zero_laws}
use Rattle.number.proofs.laws.metres_compare_nan_and_zero.Goals as goal

pub returns : goal.returns
returns c = record { unordered = nan_laws; zeros = zero_laws }
