use Rattle.number.proofs.Exactness.{wholes_exact}
use Rattle.number.proofs.FloatLaws.{results}
use Rattle.number.proofs.laws.metres_are_exact_on_whole_numbers.Goals as goal

pub returns : goal.returns
returns c = record { wholes = wholes_exact; results = results }
