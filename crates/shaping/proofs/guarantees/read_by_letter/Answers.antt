use Rattle.shaping.proofs.Sorted.{read_by_letter_lem}
use Rattle.shaping.proofs.guarantees.read_by_letter.Goals as goal

pub returns : goal.returns
returns c = read_by_letter_lem
