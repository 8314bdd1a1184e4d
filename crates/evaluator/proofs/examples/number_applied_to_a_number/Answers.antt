use Rattle.std.proofs.Common.{refl}
use Rattle.sheet.specs.Sheet.{natural, count, view}
use Rattle.evaluation.specs.Evaluation.{eval}
use Rattle.evaluation.specs.Runs.{run}
use Rattle.evaluator.proofs.examples.number_applied_to_a_number.Goals as goal

pub returns : goal.returns
unfolding natural count view eval run
returns c = refl
