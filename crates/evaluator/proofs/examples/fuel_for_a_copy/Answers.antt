use Rattle.std.proofs.Common.{refl}
use Rattle.sheet.specs.Sheet.{natural, count, view}
use Rattle.evaluation.specs.Evaluation.{eval}
use Rattle.evaluation.specs.Runs.{run}
use Rattle.evaluator.proofs.examples.fuel_for_a_copy.Goals as goal

pub returns : goal.returns
unfolding natural count view eval run
returns c = record { enough = (refl, refl); short = (refl, refl) }
