use Rattle.evaluation.proofs.Runs.{runs_counted}
use Rattle.evaluation.proofs.Steps.{counts}
use Rattle.evaluation.proofs.laws.steps_are_counted.Goals as goal

pub returns : goal.returns
returns g c = record {
  evaluations = λ S fuel d i ρ s. counts g.K.Number.kind S fuel d i ρ s;
  runs = runs_counted g.K.Number.kind;
}
