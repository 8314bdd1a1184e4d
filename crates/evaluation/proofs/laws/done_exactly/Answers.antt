use Rattle.evaluation.proofs.Exactly.{done_exactly_lem, numbers_exactly, runs_done_exactly}
use Rattle.evaluation.proofs.laws.done_exactly.Goals as goal

pub returns : goal.returns
returns g c = record {
  evaluations = done_exactly_lem g.K.Number.kind;
  runs = runs_done_exactly g.K.Number.kind;
  numbers = numbers_exactly g.K.Number.kind;
}
