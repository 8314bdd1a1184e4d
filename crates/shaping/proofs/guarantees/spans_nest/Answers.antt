use Rattle.shaping.proofs.Forest.{spans_nest_lem}
use Rattle.shaping.proofs.guarantees.spans_nest.Goals as goal

pub returns : goal.returns
returns c = spans_nest_lem
