use Rattle.typing.proofs.Nodes.{rules_exactly_lem}
use Rattle.typing.proofs.guarantees.rules_exactly.Goals as goal

pub returns : goal.returns
returns c = rules_exactly_lem
