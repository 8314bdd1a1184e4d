use Rattle.shaping.proofs.Forest.{trees_cover_lem}
use Rattle.shaping.proofs.guarantees.trees_cover.Goals as goal

pub returns : goal.returns
returns c = trees_cover_lem
