use Rattle.std.proofs.Common.{sym, ◌∙◌}
use Rattle.machine.proofs.Acts.{read_some}
use Rattle.machine.proofs.steps.read.Goals as goal

pub returns : goal.returns
returns g c fs bs = read_some g.K.Number.value _ _ _ _ _ fs bs c.in_ok-address.ensures (sym c.in_ok-cell.ensures.ok_part ∙ c.get.ensures)
