use Rattle.std.proofs.Common.{sym, ◌∙◌}
use Rattle.machine.proofs.Acts.{write_some}
use Rattle.machine.proofs.steps.write.Goals as goal

pub returns-clause-step : goal.returns-clause-step
returns-clause-step g c fs bs =
    write_some g.K.Number.value _ _ _ _ _ _ _ _ fs bs c.in_ok-address.ensures (sym c.in_ok-cell.ensures.ok_part ∙ c.get.ensures) c.set.ensures.answer c.set.ensures.held
