use Rattle.std.proofs.Common.{refl}
use Rattle.worked_examples.proofs.Worked.{sheets, copied, copied_short, number_applied}
use Rattle.worked_examples.proofs.worked_through.Goals as goal

pub returns : goal.returns
returns c = record { sheets = sheets; copied = copied; copied_short = copied_short; number_applied = number_applied; sums = (refl, refl, refl, refl) }
