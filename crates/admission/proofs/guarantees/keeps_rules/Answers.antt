use mathlib.Core.Logic.{∥∥₁_map}
use Rattle.admission.proofs.Keeps.{kept}
use Rattle.admission.proofs.guarantees.keeps_rules.Goals as goal

pub returns : goal.returns
returns c = ∥∥₁_map c.args.sheet.now.admitted (kept c.args.sheet.now.shaped.table.rows.now c.args.sheet.now.shaped.shaped)
