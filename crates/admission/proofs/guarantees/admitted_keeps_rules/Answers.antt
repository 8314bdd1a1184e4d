use Rattle.admission.proofs.Keeps.{keeps}
use Rattle.admission.proofs.guarantees.admitted_keeps_rules.Goals as goal

pub returns : goal.returns
returns c = keeps
