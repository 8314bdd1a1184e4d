use Rattle.stack.proofs.Ends.{last_in_first_out_lem}
use Rattle.stack.proofs.methods.last_in_first_out.Goals as goal

pub returns : goal.returns
returns g c = last_in_first_out_lem g.row.T.Denot
