use Rattle.sheet_text.proofs.ReadBack.{reads_back}
use Rattle.sheet_text.proofs.laws.reads_back_what_was_written.Goals as goal

pub returns : goal.returns
returns c = reads_back
