-- What comes of a sheet that is checked and then shaped.
use Rattle.std.specs.Prelude.{Ok, Err, Result}
use Rattle.sheet.specs.declared.refusal.Refusal.{Refusal}
use Rattle.sheet.specs.Asked.{Verdict}
use Rattle.shaping.specs.declared.question.Question.{Question}
use Rattle.shaping.specs.declared.counts.Counts.{Counts}

-- the counts where the verdict is yes, else its refusal
abbrev pub counted : Verdict Question → Counts → Result Counts (Refusal Question)
counted (Ok u) n = Ok n
counted (Err e) n = Err e
