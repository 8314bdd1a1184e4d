-- What comes of a shaped sheet that is checked under a policy and then admitted.
use Rattle.std.specs.Prelude.{ℕ, Ok, Err, Result}
use Rattle.sheet.specs.declared.refusal.Refusal.{Refusal}
use Rattle.sheet.specs.Asked.{Verdict}
use Rattle.admission.specs.declared.question.Question.{Question}

-- how many rows there are, where the verdict is yes, else its refusal
abbrev pub counted : Verdict Question → ℕ → Result ℕ (Refusal Question)
counted (Ok u) n = Ok n
counted (Err e) n = Err e
