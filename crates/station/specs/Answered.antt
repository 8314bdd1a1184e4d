-- What the code asks and answers, with each number by its value.
use Rattle.std.specs.Prelude.{ℕ, Bool, true, false, [], ◌∷◌, Some, None, Option, Ok, Err, Result, length}
use Rattle.sheet.specs.Sheet.{Sheet}
use Rattle.machine.specs.declared.areas.WorkAreas.{WorkAreas}
use Rattle.evaluator.specs.declared.report.Report.{Report}
use Rattle.evaluator.specs.Runs.{reported}
use Rattle.station.specs.declared.question.Question.{Question}
use Rattle.station.specs.declared.question.Question.TheVariants.{ChannelArea}
use Rattle.station.specs.Calls.{Call, run_entry, Answer, refused, granted, told, ended, first_refused, roomy}

-- the verdict, from the first question that is refused: yes, or that question
abbrev pub verdict : Option Question → Result (Unit {0}) Question
verdict None = Ok tt
verdict (Some q) = Err q

-- every question is answered yes
abbrev pub passed : Result (Unit {0}) Question → Bool
passed (Ok u) = true
passed (Err q) = false

-- the first question that is refused of an opening over an area of so many places
abbrev pub opening_refusal : Sheet → ℕ → Option Question
opening_refusal S len = first_refused ((ChannelArea, roomy S len) ∷ [])

-- the verdict on an opening
abbrev pub opening_verdict : Sheet → ℕ → Result (Unit {0}) Question
opening_verdict S len = verdict (opening_refusal S len)

-- what the code answers
module _ {V : Type 0} where
  -- the answer to a post
  abbrev pub posted : Result (Unit {0}) Question → Answer V
  posted (Ok u) = granted
  posted (Err q) = refused q

  module _ {K : Type 0} (n : K → V) where
    -- the answer to a read
    abbrev pub read_out : Result K Question → Answer V
    read_out (Ok x) = told (n x)
    read_out (Err q) = refused q

    -- the answer to a run
    abbrev pub ran : Result (Report K) Question → Answer V
    ran (Ok r) = ended (reported n r)
    ran (Err q) = refused q

-- the call of a run over these work areas: of them it has the lengths
abbrev pub run_over : {K V : Type 0} → (seat entry fuel : ℕ) → WorkAreas K → Call V
run_over seat entry fuel areas =
    run_entry seat entry fuel (length areas.pending.now) (length areas.bound.now) (length areas.held.now)
