-- Eight examples, in millimetres where they have numbers.
use Rattle.std.specs.Prelude.{◌≡◌, ℕ, List, [], ◌∷◌, map, ℤ, pos}
use Rattle.number.specs.Millimetre.{millimetre_kind}
use Rattle.number.specs.MillimetreLaws.{WorkedExamples}
use Rattle.sheet.specs.Sheet.{Sheet, view}
use Rattle.admission.specs.Worked.{worked, WorkedSheets}
use Rattle.evaluation.specs.declared.ending.Stop.TheVariants.{FuelSpent}
use Rattle.evaluation.specs.declared.ending.Ending.TheVariants.{Number, Stopped}
use Rattle.evaluator.specs.Examples.{NumberApplied}
use Rattle.station.specs.declared.question.Question.TheVariants.{Seat}
use Rattle.station.specs.Calls.{Call, post, read, run_entry, Answer, refused, granted, told, ended, opened}
use Rattle.station.specs.Histories.{Event, events}

-- the worked sheet: its one entry, of label 1, sets channel 1, which is label 2's, to what channel 0, which is label 1's, holds
abbrev pub copying : Sheet
copying = view (worked 6 2)

-- what a history of calls is answered, where the area has two places, whatever they hold before the opening
abbrev pub answers : List ℤ → List (Call ℤ) → List (Answer ℤ)
answers area calls = map (λ (e : Event ℤ). e.answer) (events millimetre_kind copying (opened copying millimetre_kind area) calls)

-- seat 1 posts 250 to its channel, and runs its entry with work areas of just enough places
abbrev pub after_a_run : (fuel : ℕ) → List (Call ℤ) → List (Call ℤ)
after_a_run fuel calls = post 1 0 (pos 250) ∷ run_entry 1 0 fuel 1024 1024 544 ∷ calls

-- with fuel 4 the run ends in the number 250, after 4 steps; then seat 2 reads 250 at channel 1, and seat 1 is refused there
abbrev pub Copied : Type 0
Copied =
    (x y : ℤ) → answers (x ∷ y ∷ []) (after_a_run 4 (read 2 1 ∷ read 1 1 ∷ []))
    ≡ granted ∷ ended (record { ending = Number; number = pos 250; steps = 4 }) ∷ told (pos 250) ∷ refused Seat ∷ []

-- with fuel 3 it stops for want of fuel, after 3 steps, and channel 1 is still 0
abbrev pub CopiedShort : Type 0
CopiedShort =
    (x y : ℤ) → answers (x ∷ y ∷ []) (after_a_run 3 (read 2 1 ∷ []))
    ≡ granted ∷ ended (record { ending = Stopped FuelSpent; number = pos 0; steps = 3 }) ∷ told (pos 0) ∷ []

-- all of them; the trial, of the number 5 applied to the number 5, ends stuck at node 2, after 3 steps
pub record WorkedThrough : Type 0 where
  pub sheets : WorkedSheets
  pub copied : Copied
  pub copied_short : CopiedShort
  pub number_applied : NumberApplied
  pub sums : WorkedExamples
