-- Worked examples, in millimetres.
use Rattle.std.specs.Prelude.{◌≡◌, ℕ, List, [], ◌∷◌, ℤ, pos, Ok}
use Rattle.number.specs.Millimetre.{millimetre_kind}
use Rattle.sheet.specs.declared.row.Row.{Row}
use Rattle.sheet.specs.Sheet.{view}
use Rattle.evaluation.specs.declared.ending.Stop.TheVariants.{FuelSpent, Stuck}
use Rattle.evaluation.specs.declared.ending.Ending.TheVariants.{Number, Stopped}
use Rattle.evaluation.specs.Runs.{run, run_report, numbers_after}
use Rattle.evaluator.specs.Trials.{trial_answer}

-- a row: the code of its letter, and its numbers
abbrev pub row : ℕ → (a b c d e : ℕ) → Row
row letter a b c d e = record { letter = letter; a = pos a; b = pos b; c = pos c; d = pos d; e = pos e }

-- one type, one channel, and one entry: the number 5 applied to the number 5
abbrev pub five_by_five : List Row
five_by_five =
    row 84 0 0 0 0 0
    ∷ row 83 0 0 1 0 0
    ∷ row 78 0 1 0 0 5
    ∷ row 78 0 1 0 0 5
    ∷ row 78 3 3 0 0 0
    ∷ row 69 0 2 0 0 0
    ∷ []

-- number, number of fewer labels, reference to channel 0, reference to channel 1; two channels; and one entry, which
-- sets channel 1 to what channel 0 holds
abbrev pub copying : List Row
copying =
    row 84 0 6 0 0 0
    ∷ row 84 0 2 0 0 0
    ∷ row 84 2 0 1 0 0
    ∷ row 84 2 0 2 0 0
    ∷ row 83 1 1 1 0 0
    ∷ row 83 2 0 1 0 0
    ∷ row 78 5 1 3 2 1
    ∷ row 78 5 1 2 2 0
    ∷ row 78 6 2 1 2 0
    ∷ row 78 7 4 1 2 0
    ∷ row 69 1 3 0 0 0
    ∷ []

-- a trial ends stuck at node 2, after 3 steps
abbrev pub NumberApplied : Type 0
NumberApplied =
    trial_answer millimetre_kind (view five_by_five) 0 1000 1024 1024 544
    ≡ Ok (record { ending = Stopped (Stuck 2); number = pos 0; steps = 3 })

-- the channels before the run
abbrev pub before : List ℤ
before = pos 250 ∷ pos 0 ∷ []

-- with fuel 4 the run ends in the number 250, after 4 steps, and channel 1 holds it
abbrev pub Copied : Type 0
Copied =
    (run_report millimetre_kind (view copying) 4 0 before ≡ record { ending = Number; number = pos 250; steps = 4 })
    × (numbers_after (run millimetre_kind (view copying) 4 0 before) before ≡ pos 250 ∷ pos 250 ∷ [])

-- with fuel 3 it stops for want of fuel, after 3 steps, and the channels are as before
abbrev pub CopiedShort : Type 0
CopiedShort =
    (run_report millimetre_kind (view copying) 3 0 before ≡ record { ending = Stopped FuelSpent; number = pos 0; steps = 3 })
    × (numbers_after (run millimetre_kind (view copying) 3 0 before) before ≡ before)
