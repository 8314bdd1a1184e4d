-- Sheets worked through by the definitions.
use Rattle.std.specs.Prelude.{◌≡◌, ℕ, List, [], ◌∷◌, ◌++◌, pos, Ok}
use Rattle.sheet.specs.declared.row.Row.{Row}
use Rattle.sheet.specs.Asked.{refuse}
use Rattle.shaping.specs.declared.question.Question.TheVariants.{Counts, Types}
use Rattle.shaping.specs.Verdict.{shape_verdict}

-- a row by the code of its letter and its numbers
abbrev pub row : ℕ → ℕ → ℕ → ℕ → ℕ → ℕ → Row
row l a b c d e = record { letter = l; a = pos a; b = pos b; c = pos c; d = pos d; e = pos e }

-- the worked sheet: channel 1 is set to what channel 0 holds
abbrev pub sheet_a : List Row
sheet_a =
    row 84 0 6 0 0 0 ∷ row 84 0 2 0 0 0 ∷ row 84 2 0 1 0 0 ∷ row 84 2 0 2 0 0
    ∷ row 83 1 1 1 0 0 ∷ row 83 2 0 1 0 0
    ∷ row 78 5 1 3 2 1 ∷ row 78 5 1 2 2 0 ∷ row 78 6 2 1 2 0 ∷ row 78 7 4 1 2 0
    ∷ row 69 1 3 0 0 0 ∷ []

-- types nested eight deep: a number, and functions from the type before
abbrev pub eight_deep : List Row
eight_deep =
    row 84 0 0 0 0 0 ∷ row 84 1 0 0 0 0 ∷ row 84 1 0 1 0 0 ∷ row 84 1 0 2 0 0
    ∷ row 84 1 0 3 0 0 ∷ row 84 1 0 4 0 0 ∷ row 84 1 0 5 0 0 ∷ row 84 1 0 6 0 0 ∷ []

-- a site, a node and an entry
abbrev pub rest : List Row
rest = row 83 0 0 0 0 0 ∷ row 78 0 1 0 0 5 ∷ row 69 0 0 0 0 0 ∷ []

-- the worked sheet is shaped; eight deep is lawful, and nine deep is not; where there are no rows, row 0 is named
pub record Worked : Type 0 where
  pub a : shape_verdict sheet_a ≡ Ok tt
  pub eight : shape_verdict (eight_deep ++ rest) ≡ Ok tt
  pub nine : shape_verdict (eight_deep ++ (row 84 1 0 7 0 0 ∷ rest)) ≡ refuse Types 8
  pub none : shape_verdict [] ≡ refuse Counts 0
