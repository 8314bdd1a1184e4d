-- Sheets worked through. In sheet A an entry of label 1 sets channel 1, which is label 2's, to what channel 0, label 1's, holds.
use Rattle.std.specs.Prelude.{◌≡◌, ℕ, Bool, List, [], ◌∷◌, pos, Ok}
use Rattle.policy.specs.Relations.{only_self, with_pair, without_pair}
use Rattle.sheet.specs.declared.row.Row.{Row}
use Rattle.sheet.specs.Asked.{refuse}
use Rattle.sheet.specs.Sheet.{view}
use Rattle.shaping.specs.Verdict.{shape_verdict}
use Rattle.admission.specs.declared.question.Question.TheVariants.{SiteFlow, TypeRule}
use Rattle.admission.specs.Verdict.{admission_verdict}

-- a row of a letter, by its code, and five numbers
abbrev row : ℕ → ℕ → ℕ → ℕ → ℕ → ℕ → Row
row letter a b c d e = record { letter = letter; a = pos a; b = pos b; c = pos c; d = pos d; e = pos e }

-- sheet A, but for the label sets of types 0 and 1: the letters are T, S, N and E
abbrev pub worked : ℕ → ℕ → List Row
worked x y =
    row 84 0 x 0 0 0 ∷ row 84 0 y 0 0 0 ∷ row 84 2 0 1 0 0 ∷ row 84 2 0 2 0 0
    ∷ row 83 1 1 1 0 0 ∷ row 83 2 0 1 0 0
    ∷ row 78 5 1 3 2 1 ∷ row 78 5 1 2 2 0 ∷ row 78 6 2 1 2 0 ∷ row 78 7 4 1 2 0
    ∷ row 69 1 3 0 0 0 ∷ []

-- of labels 0, 1 and 2, 0 flows to 1, and 1 to 2
abbrev pub in_steps : ℕ → ℕ → Bool
in_steps = with_pair (with_pair (only_self 3) 0 1) 1 2

-- sheet A is admitted; B, whose type 1 has set 3, and C, whose type 0 has set 7 besides, are not, and neither is A once the pair
-- (1, 2) is revoked
pub record WorkedSheets : Type 0 where
  pub a_shaped : shape_verdict (worked 6 2) ≡ Ok tt
  pub a_admitted : admission_verdict 3 in_steps (view (worked 6 2)) ≡ Ok tt
  pub b_shaped : shape_verdict (worked 6 3) ≡ Ok tt
  pub b_refused : admission_verdict 3 in_steps (view (worked 6 3)) ≡ refuse TypeRule 9
  pub c_shaped : shape_verdict (worked 7 3) ≡ Ok tt
  pub c_refused : admission_verdict 3 in_steps (view (worked 7 3)) ≡ refuse SiteFlow 5
  pub d_refused : admission_verdict 3 (without_pair in_steps 1 2) (view (worked 6 2)) ≡ refuse SiteFlow 5
