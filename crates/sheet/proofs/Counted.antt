-- Counting the rows of a letter.
use Rattle.std.proofs.Common.{◌≡◌, ℕ, suc, ◌+◌, ◌<◌, ◌≤◌, cond, eqb, List, [], ◌∷◌, length, get_or, drop, sym, ap, ◌∙◌, add-one, arith, drop_of_length-le, drop-cons}
use Rattle.std.proofs.lemmas.Bool.Decides.{nat_tests}
use Rattle.sheet.specs.declared.row.Row.{Row}
use Rattle.sheet.specs.Sheet.{no_row, count}

-- one row more
pub count_step : (l : ℕ) (rs : List Row) (k : ℕ) → k < length rs
    → count l (drop k rs) ≡ cond (eqb (get_or rs k no_row).letter l) (suc (count l (drop (k + 1) rs))) (count l (drop (k + 1) rs))
unfolding count
count_step l rs k h = ap (count l) (drop-cons rs k no_row h ∙ ap (λ j. get_or rs k no_row ∷ drop j rs) (sym (add-one k)))

-- no row is left
pub count_end : (l : ℕ) (rs : List Row) (k : ℕ) → length rs ≤ k → count l (drop k rs) ≡ 0
unfolding count
count_end l rs k h = ap (count l) (drop_of_length-le rs h)

-- a row has one letter, so no row is counted twice
pub counted_once : (rs : List Row) → count 84 rs + count 83 rs + count 78 rs + count 69 rs ≤ length rs
unfolding count
counted_once [] = omega arith
counted_once (r ∷ rs) = let i = counted_once rs in grind (arith, nat_tests)
