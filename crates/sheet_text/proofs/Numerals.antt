-- A number's digits, and the rest of a slice pattern.
use Rattle.std.proofs.Common.{◌≡◌, ℕ, ◌-◌, ◌<◌, ◌≤◌, List, ◌∷◌, length, take, drop, le_refl, arith}
use Rattle.std.proofs.lemmas.Slice.{between_to_end}
use Rattle.std.proofs.lemmas.Bool.Decides.{nat_tests}
use Rattle.sheet_text.specs.Fields.{digits_after, magnitude}

-- of one to ten bytes, the magnitude is what the digits write
pub magnitude_short : (xs : List ℕ) → 0 < length xs → length xs ≤ 10 → magnitude xs ≡ digits_after 0 xs
magnitude_short xs some few = grind (arith, nat_tests)

-- the rest of a slice pattern `[x, rest @ ..]`
abbrev pub tail : List ℕ → List ℕ
tail xs = take (length xs - 1) (drop 1 xs)

pub tail_is : (c : ℕ) (cs : List ℕ) → tail (c ∷ cs) ≡ cs
tail_is c cs = between_to_end (c ∷ cs) 1 (length (c ∷ cs)) (le_refl _)
