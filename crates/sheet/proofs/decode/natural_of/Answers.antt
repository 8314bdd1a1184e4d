use Rattle.std.proofs.Common.{◌≡◌, ℕ, ℤ, pos, negsuc, nat_abs, Ok, Err, Result, SFits, w64, refl, ◌∙◌}
use Rattle.std.proofs.Math.Facts.{Fits-nat_abs}
use Rattle.std.proofs.lemmas.Int.{to_z-of_z}
use Rattle.std.specs.Int.{FitsUnsignedBits}
use Rattle.std.specs.Result.{OkIff, result_unwrap_or}
use Rattle.sheet.specs.Sheet.{natural}
use Rattle.sheet.proofs.decode.natural_of.Goals as goal

-- the number that was converted, or the one past every limit where that was below zero
by_sign : {E : Type 0} (z : ℤ) (r : Result ℕ E) → SFits w64 z → OkIff r (FitsUnsignedBits 64 z) (nat_abs z) → result_unwrap_or r 9223372036854775808 ≡ natural z
unfolding natural
by_sign (pos n) (Ok x) f h = h.1
by_sign (pos n) (Err e) f h = absurd (h (Fits-nat_abs {w' = w64} tt f).fits)
by_sign (negsuc n) (Ok x) f h = absurd h.0
by_sign (negsuc n) (Err e) f h = refl

pub returns : goal.returns
returns c =
    let read = to_z-of_z w64 c.args.x c.ranges.x in
    c.unwrap_or.ensures ∙ by_sign c.args.x c.try_from.result c.ranges.x (rw read at c.try_from.ensures)
