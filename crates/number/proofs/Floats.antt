-- What the code's float comparisons and literals are, by the definitions of the metre kind.
use Rattle.std.proofs.Common.{◌≡◌, ℕ, zero, suc, ◌*◌, ◌<◌, Bool, true, false, eqb, pos, refl, zero-mul, mul-one, arith}
use lib.Ieee.{Float, nan, inf, fin, binary64, eq, of_bits, of_int, level, up}
use lib.Ieee.Fits.{up_pos}
use Rattle.std.proofs.lemmas.Nat.{mul-lt}
use Rattle.std.proofs.lemmas.Bool.Decides.{nat_tests}
use Rattle.std.specs.Int.{from_bool}
use Rattle.number.specs.Metre.{zero_float, float_if}

-- a magnitude equals that of +0 exactly where its significand is 0, whatever its sign
level_zero : (s : Bool) (m u d : ℕ) → 0 < u → level s (m * u * 1) false (0 * d) ≡ eqb m 0
level_zero true zero u d h = simp zero-mul
level_zero false zero u d h = simp zero-mul
level_zero s (suc m) u d h =
    let some : 0 < suc m * u = mul-lt 0 0 (suc m) u (omega arith) h in
    simp (zero-mul, mul-one) (grind (arith, nat_tests))

-- the code's `x == 0.0` is true at 0 and -0 alone
pub equals_zero_lem : (x : Float) → eq x (of_bits binary64 0) ≡ zero_float x
unfolding eq of_bits
equals_zero_lem nan = refl
equals_zero_lem (inf s) = refl
equals_zero_lem (fin s m e) = level_zero s m (up e) _ (up_pos e)

-- a comparison's answer, made a float, is 1 or 0
pub whole_of_bool : (b : Bool) → of_int binary64 (pos (from_bool b)) ≡ float_if b
unfolding of_int
whole_of_bool true = refl
whole_of_bool false = refl
