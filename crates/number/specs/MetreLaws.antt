-- What holds of the metre kind, in the words of its rules.
use Rattle.std.specs.Prelude.{◌≡◌, suc, true, false, T, ◌⊎◌, ℤ, pos, negsuc, Float}
use Rattle.std.specs.Float.Ieee as Ieee
use Rattle.std.specs.Float.{nan, fin, binary64}
use Rattle.std.specs.Float.Ieee.Exact.{HasValue}
use Rattle.number.specs.Metre.{metre_kind}
use Rattle.number.specs.MillimetreLaws.{InRange}

-- the float is finite, with the whole number's sign, and is that number
abbrev pub Exactly : Float → ℤ → Type 0
Exactly x (pos n) = HasValue x false n 1
Exactly x (negsuc n) = HasValue x true (suc n) 1

-- every whole number of 32 bits enters exactly
abbrev pub WholesExact : Type 0
WholesExact = (n : ℤ) → InRange n → Exactly (metre_kind.whole n) n

abbrev pub plus_zero : Float
plus_zero = fin false 0 (pos 0)

abbrev pub minus_zero : Float
minus_zero = fin true 0 (pos 0)

-- not-a-number is one value, it is not zero, and less and equal give 0 on it, on either side
pub record NanLaws : Type 0 where
  pub one : (x : Float) → Ieee.is_nan x ≡ true → x ≡ nan
  pub not_zero : metre_kind.is_zero nan ≡ false
  pub less_left : (x : Float) → metre_kind.less nan x ≡ plus_zero
  pub less_right : (x : Float) → metre_kind.less x nan ≡ plus_zero
  pub equal_left : (x : Float) → metre_kind.equal nan x ≡ plus_zero
  pub equal_right : (x : Float) → metre_kind.equal x nan ≡ plus_zero

-- of the binary64 values, 0 and -0 are zero, and no other is
pub record ZeroLaws : Type 0 where
  pub plus : metre_kind.is_zero plus_zero ≡ true
  pub minus : metre_kind.is_zero minus_zero ≡ true
  pub only : (x : Float) → T (Ieee.fits binary64 x) → metre_kind.is_zero x ≡ true → (x ≡ plus_zero) ⊎ (x ≡ minus_zero)

-- whatever the operands, each operation's result is a binary64 value
pub record ResultsAreBinary64 (x y : Float) : Type 0 where
  pub sum : T (Ieee.fits binary64 (metre_kind.sum x y))
  pub difference : T (Ieee.fits binary64 (metre_kind.difference x y))
  pub product : T (Ieee.fits binary64 (metre_kind.product x y))
  pub quotient : T (Ieee.fits binary64 (metre_kind.quotient x y))
  pub less : T (Ieee.fits binary64 (metre_kind.less x y))
  pub equal : T (Ieee.fits binary64 (metre_kind.equal x y))
