-- What holds of the millimetre kind, in the words of its rules.
use Rattle.std.specs.Prelude.{◌≡◌, ℕ, ◌<◌, ◌≤◌, ℤ, pos, negsuc, ◌-ℤ◌, ◌*ℤ◌, ◌≤ℤ◌, ◌<ℤ◌, int_div, unsigned_abs}
use Rattle.number.specs.Millimetre.{least, greatest, clamp, millimetre_kind}

-- z is a count of millimetres
abbrev pub InRange : ℤ → Type 0
InRange z = (least ≤ℤ z) × (z ≤ℤ greatest)

abbrev pub distance : ℤ → ℤ → ℕ
distance a b = unsigned_abs (a -ℤ b)

-- `clamp` keeps what lies in the range, brings the rest to the end that it passed, and nothing in the range is nearer
pub record ClampLaws : Type 0 where
  pub within : (z : ℤ) → InRange (clamp z)
  pub kept : (z : ℤ) → InRange z → clamp z ≡ z
  pub above : (z : ℤ) → greatest <ℤ z → clamp z ≡ greatest
  pub below : (z : ℤ) → z <ℤ least → clamp z ≡ least
  pub nearest : (z w : ℤ) → InRange w → distance z (clamp z) ≤ distance z w

-- whatever the operands, each operation's result is a count of millimetres
pub record ResultsInRange (a b : ℤ) : Type 0 where
  pub sum : InRange (millimetre_kind.sum a b)
  pub difference : InRange (millimetre_kind.difference a b)
  pub product : InRange (millimetre_kind.product a b)
  pub quotient : InRange (millimetre_kind.quotient a b)
  pub less : InRange (millimetre_kind.less a b)
  pub equal : InRange (millimetre_kind.equal a b)

-- the quotient drops the fraction towards zero: times the divisor it comes as near to a as it can without passing it
pub record DropsFraction (a b : ℤ) : Type 0 where
  pub short : unsigned_abs (b *ℤ int_div a b) ≤ unsigned_abs a
  pub near : distance a (b *ℤ int_div a b) < unsigned_abs b

abbrev pub WorkedExamples : Type 0
WorkedExamples =
    (millimetre_kind.sum (pos 2147483647) (pos 1) ≡ pos 2147483647)
    × (millimetre_kind.quotient (negsuc 6) (pos 2) ≡ negsuc 2)
    × (millimetre_kind.quotient (negsuc 2147483647) (negsuc 0) ≡ pos 2147483647)
    × (millimetre_kind.quotient (pos 5) (pos 0) ≡ pos 0)
