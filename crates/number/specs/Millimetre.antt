-- The millimetre kind: the whole numbers from -2^31 to 2^31 - 1. A result outside them is brought to the nearest end.
use Rattle.std.specs.Prelude.{◌-◌, ◌^◌, Bool, true, false, cond, ℤ, pos, negsuc, ◌+ℤ◌, ◌-ℤ◌, ◌*ℤ◌, ◌==◌, int_div, int_lt}
use Rattle.number.specs.NumberKind.{NumberKind}

-- the ends of the range: -2^31 (`negsuc n` is -(n + 1)) and 2^31 - 1
abbrev pub least : ℤ
least = negsuc (2 ^ 31 - 1)

abbrev pub greatest : ℤ
greatest = pos (2 ^ 31 - 1)

-- the number of the range that is nearest to z
abbrev pub clamp : ℤ → ℤ
clamp z = cond (int_lt greatest z) greatest (cond (int_lt z least) least z)

-- whether two whole numbers are equal
abbrev pub sameℤ : ℤ → ℤ → Bool
sameℤ (pos a) (pos b) = a == b
sameℤ (pos a) (negsuc b) = false
sameℤ (negsuc a) (pos b) = false
sameℤ (negsuc a) (negsuc b) = a == b

-- the answer of a comparison, as a number
abbrev pub one_if : Bool → ℤ
one_if true = pos 1
one_if false = pos 0

-- the quotient with its fraction dropped (`int_div`), brought into the range; 0 where the divisor is 0
abbrev pub divided : ℤ → ℤ → ℤ
divided a b = cond (sameℤ b (pos 0)) (pos 0) (clamp (int_div a b))

abbrev pub millimetre_kind : NumberKind
millimetre_kind =
    record {
      Value = ℤ;
      whole = λ n. n;
      is_zero = λ a. sameℤ a (pos 0);
      sum = λ a b. clamp (a +ℤ b);
      difference = λ a b. clamp (a -ℤ b);
      product = λ a b. clamp (a *ℤ b);
      quotient = divided;
      less = λ a b. one_if (int_lt a b);
      equal = λ a b. one_if (sameℤ a b);
    }
