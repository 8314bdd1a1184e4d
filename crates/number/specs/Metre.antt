-- The metre kind: the binary64 values of IEEE 754, by the language library's own definitions (`Rattle.std.specs.Float.Ieee`).
-- A value is `nan`, an infinity `inf s`, or `fin s m e`, which is m * 2 ^ e, negative where s is true.
use Rattle.std.specs.Prelude.{Bool, true, false, pos, ◌==◌, Float}
use Rattle.std.specs.Float.Ieee as Ieee
use Rattle.std.specs.Float.{nan, inf, fin, binary64}
use Rattle.number.specs.NumberKind.{NumberKind}

-- true at 0 and -0 alone
abbrev pub zero_float : Float → Bool
zero_float nan = false
zero_float (inf s) = false
zero_float (fin s m e) = m == 0

-- the answer of a comparison, as a number: 1 or (positive) 0
abbrev pub float_if : Bool → Float
float_if true = fin false 1 (pos 0)
float_if false = fin false 0 (pos 0)

-- each operation is the exact result, rounded once
abbrev pub metre_kind : NumberKind
metre_kind =
    record {
      Value = Float;
      whole = Ieee.of_int binary64;
      is_zero = zero_float;
      sum = Ieee.add binary64;
      difference = Ieee.sub binary64;
      product = Ieee.mul binary64;
      quotient = Ieee.div binary64;
      less = λ x y. float_if (Ieee.lt x y);
      equal = λ x y. float_if (Ieee.eq x y);
    }
