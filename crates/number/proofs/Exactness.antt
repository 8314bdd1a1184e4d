-- Whole numbers of 32 bits enter binary64 exactly.
use Rattle.std.proofs.Common.{ℕ, suc, ◌^◌, ◌<◌, Bool, true, false, pos, negsuc, sym, lt_trans, mul-one, arith}
use lib.Ieee.{round, binary64, of_int}
use lib.Ieee.Exact.{HasValue, round_exact}
use Rattle.std.proofs.lemmas.Nat.{shl_below, pow_below}
use Rattle.std.proofs.lemmas.Int.{ints}
use Rattle.number.specs.MetreLaws.{WholesExact}

-- rounding changes no whole number of at most 53 binary digits
round_whole : (s : Bool) (n : ℕ) → n < 2 ^ 53 → HasValue (round binary64 s n 1) s n 1
round_whole s n h =
    round_exact binary64 s n 1 n 1074 (omega arith) h
    (shl_below n 1024 1074 (lt_trans h (pow_below 53 1024 (omega arith))))
    (sym (mul-one _))

pub wholes_exact : WholesExact
unfolding of_int
wholes_exact (pos n) h = round_whole false n (grind (arith, ints))
wholes_exact (negsuc n) h = round_whole true (suc n) (grind (arith, ints))
