-- Not-a-number, the zeros, and the results of the metre kind.
use Rattle.std.proofs.Common.{◌≡◌, zero, suc, ◌*◌, ◌^◌, Bool, true, false, T, ◌⊎◌, ℤ, pos, negsuc, refl, inl, inr, arith, eqb→eq}
use lib.Ieee.{Float, nan, inf, fin, binary64, lt, eq, is_nan, fits}
use lib.Ieee.Fits.{add-fits, sub-fits, mul-fits, div-fits}
use Rattle.std.proofs.lemmas.Nat.{pow_below}
use Rattle.std.proofs.lemmas.Bool.Decides.{nat_tests}
use Rattle.number.specs.Metre.{float_if, metre_kind}
use Rattle.number.specs.MetreLaws.{plus_zero, minus_zero, NanLaws, ZeroLaws, ResultsAreBinary64}

one_nan : (x : Float) → is_nan x ≡ true → x ≡ nan
unfolding is_nan
one_nan nan e = refl
one_nan (inf s) e = cc
one_nan (fin s m e) h = cc

-- a comparison with not-a-number on the left is false, and so is one with it on the right
less_left : (x : Float) → metre_kind.less nan x ≡ plus_zero
unfolding lt
less_left x = refl

less_right : (x : Float) → metre_kind.less x nan ≡ plus_zero
unfolding lt
less_right nan = refl
less_right (inf s) = refl
less_right (fin s m e) = refl

equal_left : (x : Float) → metre_kind.equal nan x ≡ plus_zero
unfolding eq
equal_left x = refl

equal_right : (x : Float) → metre_kind.equal x nan ≡ plus_zero
unfolding eq
equal_right nan = refl
equal_right (inf s) = refl
equal_right (fin s m e) = refl

pub nan_laws : NanLaws
nan_laws = record { one = one_nan; not_zero = refl; less_left = less_left; less_right = less_right; equal_left = equal_left; equal_right = equal_right }

-- a zero of the format has the exponent 0
zero_exponent : (s : Bool) (e : ℤ) → T (fits binary64 (fin s 0 e)) → e ≡ pos 0
unfolding fits
zero_exponent s (pos zero) h = refl
zero_exponent s (pos (suc k)) h =
    let p = pow_below 0 (suc k) (omega arith) in
    let e : 2 ^ suc k * 1 ≡ 1 = eqb→eq _ _ h in
    absurd (omega (arith, p, e))
zero_exponent s (negsuc k) h =
    let p = pow_below 0 (suc k) (omega arith) in
    let e : 1 * 2 ^ suc k ≡ 1 = eqb→eq _ _ h in
    absurd (omega (arith, p, e))

only_zeros : (x : Float) → T (fits binary64 x) → metre_kind.is_zero x ≡ true → (x ≡ plus_zero) ⊎ (x ≡ minus_zero)
only_zeros nan f e = inl (cc)
only_zeros (inf s) f e = inl (cc)
only_zeros (fin false zero e) f h = let z = zero_exponent false e f in inl (cc)
only_zeros (fin true zero e) f h = let z = zero_exponent true e f in inr (cc)
only_zeros (fin s (suc m) e) f h = inl (grind (arith, nat_tests))

pub zero_laws : ZeroLaws
zero_laws = record { plus = refl; minus = refl; only = only_zeros }

-- 1 and 0 are binary64 values
flag_fits : (b : Bool) → T (fits binary64 (float_if b))
unfolding fits
flag_fits true = tt
flag_fits false = tt

pub results : (x y : Float) → ResultsAreBinary64 x y
results x y =
    record {
      sum = add-fits binary64 x y;
      difference = sub-fits binary64 x y;
      product = mul-fits binary64 x y;
      quotient = div-fits binary64 x y;
      less = flag_fits (lt x y);
      equal = flag_fits (eq x y);
    }
