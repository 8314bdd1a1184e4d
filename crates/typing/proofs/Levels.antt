-- One level of a type.
use Rattle.std.proofs.Common.{◌≡◌, ℕ, suc, ◌-◌, false, ◌&&◌, refl, ap, arith}
use Rattle.sheet.specs.declared.decoded.TypeRow.{TypeRow}
use Rattle.sheet.specs.Sets.{within}
use Rattle.sheet.specs.Sheet.{Sheet}
use Rattle.typing.specs.Fitting.{parts_fit, row_fits}

-- looked at no level deep, nothing fits
pub fits_none : (S : Sheet) (n : ℕ) (x y : TypeRow) → n ≡ 0 → row_fits S n x y ≡ false
unfolding row_fits
fits_none S n x y e = rw e refl

-- one level: the sets, and what the form adds, one level less deep
pub fits_step : (S : Sheet) (n : ℕ) (x y : TypeRow) → (n ≡ 0 → ⊥)
    → row_fits S n x y ≡ (within x.set y.set && parts_fit (λ a b. row_fits S (n - 1) (S.type a) (S.type b)) x y x.form)
unfolding row_fits
fits_step S n x y h = let e : n ≡ suc (n - 1) = omega arith in ap (λ m. row_fits S m x y) e
