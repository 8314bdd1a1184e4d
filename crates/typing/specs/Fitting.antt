-- When one type fits another, as a test.
use Rattle.std.specs.Prelude.{ℕ, zero, suc, Bool, false, ◌&&◌, bit_or}
use Rattle.sheet.specs.declared.decoded.TypeRow.{TypeRow}
use Rattle.sheet.specs.declared.decoded.Form.{Form}
use Rattle.sheet.specs.declared.decoded.Form.TheVariants.{Number, Function, Reference, Unknown}
use Rattle.sheet.specs.Sets.{within}
use Rattle.sheet.specs.Sheet.{Sheet, is_number, is_function, is_reference, is_unknown}

-- types x and y, of which x has the form given, have the same form, and what that form adds fits: of references x's sites are
-- within y's; of functions y's argument fits x's, x's result fits y's, and y's effect is within x's
abbrev pub parts_fit : (ℕ → ℕ → Bool) → TypeRow → TypeRow → Form → Bool
parts_fit fit x y Number = is_number y.form
parts_fit fit x y Function =
    is_function y.form && (fit y.argument x.argument && (fit x.result y.result && within y.effect x.effect))
parts_fit fit x y Reference = is_reference y.form && within x.sites y.sites
parts_fit fit x y Unknown = is_unknown y.form

-- type x fits type y, looked at n deep: x's labels are within y's, and what their form adds fits
unfoldable pub row_fits : Sheet → ℕ → TypeRow → TypeRow → Bool
row_fits S zero x y = false
row_fits S (suc n) x y =
    within x.set y.set && parts_fit (λ a b. row_fits S n (S.type a) (S.type b)) x y x.form

-- type x raised by m: x with the labels of m added to its set
abbrev pub raised : ℕ → TypeRow → TypeRow
raised m x =
    record { form = x.form; set = bit_or x.set m; argument = x.argument; result = x.result; effect = x.effect; sites = x.sites }

-- type number x fits type number y; types nest at most eight deep
abbrev pub fit : Sheet → ℕ → ℕ → Bool
fit S x y = row_fits S 8 (S.type x) (S.type y)

-- type number x raised by m fits type number y
abbrev pub raised_fit : Sheet → ℕ → ℕ → ℕ → Bool
raised_fit S x m y = row_fits S 8 (raised m (S.type x)) (S.type y)
