-- The laws of one set within another, and of one type that fits another.
use Rattle.std.proofs.Common.{◌≡◌, ℕ, zero, suc, ◌⊎◌, sym, ap, subst, inl, inr}
use Rattle.sheet.specs.declared.decoded.Form.TheVariants as form
use Rattle.sheet.specs.Sheet.{Sheet}
use Rattle.typing.specs.Rules.{Within, Fits, Fit}
use Rattle.typing.proofs.Exactly.{fit_trans}

-- within a set that is within another
pub within_trans : (A B C : ℕ) → Within A B → Within B C → Within A C
within_trans A B C h k a t = k a (h a t)

module _ (S : Sheet) where
  -- looked at one deeper
  fits_more : (n X Y : ℕ) → Fits S n X Y → Fits S (suc n) X Y
  unfolding Fits
  fits_more zero X Y h = absurd h
  fits_more (suc n) X Y h = (
    h.0,
    h.1,
    h.2,
    λ e.
        (fits_more n (S.type Y).argument (S.type X).argument (h.3 e).0, fits_more n (S.type X).result (S.type Y).result (h.3 e).1, (h.3 e).2),
  )

  -- a type that fits another has its form
  pub fit_form : (X Y : ℕ) → Fit S X Y → (S.type X).form ≡ (S.type Y).form
  unfolding Fit Fits
  fit_form X Y h = h.0

  -- its labels are among the other's
  pub fit_set : (X Y : ℕ) → Fit S X Y → Within (S.type X).set (S.type Y).set
  unfolding Fit Fits
  fit_set X Y h = h.1

  -- so are a reference's sites
  pub fit_sites : (X Y : ℕ) → Fit S X Y → (S.type Y).form ≡ form.Reference → Within (S.type X).sites (S.type Y).sites
  unfolding Fit Fits
  fit_sites X Y h e = h.2 e

  -- of functions, the other's argument fits its own
  fit_argument : (X Y : ℕ) → Fit S X Y → (S.type Y).form ≡ form.Function → Fit S (S.type Y).argument (S.type X).argument
  unfolding Fit Fits
  fit_argument X Y h e = fits_more 7 (S.type Y).argument (S.type X).argument (h.3 e).0

  -- its result fits the other's
  fit_result : (X Y : ℕ) → Fit S X Y → (S.type Y).form ≡ form.Function → Fit S (S.type X).result (S.type Y).result
  unfolding Fit Fits
  fit_result X Y h e = fits_more 7 (S.type X).result (S.type Y).result (h.3 e).1

  -- and its effect has the other's
  fit_effect : (X Y : ℕ) → Fit S X Y → (S.type Y).form ≡ form.Function → Within (S.type Y).effect (S.type X).effect
  unfolding Fit Fits
  fit_effect X Y h e = (h.3 e).2

  -- X is Y, or fits it: so a closure has the very type of its node, however deep
  abbrev pub Upto : ℕ → ℕ → Type 0
  Upto X Y = (X ≡ Y) ⊎ Fit S X Y

  -- each of these laws, up to being the same type
  pub upto_fit : (X Y Z : ℕ) → Upto X Y → Fit S Y Z → Fit S X Z
  upto_fit X Y Z (inl e) k = subst (λ (x : ℕ). Fit S x Z) (sym e) k
  upto_fit X Y Z (inr h) k = fit_trans S X Y Z h k

  -- the form is the other's
  pub upto_form : (X Y : ℕ) → Upto X Y → (S.type X).form ≡ (S.type Y).form
  upto_form X Y (inl e) = ap (λ (x : ℕ). (S.type x).form) e
  upto_form X Y (inr h) = fit_form X Y h

  -- what fits the argument of Y fits that of X
  pub upto_argument : (X Y Z : ℕ) → Upto X Y → (S.type Y).form ≡ form.Function → Fit S Z (S.type Y).argument → Fit S Z (S.type X).argument
  upto_argument X Y Z (inl e) f k = subst (λ (x : ℕ). Fit S Z (S.type x).argument) (sym e) k
  upto_argument X Y Z (inr h) f k = fit_trans S Z (S.type Y).argument (S.type X).argument k (fit_argument X Y h f)

  -- what the result of Y fits, that of X fits
  pub upto_result : (X Y Z : ℕ) → Upto X Y → (S.type Y).form ≡ form.Function → Fit S (S.type Y).result Z → Fit S (S.type X).result Z
  upto_result X Y Z (inl e) f k = subst (λ (x : ℕ). Fit S (S.type x).result Z) (sym e) k
  upto_result X Y Z (inr h) f k = fit_trans S (S.type X).result (S.type Y).result Z (fit_result X Y h f) k

  -- what is within the effect of Y is within that of X
  pub upto_effect : (X Y A : ℕ) → Upto X Y → (S.type Y).form ≡ form.Function → Within A (S.type Y).effect → Within A (S.type X).effect
  upto_effect X Y A (inl e) f k = subst (λ (x : ℕ). Within A (S.type x).effect) (sym e) k
  upto_effect X Y A (inr h) f k = within_trans A (S.type Y).effect (S.type X).effect k (fit_effect X Y h f)
