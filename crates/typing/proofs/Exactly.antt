-- The test of fitting says what fitting is.
use Rattle.std.proofs.Common.{◌≡◌, ℕ, zero, suc, Bool, true, false, sym, refl, ◌∙◌, arith}
use Rattle.std.proofs.lemmas.Bool.{true≢false, and_parts, and_from}
use Rattle.sheet.specs.declared.decoded.TypeRow.{TypeRow}
use Rattle.sheet.specs.declared.decoded.Form.{Form}
use Rattle.sheet.specs.declared.decoded.Form.TheVariants as form
use Rattle.sheet.specs.Sheet.{Sheet, is_number, is_function, is_reference, is_unknown}
use Rattle.typing.specs.Fitting.{parts_fit, row_fits, raised, fit, raised_fit}
use Rattle.typing.specs.Rules.{Within, Fits, Fit, Raised}
use Rattle.typing.specs.Meaning.{Iff, FitsExactly, FitsTransitive}
use Rattle.typing.proofs.Sets.{within_is, union_within}

-- no test says yes and no
pub never : {A : Type 0} → false ≡ true → A
never h = absurd (true≢false (sym h))

-- the tests of form say what the form is
pub number_is : (f : Form) → Iff (is_number f ≡ true) (f ≡ form.Number)
number_is f = (to f, λ e. rw e refl)
  where
    to : (f : Form) → is_number f ≡ true → f ≡ form.Number
    to form.Number h = refl
    to form.Function h = never h
    to form.Reference h = never h
    to form.Unknown h = never h

pub function_is : (f : Form) → Iff (is_function f ≡ true) (f ≡ form.Function)
function_is f = (to f, λ e. rw e refl)
  where
    to : (f : Form) → is_function f ≡ true → f ≡ form.Function
    to form.Number h = never h
    to form.Function h = refl
    to form.Reference h = never h
    to form.Unknown h = never h

pub reference_is : (f : Form) → Iff (is_reference f ≡ true) (f ≡ form.Reference)
reference_is f = (to f, λ e. rw e refl)
  where
    to : (f : Form) → is_reference f ≡ true → f ≡ form.Reference
    to form.Number h = never h
    to form.Function h = never h
    to form.Reference h = refl
    to form.Unknown h = never h

unknown_is : (f : Form) → Iff (is_unknown f ≡ true) (f ≡ form.Unknown)
unknown_is f = (to f, λ e. rw e refl)
  where
    to : (f : Form) → is_unknown f ≡ true → f ≡ form.Unknown
    to form.Number h = never h
    to form.Function h = never h
    to form.Reference h = never h
    to form.Unknown h = refl

-- two forms that are one form and another
apart : {A : Type 0} (f g h : Form) → f ≡ g → f ≡ h → (g ≡ h → ◌≡◌ {A = ℕ} 0 1) → A
apart f g h p q r = absurd (let z = r (sym p ∙ q) in omega arith)

module _ (S : Sheet) where
  abbrev deep : ℕ → ℕ → ℕ → Bool
  deep n a b = row_fits S n (S.type a) (S.type b)

  -- what fitting asks besides the sets
  abbrev Parts : ℕ → ℕ → ℕ → Type 0
  Parts n X Y =
      ((S.type X).form ≡ (S.type Y).form)
      × ((S.type Y).form ≡ form.Reference → Within (S.type X).sites (S.type Y).sites)
      × ((S.type Y).form ≡ form.Function →
      Fits S n (S.type Y).argument (S.type X).argument × Fits S n (S.type X).result (S.type Y).result × Within (S.type Y).effect (S.type X).effect)

  -- the same, as a test, by the form of the first type
  parts_mean : (n X Y : ℕ) (f : Form) → ((A B : ℕ) → Iff (deep n A B ≡ true) (Fits S n A B)) → (S.type X).form ≡ f
      → parts_fit (deep n) (S.type X) (S.type Y) f ≡ true → Parts n X Y
  parts_mean n X Y form.Number ih e p =
      let y : (S.type Y).form ≡ form.Number = (number_is _).0 p in
      (e ∙ sym y, (λ q. apart _ _ _ y q (λ z. cc)), (λ q. apart _ _ _ y q (λ z. cc)))
  parts_mean n X Y form.Function ih e p =
      let a = and_parts _ _ p in
      let b = and_parts _ _ a.1 in
      let c = and_parts _ _ b.1 in
      let y : (S.type Y).form ≡ form.Function = (function_is _).0 a.0 in
      (e ∙ sym y, (λ q. apart _ _ _ y q (λ z. cc)), (λ q. ((ih _ _).0 b.0, (ih _ _).0 c.0, (within_is _ _).0 c.1)))
  parts_mean n X Y form.Reference ih e p =
      let a = and_parts _ _ p in
      let y : (S.type Y).form ≡ form.Reference = (reference_is _).0 a.0 in
      (e ∙ sym y, (λ q. (within_is _ _).0 a.1), (λ q. apart _ _ _ y q (λ z. cc)))
  parts_mean n X Y form.Unknown ih e p =
      let y : (S.type Y).form ≡ form.Unknown = (unknown_is _).0 p in
      (e ∙ sym y, (λ q. apart _ _ _ y q (λ z. cc)), (λ q. apart _ _ _ y q (λ z. cc)))

  parts_hold : (n X Y : ℕ) (f : Form) → ((A B : ℕ) → Iff (deep n A B ≡ true) (Fits S n A B)) → (S.type X).form ≡ f
      → Parts n X Y → parts_fit (deep n) (S.type X) (S.type Y) f ≡ true
  parts_hold n X Y form.Number ih e p = (number_is _).1 (sym p.0 ∙ e)
  parts_hold n X Y form.Function ih e p =
      let y : (S.type Y).form ≡ form.Function = sym p.0 ∙ e in
      let q = p.2 y in
      and_from _ _ ((function_is _).1 y) (and_from _ _ ((ih _ _).1 q.0) (and_from _ _ ((ih _ _).1 q.1) ((within_is _ _).1 q.2)))
  parts_hold n X Y form.Reference ih e p =
      let y : (S.type Y).form ≡ form.Reference = sym p.0 ∙ e in
      and_from _ _ ((reference_is _).1 y) ((within_is _ _).1 (p.1 y))
  parts_hold n X Y form.Unknown ih e p = (unknown_is _).1 (sym p.0 ∙ e)

  -- raising adds to the set alone
  raised_parts : (p : ℕ → ℕ → Bool) (M : ℕ) (x y : TypeRow) (f : Form) → parts_fit p (raised M x) y f ≡ parts_fit p x y f
  raised_parts p M x y form.Number = refl
  raised_parts p M x y form.Function = refl
  raised_parts p M x y form.Reference = refl
  raised_parts p M x y form.Unknown = refl

  -- the test, looked at n deep
  pub fits_is : (n X Y : ℕ) → Iff (deep n X Y ≡ true) (Fits S n X Y)
  unfolding row_fits Fits
  fits_is zero X Y = ((λ h. never h), (λ h. absurd h))
  fits_is (suc n) X Y = (
    (λ h.
        let a = and_parts _ _ h in
        let p = parts_mean n X Y (S.type X).form (fits_is n) refl a.1 in
        (p.0, (within_is _ _).0 a.0, p.1, p.2)),
    (λ h. and_from _ _ ((within_is _ _).1 h.1) (parts_hold n X Y (S.type X).form (fits_is n) refl (h.0, h.2, h.3))),
  )

  -- the test of a raised type
  raised_is : (n X M Y : ℕ) → Iff (row_fits S (suc n) (raised M (S.type X)) (S.type Y) ≡ true) (Fits S (suc n) X Y × Within M (S.type Y).set)
  unfolding row_fits Fits
  raised_is n X M Y = (
    (λ h.
        let a = and_parts _ _ h in
        let w = (union_within _ _ _).0 ((within_is _ _).0 a.0) in
        let p = parts_mean n X Y (S.type X).form (fits_is n) refl (sym (raised_parts (deep n) M (S.type X) (S.type Y) (S.type X).form) ∙ a.1) in
        ((p.0, w.0, p.1, p.2), w.1)),
    (λ h.
        and_from _ _ ((within_is _ _).1 ((union_within _ _ _).1 (h.0.1, h.1)))
        (raised_parts (deep n) M (S.type X) (S.type Y) (S.type X).form
        ∙ parts_hold n X Y (S.type X).form (fits_is n) refl (h.0.0, h.0.2, h.0.3))),
  )

  pub fit_is : (X Y : ℕ) → Iff (fit S X Y ≡ true) (Fit S X Y)
  unfolding Fit
  fit_is X Y = fits_is 8 X Y

  pub raised_fit_is : (X M Y : ℕ) → Iff (raised_fit S X M Y ≡ true) (Raised S X M Y)
  unfolding Fit
  raised_fit_is X M Y = raised_is 7 X M Y

  -- what fits a type that fits a third fits the third
  fits_trans : (n X Y Z : ℕ) → Fits S n X Y → Fits S n Y Z → Fits S n X Z
  unfolding Fits
  fits_trans zero X Y Z h k = h
  fits_trans (suc n) X Y Z h k = (
    h.0 ∙ k.0,
    (λ a t. k.1 a (h.1 a t)),
    (λ e a t. k.2 e a (h.2 (k.0 ∙ e) a t)),
    (λ e. (
      fits_trans n (S.type Z).argument (S.type Y).argument (S.type X).argument (k.3 e).0 (h.3 (k.0 ∙ e)).0,
      fits_trans n (S.type X).result (S.type Y).result (S.type Z).result (h.3 (k.0 ∙ e)).1 (k.3 e).1,
      (λ a t. (h.3 (k.0 ∙ e)).2 a ((k.3 e).2 a t)),
    )),
  )

  pub fit_trans : (X Y Z : ℕ) → Fit S X Y → Fit S Y Z → Fit S X Z
  unfolding Fit
  fit_trans X Y Z h k = fits_trans 8 X Y Z h k

pub exactly : FitsExactly
exactly S X Y M = (fit_is S X Y, raised_fit_is S X M Y)

pub transitive : FitsTransitive
transitive S X Y Z h k = fit_trans S X Y Z h k
