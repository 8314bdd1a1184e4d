-- Well-typed values: in a later store, at a type that theirs fits; and what an environment covers.
use Rattle.std.proofs.Common.{◌≡◌, ℕ, eqb, ◌≢◌, List, Some, sym, ◌∙◌, subst, inl, inr}
use Rattle.std.proofs.lemmas.Bool.{eqb-true, eqb-false, cases_Bool, cond-true, cond-false}
use Rattle.sheet.specs.declared.decoded.Form.TheVariants as form
use Rattle.sheet.specs.declared.decoded.Kind.TheVariants.{Lambda}
use Rattle.sheet.specs.Sheet.{Sheet}
use Rattle.evaluation.specs.Values.{Value, number, closure, reference, Environment, empty, bind, Cell, lookup}
use Rattle.typing.specs.Rules.{Fit, type_at, argument_at}
use Rattle.guarantees.specs.Sheets.{Inside}
use Rattle.guarantees.proofs.Addresses.{some_inj, none_some}
use Rattle.guarantees.proofs.Fitting.{upto_fit, fit_form, fit_sites}
use Rattle.guarantees.proofs.Typed.{AtSite, Covers, HasType, EnvTyped}

-- each address keeps its site
abbrev pub KeepsSites : {V : Type 0} → List (Cell V) → List (Cell V) → Type 0
KeepsSites cs cs' = (a s : ℕ) → AtSite cs a s → AtSite cs' a s

module _ {V : Type 0} (S : Sheet) (cs cs' : List (Cell V)) (k : KeepsSites cs cs') where
  mutual
    -- a value keeps its type where the addresses keep their sites
    pub typed_keeps : (v : Value V) (t : ℕ) → HasType S cs v t → HasType S cs' v t
    typed_keeps (number n) t h = h
    typed_keeps (closure f ρ) t h = (h.0, h.1, h.2, h.3, env_keeps ρ h.4)
    typed_keeps (reference a) t h = (h.0, h.1, (h.2.0, k a h.2.0 h.2.1, h.2.2))

    -- and so does an environment
    pub env_keeps : (ρ : Environment V) → EnvTyped S cs ρ → EnvTyped S cs' ρ
    env_keeps empty h = tt
    env_keeps (bind f v ρ) h = (typed_keeps v (argument_at S f) h.0, env_keeps ρ h.1)

module _ {V : Type 0} (S : Sheet) (cs : List (Cell V)) where
  -- a value of a type is of each type that this fits
  pub typed_fit : (v : Value V) (X Y : ℕ) → Fit S X Y → HasType S cs v X → HasType S cs v Y
  typed_fit (number n) X Y f h = sym (fit_form S X Y f) ∙ h
  typed_fit (closure g ρ) X Y f h = (h.0, h.1, inr (upto_fit S (type_at S g) X Y h.2 f), h.3, h.4)
  typed_fit (reference a) X Y f h =
      let e : (S.type Y).form ≡ form.Reference = sym (fit_form S X Y f) ∙ h.0 in
      (e, h.1, (h.2.0, h.2.1, fit_sites S X Y f e h.2.0 h.2.2))

  -- a value that is bound is of its function's argument type
  pub lookup_typed : (ρ : Environment V) (g : ℕ) (v : Value V) → EnvTyped S cs ρ → lookup g ρ ≡ Some v → HasType S cs v (argument_at S g)
  lookup_typed empty g v h e = none_some e
  lookup_typed (bind f w ρ) g v h e =
      elim (cases_Bool (eqb g f)) [
        | inl t ↦
            let r : f ≡ g = sym (eqb-true g f t) in
            let q : w ≡ v = some_inj (sym (cond-true (eqb g f) (Some w) (lookup g ρ) t) ∙ e) in
            subst (λ (x : ℕ). HasType S cs v (argument_at S x)) r (subst (λ (x : Value V). HasType S cs x (argument_at S f)) q h.0)
        | inr t ↦ lookup_typed ρ g v h.1 (sym (cond-false (eqb g f) (Some w) (lookup g ρ) t) ∙ e)
      ]

module _ {V : Type 0} (S : Sheet) where
  -- what covers a node that is no function covers a part of it, which stands in no other function
  pub covers_part : (ρ : Environment V) (i p : ℕ) → (S.node i).kind ≢ Lambda →
      ((g : ℕ) → g ≢ i → Inside S p g → Inside S i g) → Covers S ρ i → Covers S ρ p
  covers_part ρ i p n out c g l k h = c g l k (out g (λ e. n (subst (λ (x : ℕ). (S.node x).kind ≡ Lambda) e k)) h)

  -- what covers a function covers its body, with one binding more
  pub covers_body : (ρ : Environment V) (f p : ℕ) (v : Value V) → ((g : ℕ) → g ≢ f → Inside S p g → Inside S f g) → Covers S ρ f → Covers S (bind f v ρ) p
  covers_body ρ f p v out c g l k h =
      elim (cases_Bool (eqb g f)) [
        | inl t ↦ (v, cond-true (eqb g f) (Some v) (lookup g ρ) t)
        | inr t ↦
            let w = c g l k (out g (eqb-false g f t) h) in
            (w.0, cond-false (eqb g f) (Some v) (lookup g ρ) t ∙ w.1)
      ]
