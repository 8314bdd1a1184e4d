-- Which sets an observer sees: it is decided, and goes down to sets within and to types that fit.
use Rattle.std.proofs.Common.{◌≡◌, ℕ, zero, suc, ◌/◌, ◌%◌, ◌^◌, ◌<◌, Bool, true, false, ◌⊎◌, sym, ◌∙◌, subst, inl, inr, arith}
use native.Mathlib.Nat.{div-eq_of_lt}
use Rattle.std.proofs.lemmas.Nat.{pow_below}
use Rattle.std.proofs.lemmas.Bool.{true≢false, eqb-true, cases_Bool, cases_eq, cases_lt}
use Rattle.sheet.specs.Sets.{has}
use Rattle.sheet.specs.Sheet.{Sheet}
use Rattle.typing.specs.Rules.{Within, Fit}
use Rattle.guarantees.specs.Sheets.{Visible}
use Rattle.guarantees.proofs.Fitting.{fit_set}

-- a number is below its power of two
below_power : (k : ℕ) → k < 2 ^ k
below_power zero = omega arith
below_power (suc k) = let h = below_power k in let l = pow_below k (suc k) (omega arith) in omega arith

-- a member of a set is below the number that the set is
member_below : (k A : ℕ) → has k A ≡ true → k < A
unfolding has
member_below k A h =
    elim (cases_lt k A) [
      | inl l ↦ l
      | inr l ↦
          let p = below_power k in
          let z : A / 2 ^ k ≡ 0 = div-eq_of_lt (omega arith) in
          let o : A / 2 ^ k % 2 ≡ 1 = eqb-true _ _ h in
          absurd (omega arith)
    ]

module _ (O : ℕ → Bool) where
  -- the members below n are labels of O
  abbrev VisibleBelow : ℕ → ℕ → Type 0
  VisibleBelow n A = (k : ℕ) → k < n → has k A ≡ true → O k ≡ true

  -- one label more
  one_more : (n A : ℕ) → VisibleBelow n A → (has n A ≡ true → O n ≡ true) → VisibleBelow (suc n) A
  one_more n A h m k l t =
      elim (cases_eq n k) [
        | inl e ↦ subst (λ (x : ℕ). O x ≡ true) e (m (subst (λ (x : ℕ). has x A ≡ true) (sym e) t))
        | inr e ↦ h k (omega arith) t
      ]

  -- it is decided below each bound
  visible_below : (n A : ℕ) → VisibleBelow n A ⊎ (VisibleBelow n A → ⊥)
  visible_below zero A = inl (λ k l t. absurd (omega arith))
  visible_below (suc n) A =
      elim (visible_below n A) [
        | inr m ↦ inr (λ f. m (λ k l. f k (omega arith)))
        | inl h ↦
            elim (cases_Bool (has n A)) [
              | inr f ↦ inl (one_more n A h (λ t. absurd (true≢false (sym t ∙ f))))
              | inl t ↦
                  elim (cases_Bool (O n)) [
                    | inl o ↦ inl (one_more n A h (λ _. o))
                    | inr o ↦ inr (λ f. true≢false (sym (f n (omega arith) t) ∙ o))
                  ]
            ]
      ]

  -- a set is visible or it is not
  pub visible_or_not : (A : ℕ) → Visible O A ⊎ (Visible O A → ⊥)
  unfolding Visible
  visible_or_not A =
      elim (visible_below A A) [
        | inl h ↦ inl (λ k t. h k (member_below k A t) t)
        | inr n ↦ inr (λ f. n (λ k l t. f k t))
      ]

  -- a set within a visible one is visible
  pub visible_within : (A B : ℕ) → Within A B → Visible O B → Visible O A
  unfolding Visible
  visible_within A B h k a t = k a (h a t)

  -- and the labels of a type that fits one with visible labels
  pub visible_fit : (S : Sheet) (X Y : ℕ) → Fit S X Y → Visible O (S.type Y).set → Visible O (S.type X).set
  visible_fit S X Y f = visible_within (S.type X).set (S.type Y).set (fit_set S X Y f)

  -- a set with a label that is not one of O is not visible
  pub not_visible : (A k : ℕ) → has k A ≡ true → O k ≡ false → Visible O A → ⊥
  unfolding Visible
  not_visible A k t f v = true≢false (sym (v k t) ∙ f)
