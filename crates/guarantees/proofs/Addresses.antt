-- Lists read by address: after a write, and after one more element.
use Rattle.std.proofs.Common.{◌≡◌, ℕ, zero, suc, ◌<◌, ◌≢◌, ◌⊎◌, List, [], ◌∷◌, ◌++◌, length, set, Some, None, refl, ap, inl, inr, arith}
use Rattle.std.specs.List.{slice_get}

module _ {A : Type 0} where
  -- two that are there are the same where they stand at one place
  pub some_inj : {a b : A} → Some a ≡ Some b → a ≡ b
  some_inj e = cc

  -- nothing is not something
  pub none_some : {a : A} {X : Type 0} → None ≡ Some a → X
  none_some {a} {X} e = let z : ◌≡◌ {A = ℕ} 0 1 = cc in absurd (omega arith)

  -- what was written is there
  pub nth_set_same : (l : List A) (i : ℕ) (a b : A) → slice_get l i ≡ Some a → slice_get (set l i b) i ≡ Some b
  nth_set_same [] i a b h = none_some h
  nth_set_same (x ∷ l) zero a b h = refl
  nth_set_same (x ∷ l) (suc i) a b h = nth_set_same l i a b h

  -- other places are as they were
  pub nth_set_other : (l : List A) (i j : ℕ) (b : A) → i ≢ j → slice_get (set l i b) j ≡ slice_get l j
  nth_set_other [] i j b h = refl
  nth_set_other (x ∷ l) zero zero b h = absurd (h refl)
  nth_set_other (x ∷ l) zero (suc j) b h = refl
  nth_set_other (x ∷ l) (suc i) zero b h = refl
  nth_set_other (x ∷ l) (suc i) (suc j) b h = nth_set_other l i j b (λ e. h (ap suc e))

  -- with one more, the old places are as they were
  pub nth_old : (l : List A) (i : ℕ) (a b : A) → slice_get l i ≡ Some a → slice_get (l ++ b ∷ []) i ≡ Some a
  nth_old [] i a b h = none_some h
  nth_old (x ∷ l) zero a b h = h
  nth_old (x ∷ l) (suc i) a b h = nth_old l i a b h

  -- the new place has the new one
  pub nth_new : (l : List A) (b : A) → slice_get (l ++ b ∷ []) (length l) ≡ Some b
  nth_new [] b = refl
  nth_new (x ∷ l) b = nth_new l b

  -- each place is an old one, or the new one
  pub nth_either : (l : List A) (i : ℕ) (a b : A) → slice_get (l ++ b ∷ []) i ≡ Some a → (slice_get l i ≡ Some a) ⊎ ((i ≡ length l) × (b ≡ a))
  nth_either [] zero a b h = inr (refl, some_inj h)
  nth_either [] (suc i) a b h = none_some h
  nth_either (x ∷ l) zero a b h = inl h
  nth_either (x ∷ l) (suc i) a b h = elim (nth_either l i a b h) [ inl e ↦ inl e | inr p ↦ inr (ap suc p.0, p.1) ]

  -- a place with something is below the length
  pub nth_below : (l : List A) (i : ℕ) (a : A) → slice_get l i ≡ Some a → i < length l
  nth_below [] i a h = none_some h
  nth_below (x ∷ l) zero a h = omega arith
  nth_below (x ∷ l) (suc i) a h = let k : i < length l = nth_below l i a h in omega arith
