-- Elements looked up by place, after an append.
use Rattle.std.proofs.Common.{◌≡◌, ℕ, zero, suc, List, [], ◌∷◌, ◌++◌, length, Some, refl, arith}
use Rattle.std.specs.List.{slice_get}

module _ {A : Type 0} where
  -- an element that was there stays
  pub get_old : (l : List A) (i : ℕ) (a b : A) → slice_get l i ≡ Some a → slice_get (l ++ b ∷ []) i ≡ Some a
  get_old [] i a b h = let z : ◌≡◌ {A = ℕ} 0 1 = cc in absurd (omega arith)
  get_old (x ∷ l) zero a b h = h
  get_old (x ∷ l) (suc i) a b h = get_old l i a b h

  -- the new one is the last
  pub get_new : (l : List A) (b : A) → slice_get (l ++ b ∷ []) (length l) ≡ Some b
  get_new [] b = refl
  get_new (x ∷ l) b = get_new l b
