-- The last element of a list, and those before it.
use Rattle.std.proofs.Common.{◌≡◌, List, [], ◌∷◌, ◌++◌, Some, None, refl, ap}
use Rattle.stack.specs.Ends.{top, below_top, LastInFirstOut}

module _ {T : Type 0} where
  -- what was put last is the last element
  pub top_push : (xs : List T) (x : T) → top (xs ++ x ∷ []) ≡ Some x
  top_push [] x = refl
  top_push (y ∷ []) x = refl
  top_push (y ∷ (z ∷ zs)) x = top_push (z ∷ zs) x

  -- and what was there before is left without it
  pub below_top_push : (xs : List T) (x : T) → below_top (xs ++ x ∷ []) ≡ xs
  below_top_push [] x = refl
  below_top_push (y ∷ []) x = refl
  below_top_push (y ∷ (z ∷ zs)) x = ap (λ l. y ∷ l) (below_top_push (z ∷ zs) x)

  -- a list with a last element is what stands before it, and then that element
  pub whole_from_top : (xs : List T) (x : T) → top xs ≡ Some x → xs ≡ below_top xs ++ x ∷ []
  whole_from_top [] x e = cc
  whole_from_top (y ∷ []) x e = cc
  whole_from_top (y ∷ (z ∷ zs)) x e = ap (λ l. y ∷ l) (whole_from_top (z ∷ zs) x e)

  -- only the empty list has no last element
  pub empty_from_top : (xs : List T) → top xs ≡ None → xs ≡ []
  empty_from_top [] e = refl
  empty_from_top (y ∷ []) e = cc
  empty_from_top (y ∷ (z ∷ zs)) e = let h = empty_from_top (z ∷ zs) e in cc

pub last_in_first_out_lem : (T : Type 0) → LastInFirstOut T
last_in_first_out_lem T = record { gives = top_push; leaves = below_top_push; whole = whole_from_top; empty = empty_from_top }
