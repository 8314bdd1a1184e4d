-- The last element of a list, and those before it.
use Rattle.std.specs.Prelude.{◌≡◌, List, [], ◌∷◌, ◌++◌, Some, None, Option}

module _ {T : Type 0} where
  -- the last element, if there is one
  abbrev pub top : List T → Option T
  top [] = None
  top (x ∷ []) = Some x
  top (x ∷ (y ∷ ys)) = top (y ∷ ys)

  -- what is left without it
  abbrev pub below_top : List T → List T
  below_top [] = []
  below_top (x ∷ []) = []
  below_top (x ∷ (y ∷ ys)) = x ∷ below_top (y ∷ ys)

-- last in, first out: after x is pushed on xs, x is what a pop gives, and xs is what it leaves;
-- and whatever a pop gives stood on what it leaves, but for the empty stack, which gives nothing
pub record LastInFirstOut (T : Type 0) : Type 0 where
  pub gives : (xs : List T) (x : T) → top (xs ++ x ∷ []) ≡ Some x
  pub leaves : (xs : List T) (x : T) → below_top (xs ++ x ∷ []) ≡ xs
  pub whole : (xs : List T) (x : T) → top xs ≡ Some x → xs ≡ below_top xs ++ x ∷ []
  pub empty : (xs : List T) → top xs ≡ None → xs ≡ []
