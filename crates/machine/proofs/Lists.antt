-- Lists: the last element, and the elements of a stack.
use Rattle.std.proofs.Common.{◌≡◌, ℕ, ◌<◌, ◌≤◌, List, [], ◌∷◌, ◌++◌, length, Some, sym, ap, ◌∙◌, arith, length-append}
use Rattle.stack.specs.declared.BoundedStack.{BoundedStack}
use Rattle.stack.specs.Live.{live, room}
use Rattle.stack.specs.Ends.{top, below_top}
use Rattle.stack.proofs.Ends.{whole_from_top}
use Rattle.stack.proofs.Lengths.{live_length}

module _ {A : Type 0} where
  -- one fewer than there is room for
  pub fewer : (xs low : List A) (x : A) (m : ℕ) → xs ≡ low ++ x ∷ [] → length xs ≤ m → length low < m
  fewer xs low x m e h = omega (arith, ap length e, length-append low (x ∷ []))

  -- what was popped stood on what is left
  pub whole : (xs low : List A) (x : A) → Some x ≡ top xs → low ≡ below_top xs → xs ≡ low ++ x ∷ []
  whole xs low x e h = whole_from_top xs x (sym e) ∙ ap (λ (l : List A). l ++ x ∷ []) (sym h)

  -- no more than there is room for
  pub within : (s : BoundedStack A) (d : ℕ) → room s ≡ d → length (live s) ≤ d
  within s d e = let k = live_length s in let f = s.fits in omega arith
