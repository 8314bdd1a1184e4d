-- The live elements: how many there are, and the last of them.
use Rattle.std.proofs.Common.{◌≡◌, ℕ, zero, suc, ◌-◌, ◌<◌, ◌≤◌, List, [], ◌∷◌, ◌++◌, length, get_or, take, Some, sym, set, ap, ◌∙◌, sub-one, arith, length-take-le, take-suc}
use lib.Seq.{take-set-lt}
use Rattle.stack.specs.declared.BoundedStack.{BoundedStack}
use Rattle.stack.specs.Ends.{top, below_top}
use Rattle.stack.specs.Live.{live}
use Rattle.stack.proofs.Ends.{top_push, below_top_push}

module _ {T : Type 0} where
  -- the count is the number of live elements
  pub live_length : (s : BoundedStack T) → length (live s) ≡ s.count
  live_length s = length-take-le _ _ s.fits

  -- the first n elements, taken apart at the last of them
  take_last : (l : List T) (n : ℕ) (d : T) → 0 < n → n ≤ length l → take n l ≡ take (n - 1) l ++ get_or l (n - 1) d ∷ []
  take_last l zero d h k = absurd (omega arith)
  take_last l (suc n) d h k = rw sub-one (take-suc l n d k)

  -- the top of the first n elements, and what lies below it
  pub top_take : (l : List T) (n : ℕ) (d : T) → 0 < n → n ≤ length l → Some (get_or l (n - 1) d) ≡ top (take n l)
  top_take l n d h k = sym (ap top (take_last l n d h k) ∙ top_push (take (n - 1) l) (get_or l (n - 1) d))

  pub below_top_take : (l : List T) (n : ℕ) (d : T) → 0 < n → n ≤ length l → take (n - 1) l ≡ below_top (take n l)
  below_top_take l n d h k = sym (ap below_top (take_last l n d h k) ∙ below_top_push (take (n - 1) l) (get_or l (n - 1) d))

  -- a live element is replaced in the list of them too
  pub set_live : (s : BoundedStack T) (i : ℕ) (x : T) → i < length (live s) → take s.count (set s.items.now i x) ≡ set (live s) i x
  set_live s i x h = let l = live_length s in take-set-lt _ _ _ _ (omega arith)
