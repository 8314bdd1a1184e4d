-- What a stack holds, and how much it can hold.
use Rattle.std.specs.Prelude.{◌≡◌, ℕ, List, length, take}
use Rattle.stack.specs.declared.BoundedStack.{BoundedStack}

module _ {T : Type 0} where
  -- the elements on the stack, the last pushed last
  abbrev pub live : BoundedStack T → List T
  live s = take s.count s.items.now

  -- how many elements it can hold: the length of the lent slice
  abbrev pub room : BoundedStack T → ℕ
  room s = length s.items.now

  -- the two stacks lie in one slice, with the same places, which goes back to the same lender
  pub record SameArea (old new : BoundedStack T) : Type 0 where
    pub lender : new.items.ghost_name ≡ old.items.ghost_name
    pub places : room new ≡ room old
