-- Sets as numbers: member k adds 2^k.
use Rattle.std.specs.Prelude.{ℕ, ◌/◌, ◌%◌, ◌^◌, Bool, ◌==◌, bit_and, nat_lt}

-- k is a member of the set s
unfoldable pub has : ℕ → ℕ → Bool
has k s = (s / 2 ^ k) % 2 == 1

-- every member of the set s is below n
unfoldable pub set_below : ℕ → ℕ → Bool
set_below n s = nat_lt s (2 ^ n)

-- every member of the set a is a member of the set b
unfoldable pub within : ℕ → ℕ → Bool
within a b = bit_and a b == a
