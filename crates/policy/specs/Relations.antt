-- Flow relations: for every two labels, whether the first may flow to the second.
use Rattle.std.specs.Prelude.{◌≡◌, ℕ, zero, suc, ◌+◌, Bool, true, false, cond, ◌&&◌, ◌||◌, ◌==◌, nat_lt}

-- of n labels, each flows to itself and to no other
abbrev pub only_self : ℕ → ℕ → ℕ → Bool
only_self n x y = nat_lt x n && x == y

-- of n labels, each flows to each
abbrev pub every_pair : ℕ → ℕ → ℕ → Bool
every_pair n x y = nat_lt x n && nat_lt y n

-- the relation f with the pair (a, b), and otherwise as it was
abbrev pub with_pair : (ℕ → ℕ → Bool) → ℕ → ℕ → ℕ → ℕ → Bool
with_pair f a b x y = (x == a && y == b) || f x y

-- the relation f without the pair (a, b), and otherwise as it was
abbrev pub without_pair : (ℕ → ℕ → Bool) → ℕ → ℕ → ℕ → ℕ → Bool
without_pair f a b x y = cond (x == a && y == b) false (f x y)

-- where x flows to y and y to z, x flows to z
abbrev pub Transitive : (ℕ → ℕ → Bool) → Type 0
Transitive f = (x y z : ℕ) → f x y ≡ true → f y z ≡ true → f x z ≡ true

-- f 0, f 1, .. below n, added up
abbrev pub total : ℕ → (ℕ → ℕ) → ℕ
total zero f = 0
total (suc n) f = f n + total n f

-- how many pairs of labels below 32 are in the relation
unfoldable pub pairs_in : (ℕ → ℕ → Bool) → ℕ
pairs_in f = total 32 (λ x. total 32 (λ y. cond (f x y) 1 0))
