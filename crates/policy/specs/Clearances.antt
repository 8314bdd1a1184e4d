-- The meaning of a clearance policy.
use Rattle.std.specs.Prelude.{◌≡◌, ℕ, Bool, cond, ◌&&◌, ◌==◌, bit_and, nat_le, nat_lt, slice_index_or}
use Rattle.policy.specs.declared.clearances.Clearance.{Clearance}
use Rattle.policy.specs.declared.clearances.Clearances.{Clearances}

-- every member of the set s is one of t
abbrev pub within : ℕ → ℕ → Bool
within s t = bit_and s t == s

-- of n labels a flows to b: both are labels, and a's rank and set lie within b's
abbrev pub cleared : ℕ → (ℕ → ℕ) → (ℕ → ℕ) → ℕ → ℕ → Bool
cleared n rank set a b = nat_lt a n && (nat_lt b n && (nat_le (rank a) (rank b) && within (set a) (set b)))

-- how many labels it has
abbrev pub clearances_size : Clearances → ℕ
clearances_size p = p.count

-- rank 0 and no compartment
abbrev pub lowest : Clearance
lowest = record { rank = 0; compartments = 0 }

-- the rank of a label
abbrev pub rank_of : Clearances → ℕ → ℕ
rank_of p k = (slice_index_or p.clearances k lowest).rank

-- the set of compartments of a label
abbrev pub compartments_of : Clearances → ℕ → ℕ
compartments_of p k = (slice_index_or p.clearances k lowest).compartments

-- a flows to b
abbrev pub clearances_flows : Clearances → ℕ → ℕ → Bool
clearances_flows p = cleared (clearances_size p) (rank_of p) (compartments_of p)

-- f with the value v at k, and otherwise as it was
abbrev pub replaced : (ℕ → ℕ) → ℕ → ℕ → ℕ → ℕ
replaced f k v x = cond (x == k) v (f x)

-- q is p with another rank at one label
pub record Ranked (p q : Clearances) (label rank : ℕ) : Type 0 where
  pub ranks : (x : ℕ) → rank_of q x ≡ replaced (rank_of p) label rank x
  pub compartments : (x : ℕ) → compartments_of q x ≡ compartments_of p x
  pub relation : (x y : ℕ) → clearances_flows q x y ≡ cleared (clearances_size p) (replaced (rank_of p) label rank) (compartments_of p) x y

-- q is p with another set of compartments at one label
pub record Compartmented (p q : Clearances) (label set : ℕ) : Type 0 where
  pub ranks : (x : ℕ) → rank_of q x ≡ rank_of p x
  pub compartments : (x : ℕ) → compartments_of q x ≡ replaced (compartments_of p) label set x
  pub relation : (x y : ℕ) → clearances_flows q x y ≡ cleared (clearances_size p) (rank_of p) (replaced (compartments_of p) label set) x y
