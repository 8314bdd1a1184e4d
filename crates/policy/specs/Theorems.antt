-- Theorems on flow relations, as the contracts of src/theorems.rt cite them.
use Rattle.std.specs.Prelude.{◌≡◌, ℕ, Bool, true, false, ◌⊎◌}
use Rattle.policy.specs.Clearances.{clearances_flows}
use Rattle.policy.specs.PairLists.{pair_list_flows, pair_list_size}
use Rattle.policy.specs.Relations.{Transitive, only_self, with_pair, without_pair}
use Rattle.policy.specs.declared.clearances.Clearances.{Clearances}
use Rattle.policy.specs.declared.pair_list.PairList.{PairList}

-- every clearance policy's relation is transitive
abbrev pub ClearancesAreTransitive : Type 0
ClearancesAreTransitive = (p : Clearances) → Transitive (clearances_flows p)

-- a relation with (a, b) has that pair, every pair that it had, and no other
abbrev pub AddsOnePair : Type 0
AddsOnePair = (f : ℕ → ℕ → Bool) (a b x y : ℕ)
    → (with_pair f a b a b ≡ true)
    × (f x y ≡ true → with_pair f a b x y ≡ true)
    × (with_pair f a b x y ≡ true → (f x y ≡ true) ⊎ ((x ≡ a) × (y ≡ b)))
    × (f a b ≡ true → with_pair f a b x y ≡ f x y)

-- p is the pair list over three labels with (0, 1) and (1, 2): it lacks (0, 2), so it is not transitive
pub record TwoSteps (p : PairList) : Type 0 where
  pub size : pair_list_size p ≡ 3
  pub relation : (x y : ℕ) → pair_list_flows p x y ≡ with_pair (with_pair (only_self 3) 0 1) 1 2 x y
  pub first : pair_list_flows p 0 1 ≡ true
  pub second : pair_list_flows p 1 2 ≡ true
  pub lacks : pair_list_flows p 0 2 ≡ false
  pub intransitive : Transitive (pair_list_flows p) → ⊥

-- a relation without (a, b) lacks that pair, has no pair that it lacked, and keeps every other
abbrev pub RemovesOnePair : Type 0
RemovesOnePair = (f : ℕ → ℕ → Bool) (a b x y : ℕ)
    → (without_pair f a b a b ≡ false)
    × (without_pair f a b x y ≡ true → f x y ≡ true)
    × (f x y ≡ true → (without_pair f a b x y ≡ true) ⊎ ((x ≡ a) × (y ≡ b)))
