-- The meaning of a pair list.
use Rattle.std.specs.Prelude.{ℕ, Bool, ◌&&◌, ◌||◌, ◌==◌, nat_lt}
use Rattle.policy.specs.PairSets.{holds}
use Rattle.policy.specs.declared.pair_list.PairList.{PairList}

-- how many labels it has
abbrev pub pair_list_size : PairList → ℕ
pair_list_size p = p.count

-- a flows to b: both are labels, and they are the same or the pair was allowed
abbrev pub pair_list_flows : PairList → ℕ → ℕ → Bool
pair_list_flows p a b = nat_lt a p.count && (nat_lt b p.count && (a == b || holds p.allowed a b))
