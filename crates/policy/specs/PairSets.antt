-- What a set of pairs has.
use Rattle.std.specs.Prelude.{ℕ, Bool, false, [], ◌&&◌, nat_lt, slice_index_or}
use Rattle.policy.specs.declared.pair_set.PairSet.{PairSet}

-- the set has the pair (a, b)
abbrev pub holds : PairSet → ℕ → ℕ → Bool
holds s a b = nat_lt a 32 && (nat_lt b 32 && slice_index_or (slice_index_or s.rows a []) b false)
