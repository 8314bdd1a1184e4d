use Rattle.std.proofs.Common.{◌≡◌, ℕ, false, replicate, arith}
use Rattle.policy.proofs.Filled.{unmarked}
use Rattle.policy.proofs.Counts.{pairs_none}
use Rattle.policy.proofs.pair_set.PairSet.new.Goals as goal
use Rattle.policy.specs.PairSets.{holds}
use Rattle.std.proofs.lemmas.Bool.Decides.{nat_tests}

-- no row has a pair
none : (x y : ℕ) → holds (record { rows = replicate 32 (replicate 32 false) }) x y ≡ false
none x y = let z = unmarked 32 32 x y in grind (arith, nat_tests)

pub returns : goal.returns
returns c = record { pairs = none; count = pairs_none _ none }
