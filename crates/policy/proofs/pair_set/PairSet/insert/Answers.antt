use Rattle.std.proofs.Common.{◌<◌, length, arith, rules}
use Rattle.policy.proofs.Filled.{set_row}
use Rattle.policy.proofs.pair_set.PairSet.insert.Goals as goal
use Rattle.std.proofs.lemmas.Bool.Decides.{nat_tests}

pub returns : goal.returns
returns c =
    let room : c.args.a < length c.args.self.now.rows = search rules in
    λ x y.
    let places = set_row c.args.self.now.rows _ c.args.a c.args.b x y room (c.mark.ensures y) in
    grind (arith, nat_tests)
