use Rattle.policy.proofs.Counts.{pairs_more}
use Rattle.policy.proofs.narrowed.Narrowed.take_place.Goals as goal
use Rattle.policy.specs.PairSets.{holds}
use Rattle.std.proofs.lemmas.Bool.Decides.{nat_tests}
use Rattle.std.proofs.Common.{refl, arith}

-- the pair counts as one more, and its labels differ
pub invariant_of-self : goal.invariant_of-self
invariant_of-self g c =
    let was = c.args.self.now.tally in
    let more = pairs_more (holds c.args.self.now.revoked) (holds c.insert.new.self) c.args.a c.args.b (omega arith) (omega arith) c.requires.fresh c.insert.ensures in
    record {
      room = omega arith;
      tally = omega arith;
      apart = λ k. let one = c.insert.ensures k k in let own = c.args.self.now.apart k in let ne = c.requires.different in grind (arith, nat_tests);
    }

pub returns : goal.returns
returns g c =
    record {
      inner = refl;
      taken = let fresh = c.requires.fresh in grind (arith, nat_tests);
      revoked = c.insert.ensures;
      relation = λ x y. let one = c.insert.ensures x y in grind (arith, nat_tests);
    }
