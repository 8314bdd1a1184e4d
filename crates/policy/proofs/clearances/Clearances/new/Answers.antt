use Rattle.policy.proofs.Filled.{get_or-filled}
use Rattle.policy.proofs.clearances.Clearances.new.Goals as goal
use Rattle.policy.specs.Clearances.{lowest}
use Rattle.std.proofs.lemmas.Bool.Decides.{nat_tests}
use Rattle.std.proofs.Common.{ap, arith}

pub returns-clause-clearances : goal.returns-clause-clearances
returns-clause-clearances c = λ x. (ap (λ k. k.rank) (get_or-filled 32 x lowest), ap (λ k. k.compartments) (get_or-filled 32 x lowest))

pub returns-clause-relation : goal.returns-clause-relation
returns-clause-relation c = λ x y. let p = get_or-filled 32 x lowest in let q = get_or-filled 32 y lowest in grind (arith, nat_tests)
