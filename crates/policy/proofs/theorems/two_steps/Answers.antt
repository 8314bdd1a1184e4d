use Rattle.std.proofs.Common.{◌≡◌, ℕ, ◌&&◌, ◌||◌, eqb, ap, ◌∙◌, rules}
use Rattle.policy.proofs.theorems.two_steps.Goals as goal
use Rattle.policy.specs.PairLists.{pair_list_flows}
use Rattle.policy.specs.Relations.{only_self, with_pair}
use Rattle.std.proofs.lemmas.Bool.{both_ways}

-- each call's relation in terms of the one before it; at numerals the last one computes
pub returns : goal.returns
returns c =
    let relation : (x y : ℕ) → pair_list_flows c.allow-2.new.self x y ≡ with_pair (with_pair (only_self 3) 0 1) 1 2 x y =
    λ x y.
    c.in_ok-allow-2.ensures.relation x y
    ∙ ap (λ v. (eqb x 1 && eqb y 2) || v) (c.in_ok-allow.ensures.relation x y
    ∙ ap (λ v. (eqb x 0 && eqb y 1) || v) (c.in_ok-p.ensures.relation x y)) in
    record {
      size = search rules;
      relation = relation;
      first = relation 0 1;
      second = relation 1 2;
      lacks = relation 0 2;
      intransitive = λ t. both_ways _ (relation 0 2) (t 0 1 2 (relation 0 1) (relation 1 2));
    }
