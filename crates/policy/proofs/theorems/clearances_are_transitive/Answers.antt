use Rattle.std.proofs.Common.{◌≡◌, ℕ, ◌/◌, refl, arith}
use Rattle.policy.proofs.theorems.clearances_are_transitive.Goals as goal
use Rattle.policy.specs.Clearances.{compartments_of}
use Rattle.std.proofs.lemmas.Bool.Decides.{nat_tests}
use lib.Arith.{bin_ind}
use lib.Bits.{and_step, bit_and}

-- s within t says so of the digits above the last
halves : (s t : ℕ) → bit_and s t ≡ s → bit_and (s / 2) (t / 2) ≡ s / 2
halves s t e = omega (arith, and_step s t)

-- inclusion of sets is transitive
within_trans : (s t u : ℕ) → bit_and s t ≡ s → bit_and t u ≡ t → bit_and s u ≡ s
within_trans =
    bin_ind (λ s. (t u : ℕ) → bit_and s t ≡ s → bit_and t u ≡ t → bit_and s u ≡ s) (λ t u p q. refl)
    (λ s ih t u p q.
    let above = ih (t / 2) (u / 2) (halves s t p) (halves t u q) in
    omega (arith, and_step s t, and_step t u, and_step s u))

pub returns : goal.returns
returns c = λ p x y z f g.
    let w = within_trans (compartments_of p x) (compartments_of p y) (compartments_of p z) in
    grind (arith, nat_tests)
