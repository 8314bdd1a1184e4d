-- Counting the pairs of a relation.
use Rattle.std.proofs.Common.{◌≡◌, ℕ, zero, suc, ◌+◌, ◌<◌, Bool, false, cond, refl, ap, ⊎_elim, arith}
use Rattle.policy.specs.Relations.{pairs_in, total, with_pair}
use Rattle.std.proofs.lemmas.Bool.{cases_eq}
use Rattle.std.proofs.lemmas.Bool.Decides.{nat_tests}

-- equal summands have equal sums
total_same : (n : ℕ) (f g : ℕ → ℕ) → ((j : ℕ) → j < n → g j ≡ f j) → total n g ≡ total n f
total_same zero f g same = refl
total_same (suc n) f g same =
    let here = same n (omega arith) in
    let below = total_same n f g (λ j h. same j (omega arith)) in
    omega arith

-- one summand greater by one makes the sum greater by one
total_more : (n k : ℕ) (f g : ℕ → ℕ) → k < n → ((j : ℕ) → (j ≡ k → ⊥) → g j ≡ f j) → g k ≡ f k + 1 → total n g ≡ total n f + 1
total_more zero k f g h same one = let z : ⊥ = omega arith in elim z [ ]
total_more (suc n) k f g h same one =
    ⊎_elim
    (λ (e : n ≡ k).
    let here : g n ≡ f n + 1 = rw e one in
    let below = total_same n f g (λ j l. same j (omega arith)) in
    omega arith)
    (λ (e : n ≡ k → ⊥).
    let here = same n e in
    let below = total_more n k f g (omega arith) same one in
    omega arith)
    (cases_eq n k)

-- summands of 0 have the sum 0
total_zero : (n : ℕ) (f : ℕ → ℕ) → ((j : ℕ) → f j ≡ 0) → total n f ≡ 0
total_zero zero f none = refl
total_zero (suc n) f none = let here = none n in let below = total_zero n f none in omega arith

-- the empty relation has no pair
pub pairs_none : (f : ℕ → ℕ → Bool) → ((x y : ℕ) → f x y ≡ false) → pairs_in f ≡ 0
unfolding pairs_in
pairs_none f none =
    total_zero 32 (λ x. total 32 (λ y. cond (f x y) 1 0))
    (λ x. total_zero 32 (λ y. cond (f x y) 1 0) (λ y. let e = none x y in grind arith))

-- a relation with the same pairs has as many
pub pairs_same : (f g : ℕ → ℕ → Bool) → ((x y : ℕ) → f x y ≡ g x y) → pairs_in f ≡ pairs_in g
unfolding pairs_in
pairs_same f g same =
    total_same 32 (λ x. total 32 (λ y. cond (g x y) 1 0)) (λ x. total 32 (λ y. cond (f x y) 1 0))
    (λ x _. total_same 32 (λ y. cond (g x y) 1 0) (λ y. cond (f x y) 1 0) (λ y _. ap (λ b. cond b 1 0) (same x y)))

-- one pair more makes one pair more
pub pairs_more : (f g : ℕ → ℕ → Bool) (a b : ℕ) → a < 32 → b < 32 → f a b ≡ false
    → ((x y : ℕ) → g x y ≡ with_pair f a b x y) → pairs_in g ≡ pairs_in f + 1
unfolding pairs_in
pairs_more f g a b ha hb lacks more =
    total_more 32 a (λ x. total 32 (λ y. cond (f x y) 1 0)) (λ x. total 32 (λ y. cond (g x y) 1 0)) ha
    (λ x ne. total_same 32 (λ y. cond (f x y) 1 0) (λ y. cond (g x y) 1 0) (λ y l. let e = more x y in grind (arith, nat_tests)))
    (total_more 32 b (λ y. cond (f a y) 1 0) (λ y. cond (g a y) 1 0) hb
    (λ y ne. let e = more a y in grind (arith, nat_tests))
    (let e = more a b in grind (arith, nat_tests)))
