-- The members of a set with a bound, and where they all flow.
use Rattle.std.proofs.Common.{◌≡◌, ℕ, ◌/◌, ◌%◌, ◌^◌, ◌<◌, ◌≤◌, Bool, true, false, not, ◌||◌, sym, ap, ⊎_elim, arith, pow_mono}
use native.Mathlib.Nat.{div-eq_of_lt}
use Rattle.std.proofs.lemmas.Bool.{true≢false, cases_lt, ltb-true}
use Rattle.sheet.specs.Sets.{has, set_below}
use Rattle.sheet.proofs.Asking.{every_means}
use Rattle.typing.proofs.Sets.{digit}
use Rattle.admission.specs.Questions.{flows_if, all_flow}

-- a set below n, as a number
below_power : (n s : ℕ) → set_below n s ≡ true → s < 2 ^ n
unfolding set_below
below_power n s h = ltb-true s (2 ^ n) h

-- every member of a set below n is below n
pub member_below : (n s k : ℕ) → set_below n s ≡ true → has k s ≡ true → k < n
member_below n s k h t =
    ⊎_elim
    (λ (l : k < n). l)
    (λ (g : n ≤ k).
    let b = below_power n s h in
    let m : 2 ^ n ≤ 2 ^ k = pow_mono g in
    let e : s / 2 ^ k ≡ 0 = div-eq_of_lt (omega arith) in
    let d = digit k s t in
    absurd (omega (arith, ap (λ x. x % 2) e)))
    (cases_lt k n)

-- a test that is asked of the members alone
asked_if : (b c : Bool) → (not b || c) ≡ true → b ≡ true → c ≡ true
asked_if true c h t = h
asked_if false c h t = absurd (true≢false (sym t))

-- where all labels of a set of 32 flow, each does
pub label_flows : (flows : ℕ → ℕ → Bool) (s b a : ℕ) → set_below 32 s ≡ true → all_flow flows s b ≡ true → has a s ≡ true → flows a b ≡ true
label_flows flows s b a l h t = asked_if (has a s) (flows a b) (every_means (flows_if flows s b) 32 h a (member_below 32 s a l t)) t
