-- One number more of a question.
use Rattle.std.proofs.Common.{◌≡◌, ℕ, zero, suc, ◌+◌, ◌-◌, ◌<◌, ◌≤◌, Bool, true, false, cond, not, Some, None, Option, sym, refl, ap, ◌∙◌, ⊎_elim, arith}
use Rattle.std.proofs.lemmas.Bool.{cases_Bool, cases_eq, cond-true, cond-false, true≢false}
use Rattle.sheet.specs.Asked.{first_no, none, every}

-- the first of the numbers that are left decides, or the others do
pub first_step : (p : ℕ → Bool) (k n : ℕ) → k < n → first_no p k (n - k) ≡ cond (p k) (first_no p (k + 1) (n - (k + 1))) (Some k)
unfolding first_no
first_step p k n h = let e : n - k ≡ suc (n - (k + 1)) = omega arith in rw e refl

-- no number is left
pub first_end : (p : ℕ → Bool) (k n : ℕ) → n ≤ k → first_no p k (n - k) ≡ None
unfolding first_no
first_end p k n h = let e : n - k ≡ 0 = omega arith in rw e refl

-- a no is among the numbers asked
pub first_bound : (p : ℕ → Bool) (j n k : ℕ) → first_no p j n ≡ Some k → k < j + n
unfolding first_no
first_bound p j zero k h = let z : ◌≡◌ {A = ℕ} 0 1 = cc in omega arith
first_bound p j (suc n) k h =
    ⊎_elim
    (λ (t : p j ≡ true). let r = first_bound p (j + 1) n k (sym (cond-true (p j) _ _ t) ∙ h) in omega arith)
    (λ (f : p j ≡ false). let e : Some j ≡ Some k = sym (cond-false (p j) (first_no p (j + 1) n) (Some j) f) ∙ h in let q : j ≡ k = cc in omega arith)
    (cases_Bool (p j))

-- where there is no no, each is answered yes
first_means : (p : ℕ → Bool) (j n : ℕ) → first_no p j n ≡ None → (k : ℕ) → j ≤ k → k < j + n → p k ≡ true
unfolding first_no
first_means p j zero h k a b = absurd (omega arith)
first_means p j (suc n) h k a b =
    ⊎_elim
    (λ (t : p j ≡ true).
    ⊎_elim
    (λ (e : j ≡ k). ap p (sym e) ∙ t)
    (λ (e : j ≡ k → ⊥). first_means p (j + 1) n (sym (cond-true (p j) _ _ t) ∙ h) k (omega arith) (omega arith))
    (cases_eq j k))
    (λ (f : p j ≡ false). let e : Some j ≡ None = sym (cond-false (p j) (first_no p (j + 1) n) (Some j) f) ∙ h in let z : ◌≡◌ {A = ℕ} 0 1 = cc in absurd (omega arith))
    (cases_Bool (p j))

-- where each is answered yes, there is no no
first_none : (p : ℕ → Bool) (j n : ℕ) → ((k : ℕ) → j ≤ k → k < j + n → p k ≡ true) → first_no p j n ≡ None
unfolding first_no
first_none p j zero h = refl
first_none p j (suc n) h = cond-true (p j) _ _ (h j (omega arith) (omega arith)) ∙ first_none p (j + 1) n (λ k a b. h k (omega arith) (omega arith))

-- the first no is a no
first_says : (p : ℕ → Bool) (j n k : ℕ) → first_no p j n ≡ Some k → p k ≡ false
unfolding first_no
first_says p j zero k h = let z : ◌≡◌ {A = ℕ} 0 1 = cc in absurd (omega arith)
first_says p j (suc n) k h =
    ⊎_elim
    (λ (t : p j ≡ true). first_says p (j + 1) n k (sym (cond-true (p j) _ _ t) ∙ h))
    (λ (f : p j ≡ false). let e : Some j ≡ Some k = sym (cond-false (p j) (first_no p (j + 1) n) (Some j) f) ∙ h in let q : j ≡ k = cc in ap p (sym q) ∙ f)
    (cases_Bool (p j))

-- the first no is none, or some number
none_means : (o : Option ℕ) → none o ≡ true → o ≡ None
none_means None h = refl
none_means (Some k) h = absurd (true≢false (sym h))

not_none : (o : Option ℕ) → not (none o) ≡ true → (k : ℕ) × (o ≡ Some k)
not_none None h = absurd (true≢false (sym h))
not_none (Some k) h = (k, refl)

-- `every` is yes for each of the numbers, and the other way round
pub every_means : (p : ℕ → Bool) (n : ℕ) → every p n ≡ true → (k : ℕ) → k < n → p k ≡ true
every_means p n h k b = first_means p 0 n (none_means (first_no p 0 n) h) k (omega arith) (omega arith)

pub every_from : (p : ℕ → Bool) (n : ℕ) → ((k : ℕ) → k < n → p k ≡ true) → every p n ≡ true
every_from p n h = ap none (first_none p 0 n (λ k a b. h k (omega arith)))

-- where not every one is answered yes, some number is answered no
pub some_no : (p : ℕ → Bool) (n : ℕ) → not (every p n) ≡ true → (k : ℕ) × (k < n) × (p k ≡ false)
some_no p n h =
    let z = not_none (first_no p 0 n) h in
    (z.0, (let b = first_bound p 0 n z.0 z.1 in omega arith), first_says p 0 n z.0 z.1)
