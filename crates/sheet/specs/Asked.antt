-- A question is a test on the numbers of some things. Asked of each in rising order, its answer is the first no.
use Rattle.std.specs.Prelude.{◌≡◌, ℕ, zero, suc, ◌+◌, ◌<◌, Bool, true, false, cond, Some, None, Ok, Err, Option, Result}
use Rattle.sheet.specs.declared.refusal.Refusal.{Refusal}

-- the first no among the n numbers from k on
unfoldable pub first_no : (ℕ → Bool) → ℕ → ℕ → Option ℕ
first_no p k zero = None
first_no p k (suc n) = cond (p k) (first_no p (k + 1) n) (Some k)

-- no no was found
abbrev pub none : Option ℕ → Bool
none None = true
none (Some k) = false

-- yes for each of the first n numbers
abbrev pub every : (ℕ → Bool) → ℕ → Bool
every p n = none (first_no p 0 n)

-- the same as a fact: the test says yes of each of the first n numbers
abbrev pub Each : ℕ → (ℕ → Bool) → Type 0
Each n p = (k : ℕ) → k < n → p k ≡ true

-- what a test answers, of each of the first n numbers, is what p says; post tells its answers
abbrev pub Says : {F : Type 0} → (F → ℕ → Bool → Type 0) → F → ℕ → (ℕ → Bool) → Type 0
Says post test n p = (k : ℕ) (b : Bool) → k < n → post test k b → b ≡ p k

-- yes, or the question that is refused with the row that it names; Q is the kind of questions
abbrev pub Verdict : Type 0 → Type 0
Verdict Q = Result (Unit {0}) (Refusal Q)

-- question q is refused at row k
abbrev pub refuse : {Q : Type 0} → Q → ℕ → Verdict Q
refuse q k = Err (record { question = q; row = k })

-- the verdict on things whose rows begin at row b, from the first no among them
abbrev pub told : {Q : Type 0} → Q → ℕ → Option ℕ → Verdict Q
told q b None = Ok tt
told q b (Some k) = refuse q (b + k)

-- question q, whose test is p, asked of n things whose rows begin at row b
unfoldable pub asked : {Q : Type 0} → Q → ℕ → (ℕ → Bool) → ℕ → Verdict Q
asked q b p n = told q b (first_no p 0 n)

-- question q, asked once; a no names row k
abbrev pub once : {Q : Type 0} → Q → ℕ → Bool → Verdict Q
once q k t = cond t (Ok tt) (refuse q k)

-- the second verdict where the first is yes, else the first
infixr 20 ◌then◌
abbrev pub ◌then◌ : {Q : Type 0} → Verdict Q → Verdict Q → Verdict Q
Ok u then w = w
Err e then w = Err e

-- the verdict is yes
abbrev pub passed : {Q : Type 0} → Verdict Q → Bool
passed (Ok u) = true
passed (Err e) = false
