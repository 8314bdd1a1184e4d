-- The meaning of a narrowed policy, by that of the policy inside it.
use Rattle.std.specs.Prelude.{◌≡◌, ℕ, ◌+◌, ◌≤◌, Bool, true, cond, not, ◌&&◌}
use Rattle.policy.specs.PairSets.{holds}
use Rattle.policy.specs.Relations.{pairs_in, with_pair, without_pair}
use Rattle.policy.specs.declared.narrowed.Narrowed.{Narrowed}

-- the policy inside
abbrev pub inner_of : {P : Type 0} → Narrowed P → P
inner_of s = s.inner

-- how many of the 32 places are taken
abbrev pub taken_of : {P : Type 0} → Narrowed P → ℕ
taken_of s = s.taken

-- the pair (a, b) has been revoked
abbrev pub revoked_of : {P : Type 0} → Narrowed P → ℕ → ℕ → Bool
revoked_of s a b = holds s.revoked a b

-- as many labels as the policy inside
abbrev pub narrowed_size : {P : Type 0} → (P → ℕ) → Narrowed P → ℕ
narrowed_size size s = size (inner_of s)

-- a flows to b in the policy inside, and the pair has not been revoked
abbrev pub narrowed_flows : {P : Type 0} → (P → ℕ → ℕ → Bool) → Narrowed P → ℕ → ℕ → Bool
narrowed_flows flows s a b = flows (inner_of s) a b && not (revoked_of s a b)

-- t is s with (a, b) revoked: a pair that is revoked again takes no further place
pub record Revokes {P : Type 0} (flows : P → ℕ → ℕ → Bool) (s t : Narrowed P) (a b : ℕ) : Type 0 where
  pub inner : inner_of t ≡ inner_of s
  pub taken : taken_of t ≡ cond (revoked_of s a b) (taken_of s) (taken_of s + 1)
  pub revoked : (x y : ℕ) → revoked_of t x y ≡ with_pair (revoked_of s) a b x y
  pub relation : (x y : ℕ) → narrowed_flows flows t x y ≡ without_pair (narrowed_flows flows s) a b x y

-- s and t have the same policy inside, the same revoked pairs, places taken and relation
pub record Alike {P : Type 0} (flows : P → ℕ → ℕ → Bool) (s t : Narrowed P) : Type 0 where
  pub inner : inner_of s ≡ inner_of t
  pub taken : taken_of s ≡ taken_of t
  pub revoked : (x y : ℕ) → revoked_of s x y ≡ revoked_of t x y
  pub relation : (x y : ℕ) → narrowed_flows flows s x y ≡ narrowed_flows flows t x y

-- every pair of the narrowed policy is a pair of the policy inside it
abbrev pub AddsNoPair : {P : Type 0} → (P → ℕ → ℕ → Bool) → Type 0
AddsNoPair {P} flows =
    (s : Narrowed P) (x y : ℕ) → narrowed_flows flows s x y ≡ true → flows (inner_of s) x y ≡ true

-- the places taken are as many as the pairs revoked, and at most 32
abbrev pub CountsPairs : Type 0 → Type 0
CountsPairs P = (s : Narrowed P) → (taken_of s ≡ pairs_in (revoked_of s)) × (taken_of s ≤ 32)

-- two revocations granted in one order, from s over t to u, and in the other, from s over v to w
abbrev pub Commutes : {P : Type 0} → (P → ℕ → ℕ → Bool) → Type 0
Commutes {P} flows =
    (s t u v w : Narrowed P) (a b c d : ℕ)
    → Revokes flows s t a b → Revokes flows t u c d
    → Revokes flows s v c d → Revokes flows v w a b
    → Alike flows u w

-- a pair revoked once more changes nothing
abbrev pub Idempotent : {P : Type 0} → (P → ℕ → ℕ → Bool) → Type 0
Idempotent {P} flows =
    (s t u : Narrowed P) (a b : ℕ) → Revokes flows s t a b → Revokes flows t u a b → Alike flows t u
