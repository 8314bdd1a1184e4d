use Rattle.std.proofs.Common.{◌≡◌, ℕ, Bool, sym, ◌∙◌, arith}
use Rattle.policy.proofs.Counts.{pairs_same}
use Rattle.policy.proofs.theorems.revoking_commutes.Goals as goal
use Rattle.policy.specs.Narrowing.{Alike, inner_of, revoked_of}
use Rattle.policy.specs.Relations.{with_pair}
use Rattle.policy.specs.declared.narrowed.Narrowed.{Narrowed}
use Rattle.std.proofs.lemmas.Bool.Decides.{nat_tests}

-- the policy inside and the revoked pairs settle the rest
alike : {P : Type 0} (flows : P → ℕ → ℕ → Bool) (s t : Narrowed P) → inner_of s ≡ inner_of t
    → ((x y : ℕ) → revoked_of s x y ≡ revoked_of t x y) → Alike flows s t
alike flows s t inner same = record {
  inner = inner;
  taken = s.tally ∙ pairs_same (revoked_of s) (revoked_of t) same ∙ sym t.tally;
  revoked = same;
  relation = λ x y. let e = same x y in cc;
}

-- f with (a, b) and then (c, d) is h over g, and with (c, d) and then (a, b) is j over i
swapped : (f g h i j : ℕ → ℕ → Bool) (a b c d x y : ℕ) → g x y ≡ with_pair f a b x y → h x y ≡ with_pair g c d x y
    → i x y ≡ with_pair f c d x y → j x y ≡ with_pair i a b x y → h x y ≡ j x y
swapped f g h i j a b c d x y at_g at-h at_i at_j = grind (arith, nat_tests)

-- f with (a, b) once is g, and twice is h
twice : (f g h : ℕ → ℕ → Bool) (a b x y : ℕ) → g x y ≡ with_pair f a b x y → h x y ≡ with_pair g a b x y → g x y ≡ h x y
twice f g h a b x y at_g at-h = grind (arith, nat_tests)

pub returns : goal.returns
returns g _ = record {
  commutes = λ s t u v w a b c d st tu sv vw.
      alike g.P.Policy.flows u w (tu.inner ∙ st.inner ∙ sym (vw.inner ∙ sv.inner))
      (λ x y. swapped (revoked_of s) (revoked_of t) (revoked_of u) (revoked_of v) (revoked_of w) a b c d x y (st.revoked x y) (tu.revoked x y) (sv.revoked x y) (vw.revoked x y));
  idempotent = λ s t u a b st tu.
      alike g.P.Policy.flows t u (sym tu.inner)
      (λ x y. twice (revoked_of s) (revoked_of t) (revoked_of u) a b x y (st.revoked x y) (tu.revoked x y));
}
