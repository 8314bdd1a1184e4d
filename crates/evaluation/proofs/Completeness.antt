-- What the big-step relation derives, evaluation does where the limits leave room for it.
use Rattle.std.proofs.Common.{◌≡◌, ℕ, zero, suc, ◌+◌, ◌<◌, ◌≤◌, Bool, true, cond, ltb, [], ◌∷◌, ◌++◌, length, set, refl, ap, ◌∙◌, arith, length-append, length-set, lt-ltb, ne_eqb}
use Rattle.number.specs.NumberKind.{NumberKind}
use Rattle.sheet.specs.declared.decoded.Kind.{Kind}
use Rattle.sheet.specs.declared.decoded.Kind.TheVariants.{Literal, Variable, Lambda, Application, New, Channel, Read, Write, Choice, Operation}
use Rattle.sheet.specs.Sheet.{Sheet, last_part, part}
use Rattle.evaluation.specs.declared.ending.Stop.TheVariants.{FuelSpent}
use Rattle.evaluation.specs.Values.{Value, number, reference, Environment, bind, Cell, State, Outcome, done, stopped, Evaluator, and_then, provided, one_step}
use Rattle.evaluation.specs.Evaluation.{found, loaded, stored, by_kind, eval, most_bindings, most_fresh}
use Rattle.evaluation.specs.BigStep.{Derives, literal, variable, lambda, application, new, channel, read, write, choice_zero, choice_nonzero, operation, Store}
use Rattle.evaluation.specs.Correspondence.{size, depth, applied}

-- the state with these cells after so many bindings and steps
abbrev at : {V : Type 0} → Store V → (b t : ℕ) → State V
at μ b t = record { cells = μ; bindings = b; steps = t }

module _ {V : Type 0} where
  -- an evaluation that is done, and what follows it
  then_done : {v : Value V} {s : State V} (o : Outcome V) (next : Value V → State V → Outcome V) (r : Outcome V) → o ≡ done v s → next v s ≡ r → and_then o next ≡ r
  then_done o next r p q = ap (λ (x : Outcome V). and_then x next) p ∙ q

  -- an evaluation under a test that holds
  provided_true : (b : Bool) (first : Unit {0} → Outcome V) (other : Outcome V) → b ≡ true → provided b first other ≡ first tt
  provided_true b first other e = ap (λ (x : Bool). provided x first other) e

  -- an outcome whose counts are given otherwise
  pub counts_as : (v : Value V) (μ : Store V) (b b' t t' : ℕ) → b ≡ b' → t ≡ t' → done v (at μ b t) ≡ done v (at μ b' t')
  counts_as v μ b b' t t' p q = cc

  -- a node without parts makes one step and no binding
  leaf : (v : Value V) (μ : Store V) (b t : ℕ) → done v (at μ b (suc t)) ≡ done v (at μ (b + 0) (t + 1))
  leaf v μ b t = counts_as v μ b (b + 0) (suc t) (t + 1) (omega arith) (omega arith)

module _ (M : NumberKind) (S : Sheet) where
  -- no rule takes a cell away
  never_shrinks : {ρ : Environment M.Value} {μ : Store M.Value} {i : ℕ} {v : Value M.Value} {ν : Store M.Value}
      → Derives M S ρ μ i v ν → length μ ≤ length ν
  never_shrinks (literal e) = omega arith
  never_shrinks (variable e h) = omega arith
  never_shrinks (lambda e) = omega arith
  never_shrinks (application f ρ a μ₁ μ₂ e D₁ D₂ D₃) = omega (arith, never_shrinks D₁, never_shrinks D₂, never_shrinks D₃)
  never_shrinks (new v μ₁ e D) = let h = never_shrinks D in rw length-append (omega arith)
  never_shrinks (channel e) = omega arith
  never_shrinks (read l c e D h) = never_shrinks D
  never_shrinks (write l c μ₁ μ₂ e D₁ D₂ h) = rw length-set (omega (arith, never_shrinks D₁, never_shrinks D₂))
  never_shrinks (choice_zero n μ₁ e D₁ z D₂) = omega (arith, never_shrinks D₁, never_shrinks D₂)
  never_shrinks (choice_nonzero n μ₁ e D₁ z D₂) = omega (arith, never_shrinks D₁, never_shrinks D₂)
  never_shrinks (operation m n μ₁ e D₁ D₂) = omega (arith, never_shrinks D₁, never_shrinks D₂)

  -- with fuel and a place, a node starts
  starts : (fuel d i : ℕ) (ρ : Environment M.Value) (s : State M.Value) (k : Kind) → s.steps < fuel → (S.node i).kind ≡ k
      → eval M S fuel (suc d) i ρ s ≡ by_kind M S (eval M S fuel d) k i ρ (one_step s)
  unfolding eval
  starts fuel d i ρ s k h e =
      ap (λ (x : Bool). provided x (λ _. stopped FuelSpent s.steps) (by_kind M S (eval M S fuel d) (S.node i).kind i ρ (one_step s)))
      (ne_eqb s.steps fuel (λ q. omega arith))
      ∙ ap (λ (x : Kind). by_kind M S (eval M S fuel d) x i ρ (one_step s)) e

  -- with fuel and a place, a node comes to what its kind comes to with one place less
  start : (fuel d i : ℕ) (ρ : Environment M.Value) (s : State M.Value) (k : Kind) (r : Outcome M.Value) → 0 < d → s.steps < fuel → (S.node i).kind ≡ k
      → ((d' : ℕ) → d ≡ suc d' → by_kind M S (eval M S fuel d') k i ρ (one_step s) ≡ r) → eval M S fuel d i ρ s ≡ r
  start fuel zero i ρ s k r p h e f = absurd (omega arith)
  start fuel (suc d) i ρ s k r p h e f = starts fuel d i ρ s k h e ∙ f d refl

  -- a choice whose condition is done, and whose branch is
  choice_done : (ev : Evaluator M.Value) (i : ℕ) (ρ : Environment M.Value) (n : M.Value) (s s₁ : State M.Value) (r : Outcome M.Value) {b : Bool}
      → M.is_zero n ≡ b → ev (part S i 2) ρ s ≡ done (number n) s₁ → ev (cond b (part S i 0) (part S i 1)) ρ s₁ ≡ r → by_kind M S ev Choice i ρ s ≡ r
  choice_done ev i ρ n s s₁ r z p q = then_done _ _ _ p (ap (λ (x : Bool). ev (cond x (part S i 0) (part S i 1)) ρ s₁) z ∙ q)

  -- by induction on the derivation: with fuel for its size, places for its depth, and room for its bindings and cells, evaluation does it
  pub completes : {ρ : Environment M.Value} {μ : Store M.Value} {i : ℕ} {v : Value M.Value} {ν : Store M.Value}
      (D : Derives M S ρ μ i v ν) (fuel d b t : ℕ) → t + size D ≤ fuel → depth D ≤ d → b + applied D ≤ most_bindings → length ν ≤ S.sites + most_fresh
      → eval M S fuel d i ρ (at μ b t) ≡ done v (at ν (b + applied D) (t + size D))
  completes {ρ} {μ} {i} {v} {ν} (literal e) fuel d b t hs hd hb hc =
      start fuel d i ρ (at μ b t) Literal _ (omega arith) (omega arith) e (λ d' q. leaf _ μ b t)
  completes {ρ} {μ} {i} {v} {ν} (variable e h) fuel d b t hs hd hb hc =
      start fuel d i ρ (at μ b t) Variable _ (omega arith) (omega arith) e
      (λ d' q. ap (found i (at μ b (suc t))) h ∙ leaf v μ b t)
  completes {ρ} {μ} {i} {v} {ν} (lambda e) fuel d b t hs hd hb hc =
      start fuel d i ρ (at μ b t) Lambda _ (omega arith) (omega arith) e (λ d' q. leaf _ μ b t)
  completes {ρ} {μ} {i} {v} {ν} (application f ρ' a μ₁ μ₂ e D₁ D₂ D₃) fuel d b t hs hd hb hc =
      start fuel d i ρ (at μ b t) Application _ (omega arith) (omega arith) e
      (λ d' q.
      let b₂ : ℕ = b + applied D₁ + applied D₂ in
      let t₂ : ℕ = suc t + size D₁ + size D₂ in
      let g₂ = never_shrinks D₂ in
      let g₃ = never_shrinks D₃ in
      let h₁ = completes D₁ fuel d' b (suc t) (omega arith) (omega arith) (omega arith) (omega arith) in
      let h₂ = completes D₂ fuel d' (b + applied D₁) (suc t + size D₁) (omega arith) (omega arith) (omega arith) (omega arith) in
      let h₃ = completes D₃ fuel d' (suc b₂) t₂ (omega arith) (omega arith) (omega arith) hc in
      then_done _ _ _ h₁
      (then_done _ _ _ h₂
      (provided_true (ltb b₂ most_bindings) (λ _. eval M S fuel d' (last_part f) (bind f a ρ') (at μ₂ (suc b₂) t₂)) _ (lt-ltb b₂ most_bindings (omega arith))
      ∙ h₃ ∙ counts_as v ν _ _ _ _ (omega arith) (omega arith))))
  completes {ρ} {μ} {i} {v} {ν} (new a μ₁ e D) fuel d b t hs hd hb hc =
      start fuel d i ρ (at μ b t) New _ (omega arith) (omega arith) e
      (λ d' q.
      let c : Cell M.Value = record { site = (S.node i).argument; value = a } in
      let room : length μ₁ + 1 ≤ S.sites + most_fresh = rw length-append at hc in
      let h = completes D fuel d' b (suc t) (omega arith) (omega arith) (omega arith) (omega arith) in
      then_done _ _ _ h
      (provided_true (ltb (length μ₁) (S.sites + most_fresh)) (λ _. done (reference (length μ₁)) (at (μ₁ ++ c ∷ []) (b + applied D) (suc t + size D))) _
      (lt-ltb (length μ₁) (S.sites + most_fresh) (omega arith))
      ∙ counts_as _ (μ₁ ++ c ∷ []) _ _ _ _ (omega arith) (omega arith)))
  completes {ρ} {μ} {i} {v} {ν} (channel e) fuel d b t hs hd hb hc =
      start fuel d i ρ (at μ b t) Channel _ (omega arith) (omega arith) e (λ d' q. leaf _ μ b t)
  completes {ρ} {μ} {i} {v} {ν} (read l c e D k) fuel d b t hs hd hb hc =
      start fuel d i ρ (at μ b t) Read _ (omega arith) (omega arith) e
      (λ d' q.
      let h = completes D fuel d' b (suc t) (omega arith) (omega arith) (omega arith) hc in
      then_done _ _ _ h
      (ap (loaded i (at ν (b + applied D) (suc t + size D))) k ∙ counts_as c.value ν _ _ _ _ (omega arith) (omega arith)))
  completes {ρ} {μ} {i} {v} {ν} (write l c μ₁ μ₂ e D₁ D₂ k) fuel d b t hs hd hb hc =
      start fuel d i ρ (at μ b t) Write _ (omega arith) (omega arith) e
      (λ d' q.
      let room : length μ₂ ≤ S.sites + most_fresh = rw length-set at hc in
      let g₂ = never_shrinks D₂ in
      let h₁ = completes D₁ fuel d' b (suc t) (omega arith) (omega arith) (omega arith) (omega arith) in
      let h₂ = completes D₂ fuel d' (b + applied D₁) (suc t + size D₁) (omega arith) (omega arith) (omega arith) room in
      then_done _ _ _ h₁
      (then_done _ _ _ h₂
      (ap (stored i l v (at μ₂ (b + applied D₁ + applied D₂) (suc t + size D₁ + size D₂))) k
      ∙ counts_as v (set μ₂ l (record { site = c.site; value = v })) _ _ _ _ (omega arith) (omega arith))))
  completes {ρ} {μ} {i} {v} {ν} (choice_zero n μ₁ e D₁ z D₂) fuel d b t hs hd hb hc =
      start fuel d i ρ (at μ b t) Choice _ (omega arith) (omega arith) e
      (λ d' q.
      let g₂ = never_shrinks D₂ in
      let h₁ = completes D₁ fuel d' b (suc t) (omega arith) (omega arith) (omega arith) (omega arith) in
      let h₂ = completes D₂ fuel d' (b + applied D₁) (suc t + size D₁) (omega arith) (omega arith) (omega arith) hc in
      choice_done (eval M S fuel d') i ρ n _ _ _ z h₁ (h₂ ∙ counts_as v ν _ _ _ _ (omega arith) (omega arith)))
  completes {ρ} {μ} {i} {v} {ν} (choice_nonzero n μ₁ e D₁ z D₂) fuel d b t hs hd hb hc =
      start fuel d i ρ (at μ b t) Choice _ (omega arith) (omega arith) e
      (λ d' q.
      let g₂ = never_shrinks D₂ in
      let h₁ = completes D₁ fuel d' b (suc t) (omega arith) (omega arith) (omega arith) (omega arith) in
      let h₂ = completes D₂ fuel d' (b + applied D₁) (suc t + size D₁) (omega arith) (omega arith) (omega arith) hc in
      choice_done (eval M S fuel d') i ρ n _ _ _ z h₁ (h₂ ∙ counts_as v ν _ _ _ _ (omega arith) (omega arith)))
  completes {ρ} {μ} {i} {v} {ν} (operation m n μ₁ e D₁ D₂) fuel d b t hs hd hb hc =
      start fuel d i ρ (at μ b t) Operation _ (omega arith) (omega arith) e
      (λ d' q.
      let g₂ = never_shrinks D₂ in
      let h₁ = completes D₁ fuel d' b (suc t) (omega arith) (omega arith) (omega arith) (omega arith) in
      let h₂ = completes D₂ fuel d' (b + applied D₁) (suc t + size D₁) (omega arith) (omega arith) (omega arith) hc in
      then_done _ _ _ h₁ (then_done _ _ _ h₂ (counts_as _ ν _ _ _ _ (omega arith) (omega arith))))
