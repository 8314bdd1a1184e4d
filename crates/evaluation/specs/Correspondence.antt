-- The runs that are done, and the big-step relation: an evaluation is done with a value exactly when the
-- relation derives that value within the limits.
use Rattle.std.specs.Prelude.{◌≡◌, ℕ, suc, ◌+◌, ◌≤◌, max, List, length}
use Rattle.number.specs.NumberKind.{NumberKind}
use Rattle.sheet.specs.Sheet.{Sheet}
use Rattle.evaluation.specs.declared.ending.Ending.TheVariants.{Number}
use Rattle.evaluation.specs.Values.{Value, number, Environment, empty, State, done}
use Rattle.evaluation.specs.Evaluation.{eval, most_pending, most_bindings, most_fresh}
use Rattle.evaluation.specs.Runs.{run, run_report, opening}
use Rattle.evaluation.specs.BigStep.{Derives, literal, variable, lambda, application, new, channel, read, write, choice_zero, choice_nonzero, operation, Store}

module _ {M : NumberKind} {S : Sheet} where
  -- how many rules a derivation uses: one for each node that starts
  abbrev pub size : {ρ : Environment M.Value} {μ : Store M.Value} {i : ℕ} {v : Value M.Value} {ν : Store M.Value} → Derives M S ρ μ i v ν → ℕ
  size (literal e) = 1
  size (variable e h) = 1
  size (lambda e) = 1
  size (application f ρ a μ₁ μ₂ e D₁ D₂ D₃) = suc (size D₁ + size D₂ + size D₃)
  size (new v μ₁ e D) = suc (size D)
  size (channel e) = 1
  size (read l c e D h) = suc (size D)
  size (write l c μ₁ μ₂ e D₁ D₂ h) = suc (size D₁ + size D₂)
  size (choice_zero n μ₁ e D₁ z D₂) = suc (size D₁ + size D₂)
  size (choice_nonzero n μ₁ e D₁ z D₂) = suc (size D₁ + size D₂)
  size (operation m n μ₁ e D₁ D₂) = suc (size D₁ + size D₂)

  -- how deep its rules are nested: how many nodes are pending at once
  abbrev pub depth : {ρ : Environment M.Value} {μ : Store M.Value} {i : ℕ} {v : Value M.Value} {ν : Store M.Value} → Derives M S ρ μ i v ν → ℕ
  depth (literal e) = 1
  depth (variable e h) = 1
  depth (lambda e) = 1
  depth (application f ρ a μ₁ μ₂ e D₁ D₂ D₃) = suc (max (depth D₁) (max (depth D₂) (depth D₃)))
  depth (new v μ₁ e D) = suc (depth D)
  depth (channel e) = 1
  depth (read l c e D h) = suc (depth D)
  depth (write l c μ₁ μ₂ e D₁ D₂ h) = suc (max (depth D₁) (depth D₂))
  depth (choice_zero n μ₁ e D₁ z D₂) = suc (max (depth D₁) (depth D₂))
  depth (choice_nonzero n μ₁ e D₁ z D₂) = suc (max (depth D₁) (depth D₂))
  depth (operation m n μ₁ e D₁ D₂) = suc (max (depth D₁) (depth D₂))

  -- how many functions it applies, each with a binding
  abbrev pub applied : {ρ : Environment M.Value} {μ : Store M.Value} {i : ℕ} {v : Value M.Value} {ν : Store M.Value} → Derives M S ρ μ i v ν → ℕ
  applied (literal e) = 0
  applied (variable e h) = 0
  applied (lambda e) = 0
  applied (application f ρ a μ₁ μ₂ e D₁ D₂ D₃) = suc (applied D₁ + applied D₂ + applied D₃)
  applied (new v μ₁ e D) = applied D
  applied (channel e) = 0
  applied (read l c e D h) = applied D
  applied (write l c μ₁ μ₂ e D₁ D₂ h) = applied D₁ + applied D₂
  applied (choice_zero n μ₁ e D₁ z D₂) = applied D₁ + applied D₂
  applied (choice_nonzero n μ₁ e D₁ z D₂) = applied D₁ + applied D₂
  applied (operation m n μ₁ e D₁ D₂) = applied D₁ + applied D₂

-- a state within the limits of steps, bindings and cells
pub record Within {V : Type 0} (S : Sheet) (fuel : ℕ) (s : State V) : Type 0 where
  pub steps : s.steps ≤ fuel
  pub bindings : s.bindings ≤ most_bindings
  pub cells : length s.cells ≤ S.sites + most_fresh

-- the relation takes node i from the state s to the value v and the state s' within the limits
pub record Derived (M : NumberKind) (S : Sheet) (fuel d i : ℕ) (ρ : Environment M.Value) (s : State M.Value) (v : Value M.Value) (s' : State M.Value) : Type 0 where
  -- value and store
  pub derivation : Derives M S ρ s.cells i v s'.cells
  -- a step for each rule, and a binding for each application
  pub steps : s'.steps ≡ s.steps + size derivation
  pub bindings : s'.bindings ≡ s.bindings + applied derivation
  -- a place for each pending node
  pub places : depth derivation ≤ d
  -- fuel, bindings and cells have sufficed
  pub limits : Within S fuel s'

-- from a state within the limits, evaluation is done exactly where the relation derives the same within the limits
abbrev pub DoneExactly : NumberKind → Type 0
DoneExactly M =
    (S : Sheet) (fuel d i : ℕ) (ρ : Environment M.Value) (s : State M.Value) (v : Value M.Value) (s' : State M.Value) → Within S fuel s
    → (eval M S fuel d i ρ s ≡ done v s' → Derived M S fuel d i ρ s v s') × (Derived M S fuel d i ρ s v s' → eval M S fuel d i ρ s ≡ done v s')

-- the same of a run, whose numbers are no more than there is room for cells
abbrev pub RunsDoneExactly : NumberKind → Type 0
RunsDoneExactly M =
    (S : Sheet) (fuel e : ℕ) (ns : List M.Value) (v : Value M.Value) (s : State M.Value) → length ns ≤ S.sites + most_fresh
    → (run M S fuel e ns ≡ done v s → Derived M S fuel most_pending (S.entry e).root empty (opening ns) v s)
    × (Derived M S fuel most_pending (S.entry e).root empty (opening ns) v s → run M S fuel e ns ≡ done v s)

-- a run tells the number n after t steps exactly where the relation derives it, by t rules, within the limits
abbrev pub NumbersExactly : NumberKind → Type 0
NumbersExactly M =
    (S : Sheet) (fuel e : ℕ) (ns : List M.Value) (n : M.Value) (t : ℕ) → length ns ≤ S.sites + most_fresh
    → (run_report M S fuel e ns ≡ record { ending = Number; number = n; steps = t }
    → (s : State M.Value) × (s.steps ≡ t) × Derived M S fuel most_pending (S.entry e).root empty (opening ns) (number n) s)
    × ((s : State M.Value) → s.steps ≡ t → Derived M S fuel most_pending (S.entry e).root empty (opening ns) (number n) s
    → run_report M S fuel e ns ≡ record { ending = Number; number = n; steps = t })
