-- An evaluation is done exactly where the big-step relation derives the same within the limits.
use Rattle.std.proofs.Common.{◌≡◌, ℕ, suc, ◌+◌, ◌≤◌, List, [], ◌∷◌, length, pos, sym, refl, ap, ◌∙◌, arith}
use Rattle.number.specs.NumberKind.{NumberKind}
use Rattle.sheet.specs.Sheet.{Sheet}
use Rattle.evaluation.specs.declared.ending.Ending.TheVariants.{Number}
use Rattle.evaluation.specs.Values.{Value, number, closure, reference, Environment, empty, State, Outcome, done, stopped}
use Rattle.evaluation.specs.Evaluation.{eval, most_pending, most_fresh}
use Rattle.evaluation.specs.Runs.{Report, run, report, opening, site_cells}
use Rattle.evaluation.specs.Correspondence.{Within, Derived, DoneExactly, RunsDoneExactly, NumbersExactly}
use Rattle.evaluation.proofs.Soundness.{sound, post_done}
use Rattle.evaluation.proofs.Completeness.{counts_as, completes}

-- what is derived within the limits, evaluation does
derived_done : (M : NumberKind) (S : Sheet) (fuel d i : ℕ) (ρ : Environment M.Value) (s : State M.Value) (v : Value M.Value) (s' : State M.Value)
    → Derived M S fuel d i ρ s v s' → eval M S fuel d i ρ s ≡ done v s'
derived_done M S fuel d i ρ s v s' h =
    completes M S h.derivation fuel d s.bindings s.steps (omega (arith, h.limits.steps)) h.places (omega (arith, h.limits.bindings)) h.limits.cells
    ∙ counts_as v s'.cells _ _ _ _ (sym h.bindings) (sym h.steps)

-- an evaluation is done exactly where the relation derives the same within the limits
pub done_exactly_lem : (M : NumberKind) → DoneExactly M
done_exactly_lem M S fuel d i ρ s v s' w = (
  (λ e. post_done (Derived M S fuel d i ρ s) (eval M S fuel d i ρ s) v s' e (sound M S fuel d i ρ s w)),
  derived_done M S fuel d i ρ s v s',
)

-- a run begins with a cell for each number
length_site_cells : {V : Type 0} (k : ℕ) (ns : List V) → length (site_cells k ns) ≡ length ns
length_site_cells k [] = refl
length_site_cells k (n ∷ ns) = ap suc (length_site_cells (suc k) ns)

-- a run begins within the limits
opening_within : {V : Type 0} (S : Sheet) (fuel : ℕ) (ns : List V) → length ns ≤ S.sites + most_fresh → Within S fuel (opening ns)
opening_within S fuel ns h = record { steps = omega arith; bindings = omega arith; cells = rw length_site_cells h }

-- the same of a run
pub runs_done_exactly : (M : NumberKind) → RunsDoneExactly M
unfolding run
runs_done_exactly M S fuel e ns v s h =
    done_exactly_lem M S fuel most_pending (S.entry e).root empty (opening ns) v s (opening_within S fuel ns h)

-- a report with a number is that of a run that is done with this number
reported : {V : Type 0} (z n : V) (t : ℕ) (o : Outcome V) → report z o ≡ record { ending = Number; number = n; steps = t }
    → (s : State V) × (s.steps ≡ t) × (o ≡ done (number n) s)
reported {V} z n t (done (number m) s) h =
    (s, ap (λ (r : Report V). r.steps) h, ap (λ (x : V). done (number x) s) (ap (λ (r : Report V). r.number) h))
reported {V} z n t (done (closure f ρ) s) h = let e = ap (λ (r : Report V). r.ending) h in let y : ◌≡◌ {A = ℕ} 0 1 = cc in absurd (omega arith)
reported {V} z n t (done (reference a) s) h = let e = ap (λ (r : Report V). r.ending) h in let y : ◌≡◌ {A = ℕ} 0 1 = cc in absurd (omega arith)
reported {V} z n t (stopped e u) h = let e = ap (λ (r : Report V). r.ending) h in let y : ◌≡◌ {A = ℕ} 0 1 = cc in absurd (omega arith)

-- a run that is done with a number tells it
reports : {V : Type 0} (z n : V) (t : ℕ) (s : State V) (o : Outcome V) → s.steps ≡ t → o ≡ done (number n) s
    → report z o ≡ record { ending = Number; number = n; steps = t }
reports z n t s o p q = ap (report z) q ∙ ap (λ (u : ℕ). record { ending = Number; number = n; steps = u }) p

-- a run tells a number exactly where the relation derives it within the limits
pub numbers_exactly : (M : NumberKind) → NumbersExactly M
numbers_exactly M S fuel e ns n t h =
    let z : M.Value = M.whole (pos 0) in (
      (λ r. let found = reported z n t (run M S fuel e ns) r in
          (found.0, found.1, (runs_done_exactly M S fuel e ns (number n) found.0 h).0 found.2)),
      (λ s p d. reports z n t s (run M S fuel e ns) p ((runs_done_exactly M S fuel e ns (number n) s h).1 d)),
    )
