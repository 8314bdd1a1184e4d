-- The steps of a run, and what more fuel does to it.
use Rattle.std.proofs.Common.{◌≡◌, ℕ, zero, suc, ◌<◌, ◌≤◌, Bool, true, false, eqb, pos, refl, ap, ◌∙◌, arith, eqb-true}
use Rattle.number.specs.NumberKind.{NumberKind}
use Rattle.sheet.specs.Sheet.{Sheet}
use Rattle.evaluation.specs.declared.ending.Stop.TheVariants.{FuelSpent}
use Rattle.evaluation.specs.declared.ending.Ending.TheVariants.{Stopped}
use Rattle.evaluation.specs.Values.{number, closure, reference, Environment, empty, State, Outcome, done, stopped, provided, one_step}
use Rattle.evaluation.specs.Evaluation.{eval, most_pending}
use Rattle.evaluation.specs.Runs.{run, report, opening}
use Rattle.evaluation.specs.Fuel.{steps_of, Spent, Counted, RunsCounted, RunsSettle}
use Rattle.evaluation.proofs.Steps.{counted_by_kind, counts}
use Rattle.evaluation.proofs.Settled.{settles}

module _ {V : Type 0} (z : V) where
  -- a report tells the steps of the outcome
  pub report_steps : (o : Outcome V) → (report z o).steps ≡ steps_of o
  report_steps (done (number n) s) = refl
  report_steps (done (closure f ρ) s) = refl
  report_steps (done (reference a) s) = refl
  report_steps (stopped e t) = refl

  -- a report tells that fuel is spent only where it is
  pub report_spent : (o : Outcome V) → (report z o).ending ≡ Stopped FuelSpent → Spent o
  report_spent (done (number n) s) h = let z : ◌≡◌ {A = ℕ} 0 1 = cc in absurd (omega arith)
  report_spent (done (closure f ρ) s) h = let z : ◌≡◌ {A = ℕ} 0 1 = cc in absurd (omega arith)
  report_spent (done (reference a) s) h = let z : ◌≡◌ {A = ℕ} 0 1 = cc in absurd (omega arith)
  report_spent (stopped e t) h = cc

  -- and it does tell it
  pub spent_report : (o : Outcome V) → Spent o → (report z o).ending ≡ Stopped FuelSpent
  spent_report o h = ap (λ (x : Outcome V). (report z x).ending) h

module _ (M : NumberKind) (S : Sheet) (fuel : ℕ) where
  -- with fuel, a start makes a step
  start_rises : (t : ℕ) (b : Bool) → eqb t fuel ≡ b → t < fuel → (o : Outcome M.Value) → Counted fuel (suc t) o
      → t < steps_of (provided b (λ _. stopped FuelSpent t) o)
  start_rises t true e h o c = let q : t ≡ fuel = eqb-true t fuel e in absurd (omega arith)
  start_rises t false e h o c = c.rises

  -- with a place and with fuel, an evaluation makes a step
  rises : (d i : ℕ) (ρ : Environment M.Value) (s : State M.Value) → 0 < d → s.steps < fuel → s.steps < steps_of (eval M S fuel d i ρ s)
  unfolding eval
  rises zero i ρ s h k = absurd (omega arith)
  rises (suc d) i ρ s h k =
      start_rises s.steps (eqb s.steps fuel) refl k _
      (counted_by_kind M S fuel (eval M S fuel d) (counts M S fuel d) (S.node i).kind i ρ (one_step s))

-- what a report tells of the steps
run_counted : {V : Type 0} (z : V) (fuel : ℕ) (o : Outcome V) → Counted fuel 0 o → (0 < fuel → 0 < steps_of o)
    → ((report z o).steps ≤ fuel) × (0 < fuel → 0 < (report z o).steps) × ((report z o).ending ≡ Stopped FuelSpent → (report z o).steps ≡ fuel)
run_counted z fuel o c r =
    let e = report_steps z o in
    let w : steps_of o ≤ fuel = c.within (omega arith) in
    (omega arith, (λ h. let k = r h in omega arith), λ h. e ∙ c.spent (report_spent z o h))

-- the steps of every run are counted
pub runs_counted : (M : NumberKind) → RunsCounted M
unfolding run
runs_counted M S fuel e ns =
    let o : Outcome M.Value = eval M S fuel most_pending (S.entry e).root empty (opening ns) in
    let h = run_counted (M.whole (pos 0)) fuel o (counts M S fuel most_pending (S.entry e).root empty (opening ns))
    (λ k. rises M S fuel most_pending (S.entry e).root empty (opening ns) (omega arith) k) in
    record { most = h.0; least = h.1; spent = h.2 }

-- more fuel does not change a run that did not spend it
pub runs_settle : (M : NumberKind) → RunsSettle M
unfolding run
runs_settle M S fuel more e ns h n =
    settles M S fuel more h most_pending (S.entry e).root empty (opening ns) (omega arith)
    (λ k. n (spent_report (M.whole (pos 0)) _ k))
