-- The laws of steps and fuel.
use Rattle.std.specs.Prelude.{◌≡◌, ℕ, ◌<◌, ◌≤◌, ◌≢◌, List}
use Rattle.number.specs.NumberKind.{NumberKind}
use Rattle.sheet.specs.Sheet.{Sheet}
use Rattle.evaluation.specs.declared.ending.Stop.TheVariants.{FuelSpent}
use Rattle.evaluation.specs.declared.ending.Ending.TheVariants.{Stopped}
use Rattle.evaluation.specs.Values.{Environment, State, Outcome, done, stopped}
use Rattle.evaluation.specs.Evaluation.{eval}
use Rattle.evaluation.specs.Runs.{run, run_report}

-- how many steps had been made at the end of an evaluation
abbrev pub steps_of : {V : Type 0} → Outcome V → ℕ
steps_of (done v s) = s.steps
steps_of (stopped e t) = t

-- the evaluation ended for want of fuel
abbrev pub Spent : {V : Type 0} → Outcome V → Type 0
Spent o = o ≡ stopped FuelSpent (steps_of o)

-- what an evaluation that began after `from` steps says of them
pub record Counted {V : Type 0} (fuel from : ℕ) (o : Outcome V) : Type 0 where
  -- steps never fall
  pub rises : from ≤ steps_of o
  -- there are never more steps than fuel
  pub within : from ≤ fuel → steps_of o ≤ fuel
  -- the want of fuel shows itself only when there are as many steps as fuel
  pub spent : Spent o → steps_of o ≡ fuel

-- the steps of every evaluation are counted so
abbrev pub StepsCounted : NumberKind → Type 0
StepsCounted M = (S : Sheet) (fuel d i : ℕ) (ρ : Environment M.Value) (s : State M.Value) → Counted fuel s.steps (eval M S fuel d i ρ s)

-- a run makes at most `fuel` steps, at least one where there is fuel, and exactly `fuel` where its ending is 1
pub record RunCounted (M : NumberKind) (S : Sheet) (fuel e : ℕ) (ns : List M.Value) : Type 0 where
  pub most : (run_report M S fuel e ns).steps ≤ fuel
  pub least : 0 < fuel → 0 < (run_report M S fuel e ns).steps
  pub spent : (run_report M S fuel e ns).ending ≡ Stopped FuelSpent → (run_report M S fuel e ns).steps ≡ fuel

-- the steps of every run are counted so
abbrev pub RunsCounted : NumberKind → Type 0
RunsCounted M = (S : Sheet) (fuel e : ℕ) (ns : List M.Value) → RunCounted M S fuel e ns

-- an evaluation that did not spend its fuel has the same outcome with more fuel
abbrev pub FuelSettles : NumberKind → Type 0
FuelSettles M =
    (S : Sheet) (fuel more d i : ℕ) (ρ : Environment M.Value) (s : State M.Value) → fuel ≤ more → s.steps ≤ fuel
    → (Spent (eval M S fuel d i ρ s) → ⊥) → eval M S more d i ρ s ≡ eval M S fuel d i ρ s

-- a run whose ending is not 1 has the same outcome with more fuel
abbrev pub RunsSettle : NumberKind → Type 0
RunsSettle M =
    (S : Sheet) (fuel more e : ℕ) (ns : List M.Value) → fuel ≤ more
    → (run_report M S fuel e ns).ending ≢ Stopped FuelSpent → run M S more e ns ≡ run M S fuel e ns
