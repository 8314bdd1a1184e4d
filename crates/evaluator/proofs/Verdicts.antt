-- What a trial that is not refused was answered.
use Rattle.std.proofs.Common.{◌≡◌, ℕ, ◌≤◌, Bool, true, false, cond, ltb, Ok, Err, Result, refl, arith}
use Rattle.std.proofs.lemmas.Bool.Decides.{nat_tests}
use Rattle.sheet.specs.Sheet.{Sheet}
use Rattle.evaluation.specs.Evaluation.{most_pending, most_bindings}
use Rattle.machine.specs.Areas.{most_cells, enough}
use Rattle.evaluator.specs.declared.refusal.Refusal.{Refusal}
use Rattle.evaluator.specs.declared.refusal.Refusal.TheVariants.{Entry, Fuel, Areas}
use Rattle.evaluator.specs.Trials.{lawful_fuel, trial_verdict}

-- the question was answered yes, and the next one decides
next : (x : Bool) (v : Result (Unit {0}) Refusal) (q : Refusal) → Ok tt ≡ cond x v (Err q) → (x ≡ true) × (Ok tt ≡ v)
next true v q e = (refl, e)
next false v q e = let z : ◌≡◌ {A = ℕ} 0 1 = cc in absurd (omega arith)

-- the areas are long enough
pub areas_suffice : (S : Sheet) (e fuel p b h : ℕ) → Ok tt ≡ trial_verdict S e fuel p b h
    → (most_pending ≤ p) × (most_bindings ≤ b) × (most_cells ≤ h)
areas_suffice S e fuel p b h v =
    let entry = next (ltb e S.entries) (cond (lawful_fuel fuel) (cond (enough p b h) (Ok tt) (Err Areas)) (Err Fuel)) Entry v in
    let steps = next (lawful_fuel fuel) (cond (enough p b h) (Ok tt) (Err Areas)) Fuel entry.1 in
    let room = (next (enough p b h) (Ok tt) Areas steps.1).0 in
    (grind (arith, nat_tests), grind (arith, nat_tests), grind (arith, nat_tests))
