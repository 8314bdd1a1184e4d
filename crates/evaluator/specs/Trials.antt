-- A trial: a run of an entry of a shaped sheet, with every channel at 0, of which nothing is kept.
use Rattle.std.specs.Prelude.{ℕ, Bool, cond, ◌&&◌, pos, Ok, Err, Result, nat_le, nat_lt}
use Rattle.number.specs.NumberKind.{NumberKind}
use Rattle.sheet.specs.Sheet.{Sheet}
use Rattle.evaluation.specs.Runs.{Report as Told, run_report}
use Rattle.machine.specs.Areas.{enough}
use Rattle.evaluator.specs.declared.report.Report.{Report}
use Rattle.evaluator.specs.declared.refusal.Refusal.{Refusal}
use Rattle.evaluator.specs.declared.refusal.Refusal.TheVariants.{Entry, Fuel, Areas}
use Rattle.evaluator.specs.Runs.{reported, repeated}

-- the number of each question
abbrev pub number_of : Refusal → ℕ
number_of Entry = 42
number_of Fuel = 44
number_of Areas = 45

-- 44: from 1 to 1,000,000 steps
abbrev pub lawful_fuel : ℕ → Bool
lawful_fuel fuel = nat_le 1 fuel && nat_le fuel 1000000

-- what a run with every channel at 0 tells
abbrev pub trial_report : (M : NumberKind) → Sheet → (fuel e : ℕ) → Told M.Value
trial_report M S fuel e = run_report M S fuel e (repeated S.sites (M.whole (pos 0)))

-- the questions in this order; the last is whether the areas for pending nodes, bindings and cells are long enough
abbrev pub trial_verdict : Sheet → (e fuel pending bound held : ℕ) → Result (Unit {0}) Refusal
trial_verdict S e fuel pending bound held =
    cond (nat_lt e S.entries) (cond (lawful_fuel fuel) (cond (enough pending bound held) (Ok tt) (Err Areas)) (Err Fuel)) (Err Entry)

-- the report where every question is answered yes
abbrev pub granted : {A : Type 0} → Result (Unit {0}) Refusal → A → Result A Refusal
granted (Ok u) r = Ok r
granted (Err q) r = Err q

-- the answer to a trial of entry e, with areas of these lengths
abbrev pub trial_answer : (M : NumberKind) → Sheet → (e fuel pending bound held : ℕ) → Result (Told M.Value) Refusal
trial_answer M S e fuel pending bound held = granted (trial_verdict S e fuel pending bound held) (trial_report M S fuel e)

-- the answer of the code, with its number by its value
abbrev pub answered : {K V : Type 0} → (K → V) → Result (Report K) Refusal → Result (Told V) Refusal
answered n (Ok r) = Ok (reported n r)
answered n (Err q) = Err q
