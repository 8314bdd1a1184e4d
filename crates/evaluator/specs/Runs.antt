-- What the code holds before, in and after a run, with each number by its value.
use Rattle.std.specs.Prelude.{ℕ, zero, suc, ◌+◌, ◌≤◌, List, [], ◌∷◌, length, Ok, Err, Result}
use Rattle.sheet.specs.Sheet.{Sheet}
use Rattle.evaluation.specs.declared.ending.Stop.{Stop}
use Rattle.evaluation.specs.declared.ending.Ending.TheVariants as ending
use Rattle.evaluation.specs.Evaluation.{most_pending, most_bindings, most_fresh}
use Rattle.evaluation.specs.Runs.{Report as Told}
use Rattle.machine.specs.declared.values.Value.{Value}
use Rattle.machine.specs.declared.values.Value.TheVariants.{Number, Closure, Reference}
use Rattle.machine.specs.declared.values.Cell.{Cell}
use Rattle.machine.specs.declared.values.Outcome.{Outcome}
use Rattle.machine.specs.declared.areas.WorkAreas.{WorkAreas}
use Rattle.machine.specs.Flat.{Limits}
use Rattle.evaluator.specs.declared.report.Report.{Report}

-- how many bindings and how many cells a run of the sheet may have
abbrev pub limits : Sheet → Limits
limits S = record { bindings = most_bindings; cells = S.sites + most_fresh }

-- the areas have the places that a run of the sheet may need
pub record HasRoom {K : Type 0} (S : Sheet) (areas : WorkAreas K) : Type 0 where
  pub pending : most_pending ≤ length areas.pending.now
  pub bound : most_bindings ≤ length areas.bound.now
  pub held : S.sites + most_fresh ≤ length areas.held.now

module _ {K V : Type 0} (n : K → V) where
  -- the report of the code
  abbrev pub reported : Report K → Told V
  reported r = record { ending = r.ending; number = n r.number; steps = r.steps }

  -- the report of what the machine came to, where z is the number 0
  abbrev pub told : V → Result (Value K) Stop → ℕ → Told V
  told z (Ok (Number x)) t = record { ending = ending.Number; number = n x; steps = t }
  told z (Ok (Closure f k)) t = record { ending = ending.NoNumber; number = z; steps = t }
  told z (Ok (Reference a)) t = record { ending = ending.NoNumber; number = z; steps = t }
  told z (Err e) t = record { ending = ending.Stopped e; number = z; steps = t }

  -- the report of what a run came to
  abbrev pub concluded : V → Outcome K → Told V
  concluded z o = told z o.answer o.steps

module _ {K : Type 0} where
  -- a cell for each number, from site s on
  abbrev pub opened : ℕ → List K → List (Cell K)
  opened s [] = []
  opened s (x ∷ xs) = record { site = s; value = Number x } ∷ opened (suc s) xs

  -- the number in a cell, or the one that was there before
  abbrev pub number_in : Value K → K → K
  number_in (Number x) old = x
  number_in (Closure f k) old = old
  number_in (Reference a) old = old

  -- the numbers in the cells of the sites
  abbrev pub taken : List (Cell K) → List K → List K
  taken [] xs = xs
  taken (c ∷ cs) [] = []
  taken (c ∷ cs) (x ∷ xs) = number_in c.value x ∷ taken cs xs

  -- what the sites hold after a run, from its answer and the cells
  abbrev pub kept_by : Result (Value K) Stop → List (Cell K) → List K → List K
  kept_by (Ok (Number x)) cs xs = taken cs xs
  kept_by (Ok (Closure f k)) cs xs = xs
  kept_by (Ok (Reference a)) cs xs = xs
  kept_by (Err e) cs xs = xs

  -- the same, from all that the machine came to
  abbrev pub kept : Outcome K → List (Cell K) → List K → List K
  kept o cs xs = kept_by o.answer cs xs

-- the numbers of so many sites: those given, and z at the others
abbrev pub padded : {A : Type 0} → ℕ → A → List A → List A
padded zero z xs = []
padded (suc sites) z [] = z ∷ padded sites z []
padded (suc sites) z (x ∷ xs) = x ∷ padded sites z xs

-- the number x, count times
abbrev pub repeated : {A : Type 0} → ℕ → A → List A
repeated zero x = []
repeated (suc count) x = x ∷ repeated count x
