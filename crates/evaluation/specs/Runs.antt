-- A run of an entry: what it begins with, what it tells, and what it leaves in the channels.
use Rattle.std.specs.Prelude.{ℕ, suc, List, [], ◌∷◌, pos}
use Rattle.number.specs.NumberKind.{NumberKind}
use Rattle.sheet.specs.Sheet.{Sheet}
use Rattle.evaluation.specs.declared.ending.Ending.{Ending}
use Rattle.evaluation.specs.declared.ending.Ending.TheVariants.{Number, Stopped, NoNumber}
use Rattle.evaluation.specs.Values.{Value, number, closure, reference, empty, Cell, State, Outcome, done, stopped}
use Rattle.evaluation.specs.Evaluation.{eval, most_pending}

-- what a run tells: how it ended, its number (0 unless it ended in one), and the steps that it made
pub record Report (V : Type 0) : Type 0 where
  pub ending : Ending
  pub number : V
  pub steps : ℕ

module _ {V : Type 0} where
  -- a cell for each site from s on, with the numbers given
  abbrev pub site_cells : ℕ → List V → List (Cell V)
  site_cells s [] = []
  site_cells s (n ∷ ns) = record { site = s; value = number n } ∷ site_cells (suc s) ns

  -- the state that a run begins with, where the sites hold these numbers
  abbrev pub opening : List V → State V
  opening ns = record { cells = site_cells 0 ns; bindings = 0; steps = 0 }

  -- the number in a cell; one that was there before where it holds no number
  abbrev pub number_or : Value V → V → V
  number_or (number n) old = n
  number_or (closure f ρ) old = old
  number_or (reference a) old = old

  -- the numbers in the cells of the sites
  abbrev pub written : List (Cell V) → List V → List V
  written cs [] = []
  written [] (n ∷ ns) = n ∷ ns
  written (c ∷ cs) (n ∷ ns) = number_or c.value n ∷ written cs ns

  -- what the sites hold after a run: what its cells hold where it ended in a number, else what they held
  abbrev pub numbers_after : Outcome V → List V → List V
  numbers_after (done (number n) s) ns = written s.cells ns
  numbers_after (done (closure f ρ) s) ns = ns
  numbers_after (done (reference a) s) ns = ns
  numbers_after (stopped e t) ns = ns

  -- what a run tells, where z is the number 0
  abbrev pub report : V → Outcome V → Report V
  report z (done (number n) s) = record { ending = Number; number = n; steps = s.steps }
  report z (done (closure f ρ) s) = record { ending = NoNumber; number = z; steps = s.steps }
  report z (done (reference a) s) = record { ending = NoNumber; number = z; steps = s.steps }
  report z (stopped e t) = record { ending = Stopped e; number = z; steps = t }

-- the outcome of running entry e with some fuel, where the sites hold these numbers
unfoldable pub run : (M : NumberKind) → Sheet → (fuel e : ℕ) → List M.Value → Outcome M.Value
run M S fuel e ns = eval M S fuel most_pending (S.entry e).root empty (opening ns)

-- what that run tells
abbrev pub run_report : (M : NumberKind) → Sheet → (fuel e : ℕ) → List M.Value → Report M.Value
run_report M S fuel e ns = report (M.whole (pos 0)) (run M S fuel e ns)
