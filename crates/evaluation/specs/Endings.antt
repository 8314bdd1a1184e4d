-- The numbers of the endings.
use Rattle.std.specs.Prelude.{ℕ}
use Rattle.evaluation.specs.declared.ending.Stop.TheVariants.{FuelSpent, PendingFull, BindingsFull, CellsFull, Stuck}
use Rattle.evaluation.specs.declared.ending.Ending.{Ending}
use Rattle.evaluation.specs.declared.ending.Ending.TheVariants.{Number, Stopped, NoNumber}

abbrev pub number_of : Ending → ℕ
number_of Number = 0
number_of (Stopped FuelSpent) = 1
number_of (Stopped PendingFull) = 2
number_of (Stopped BindingsFull) = 3
number_of (Stopped CellsFull) = 4
number_of (Stopped (Stuck node)) = 5
number_of NoNumber = 6
