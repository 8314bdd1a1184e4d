-- What a node waits for: a value of another form is stuck there.
use Rattle.std.specs.Prelude.{ℕ, Result, Ok, Err}
use Rattle.machine.specs.declared.values.Value.{Value}
use Rattle.machine.specs.declared.values.Value.TheVariants.{Number, Closure, Reference}
use Rattle.evaluation.specs.declared.ending.Stop.{Stop}
use Rattle.evaluation.specs.declared.ending.Stop.TheVariants.{Stuck}

module _ {K : Type 0} where
  -- the number, where node i waits for one
  abbrev pub number_for : ℕ → Value K → Result K Stop
  number_for i (Number n) = Ok n
  number_for i (Closure f k) = Err (Stuck i)
  number_for i (Reference a) = Err (Stuck i)

  -- the address, where node i waits for one
  abbrev pub address_for : ℕ → Value K → Result ℕ Stop
  address_for i (Number n) = Err (Stuck i)
  address_for i (Closure f k) = Err (Stuck i)
  address_for i (Reference a) = Ok a
