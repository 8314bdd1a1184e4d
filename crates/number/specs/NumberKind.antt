-- A number kind: what its numbers mean, and what its eight functions answer, told from the values alone.
use Rattle.std.specs.Prelude.{Bool, ℤ}

pub record NumberKind : Type 1 where
  -- what a number means: two numbers are the same when their values are
  pub Value : Type 0
  -- the value of a whole number
  pub whole : ℤ → Value
  -- whether a choice takes the value for zero
  pub is_zero : Value → Bool
  pub sum : Value → Value → Value
  pub difference : Value → Value → Value
  pub product : Value → Value → Value
  pub quotient : Value → Value → Value
  -- one where the first lies below the second, else zero
  pub less : Value → Value → Value
  -- one where the two are equal, else zero
  pub equal : Value → Value → Value
