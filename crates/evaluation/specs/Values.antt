-- Values, environments, cells, and what evaluating a node comes to. V is the type of a number's values.
use Rattle.std.specs.Prelude.{ℕ, suc, Bool, true, false, cond, List, Some, None, Option, ◌==◌}
use Rattle.evaluation.specs.declared.ending.Stop.{Stop}

mutual
  -- a number, a function with the environment that it was made in, or a reference to a cell
  pub data Value (V : Type 0) : Type 0 where
    number : V → Value V
    closure : ℕ → Environment V → Value V
    reference : ℕ → Value V

  -- function nodes with the values of their arguments, the innermost first
  pub data Environment (V : Type 0) : Type 0 where
    empty : Environment V
    bind : ℕ → Value V → Environment V → Environment V

-- a cell: the site that it was made at, and what it holds
pub record Cell (V : Type 0) : Type 0 where
  pub site : ℕ
  pub value : Value V

-- the cells by their addresses, how many bindings were made, and how many steps
pub record State (V : Type 0) : Type 0 where
  pub cells : List (Cell V)
  pub bindings : ℕ
  pub steps : ℕ

-- a value and the state after, or why the run stopped and after how many steps
pub data Outcome (V : Type 0) : Type 0 where
  done : Value V → State V → Outcome V
  stopped : Stop → ℕ → Outcome V

-- how a node is evaluated, in an environment and from a state
abbrev pub Evaluator : Type 0 → Type 0
Evaluator V = ℕ → Environment V → State V → Outcome V

module _ {V : Type 0} where
  -- the value that the innermost binding of function node f gives
  abbrev pub lookup : ℕ → Environment V → Option (Value V)
  lookup f empty = None
  lookup f (bind g v ρ) = cond (f == g) (Some v) (lookup f ρ)

  -- goes on with the value and the state, unless the run stopped
  abbrev pub and_then : Outcome V → (Value V → State V → Outcome V) → Outcome V
  and_then (done v s) next = next v s
  and_then (stopped e t) next = stopped e t

  -- one outcome or another; the first is not computed where it is not taken
  abbrev pub provided : Bool → (Unit {0} → Outcome V) → Outcome V → Outcome V
  provided true first other = first tt
  provided false first other = other

  -- the state with other cells, with one step more, with one binding more
  abbrev pub with_cells : State V → List (Cell V) → State V
  with_cells s cs = record { cells = cs; bindings = s.bindings; steps = s.steps }

  abbrev pub one_step : State V → State V
  one_step s = record { cells = s.cells; bindings = s.bindings; steps = suc s.steps }

  abbrev pub one_binding : State V → State V
  one_binding s = record { cells = s.cells; bindings = suc s.bindings; steps = s.steps }
