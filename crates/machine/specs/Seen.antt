-- What the program holds, with each number by its value.
use Rattle.std.specs.Prelude.{ℕ, List, map, Some, None, Option, Result, Ok, Err}
use Rattle.machine.specs.declared.values.Value.{Value}
use Rattle.machine.specs.declared.values.Value.TheVariants.{Number, Closure, Reference}
use Rattle.machine.specs.declared.values.Binding.{Binding}
use Rattle.machine.specs.declared.values.Cell.{Cell}
use Rattle.machine.specs.declared.values.Frame.{Frame}
use Rattle.machine.specs.declared.values.Stage.{Stage}
use Rattle.machine.specs.declared.values.Stage.TheVariants.{Chooses, Creates, Reads, Calls, Applies, Targets, Writes, Operates, Combines, Passes}
use Rattle.machine.specs.declared.values.Next.{Next}
use Rattle.machine.specs.declared.values.Next.TheVariants.{Start as Starts, Return as Returns}
use Rattle.machine.specs.declared.values.Outcome.{Outcome}
use Rattle.evaluation.specs.declared.ending.Stop.{Stop}
use Rattle.machine.specs.Flat.{FlatState, FlatOutcome, flat_done, flat_stopped}

-- what comes next: a node is started, a value comes back, or the run stops
pub data Turn (V : Type 0) : Type 0 where
  Start : ℕ → ℕ → Turn V
  Return : Value V → Turn V
  Halt : Stop → Turn V

-- what comes next, and what the three stacks hold
pub record Machine (V : Type 0) : Type 0 where
  pub next : Turn V
  pub frames : List (Frame V)
  pub made : List (Binding V)
  pub cells : List (Cell V)

-- n gives a number's value: the same in each thing that may hold a number
module _ {K V : Type 0} (n : K → V) where
  -- a value
  abbrev pub value : Value K → Value V
  value (Number x) = Number (n x)
  value (Closure f k) = Closure f k
  value (Reference a) = Reference a

  -- the value that was looked up, if there is one
  abbrev pub found : Option (Value K) → Option (Value V)
  found None = None
  found (Some v) = Some (value v)

  -- a binding
  abbrev pub binding : Binding K → Binding V
  binding b = record { function = b.function; value = value b.value; outer = b.outer }

  -- a cell
  abbrev pub cell : Cell K → Cell V
  cell c = record { site = c.site; value = value c.value }

  -- what a pending node does with the value it waits for
  abbrev pub stage : Stage K → Stage V
  stage Chooses = Chooses
  stage Creates = Creates
  stage Reads = Reads
  stage Calls = Calls
  stage (Applies v) = Applies (value v)
  stage Targets = Targets
  stage (Writes v) = Writes (value v)
  stage Operates = Operates
  stage (Combines v) = Combines (value v)
  stage Passes = Passes

  -- a pending node
  abbrev pub frame : Frame K → Frame V
  frame f = record { node = f.node; scope = f.scope; stage = stage f.stage }

  -- what comes next, where an error stops the run
  abbrev pub next : Result (Next K) Stop → Turn V
  next (Ok (Starts i k)) = Start i k
  next (Ok (Returns v)) = Return (value v)
  next (Err e) = Halt e

  -- the stack of pending nodes
  abbrev pub frames : List (Frame K) → List (Frame V)
  frames fs = map frame fs

  -- the stack of bindings
  abbrev pub bindings : List (Binding K) → List (Binding V)
  bindings bs = map binding bs

  -- the stack of cells
  abbrev pub cells : List (Cell K) → List (Cell V)
  cells cs = map cell cs

  -- the machine
  abbrev pub machine : Result (Next K) Stop → List (Frame K) → List (Binding K) → List (Cell K) → Machine V
  machine x fs bs cs = record { next = next x; frames = frames fs; made = bindings bs; cells = cells cs }

  -- the state after t steps
  abbrev pub flat : List (Binding K) → List (Cell K) → ℕ → FlatState V
  flat bs cs t = record { cells = cells cs; made = bindings bs; steps = t }

  -- the end of a run after t steps: a value with the state, or why the run stopped
  abbrev pub ended : Result (Value K) Stop → ℕ → List (Binding K) → List (Cell K) → FlatOutcome V
  ended (Ok v) t bs cs = flat_done (value v) (flat bs cs t)
  ended (Err e) t bs cs = flat_stopped e t

  -- what the run comes to
  abbrev pub outcome : Outcome K → List (Binding K) → List (Cell K) → FlatOutcome V
  outcome o bs cs = ended o.answer o.steps bs cs
