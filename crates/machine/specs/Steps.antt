-- What one step of the machine does.
use Rattle.std.specs.Prelude.{ℕ, suc, Bool, true, false, cond, List, [], ◌∷◌, ◌++◌, length, Some, None, Option, Result, Ok, Err, nat_lt, slice_set}
use Rattle.std.specs.List.{slice_get}
use Rattle.number.specs.NumberKind.{NumberKind}
use Rattle.number.specs.Millimetre.{clamp}
use Rattle.sheet.specs.declared.decoded.Kind.{Kind}
use Rattle.sheet.specs.declared.decoded.Kind.TheVariants.{Literal, Variable, Lambda, Application, New, Channel, Read, Write, Choice, Operation, Unknown}
use Rattle.machine.specs.declared.values.Value.{Value}
use Rattle.machine.specs.declared.values.Value.TheVariants.{Number, Closure, Reference}
use Rattle.machine.specs.declared.values.Binding.{Binding}
use Rattle.machine.specs.declared.values.Cell.{Cell}
use Rattle.machine.specs.declared.values.Frame.{Frame}
use Rattle.machine.specs.declared.values.Stage.{Stage}
use Rattle.machine.specs.declared.values.Stage.TheVariants.{Chooses, Creates, Reads, Calls, Applies, Targets, Writes, Operates, Combines, Passes}
use Rattle.evaluation.specs.declared.ending.Stop.{Stop}
use Rattle.evaluation.specs.declared.ending.Stop.TheVariants.{FuelSpent, PendingFull, BindingsFull, CellsFull, Stuck}
use Rattle.sheet.specs.Sheet.{Sheet, last_part, part}
use Rattle.evaluation.specs.Evaluation.{operation}
use Rattle.machine.specs.Flat.{Limits, seek}
use Rattle.machine.specs.Seen.{Machine, Turn, Start, Return, Halt}

-- whether a node can be started, where all fuel is spent and where no place is left
abbrev pub may_start : (spent full : Bool) → Result (Unit {0}) Stop
may_start true full = Err FuelSpent
may_start false true = Err PendingFull
may_start false false = Ok tt

module _ {V : Type 0} where
  -- the machine with these parts
  abbrev pub at : Turn V → List (Frame V) → List (Binding V) → List (Cell V) → Machine V
  at n fs bs cs = record { next = n; frames = fs; made = bs; cells = cs }

  -- node i pending in the environment at place k
  abbrev pub framed : ℕ → ℕ → Stage V → Frame V
  framed i k g = record { node = i; scope = k; stage = g }

  -- part p comes next, and node i waits for it
  abbrev pub pends : ℕ → ℕ → Stage V → ℕ → List (Frame V) → List (Binding V) → List (Cell V) → Machine V
  pends i k g p fs bs cs = at (Start p k) (fs ++ (framed i k g ∷ [])) bs cs

  -- a value comes back
  abbrev pub gives : Value V → List (Frame V) → List (Binding V) → List (Cell V) → Machine V
  gives v fs bs cs = at (Return v) fs bs cs

  -- the run stops
  abbrev pub halts : Stop → List (Frame V) → List (Binding V) → List (Cell V) → Machine V
  halts e fs bs cs = at (Halt e) fs bs cs

  -- a variable's value
  abbrev pub looks : ℕ → Option (Value V) → List (Frame V) → List (Binding V) → List (Cell V) → Machine V
  looks i None fs bs cs = halts (Stuck i) fs bs cs
  looks i (Some v) fs bs cs = gives v fs bs cs

  -- what a cell holds
  abbrev pub reads_at : ℕ → Option (Cell V) → List (Frame V) → List (Binding V) → List (Cell V) → Machine V
  reads_at i None fs bs cs = halts (Stuck i) fs bs cs
  reads_at i (Some c) fs bs cs = gives c.value fs bs cs

  -- reading through a reference
  abbrev pub reads : ℕ → Value V → List (Frame V) → List (Binding V) → List (Cell V) → Machine V
  reads i (Number n) fs bs cs = halts (Stuck i) fs bs cs
  reads i (Closure f k) fs bs cs = halts (Stuck i) fs bs cs
  reads i (Reference a) fs bs cs = reads_at i (slice_get cs a) fs bs cs

  -- a cell with another value
  abbrev pub writes_at : ℕ → ℕ → Value V → Option (Cell V) → List (Frame V) → List (Binding V) → List (Cell V) → Machine V
  writes_at i a v None fs bs cs = halts (Stuck i) fs bs cs
  writes_at i a v (Some c) fs bs cs = gives v fs bs (slice_set cs a (record { site = c.site; value = v }))

  -- writing through a reference
  abbrev pub writes : ℕ → Value V → Value V → List (Frame V) → List (Binding V) → List (Cell V) → Machine V
  writes i (Number n) v fs bs cs = halts (Stuck i) fs bs cs
  writes i (Closure f k) v fs bs cs = halts (Stuck i) fs bs cs
  writes i (Reference a) v fs bs cs = writes_at i a v (slice_get cs a) fs bs cs

  -- the body of a function comes next, where there is room for its binding
  abbrev pub applies : ℕ → ℕ → Value V → Value V → List (Frame V) → List (Binding V) → List (Cell V) → Machine V
  applies room i (Number n) v fs bs cs = halts (Stuck i) fs bs cs
  applies room i (Closure f k) v fs bs cs =
      cond (nat_lt (length bs) room)
      (pends i (suc (length bs)) Passes (last_part f) fs (bs ++ (record { function = f; value = v; outer = k } ∷ [])) cs)
      (halts BindingsFull fs bs cs)
  applies room i (Reference a) v fs bs cs = halts (Stuck i) fs bs cs

  -- a cell is made, where there is room for it
  abbrev pub creates : Sheet → ℕ → ℕ → Value V → List (Frame V) → List (Binding V) → List (Cell V) → Machine V
  creates S room i v fs bs cs =
      cond (nat_lt (length cs) room)
      (gives (Reference (length cs)) fs bs (cs ++ (record { site = (S.node i).argument; value = v } ∷ [])))
      (halts CellsFull fs bs cs)

module _ (M : NumberKind) (S : Sheet) where
  -- a branch comes next
  abbrev pub chooses : ℕ → ℕ → Value M.Value → List (Frame M.Value) → List (Binding M.Value) → List (Cell M.Value) → Machine M.Value
  chooses i k (Number n) fs bs cs = pends i k Passes (cond (M.is_zero n) (part S i 0) (part S i 1)) fs bs cs
  chooses i k (Closure f j) fs bs cs = halts (Stuck i) fs bs cs
  chooses i k (Reference a) fs bs cs = halts (Stuck i) fs bs cs

  -- an operation's value
  abbrev pub combines : ℕ → Value M.Value → Value M.Value → List (Frame M.Value) → List (Binding M.Value) → List (Cell M.Value) → Machine M.Value
  combines i (Number n) (Number m) fs bs cs = gives (Number (operation M (S.node i).argument n m)) fs bs cs
  combines i (Number n) (Closure f k) fs bs cs = halts (Stuck i) fs bs cs
  combines i (Number n) (Reference a) fs bs cs = halts (Stuck i) fs bs cs
  combines i (Closure f k) w fs bs cs = halts (Stuck i) fs bs cs
  combines i (Reference a) w fs bs cs = halts (Stuck i) fs bs cs

  -- node i is started, by its kind
  abbrev pub starts : Kind → ℕ → ℕ → List (Frame M.Value) → List (Binding M.Value) → List (Cell M.Value) → Machine M.Value
  starts Literal i k fs bs cs = gives (Number (M.whole (clamp (S.node i).literal))) fs bs cs
  starts Variable i k fs bs cs = looks i (seek k bs (S.node i).argument k) fs bs cs
  starts Lambda i k fs bs cs = gives (Closure i k) fs bs cs
  starts Application i k fs bs cs = pends i k Calls (part S i 1) fs bs cs
  starts New i k fs bs cs = pends i k Creates (part S i 0) fs bs cs
  starts Channel i k fs bs cs = gives (Reference (S.node i).argument) fs bs cs
  starts Read i k fs bs cs = pends i k Reads (part S i 0) fs bs cs
  starts Write i k fs bs cs = pends i k Targets (part S i 1) fs bs cs
  starts Choice i k fs bs cs = pends i k Chooses (part S i 2) fs bs cs
  starts Operation i k fs bs cs = pends i k Operates (part S i 1) fs bs cs
  starts Unknown i k fs bs cs = halts (Stuck i) fs bs cs

module _ (M : NumberKind) (S : Sheet) (L : Limits) where
  -- the value v comes back to node i, by what it waits for
  abbrev pub resumes : Stage M.Value → ℕ → ℕ → Value M.Value → List (Frame M.Value) → List (Binding M.Value) → List (Cell M.Value) → Machine M.Value
  resumes Chooses i k v fs bs cs = chooses M S i k v fs bs cs
  resumes Creates i k v fs bs cs = creates S L.cells i v fs bs cs
  resumes Reads i k v fs bs cs = reads i v fs bs cs
  resumes Calls i k v fs bs cs = pends i k (Applies v) (part S i 0) fs bs cs
  resumes (Applies f) i k v fs bs cs = applies L.bindings i f v fs bs cs
  resumes Targets i k v fs bs cs = pends i k (Writes v) (part S i 0) fs bs cs
  resumes (Writes r) i k v fs bs cs = writes i r v fs bs cs
  resumes Operates i k v fs bs cs = pends i k (Combines v) (part S i 0) fs bs cs
  resumes (Combines a) i k v fs bs cs = combines M S i a v fs bs cs
  resumes Passes i k v fs bs cs = gives v fs bs cs
