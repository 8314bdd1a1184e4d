-- The evaluation of a node over flat state: an environment is a place in the list of the bindings made so far, and a
-- binding has the place of the environment around it. Place 0 is the empty environment, and place k + 1 is that of binding k.
use Rattle.std.specs.Prelude.{ℕ, zero, suc, Bool, true, false, cond, List, [], ◌∷◌, ◌++◌, length, Some, None, Option, ◌==◌, nat_lt, slice_set}
use Rattle.std.specs.List.{slice_get}
use Rattle.number.specs.NumberKind.{NumberKind}
use Rattle.number.specs.Millimetre.{clamp}
use Rattle.sheet.specs.declared.decoded.Kind.{Kind}
use Rattle.sheet.specs.declared.decoded.Kind.TheVariants.{Literal, Variable, Lambda, Application, New, Channel, Read, Write, Choice, Operation, Unknown}
use Rattle.sheet.specs.Sheet.{Sheet, last_part, part}
use Rattle.evaluation.specs.declared.ending.Stop.{Stop}
use Rattle.evaluation.specs.declared.ending.Stop.TheVariants.{FuelSpent, PendingFull, BindingsFull, CellsFull, Stuck}
use Rattle.evaluation.specs.Evaluation.{operation}
use Rattle.machine.specs.declared.values.Value.{Value}
use Rattle.machine.specs.declared.values.Value.TheVariants.{Number, Closure, Reference}
use Rattle.machine.specs.declared.values.Binding.{Binding}
use Rattle.machine.specs.declared.values.Cell.{Cell}

-- how many bindings and how many cells there is room for
pub record Limits : Type 0 where
  pub bindings : ℕ
  pub cells : ℕ

-- the cells, the bindings made, and the steps
pub record FlatState (V : Type 0) : Type 0 where
  pub cells : List (Cell V)
  pub made : List (Binding V)
  pub steps : ℕ

-- a value and the state after, or why the run stopped and after how many steps
pub data FlatOutcome (V : Type 0) : Type 0 where
  flat_done : Value V → FlatState V → FlatOutcome V
  flat_stopped : Stop → ℕ → FlatOutcome V

-- how a node is evaluated, in the environment at a place and from a state
abbrev pub FlatEvaluator : Type 0 → Type 0
FlatEvaluator V = ℕ → ℕ → FlatState V → FlatOutcome V

module _ {V : Type 0} where
  -- goes on with a binding, if there is one
  abbrev pub chain : Option (Binding V) → (Binding V → Option (Value V)) → Option (Value V)
  chain None f = None
  chain (Some b) f = f b

  -- the value of the innermost binding of f in the environment at place k, at most n bindings up
  abbrev pub seek : ℕ → List (Binding V) → ℕ → ℕ → Option (Value V)
  seek n bs f zero = None
  seek zero bs f (suc j) = None
  seek (suc n) bs f (suc j) = chain (slice_get bs j) (λ b. cond (f == b.function) (Some b.value) (seek n bs f b.outer))

  -- goes on with the value and the state, unless the run stopped
  abbrev pub flat_then : FlatOutcome V → (Value V → FlatState V → FlatOutcome V) → FlatOutcome V
  flat_then (flat_done v s) next = next v s
  flat_then (flat_stopped e t) next = flat_stopped e t

  -- one outcome or another
  abbrev pub flat_provided : Bool → (Unit {0} → FlatOutcome V) → FlatOutcome V → FlatOutcome V
  flat_provided true first other = first tt
  flat_provided false first other = other

  -- the state with other cells
  abbrev pub with_cells : FlatState V → List (Cell V) → FlatState V
  with_cells s cs = record { cells = cs; made = s.made; steps = s.steps }

  -- the state with one step more
  abbrev pub one_step : FlatState V → FlatState V
  one_step s = record { cells = s.cells; made = s.made; steps = suc s.steps }

  -- the state with one binding more
  abbrev pub one_more : FlatState V → Binding V → FlatState V
  one_more s b = record { cells = s.cells; made = s.made ++ b ∷ []; steps = s.steps }

  -- the value at node i had the wrong form
  abbrev pub flat_stuck : ℕ → FlatState V → FlatOutcome V
  flat_stuck i s = flat_stopped (Stuck i) s.steps

  -- a variable's value
  abbrev pub flat_found : ℕ → FlatState V → Option (Value V) → FlatOutcome V
  flat_found i s None = flat_stuck i s
  flat_found i s (Some v) = flat_done v s

  -- what a cell holds
  abbrev pub flat_loaded : ℕ → FlatState V → Option (Cell V) → FlatOutcome V
  flat_loaded i s None = flat_stuck i s
  flat_loaded i s (Some c) = flat_done c.value s

  -- reads through a reference
  abbrev pub flat_load : ℕ → Value V → FlatState V → FlatOutcome V
  flat_load i (Number n) s = flat_stuck i s
  flat_load i (Closure f k) s = flat_stuck i s
  flat_load i (Reference a) s = flat_loaded i s (slice_get s.cells a)

  -- a cell with another value
  abbrev pub flat_stored : ℕ → ℕ → Value V → FlatState V → Option (Cell V) → FlatOutcome V
  flat_stored i a v s None = flat_stuck i s
  flat_stored i a v s (Some c) = flat_done v (with_cells s (slice_set s.cells a (record { site = c.site; value = v })))

  -- writes through a reference
  abbrev pub flat_store : ℕ → Value V → Value V → FlatState V → FlatOutcome V
  flat_store i (Number n) v s = flat_stuck i s
  flat_store i (Closure f k) v s = flat_stuck i s
  flat_store i (Reference a) v s = flat_stored i a v s (slice_get s.cells a)

module _ (M : NumberKind) (S : Sheet) (L : Limits) where
  -- applies a function: its body, in its own environment with one binding more
  abbrev pub flat_apply : FlatEvaluator M.Value → ℕ → Value M.Value → Value M.Value → FlatState M.Value → FlatOutcome M.Value
  flat_apply ev i (Number n) v s = flat_stuck i s
  flat_apply ev i (Closure f k) v s =
      flat_provided (nat_lt (length s.made) L.bindings)
      (λ _. ev (last_part f) (suc (length s.made)) (one_more s (record { function = f; value = v; outer = k })))
      (flat_stopped BindingsFull s.steps)
  flat_apply ev i (Reference a) v s = flat_stuck i s

  -- makes a cell at a site
  abbrev pub flat_create : ℕ → Value M.Value → FlatState M.Value → FlatOutcome M.Value
  flat_create i v s =
      flat_provided (nat_lt (length s.cells) L.cells)
      (λ _. flat_done (Reference (length s.cells)) (with_cells s (s.cells ++ record { site = (S.node i).argument; value = v } ∷ [])))
      (flat_stopped CellsFull s.steps)

  -- the third part where the condition is zero, else the second
  abbrev pub flat_choose : FlatEvaluator M.Value → ℕ → ℕ → Value M.Value → FlatState M.Value → FlatOutcome M.Value
  flat_choose ev i k (Number n) s = ev (cond (M.is_zero n) (part S i 0) (part S i 1)) k s
  flat_choose ev i k (Closure f j) s = flat_stuck i s
  flat_choose ev i k (Reference a) s = flat_stuck i s

  -- an operation on two numbers
  abbrev pub flat_operate : ℕ → Value M.Value → Value M.Value → FlatState M.Value → FlatOutcome M.Value
  flat_operate i (Number n) (Number m) s = flat_done (Number (operation M (S.node i).argument n m)) s
  flat_operate i (Number n) (Closure f k) s = flat_stuck i s
  flat_operate i (Number n) (Reference a) s = flat_stuck i s
  flat_operate i (Closure f k) w s = flat_stuck i s
  flat_operate i (Reference a) w s = flat_stuck i s

  -- node i by its kind, where `ev` evaluates its parts
  abbrev pub flat_by_kind : FlatEvaluator M.Value → Kind → ℕ → ℕ → FlatState M.Value → FlatOutcome M.Value
  flat_by_kind ev Literal i k s = flat_done (Number (M.whole (clamp (S.node i).literal))) s
  flat_by_kind ev Variable i k s = flat_found i s (seek k s.made (S.node i).argument k)
  flat_by_kind ev Lambda i k s = flat_done (Closure i k) s
  flat_by_kind ev Application i k s = flat_then (ev (part S i 1) k s) (λ f s₁. flat_then (ev (part S i 0) k s₁) (λ v s₂. flat_apply ev i f v s₂))
  flat_by_kind ev New i k s = flat_then (ev (part S i 0) k s) (λ v s₁. flat_create i v s₁)
  flat_by_kind ev Channel i k s = flat_done (Reference (S.node i).argument) s
  flat_by_kind ev Read i k s = flat_then (ev (part S i 0) k s) (λ r s₁. flat_load i r s₁)
  flat_by_kind ev Write i k s = flat_then (ev (part S i 1) k s) (λ r s₁. flat_then (ev (part S i 0) k s₁) (λ v s₂. flat_store i r v s₂))
  flat_by_kind ev Choice i k s = flat_then (ev (part S i 2) k s) (λ c s₁. flat_choose ev i k c s₁)
  flat_by_kind ev Operation i k s = flat_then (ev (part S i 1) k s) (λ a s₁. flat_then (ev (part S i 0) k s₁) (λ b s₂. flat_operate i a b s₂))
  flat_by_kind ev Unknown i k s = flat_stuck i s

  -- starts node i where d places are left for pending nodes
  unfoldable pub flat_eval : (fuel d : ℕ) → FlatEvaluator M.Value
  flat_eval fuel zero i k s = cond (s.steps == fuel) (flat_stopped FuelSpent s.steps) (flat_stopped PendingFull s.steps)
  flat_eval fuel (suc d) i k s =
      flat_provided (s.steps == fuel) (λ _. flat_stopped FuelSpent s.steps) (flat_by_kind (flat_eval fuel d) (S.node i).kind i k (one_step s))
