-- The evaluation of a node: a recursion on the places left for pending nodes. A node is pending from
-- its start to its end, so how deep evaluation is nested is how many nodes are pending.
use Rattle.std.specs.Prelude.{ℕ, zero, suc, ◌+◌, cond, [], ◌∷◌, ◌++◌, length, Some, None, Option, ◌==◌, nat_lt, slice_set}
use Rattle.std.specs.List.{slice_get}
use Rattle.number.specs.NumberKind.{NumberKind}
use Rattle.sheet.specs.declared.decoded.Kind.{Kind}
use Rattle.sheet.specs.declared.decoded.Kind.TheVariants.{Literal, Variable, Lambda, Application, New, Channel, Read, Write, Choice, Operation, Unknown}
use Rattle.sheet.specs.declared.decoded.Operator.{Operator}
use Rattle.sheet.specs.declared.decoded.Operator.TheVariants as operator
use Rattle.sheet.specs.Sheet.{Sheet, operator_of, last_part, part}
use Rattle.evaluation.specs.declared.ending.Stop.TheVariants.{FuelSpent, PendingFull, BindingsFull, CellsFull, Stuck}
use Rattle.evaluation.specs.Values.{Value, number, closure, reference, Environment, bind, Cell, State, Outcome, done, stopped, Evaluator, lookup, and_then, provided, with_cells, one_step, one_binding}

-- how many nodes may be pending, how many bindings a run may make, and how many fresh cells
abbrev pub most_pending : ℕ
most_pending = 1024

abbrev pub most_bindings : ℕ
most_bindings = 1024

abbrev pub most_fresh : ℕ
most_fresh = 512

-- what an operation does
abbrev pub operate_as : (M : NumberKind) → Operator → M.Value → M.Value → M.Value
operate_as M operator.Add = M.sum
operate_as M operator.Subtract = M.difference
operate_as M operator.Multiply = M.product
operate_as M operator.Divide = M.quotient
operate_as M operator.Less = M.less
operate_as M operator.Equal = M.equal

-- the operation that a node's argument names
abbrev pub operation : (M : NumberKind) → ℕ → M.Value → M.Value → M.Value
operation M w = operate_as M (operator_of w)

module _ {V : Type 0} where
  -- the value at node i had the wrong form
  abbrev pub stuck : ℕ → State V → Outcome V
  stuck i s = stopped (Stuck i) s.steps

  -- a variable's value
  abbrev pub found : ℕ → State V → Option (Value V) → Outcome V
  found i s None = stuck i s
  found i s (Some v) = done v s

  -- what a cell holds
  abbrev pub loaded : ℕ → State V → Option (Cell V) → Outcome V
  loaded i s None = stuck i s
  loaded i s (Some c) = done c.value s

  -- reads through a reference
  abbrev pub load : ℕ → Value V → State V → Outcome V
  load i (number n) s = stuck i s
  load i (closure f ρ) s = stuck i s
  load i (reference a) s = loaded i s (slice_get s.cells a)

  -- a cell with another value
  abbrev pub stored : ℕ → ℕ → Value V → State V → Option (Cell V) → Outcome V
  stored i a v s None = stuck i s
  stored i a v s (Some c) = done v (with_cells s (slice_set s.cells a (record { site = c.site; value = v })))

  -- writes through a reference; the value written is the value
  abbrev pub store : ℕ → Value V → Value V → State V → Outcome V
  store i (number n) v s = stuck i s
  store i (closure f ρ) v s = stuck i s
  store i (reference a) v s = stored i a v s (slice_get s.cells a)

  -- applies a function: its body, in its own environment with one binding more
  abbrev pub apply : Evaluator V → ℕ → Value V → Value V → State V → Outcome V
  apply ev i (number n) v s = stuck i s
  apply ev i (closure f ρ) v s =
      provided (nat_lt s.bindings most_bindings) (λ _. ev (last_part f) (bind f v ρ) (one_binding s)) (stopped BindingsFull s.steps)
  apply ev i (reference a) v s = stuck i s

module _ (M : NumberKind) (S : Sheet) where
  -- makes a cell at a site: the places of the sites come first, and then the fresh cells
  abbrev pub create : ℕ → Value M.Value → State M.Value → Outcome M.Value
  create i v s =
      provided (nat_lt (length s.cells) (S.sites + most_fresh))
      (λ _. done (reference (length s.cells)) (with_cells s (s.cells ++ record { site = (S.node i).argument; value = v } ∷ [])))
      (stopped CellsFull s.steps)

  -- the third part where the condition is zero, else the second
  abbrev pub choose : Evaluator M.Value → ℕ → Environment M.Value → Value M.Value → State M.Value → Outcome M.Value
  choose ev i ρ (number n) s = ev (cond (M.is_zero n) (part S i 0) (part S i 1)) ρ s
  choose ev i ρ (closure f ρ') s = stuck i s
  choose ev i ρ (reference a) s = stuck i s

  -- an operation on two numbers
  abbrev pub operate : ℕ → Value M.Value → Value M.Value → State M.Value → Outcome M.Value
  operate i (number m) (number n) s = done (number (operation M (S.node i).argument m n)) s
  operate i (number m) (closure f ρ) s = stuck i s
  operate i (number m) (reference a) s = stuck i s
  operate i (closure f ρ) w s = stuck i s
  operate i (reference a) w s = stuck i s

  -- node i by its kind, where `ev` evaluates its parts, the first one first
  abbrev pub by_kind : Evaluator M.Value → Kind → ℕ → Environment M.Value → State M.Value → Outcome M.Value
  by_kind ev Literal i ρ s = done (number (M.whole (S.node i).literal)) s
  by_kind ev Variable i ρ s = found i s (lookup (S.node i).argument ρ)
  by_kind ev Lambda i ρ s = done (closure i ρ) s
  by_kind ev Application i ρ s = and_then (ev (part S i 1) ρ s) (λ f s₁. and_then (ev (part S i 0) ρ s₁) (λ v s₂. apply ev i f v s₂))
  by_kind ev New i ρ s = and_then (ev (part S i 0) ρ s) (λ v s₁. create i v s₁)
  by_kind ev Channel i ρ s = done (reference (S.node i).argument) s
  by_kind ev Read i ρ s = and_then (ev (part S i 0) ρ s) (λ r s₁. load i r s₁)
  by_kind ev Write i ρ s = and_then (ev (part S i 1) ρ s) (λ r s₁. and_then (ev (part S i 0) ρ s₁) (λ v s₂. store i r v s₂))
  by_kind ev Choice i ρ s = and_then (ev (part S i 2) ρ s) (λ c s₁. choose ev i ρ c s₁)
  by_kind ev Operation i ρ s = and_then (ev (part S i 1) ρ s) (λ a s₁. and_then (ev (part S i 0) ρ s₁) (λ b s₂. operate i a b s₂))
  by_kind ev Unknown i ρ s = stuck i s

  -- starts node i where d places are left for pending nodes: fuel is tested first, then the places
  unfoldable pub eval : (fuel d : ℕ) → Evaluator M.Value
  eval fuel zero i ρ s = cond (s.steps == fuel) (stopped FuelSpent s.steps) (stopped PendingFull s.steps)
  eval fuel (suc d) i ρ s =
      provided (s.steps == fuel) (λ _. stopped FuelSpent s.steps) (by_kind (eval fuel d) (S.node i).kind i ρ (one_step s))
