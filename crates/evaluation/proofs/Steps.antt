-- The steps of an evaluation are counted: they never fall, never pass the fuel, and equal it where it is spent.
use Rattle.std.proofs.Common.{◌≡◌, ℕ, zero, suc, ◌+◌, ◌≤◌, Bool, true, false, cond, eqb, ltb, [], ◌∷◌, ◌++◌, length, Some, None, Option, refl, arith, eqb-true}
use borrow.Author.Tests.{eqb-false}
use Rattle.std.specs.List.{slice_get}
use Rattle.number.specs.NumberKind.{NumberKind}
use Rattle.sheet.specs.declared.decoded.Kind.{Kind}
use Rattle.sheet.specs.declared.decoded.Kind.TheVariants.{Literal, Variable, Lambda, Application, New, Channel, Read, Write, Choice, Operation, Unknown}
use Rattle.sheet.specs.Sheet.{Sheet, last_part}
use Rattle.evaluation.specs.declared.ending.Stop.{Stop}
use Rattle.evaluation.specs.declared.ending.Stop.TheVariants.{FuelSpent, PendingFull, BindingsFull, CellsFull, Stuck}
use Rattle.evaluation.specs.Values.{Value, number, closure, reference, Environment, bind, Cell, State, Outcome, done, stopped, Evaluator, and_then, provided, with_cells, one_step, one_binding}
use Rattle.evaluation.specs.Evaluation.{found, load, loaded, store, stored, apply, create, choose, operate, by_kind, eval, most_bindings, most_fresh}
use Rattle.evaluation.specs.Fuel.{Counted}

-- `ev` counts its steps
abbrev pub Counts : {V : Type 0} → ℕ → Evaluator V → Type 0
Counts {V} fuel ev = (i : ℕ) (ρ : Environment V) (s : State V) → Counted fuel s.steps (ev i ρ s)

module _ {V : Type 0} (fuel : ℕ) where
  -- a value
  pub counted_done : (v : Value V) (s : State V) → Counted fuel s.steps (done v s)
  counted_done v s = record {
    rises = omega arith;
    within = λ h. h;
    spent = λ e. let z : ◌≡◌ {A = ℕ} 0 1 = cc in absurd (omega arith);
  }

  -- a stop for another reason than the want of fuel
  pub counted_stop : (e : Stop) (t : ℕ) → (e ≡ FuelSpent → ⊥) → Counted {V = V} fuel t (stopped e t)
  counted_stop e t other = record {
    rises = omega arith;
    within = λ h. h;
    spent = λ q. absurd (other (cc));
  }

  -- a value of the wrong form
  pub counted_stuck : (i t : ℕ) → Counted {V = V} fuel t (stopped (Stuck i) t)
  counted_stuck i t = counted_stop (Stuck i) t (λ e. let z : ◌≡◌ {A = ℕ} 0 1 = cc in absurd (omega arith))

  -- a stop for want of fuel
  pub counted_spent : (t : ℕ) → t ≡ fuel → Counted {V = V} fuel t (stopped FuelSpent t)
  counted_spent t h = record { rises = omega arith; within = λ l. l; spent = λ _. h }

  -- what began later, where the steps between are counted too
  pub counted_later : (from t : ℕ) (o : Outcome V) → from ≤ t → (from ≤ fuel → t ≤ fuel) → Counted fuel t o → Counted fuel from o
  counted_later from t o h k c = record {
    rises = let r = c.rises in omega arith;
    within = λ l. c.within (k l);
    spent = c.spent;
  }

  -- an evaluation and what follows it
  pub counted_then : (from : ℕ) (o : Outcome V) (next : Value V → State V → Outcome V) → Counted fuel from o
      → ((v : Value V) (s : State V) → Counted fuel s.steps (next v s)) → Counted fuel from (and_then o next)
  counted_then from (done v s) next c f = counted_later from s.steps (next v s) c.rises c.within (f v s)
  counted_then from (stopped e t) next c f = c

  -- one outcome or another
  pub counted_provided : (from : ℕ) (b : Bool) (first : Unit {0} → Outcome V) (other : Outcome V)
      → Counted fuel from (first tt) → Counted fuel from other → Counted fuel from (provided b first other)
  counted_provided from true first other h k = h
  counted_provided from false first other h k = k

  -- a variable
  counted_found : (i : ℕ) (s : State V) (o : Option (Value V)) → Counted fuel s.steps (found i s o)
  counted_found i s None = counted_stuck i s.steps
  counted_found i s (Some v) = counted_done v s

  -- a read from the cell that the reference names, if there is one
  counted_loaded : (i : ℕ) (s : State V) (o : Option (Cell V)) → Counted fuel s.steps (loaded i s o)
  counted_loaded i s None = counted_stuck i s.steps
  counted_loaded i s (Some c) = counted_done c.value s

  -- a read
  counted_load : (i : ℕ) (r : Value V) (s : State V) → Counted fuel s.steps (load i r s)
  counted_load i (number n) s = counted_stuck i s.steps
  counted_load i (closure f ρ) s = counted_stuck i s.steps
  counted_load i (reference a) s = counted_loaded i s (slice_get s.cells a)

  -- a write to the cell that the reference names, if there is one
  counted_stored : (i a : ℕ) (v : Value V) (s : State V) (o : Option (Cell V)) → Counted fuel s.steps (stored i a v s o)
  counted_stored i a v s None = counted_stuck i s.steps
  counted_stored i a v s (Some c) = counted_done v _

  -- a write
  counted_store : (i : ℕ) (r v : Value V) (s : State V) → Counted fuel s.steps (store i r v s)
  counted_store i (number n) v s = counted_stuck i s.steps
  counted_store i (closure f ρ) v s = counted_stuck i s.steps
  counted_store i (reference a) v s = counted_stored i a v s (slice_get s.cells a)

  -- an application: the body counts too
  counted_apply : (ev : Evaluator V) → Counts fuel ev → (i : ℕ) (f v : Value V) (s : State V) → Counted fuel s.steps (apply ev i f v s)
  counted_apply ev ih i (number n) v s = counted_stuck i s.steps
  counted_apply ev ih i (closure f ρ) v s =
      counted_provided s.steps (ltb s.bindings most_bindings) (λ _. ev (last_part f) (bind f v ρ) (one_binding s)) _
      (ih (last_part f) (bind f v ρ) (one_binding s))
      (counted_stop BindingsFull s.steps (λ e. let z : ◌≡◌ {A = ℕ} 0 1 = cc in absurd (omega arith)))
  counted_apply ev ih i (reference a) v s = counted_stuck i s.steps

module _ (M : NumberKind) (S : Sheet) (fuel : ℕ) where
  -- a new cell, where there is room
  counted_create : (i : ℕ) (v : Value M.Value) (s : State M.Value) → Counted fuel s.steps (create M S i v s)
  counted_create i v s =
      let made : State M.Value = with_cells s (s.cells ++ record { site = (S.node i).argument; value = v } ∷ []) in
      counted_provided fuel s.steps (ltb (length s.cells) (S.sites + most_fresh)) (λ _. done (reference (length s.cells)) made) _
      (counted_done fuel (reference (length s.cells)) made)
      (counted_stop fuel CellsFull s.steps (λ e. let z : ◌≡◌ {A = ℕ} 0 1 = cc in absurd (omega arith)))

  -- an operation
  counted_operate : (i : ℕ) (v w : Value M.Value) (s : State M.Value) → Counted fuel s.steps (operate M S i v w s)
  counted_operate i (number m) (number n) s = counted_done fuel _ s
  counted_operate i (number m) (closure f ρ) s = counted_stuck fuel i s.steps
  counted_operate i (number m) (reference a) s = counted_stuck fuel i s.steps
  counted_operate i (closure f ρ) w s = counted_stuck fuel i s.steps
  counted_operate i (reference a) w s = counted_stuck fuel i s.steps

  module _ (ev : Evaluator M.Value) (ih : Counts fuel ev) where
    -- a choice: the branch counts too
    counted_choose : (i : ℕ) (ρ : Environment M.Value) (v : Value M.Value) (s : State M.Value) → Counted fuel s.steps (choose M S ev i ρ v s)
    counted_choose i ρ (number n) s = ih _ ρ s
    counted_choose i ρ (closure f ρ') s = counted_stuck fuel i s.steps
    counted_choose i ρ (reference a) s = counted_stuck fuel i s.steps

    -- a node by its kind counts its steps where its parts do
    pub counted_by_kind : (k : Kind) (i : ℕ) (ρ : Environment M.Value) (s : State M.Value) → Counted fuel s.steps (by_kind M S ev k i ρ s)
    counted_by_kind Literal i ρ s = counted_done fuel _ s
    counted_by_kind Variable i ρ s = counted_found fuel i s _
    counted_by_kind Lambda i ρ s = counted_done fuel _ s
    counted_by_kind Application i ρ s =
        counted_then fuel s.steps _ _ (ih _ ρ s) (λ f s₁. counted_then fuel s₁.steps _ _ (ih _ ρ s₁) (λ v s₂. counted_apply fuel ev ih i f v s₂))
    counted_by_kind New i ρ s = counted_then fuel s.steps _ _ (ih _ ρ s) (λ v s₁. counted_create i v s₁)
    counted_by_kind Channel i ρ s = counted_done fuel _ s
    counted_by_kind Read i ρ s = counted_then fuel s.steps _ _ (ih _ ρ s) (λ r s₁. counted_load fuel i r s₁)
    counted_by_kind Write i ρ s =
        counted_then fuel s.steps _ _ (ih _ ρ s) (λ r s₁. counted_then fuel s₁.steps _ _ (ih _ ρ s₁) (λ v s₂. counted_store fuel i r v s₂))
    counted_by_kind Choice i ρ s = counted_then fuel s.steps _ _ (ih _ ρ s) (λ c s₁. counted_choose i ρ c s₁)
    counted_by_kind Operation i ρ s =
        counted_then fuel s.steps _ _ (ih _ ρ s) (λ v s₁. counted_then fuel s₁.steps _ _ (ih _ ρ s₁) (λ w s₂. counted_operate i v w s₂))
    counted_by_kind Unknown i ρ s = counted_stuck fuel i s.steps

  -- no place is left, and there may be no fuel either
  counted_no_place : (t : ℕ) (b : Bool) → eqb t fuel ≡ b → Counted {V = M.Value} fuel t (cond b (stopped FuelSpent t) (stopped PendingFull t))
  counted_no_place t true e = counted_spent fuel t (eqb-true t fuel e)
  counted_no_place t false e = counted_stop fuel PendingFull t (λ q. let z : ◌≡◌ {A = ℕ} 0 1 = cc in absurd (omega arith))

  -- a start: where there is fuel, what follows began with one step more
  pub counted_start : (t : ℕ) (b : Bool) → eqb t fuel ≡ b → (o : Outcome M.Value) → Counted fuel (suc t) o
      → Counted fuel t (provided b (λ _. stopped FuelSpent t) o)
  counted_start t true e o c = counted_spent fuel t (eqb-true t fuel e)
  counted_start t false e o c =
      let ne : t ≡ fuel → ⊥ = eqb-false t fuel e in
      counted_later fuel t (suc t) o (omega arith) (λ h. omega arith) c

  -- every evaluation counts its steps
  pub counts : (d : ℕ) → Counts fuel (eval M S fuel d)
  unfolding eval
  counts zero i ρ s = counted_no_place s.steps (eqb s.steps fuel) refl
  counts (suc d) i ρ s =
      counted_start s.steps (eqb s.steps fuel) refl _
      (counted_by_kind (eval M S fuel d) (counts d) (S.node i).kind i ρ (one_step s))
