-- More fuel does not change an evaluation that did not spend its fuel.
use Rattle.std.proofs.Common.{◌≡◌, ℕ, zero, suc, ◌≤◌, Bool, true, false, cond, eqb, ltb, refl, ap, ◌∙◌, arith, ne_eqb}
use borrow.Author.Tests.{eqb-false}
use Rattle.number.specs.NumberKind.{NumberKind}
use Rattle.sheet.specs.declared.decoded.Kind.{Kind}
use Rattle.sheet.specs.declared.decoded.Kind.TheVariants.{Literal, Variable, Lambda, Application, New, Channel, Read, Write, Choice, Operation, Unknown}
use Rattle.sheet.specs.Sheet.{Sheet, last_part, part}
use Rattle.evaluation.specs.declared.ending.Stop.TheVariants.{FuelSpent, PendingFull}
use Rattle.evaluation.specs.Values.{Value, number, closure, reference, Environment, bind, State, Outcome, done, stopped, Evaluator, and_then, provided, one_step, one_binding}
use Rattle.evaluation.specs.Evaluation.{apply, choose, by_kind, eval, most_bindings}
use Rattle.evaluation.specs.Fuel.{Spent, Counted, FuelSettles}
use Rattle.evaluation.proofs.Steps.{Counts, counts}

module _ {V : Type 0} where
  -- the second outcome is the first, unless the first spent its fuel
  abbrev pub Settled : Outcome V → Outcome V → Type 0
  Settled o o' = (Spent o → ⊥) → o' ≡ o

  -- the second evaluator does as the first, unless the first spent its fuel
  abbrev pub Settles : ℕ → Evaluator V → Evaluator V → Type 0
  Settles fuel ev ev' = (i : ℕ) (ρ : Environment V) (s : State V) → s.steps ≤ fuel → Settled (ev i ρ s) (ev' i ρ s)

  -- two evaluations and what follows them; the steps stay within the fuel
  pub settled_then : (fuel from : ℕ) (o o' : Outcome V) (next next' : Value V → State V → Outcome V)
      → from ≤ fuel → Counted fuel from o → Settled o o'
      → ((v : Value V) (s : State V) → s.steps ≤ fuel → Settled (next v s) (next' v s))
      → Settled (and_then o next) (and_then o' next')
  settled_then fuel from (done v s) o' next next' l c h f n =
      let e : o' ≡ done v s = h (λ q. let z : ◌≡◌ {A = ℕ} 0 1 = cc in absurd (omega arith)) in
      ap (λ (x : Outcome V). and_then x next') e ∙ f v s (c.within l) n
  settled_then fuel from (stopped e t) o' next next' l c h f n = ap (λ (x : Outcome V). and_then x next') (h n)

  -- two evaluations under the same test
  settled_provided : (b : Bool) (first first' : Unit {0} → Outcome V) (other : Outcome V) → Settled (first tt) (first' tt)
      → Settled (provided b first other) (provided b first' other)
  settled_provided true first first' other h = h
  settled_provided false first first' other h = λ _. refl

  -- two applications of one function to one argument
  settled_apply : (fuel : ℕ) (ev ev' : Evaluator V) → Settles fuel ev ev' → (i : ℕ) (f v : Value V) (s : State V) → s.steps ≤ fuel
      → Settled (apply ev i f v s) (apply ev' i f v s)
  settled_apply fuel ev ev' ih i (number n) v s l = λ _. refl
  settled_apply fuel ev ev' ih i (closure f ρ) v s l =
      settled_provided (ltb s.bindings most_bindings)
      (λ _. ev (last_part f) (bind f v ρ) (one_binding s)) (λ _. ev' (last_part f) (bind f v ρ) (one_binding s)) _
      (ih (last_part f) (bind f v ρ) (one_binding s) l)
  settled_apply fuel ev ev' ih i (reference a) v s l = λ _. refl

module _ (M : NumberKind) (S : Sheet) (fuel : ℕ) (ev ev' : Evaluator M.Value) (count : Counts fuel ev) (ih : Settles fuel ev ev') where
  -- two choices by one condition
  settled_choose : (i : ℕ) (ρ : Environment M.Value) (v : Value M.Value) (s : State M.Value) → s.steps ≤ fuel
      → Settled (choose M S ev i ρ v s) (choose M S ev' i ρ v s)
  settled_choose i ρ (number n) s l = ih _ ρ s l
  settled_choose i ρ (closure f ρ') s l = λ _. refl
  settled_choose i ρ (reference a) s l = λ _. refl

  -- one part, and then what follows it
  settled_part : (p : ℕ) (ρ : Environment M.Value) (s : State M.Value) (next next' : Value M.Value → State M.Value → Outcome M.Value)
      → s.steps ≤ fuel → ((v : Value M.Value) (s₁ : State M.Value) → s₁.steps ≤ fuel → Settled (next v s₁) (next' v s₁))
      → Settled (and_then (ev p ρ s) next) (and_then (ev' p ρ s) next')
  settled_part p ρ s next next' l f = settled_then fuel s.steps (ev p ρ s) (ev' p ρ s) next next' l (count p ρ s) (ih p ρ s l) f

  -- a node by its kind, where its parts settle
  settled_by_kind : (k : Kind) (i : ℕ) (ρ : Environment M.Value) (s : State M.Value) → s.steps ≤ fuel
      → Settled (by_kind M S ev k i ρ s) (by_kind M S ev' k i ρ s)
  settled_by_kind Literal i ρ s l = λ _. refl
  settled_by_kind Variable i ρ s l = λ _. refl
  settled_by_kind Lambda i ρ s l = λ _. refl
  settled_by_kind Application i ρ s l =
      settled_part (part S i 1) ρ s _ _ l (λ f s₁ l₁. settled_part (part S i 0) ρ s₁ _ _ l₁ (λ v s₂ l₂. settled_apply fuel ev ev' ih i f v s₂ l₂))
  settled_by_kind New i ρ s l = settled_part (part S i 0) ρ s _ _ l (λ v s₁ l₁ _. refl)
  settled_by_kind Channel i ρ s l = λ _. refl
  settled_by_kind Read i ρ s l = settled_part (part S i 0) ρ s _ _ l (λ v s₁ l₁ _. refl)
  settled_by_kind Write i ρ s l =
      settled_part (part S i 1) ρ s _ _ l (λ r s₁ l₁. settled_part (part S i 0) ρ s₁ _ _ l₁ (λ v s₂ l₂ _. refl))
  settled_by_kind Choice i ρ s l = settled_part (part S i 2) ρ s _ _ l (λ c s₁ l₁. settled_choose i ρ c s₁ l₁)
  settled_by_kind Operation i ρ s l =
      settled_part (part S i 1) ρ s _ _ l (λ v s₁ l₁. settled_part (part S i 0) ρ s₁ _ _ l₁ (λ w s₂ l₂ _. refl))
  settled_by_kind Unknown i ρ s l = λ _. refl

module _ (M : NumberKind) (S : Sheet) (fuel more : ℕ) (larger : fuel ≤ more) where
  -- where fuel is not spent, larger fuel is not spent either
  still_fuel : (t : ℕ) → t ≤ fuel → eqb t fuel ≡ false → eqb t more ≡ false
  still_fuel t l e = let ne : t ≡ fuel → ⊥ = eqb-false t fuel e in ne_eqb t more (λ q. omega arith)

  -- two starts with no place left
  settled_no_place : (t : ℕ) (b : Bool) → eqb t fuel ≡ b → t ≤ fuel
      → Settled {V = M.Value} (cond b (stopped FuelSpent t) (stopped PendingFull t)) (cond (eqb t more) (stopped FuelSpent t) (stopped PendingFull t))
  settled_no_place t true e l n = absurd (n refl)
  settled_no_place t false e l n = let q = still_fuel t l e in rw q

  -- two starts of a node
  settled_start : (t : ℕ) (b : Bool) → eqb t fuel ≡ b → t ≤ fuel → (o o' : Outcome M.Value) → (suc t ≤ fuel → Settled o o')
      → Settled (provided b (λ _. stopped FuelSpent t) o) (provided (eqb t more) (λ _. stopped FuelSpent t) o')
  settled_start t true e l o o' h n = absurd (n refl)
  settled_start t false e l o o' h n =
      let ne : t ≡ fuel → ⊥ = eqb-false t fuel e in
      let q = still_fuel t l e in
      rw q (h (omega arith) n)

  -- more fuel does not change an evaluation that did not spend it
  pub settles : (d : ℕ) → Settles fuel (eval M S fuel d) (eval M S more d)
  unfolding eval
  settles zero i ρ s l = settled_no_place s.steps (eqb s.steps fuel) refl l
  settles (suc d) i ρ s l =
      settled_start s.steps (eqb s.steps fuel) refl l _ _
      (λ k. settled_by_kind M S fuel (eval M S fuel d) (eval M S more d) (counts M S fuel d) (settles d) (S.node i).kind i ρ (one_step s) k)

-- the same for every number kind
pub fuel_settles_lem : (M : NumberKind) → FuelSettles M
fuel_settles_lem M S fuel more d i ρ s h l n = settles M S fuel more h d i ρ s l n
