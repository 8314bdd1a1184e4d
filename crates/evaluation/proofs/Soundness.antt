-- What evaluation does, the big-step relation derives, and within the limits.
use Rattle.std.proofs.Common.{◌≡◌, ℕ, zero, suc, ◌+◌, ◌<◌, ◌≤◌, Bool, true, false, cond, eqb, ltb, [], ◌∷◌, ◌++◌, length, Some, None, Option, refl, subst, arith, length-append, length-set, ltb-true}
use borrow.Author.Tests.{eqb-false}
use Rattle.std.specs.List.{slice_get}
use Rattle.number.specs.NumberKind.{NumberKind}
use Rattle.sheet.specs.declared.decoded.Kind.{Kind}
use Rattle.sheet.specs.declared.decoded.Kind.TheVariants.{Literal, Variable, Lambda, Application, New, Channel, Read, Write, Choice, Operation, Unknown}
use Rattle.sheet.specs.Sheet.{Sheet, last_part, part}
use Rattle.evaluation.specs.declared.ending.Stop.TheVariants.{FuelSpent, PendingFull}
use Rattle.evaluation.specs.Values.{Value, number, closure, reference, Environment, bind, Cell, State, Outcome, done, stopped, Evaluator, lookup, and_then, provided, with_cells, one_step, one_binding}
use Rattle.evaluation.specs.Evaluation.{found, load, loaded, store, stored, apply, create, choose, operate, by_kind, eval, most_bindings, most_fresh}
use Rattle.evaluation.specs.BigStep.{Derives, literal, variable, lambda, application, new, channel, read, write, choice_zero, choice_nonzero, operation}
use Rattle.evaluation.specs.Correspondence.{size, depth, applied, Within, Derived}

module _ {V : Type 0} where
  -- Q holds of the value and the state where the evaluation is done
  abbrev pub Post : (Value V → State V → Type 0) → Outcome V → Type 0
  Post Q (done v s) = Q v s
  Post Q (stopped e t) = Unit {0}

  -- an evaluation and what follows it
  post_then : (R Q : Value V → State V → Type 0) (o : Outcome V) (next : Value V → State V → Outcome V)
      → Post R o → ((v : Value V) (s : State V) → R v s → Post Q (next v s)) → Post Q (and_then o next)
  post_then R Q (done v s) next h f = f v s h
  post_then R Q (stopped e t) next h f = tt

  -- what follows from what holds
  post_map : (R Q : Value V → State V → Type 0) (o : Outcome V)
      → Post R o → ((v : Value V) (s : State V) → R v s → Q v s) → Post Q o
  post_map R Q (done v s) h f = f v s h
  post_map R Q (stopped e t) h f = tt

  -- an evaluation under a test, and a stop where it fails
  post_provided : (Q : Value V → State V → Type 0) (b : Bool) (first : Unit {0} → Outcome V) (other : Outcome V)
      → (b ≡ true → Post Q (first tt)) → (b ≡ false → Post Q other) → Post Q (provided b first other)
  post_provided Q true first other h k = h refl
  post_provided Q false first other h k = k refl

  -- an outcome that is known to be done
  pub post_done : (Q : Value V → State V → Type 0) (o : Outcome V) (v : Value V) (s : State V) → o ≡ done v s → Post Q o → Q v s
  post_done Q o v s e h = subst (Post Q) e h

-- `ev`, with d places, does what the relation derives
abbrev pub Sound : (M : NumberKind) → Sheet → (fuel d : ℕ) → Evaluator M.Value → Type 0
Sound M S fuel d ev =
    (i : ℕ) (ρ : Environment M.Value) (s : State M.Value) → Within S fuel s → Post (Derived M S fuel d i ρ s) (ev i ρ s)

module _ (M : NumberKind) (S : Sheet) (fuel d : ℕ) where
  -- a node without parts
  sound_leaf : (i : ℕ) (ρ : Environment M.Value) (s : State M.Value) (v : Value M.Value) → Within S fuel (one_step s)
      → (D : Derives M S ρ s.cells i v s.cells) → size D ≡ 1 → depth D ≡ 1 → applied D ≡ 0
      → Derived M S fuel (suc d) i ρ s v (one_step s)
  sound_leaf i ρ s v w D a b c = record { derivation = D; steps = omega arith; bindings = omega arith; places = omega arith; limits = w }

  -- the rule for a variable
  sound_found : (i : ℕ) (ρ : Environment M.Value) (s : State M.Value) → (S.node i).kind ≡ Variable → Within S fuel (one_step s)
      → (o : Option (Value M.Value)) → lookup (S.node i).argument ρ ≡ o → Post (Derived M S fuel (suc d) i ρ s) (found i (one_step s) o)
  sound_found i ρ s e w None h = tt
  sound_found i ρ s e w (Some v) h = sound_leaf i ρ s v w (variable e h) refl refl refl

module _ (M : NumberKind) (S : Sheet) (fuel d i : ℕ) (ρ : Environment M.Value) (s : State M.Value) where
  -- the rule for new, after its part
  sound_create : (S.node i).kind ≡ New → (v : Value M.Value) (s₁ : State M.Value) → Derived M S fuel d (part S i 0) ρ (one_step s) v s₁
      → Post (Derived M S fuel (suc d) i ρ s) (create M S i v s₁)
  sound_create e v s₁ h =
      let c : Cell M.Value = record { site = (S.node i).argument; value = v } in
      let made : State M.Value = with_cells s₁ (s₁.cells ++ c ∷ []) in
      post_provided (Derived M S fuel (suc d) i ρ s) (ltb (length s₁.cells) (S.sites + most_fresh)) (λ _. done (reference (length s₁.cells)) made) _
      (λ t.
      let l : length s₁.cells < S.sites + most_fresh = ltb-true (length s₁.cells) (S.sites + most_fresh) t in
      record {
        derivation = new v s₁.cells e h.derivation;
        steps = omega arith;
        bindings = omega arith;
        places = omega arith;
        limits = record { steps = h.limits.steps; bindings = h.limits.bindings; cells = rw length-append (omega arith) };
      })
      (λ _. tt)

  -- the rule for read, after its part, at the cell that the reference names
  sound_loaded : (S.node i).kind ≡ Read → (l : ℕ) (s₁ : State M.Value) → Derived M S fuel d (part S i 0) ρ (one_step s) (reference l) s₁
      → (o : Option (Cell M.Value)) → slice_get s₁.cells l ≡ o → Post (Derived M S fuel (suc d) i ρ s) (loaded i s₁ o)
  sound_loaded e l s₁ h None q = tt
  sound_loaded e l s₁ h (Some c) q =
      record { derivation = read l c e h.derivation q; steps = omega arith; bindings = omega arith; places = omega arith; limits = h.limits }

  -- the rule for read, whatever the value of its part
  sound_load : (S.node i).kind ≡ Read → (r : Value M.Value) (s₁ : State M.Value) → Derived M S fuel d (part S i 0) ρ (one_step s) r s₁
      → Post (Derived M S fuel (suc d) i ρ s) (load i r s₁)
  sound_load e (number n) s₁ h = tt
  sound_load e (closure f ρ') s₁ h = tt
  sound_load e (reference l) s₁ h = sound_loaded e l s₁ h (slice_get s₁.cells l) refl

  -- the rule for write, after its parts, at the cell that the reference names
  sound_stored : (S.node i).kind ≡ Write → (l : ℕ) (v : Value M.Value) (s₁ s₂ : State M.Value)
      → Derived M S fuel d (part S i 1) ρ (one_step s) (reference l) s₁ → Derived M S fuel d (part S i 0) ρ s₁ v s₂
      → (o : Option (Cell M.Value)) → slice_get s₂.cells l ≡ o → Post (Derived M S fuel (suc d) i ρ s) (stored i l v s₂ o)
  sound_stored e l v s₁ s₂ h k None q = tt
  sound_stored e l v s₁ s₂ h k (Some c) q =
      record {
        derivation = write l c s₁.cells s₂.cells e h.derivation k.derivation q;
        steps = omega arith;
        bindings = omega arith;
        places = omega arith;
        limits = record { steps = k.limits.steps; bindings = k.limits.bindings; cells = rw length-set k.limits.cells };
      }

  -- the rule for write, whatever the value of its first part
  sound_store : (S.node i).kind ≡ Write → (r v : Value M.Value) (s₁ s₂ : State M.Value)
      → Derived M S fuel d (part S i 1) ρ (one_step s) r s₁ → Derived M S fuel d (part S i 0) ρ s₁ v s₂
      → Post (Derived M S fuel (suc d) i ρ s) (store i r v s₂)
  sound_store e (number n) v s₁ s₂ h k = tt
  sound_store e (closure f ρ') v s₁ s₂ h k = tt
  sound_store e (reference l) v s₁ s₂ h k = sound_stored e l v s₁ s₂ h k (slice_get s₂.cells l) refl

  -- the rule for an operation, after its parts
  sound_operate : (S.node i).kind ≡ Operation → (v w : Value M.Value) (s₁ s₂ : State M.Value)
      → Derived M S fuel d (part S i 1) ρ (one_step s) v s₁ → Derived M S fuel d (part S i 0) ρ s₁ w s₂
      → Post (Derived M S fuel (suc d) i ρ s) (operate M S i v w s₂)
  sound_operate e (number m) (number n) s₁ s₂ h k =
      record { derivation = operation m n s₁.cells e h.derivation k.derivation; steps = omega arith; bindings = omega arith; places = omega arith; limits = k.limits }
  sound_operate e (number m) (closure f ρ') s₁ s₂ h k = tt
  sound_operate e (number m) (reference a) s₁ s₂ h k = tt
  sound_operate e (closure f ρ') w s₁ s₂ h k = tt
  sound_operate e (reference a) w s₁ s₂ h k = tt

  -- the rule for an application, after its parts: the body, with one binding more
  sound_apply : (ev : Evaluator M.Value) → Sound M S fuel d ev → (S.node i).kind ≡ Application → (f v : Value M.Value) (s₁ s₂ : State M.Value)
      → Derived M S fuel d (part S i 1) ρ (one_step s) f s₁ → Derived M S fuel d (part S i 0) ρ s₁ v s₂
      → Post (Derived M S fuel (suc d) i ρ s) (apply ev i f v s₂)
  sound_apply ev ih e (number n) v s₁ s₂ h k = tt
  sound_apply ev ih e (closure f ρ') v s₁ s₂ h k =
      post_provided (Derived M S fuel (suc d) i ρ s) (ltb s₂.bindings most_bindings) (λ _. ev (last_part f) (bind f v ρ') (one_binding s₂)) _
      (λ t.
      let room : s₂.bindings < most_bindings = ltb-true s₂.bindings most_bindings t in
      post_map (Derived M S fuel d (last_part f) (bind f v ρ') (one_binding s₂)) (Derived M S fuel (suc d) i ρ s) _
      (ih (last_part f) (bind f v ρ') (one_binding s₂) (record { steps = k.limits.steps; bindings = room; cells = k.limits.cells }))
      (λ w s₃ b. record {
        derivation = application f ρ' v s₁.cells s₂.cells e h.derivation k.derivation b.derivation;
        steps = omega arith;
        bindings = omega arith;
        places = omega arith;
        limits = b.limits;
      }))
      (λ _. tt)
  sound_apply ev ih e (reference a) v s₁ s₂ h k = tt

  -- the rules for a choice, after its condition, which is a number
  sound_chosen : (ev : Evaluator M.Value) → Sound M S fuel d ev → (S.node i).kind ≡ Choice → (n : M.Value) (s₁ : State M.Value)
      → Derived M S fuel d (part S i 2) ρ (one_step s) (number n) s₁
      → (b : Bool) → M.is_zero n ≡ b → Post (Derived M S fuel (suc d) i ρ s) (ev (cond b (part S i 0) (part S i 1)) ρ s₁)
  sound_chosen ev ih e n s₁ h true z =
      post_map (Derived M S fuel d (part S i 0) ρ s₁) (Derived M S fuel (suc d) i ρ s) _ (ih (part S i 0) ρ s₁ h.limits)
      (λ v s₂ k. record {
        derivation = choice_zero n s₁.cells e h.derivation z k.derivation;
        steps = omega arith;
        bindings = omega arith;
        places = omega arith;
        limits = k.limits;
      })
  sound_chosen ev ih e n s₁ h false z =
      post_map (Derived M S fuel d (part S i 1) ρ s₁) (Derived M S fuel (suc d) i ρ s) _ (ih (part S i 1) ρ s₁ h.limits)
      (λ v s₂ k. record {
        derivation = choice_nonzero n s₁.cells e h.derivation z k.derivation;
        steps = omega arith;
        bindings = omega arith;
        places = omega arith;
        limits = k.limits;
      })

  -- the rules for a choice, whatever the value of its condition
  sound_choose : (ev : Evaluator M.Value) → Sound M S fuel d ev → (S.node i).kind ≡ Choice → (c : Value M.Value) (s₁ : State M.Value)
      → Derived M S fuel d (part S i 2) ρ (one_step s) c s₁ → Post (Derived M S fuel (suc d) i ρ s) (choose M S ev i ρ c s₁)
  sound_choose ev ih e (number n) s₁ h = sound_chosen ev ih e n s₁ h (M.is_zero n) refl
  sound_choose ev ih e (closure f ρ') s₁ h = tt
  sound_choose ev ih e (reference a) s₁ h = tt

  module _ (ev : Evaluator M.Value) (ih : Sound M S fuel d ev) where
    -- one part, and then what follows it
    sound_part : (p : ℕ) (s₁ : State M.Value) (Q : Value M.Value → State M.Value → Type 0) (next : Value M.Value → State M.Value → Outcome M.Value)
        → Within S fuel s₁ → ((v : Value M.Value) (s₂ : State M.Value) → Derived M S fuel d p ρ s₁ v s₂ → Post Q (next v s₂))
        → Post Q (and_then (ev p ρ s₁) next)
    sound_part p s₁ Q next w f = post_then (Derived M S fuel d p ρ s₁) Q (ev p ρ s₁) next (ih p ρ s₁ w) f

    -- a node by its kind, where its parts do what the relation derives
    sound_by_kind : (k : Kind) → (S.node i).kind ≡ k → Within S fuel (one_step s)
        → Post (Derived M S fuel (suc d) i ρ s) (by_kind M S ev k i ρ (one_step s))
    sound_by_kind Literal e w = sound_leaf M S fuel d i ρ s _ w (literal e) refl refl refl
    sound_by_kind Variable e w = sound_found M S fuel d i ρ s e w (lookup (S.node i).argument ρ) refl
    sound_by_kind Lambda e w = sound_leaf M S fuel d i ρ s _ w (lambda e) refl refl refl
    sound_by_kind Application e w =
        sound_part (part S i 1) (one_step s) _ _ w
        (λ f s₁ h. sound_part (part S i 0) s₁ _ _ h.limits (λ v s₂ k. sound_apply ev ih e f v s₁ s₂ h k))
    sound_by_kind New e w = sound_part (part S i 0) (one_step s) _ _ w (λ v s₁ h. sound_create e v s₁ h)
    sound_by_kind Channel e w = sound_leaf M S fuel d i ρ s _ w (channel e) refl refl refl
    sound_by_kind Read e w = sound_part (part S i 0) (one_step s) _ _ w (λ r s₁ h. sound_load e r s₁ h)
    sound_by_kind Write e w =
        sound_part (part S i 1) (one_step s) _ _ w
        (λ r s₁ h. sound_part (part S i 0) s₁ _ _ h.limits (λ v s₂ k. sound_store e r v s₁ s₂ h k))
    sound_by_kind Choice e w = sound_part (part S i 2) (one_step s) _ _ w (λ c s₁ h. sound_choose ev ih e c s₁ h)
    sound_by_kind Operation e w =
        sound_part (part S i 1) (one_step s) _ _ w
        (λ v s₁ h. sound_part (part S i 0) s₁ _ _ h.limits (λ u s₂ k. sound_operate e v u s₁ s₂ h k))
    sound_by_kind Unknown e w = tt

module _ (M : NumberKind) (S : Sheet) (fuel : ℕ) where
  -- no place is left: there is no value
  sound_no_place : (Q : Value M.Value → State M.Value → Type 0) (t : ℕ) (b : Bool) → Post Q (cond b (stopped FuelSpent t) (stopped PendingFull t))
  sound_no_place Q t true = tt
  sound_no_place Q t false = tt

  -- every evaluation does what the relation derives
  pub sound : (d : ℕ) → Sound M S fuel d (eval M S fuel d)
  unfolding eval
  sound zero i ρ s w = sound_no_place (Derived M S fuel 0 i ρ s) s.steps (eqb s.steps fuel)
  sound (suc d) i ρ s w =
      post_provided (Derived M S fuel (suc d) i ρ s) (eqb s.steps fuel) (λ _. stopped FuelSpent s.steps) _ (λ _. tt)
      (λ e.
      let ne : s.steps ≡ fuel → ⊥ = eqb-false s.steps fuel e in
      let l = w.steps in
      let below : suc s.steps ≤ fuel = omega arith in
      sound_by_kind M S fuel d i ρ s (eval M S fuel d) (sound d) (S.node i).kind refl
      (record { steps = below; bindings = w.bindings; cells = w.cells }))
