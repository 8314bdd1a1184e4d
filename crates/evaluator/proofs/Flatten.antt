-- The evaluation over flat state ends as the evaluation does: same ending, node and steps, and a word that carries the value.
use Rattle.std.proofs.Common.{◌≡◌, ℕ, zero, suc, ◌+◌, ◌<◌, ◌≤◌, Bool, true, false, cond, eqb, ltb, List, [], ◌∷◌, ◌++◌, length, Some, None, Option, sym, refl, ap, ◌∙◌, subst, ap₂, arith}
use Rattle.std.specs.List.{slice_get}
use Rattle.std.proofs.lemmas.Option.{slice_get_within}
use Rattle.number.specs.NumberKind.{NumberKind}
use Rattle.number.specs.Millimetre.{clamp}
use Rattle.sheet.specs.declared.decoded.Kind.{Kind}
use Rattle.sheet.specs.declared.decoded.Kind.TheVariants.{Literal, Variable, Lambda, Application, New, Channel, Read, Write, Choice, Operation, Unknown}
use Rattle.evaluation.specs.declared.ending.Stop.TheVariants.{FuelSpent, PendingFull, BindingsFull, CellsFull}
use Rattle.sheet.specs.Sheet.{Sheet, last_part, part}
use Rattle.evaluation.specs.Values.{Value, number, closure, reference, Environment, empty, bind, Cell, State, Outcome, done, stopped, Evaluator, lookup, and_then, provided, with_cells, one_step, one_binding}
use Rattle.evaluation.specs.Evaluation.{most_bindings, most_fresh, operation, found, loaded, load, stored, store, apply, create, choose, operate, by_kind, eval}
use Rattle.machine.specs.declared.values.Value.{Value as Word}
use Rattle.machine.specs.declared.values.Value.TheVariants.{Number, Closure, Reference}
use Rattle.machine.specs.declared.values.Binding.{Binding}
use Rattle.machine.specs.declared.values.Cell.{Cell as Slot}
use Rattle.machine.specs.Flat.{FlatState, FlatOutcome, flat_done, flat_stopped, FlatEvaluator, seek, flat_then, flat_provided, with_cells as with_slots, one_step as flat_step, one_more, flat_found, flat_loaded, flat_load, flat_stored, flat_store, flat_apply, flat_create, flat_choose, flat_operate, flat_by_kind, flat_eval}
use Rattle.evaluator.specs.Runs.{limits}
use Rattle.evaluator.proofs.Cells.{get_old, get_new}
use Rattle.evaluator.proofs.Carry.{Carries, CarriesEnvironment, Stay, value_stays, environment_stays, Finds, seek_finds, Slots, SlotAt, slots_at, slots_length, slots_set, slots_append, slots_stay}

pub record Sim {V : Type 0} (s : State V) (t : FlatState V) : Type 0 where
  pub slots : Slots t.made s.cells t.cells
  pub count : s.bindings ≡ length t.made
  pub steps : s.steps ≡ t.steps

module _ {V : Type 0} where
  abbrev pub SimO : List (Binding V) → Outcome V → FlatOutcome V → Type 0
  SimO bs (done v s) (flat_done w t) = Stay bs t.made × Carries t.made v w × Sim s t
  SimO bs (done v s) (flat_stopped e x) = ⊥
  SimO bs (stopped e x) (flat_done w t) = ⊥
  SimO bs (stopped e x) (flat_stopped e' x') = (e ≡ e') × (x ≡ x')

  abbrev pub SimEv : Evaluator V → FlatEvaluator V → Type 0
  SimEv ev flat_ev = (i : ℕ) (ρ : Environment V) (k : ℕ) (s : State V) (t : FlatState V) → CarriesEnvironment t.made ρ k → Sim s t → SimO t.made (ev i ρ s) (flat_ev i k t)

  sim_weaker : (bs cs : List (Binding V)) (o : Outcome V) (p : FlatOutcome V) → Stay bs cs → SimO cs o p → SimO bs o p
  sim_weaker bs cs (done v s) (flat_done w t) h k = ((λ j b e. k.0 j b (h j b e)), k.1, k.2)
  sim_weaker bs cs (done v s) (flat_stopped e x) h k = k
  sim_weaker bs cs (stopped e x) (flat_done w t) h k = k
  sim_weaker bs cs (stopped e x) (flat_stopped e' x') h k = k

  sim_then : (bs : List (Binding V)) (o : Outcome V) (p : FlatOutcome V) (k : Value V → State V → Outcome V) (k' : Word V → FlatState V → FlatOutcome V) → SimO bs o p
      → ((v : Value V) (s : State V) (w : Word V) (t : FlatState V) → Stay bs t.made → Carries t.made v w → Sim s t → SimO t.made (k v s) (k' w t))
      → SimO bs (and_then o k) (flat_then p k')
  sim_then bs (done v s) (flat_done w t) k k' h f = sim_weaker bs t.made (k v s) (k' w t) h.0 (f v s w t h.0 h.1 h.2)
  sim_then bs (done v s) (flat_stopped e x) k k' h f = absurd h
  sim_then bs (stopped e x) (flat_done w t) k k' h f = absurd h
  sim_then bs (stopped e x) (flat_stopped e' x') k k' h f = h

  sim_provided : (bs : List (Binding V)) (b b' : Bool) (k : Unit {0} → Outcome V) (k' : Unit {0} → FlatOutcome V) (o : Outcome V) (p : FlatOutcome V) → b ≡ b'
      → SimO bs (k tt) (k' tt) → SimO bs o p → SimO bs (provided b k o) (flat_provided b' k' p)
  sim_provided bs b b' k k' o p e h g = subst (λ (x : Bool). SimO bs (provided b k o) (flat_provided x k' p)) e (go b)
    where
      go : (x : Bool) → SimO bs (provided x k o) (flat_provided x k' p)
      go true = h
      go false = g

  sim_done : (v : Value V) (w : Word V) (s : State V) (t : FlatState V) → Carries t.made v w → Sim s t → SimO t.made (done v s) (flat_done w t)
  sim_done v w s t c m = ((λ j b e. e), c, m)

  -- no environment is past the bindings made
  place_below : (bs : List (Binding V)) (ρ : Environment V) (k : ℕ) → CarriesEnvironment bs ρ k → k ≤ length bs
  place_below bs empty k c = let e : k ≡ 0 = c in omega arith
  place_below bs (bind f v ρ) k c =
      let e : k ≡ suc c.0 = c.2 in
      let l : c.0 < length bs = slice_get_within bs c.0 c.1 c.3 in
      omega arith

  sim_answer : (i : ℕ) (s : State V) (t : FlatState V) (o : Option (Value V)) (p : Option (Word V)) → Finds t.made o p → Sim s t
      → SimO t.made (found i s o) (flat_found i t p)
  sim_answer i s t None None h m = (refl, m.steps)
  sim_answer i s t None (Some w) h m = absurd h
  sim_answer i s t (Some v) None h m = absurd h
  sim_answer i s t (Some v) (Some w) h m = sim_done v w s t h m

  sim_read_at : (i : ℕ) (s : State V) (t : FlatState V) (o : Option (Cell V)) (p : Option (Slot V)) → SlotAt t.made o p → Sim s t
      → SimO t.made (loaded i s o) (flat_loaded i t p)
  sim_read_at i s t None None h m = (refl, m.steps)
  sim_read_at i s t None (Some w) h m = absurd h
  sim_read_at i s t (Some v) None h m = absurd h
  sim_read_at i s t (Some c) (Some d) h m = sim_done c.value d.value s t h.1 m

  sim_read : (i : ℕ) (v : Value V) (w : Word V) (s : State V) (t : FlatState V) → Carries t.made v w → Sim s t → SimO t.made (load i v s) (flat_load i w t)
  sim_read i (number n) (Number k) s t c m = (refl, m.steps)
  sim_read i (number n) (Closure g k) s t c m = absurd c
  sim_read i (number n) (Reference b) s t c m = absurd c
  sim_read i (closure f ρ) (Number k) s t c m = absurd c
  sim_read i (closure f ρ) (Closure g k) s t c m = (refl, m.steps)
  sim_read i (closure f ρ) (Reference b) s t c m = absurd c
  sim_read i (reference a) (Number k) s t c m = absurd c
  sim_read i (reference a) (Closure g k) s t c m = absurd c
  sim_read i (reference a) (Reference b) s t c m =
      subst (λ (x : ℕ). SimO t.made (load i (reference a) s) (flat_load i (Reference x) t)) c
      (sim_read_at i s t (slice_get s.cells a) (slice_get t.cells a) (slots_at t.made s.cells t.cells a m.slots) m)

  sim_write_at : (i a : ℕ) (v : Value V) (w : Word V) (s : State V) (t : FlatState V) (o : Option (Cell V)) (p : Option (Slot V)) → SlotAt t.made o p
      → Carries t.made v w → Sim s t → SimO t.made (stored i a v s o) (flat_stored i a w t p)
  sim_write_at i a v w s t None None h c m = (refl, m.steps)
  sim_write_at i a v w s t None (Some d) h c m = absurd h
  sim_write_at i a v w s t (Some x) None h c m = absurd h
  sim_write_at i a v w s t (Some x) (Some d) h c m = (
    (λ j b e. e),
    c,
    record {
      slots = slots_set t.made s.cells t.cells a (record { site = x.site; value = v }) (record { site = d.site; value = w }) m.slots h.0 c;
      count = m.count;
      steps = m.steps;
    },
  )

  sim_write : (i : ℕ) (v u : Value V) (w z : Word V) (s : State V) (t : FlatState V) → Carries t.made v w → Carries t.made u z → Sim s t
      → SimO t.made (store i v u s) (flat_store i w z t)
  sim_write i (number n) u (Number k) z s t c d m = (refl, m.steps)
  sim_write i (number n) u (Closure g k) z s t c d m = absurd c
  sim_write i (number n) u (Reference b) z s t c d m = absurd c
  sim_write i (closure f ρ) u (Number k) z s t c d m = absurd c
  sim_write i (closure f ρ) u (Closure g k) z s t c d m = (refl, m.steps)
  sim_write i (closure f ρ) u (Reference b) z s t c d m = absurd c
  sim_write i (reference a) u (Number k) z s t c d m = absurd c
  sim_write i (reference a) u (Closure g k) z s t c d m = absurd c
  sim_write i (reference a) u (Reference b) z s t c d m =
      subst (λ (x : ℕ). SimO t.made (store i (reference a) u s) (flat_store i (Reference x) z t)) c
      (sim_write_at i a u z s t (slice_get s.cells a) (slice_get t.cells a) (slots_at t.made s.cells t.cells a m.slots) d m)

module _ (M : NumberKind) (S : Sheet) (ev : Evaluator M.Value) (flat_ev : FlatEvaluator M.Value) (ih : SimEv ev flat_ev) where
  abbrev V : Type 0
  V = M.Value

  sim_call : (i f k : ℕ) (ρ : Environment V) (v : Value V) (w : Word V) (s : State V) (t : FlatState V) → CarriesEnvironment t.made ρ k → Carries t.made v w → Sim s t
      → SimO t.made (apply ev i (closure f ρ) v s) (flat_apply M S (limits S) flat_ev i (Closure f k) w t)
  sim_call i f k ρ v w s t e c m =
      let b : Binding V = record { function = f; value = w; outer = k } in
      let bs : List (Binding V) = t.made ++ (b ∷ []) in
      let st : Stay t.made bs = λ j x q. get_old t.made j x b q in
      let l : k ≤ length t.made = place_below t.made ρ k e in
      let q : CarriesEnvironment bs (bind f v ρ) (suc (length t.made)) =
      (length t.made, b, refl, get_new t.made b, refl, l, value_stays t.made bs st v w c, environment_stays t.made bs st ρ k e) in
      sim_provided t.made (ltb s.bindings most_bindings) (ltb (length t.made) most_bindings)
      (λ _. ev (last_part f) (bind f v ρ) (one_binding s)) (λ _. flat_ev (last_part f) (suc (length t.made)) (one_more t b))
      (stopped BindingsFull s.steps) (flat_stopped BindingsFull t.steps) (ap (λ (x : ℕ). ltb x most_bindings) m.count)
      (sim_weaker t.made bs (ev (last_part f) (bind f v ρ) (one_binding s)) (flat_ev (last_part f) (suc (length t.made)) (one_more t b)) st
      (ih (last_part f) (bind f v ρ) (suc (length t.made)) (one_binding s) (one_more t b) q
      (record {
        slots = slots_stay t.made bs st s.cells t.cells m.slots;
        count = ap suc m.count ∙ sym (length_one t.made b);
        steps = m.steps;
      })))
      (refl, m.steps)
    where
      length_one : (bs : List (Binding V)) (b : Binding V) → length (bs ++ (b ∷ [])) ≡ suc (length bs)
      length_one [] b = refl
      length_one (x ∷ bs) b = ap suc (length_one bs b)

  sim_apply : (i : ℕ) (v u : Value V) (w z : Word V) (s : State V) (t : FlatState V) → Carries t.made v w → Carries t.made u z → Sim s t
      → SimO t.made (apply ev i v u s) (flat_apply M S (limits S) flat_ev i w z t)
  sim_apply i (number n) u (Number k) z s t c d m = (refl, m.steps)
  sim_apply i (number n) u (Closure g k) z s t c d m = absurd c
  sim_apply i (number n) u (Reference b) z s t c d m = absurd c
  sim_apply i (closure f ρ) u (Number k) z s t c d m = absurd c
  sim_apply i (closure f ρ) u (Closure g k) z s t c d m =
      subst (λ (x : ℕ). SimO t.made (apply ev i (closure f ρ) u s) (flat_apply M S (limits S) flat_ev i (Closure x k) z t)) c.0 (sim_call i f k ρ u z s t c.1 d m)
  sim_apply i (closure f ρ) u (Reference b) z s t c d m = absurd c
  sim_apply i (reference a) u (Number k) z s t c d m = absurd c
  sim_apply i (reference a) u (Closure g k) z s t c d m = absurd c
  sim_apply i (reference a) u (Reference b) z s t c d m = (refl, m.steps)

  -- two parts, one after the other
  sim_two : (p q : ℕ) (ρ : Environment V) (k : ℕ) (s : State V) (t : FlatState V) (f : Value V → Value V → State V → Outcome V) (g : Word V → Word V → FlatState V → FlatOutcome V)
      → CarriesEnvironment t.made ρ k → Sim s t
      → ((v u : Value V) (w z : Word V) (s : State V) (t : FlatState V) → Carries t.made v w → Carries t.made u z → Sim s t → SimO t.made (f v u s) (g w z t))
      → SimO t.made (and_then (ev p ρ s) (λ v s₁. and_then (ev q ρ s₁) (λ u s₂. f v u s₂))) (flat_then (flat_ev p k t) (λ v t₁. flat_then (flat_ev q k t₁) (λ u t₂. g v u t₂)))
  sim_two p q ρ k s t f g e m h =
      sim_then t.made (ev p ρ s) (flat_ev p k t) (λ v s₁. and_then (ev q ρ s₁) (λ u s₂. f v u s₂)) (λ v t₁. flat_then (flat_ev q k t₁) (λ u t₂. g v u t₂))
      (ih p ρ k s t e m)
      (λ v s₁ w t₁ st c m₁.
      sim_then t₁.made (ev q ρ s₁) (flat_ev q k t₁) (λ u s₂. f v u s₂) (λ u t₂. g w u t₂)
      (ih q ρ k s₁ t₁ (environment_stays t.made t₁.made st ρ k e) m₁)
      (λ u s₂ z t₂ st₂ d m₂. h v u w z s₂ t₂ (value_stays t₁.made t₂.made st₂ v w c) d m₂))

module _ (M : NumberKind) (S : Sheet) (ev : Evaluator M.Value) (flat_ev : FlatEvaluator M.Value) (ih : SimEv ev flat_ev) where
  abbrev U : Type 0
  U = M.Value

  sim_op : (i : ℕ) (v u : Value U) (w z : Word U) (s : State U) (t : FlatState U) → Carries t.made v w → Carries t.made u z → Sim s t
      → SimO t.made (operate M S i v u s) (flat_operate M S (limits S) i w z t)
  sim_op i (number n) (number o) (Number k) (Number l) s t c d m = sim_done (number (operation M (S.node i).argument n o)) (Number (operation M (S.node i).argument k l)) s t (ap₂ (operation M (S.node i).argument) c d) m
  sim_op i (number n) (number o) (Number k) (Closure g l) s t c d m = absurd d
  sim_op i (number n) (number o) (Number k) (Reference b) s t c d m = absurd d
  sim_op i (number n) (closure f ρ) (Number k) (Number l) s t c d m = absurd d
  sim_op i (number n) (closure f ρ) (Number k) (Closure g l) s t c d m = (refl, m.steps)
  sim_op i (number n) (closure f ρ) (Number k) (Reference b) s t c d m = absurd d
  sim_op i (number n) (reference a) (Number k) (Number l) s t c d m = absurd d
  sim_op i (number n) (reference a) (Number k) (Closure g l) s t c d m = absurd d
  sim_op i (number n) (reference a) (Number k) (Reference b) s t c d m = (refl, m.steps)
  sim_op i (number n) u (Closure g k) z s t c d m = absurd c
  sim_op i (number n) u (Reference b) z s t c d m = absurd c
  sim_op i (closure f ρ) u (Number k) z s t c d m = absurd c
  sim_op i (closure f ρ) u (Closure g k) z s t c d m = (refl, m.steps)
  sim_op i (closure f ρ) u (Reference b) z s t c d m = absurd c
  sim_op i (reference a) u (Number k) z s t c d m = absurd c
  sim_op i (reference a) u (Closure g k) z s t c d m = absurd c
  sim_op i (reference a) u (Reference b) z s t c d m = (refl, m.steps)

  sim_new : (i : ℕ) (v : Value U) (w : Word U) (s : State U) (t : FlatState U) → Carries t.made v w → Sim s t → SimO t.made (create M S i v s) (flat_create M S (limits S) i w t)
  sim_new i v w s t c m =
      let e : length s.cells ≡ length t.cells = slots_length t.made s.cells t.cells m.slots in
      sim_provided t.made (ltb (length s.cells) (S.sites + most_fresh)) (ltb (length t.cells) (S.sites + most_fresh))
      (λ _. done (reference (length s.cells)) (with_cells s (s.cells ++ (record { site = (S.node i).argument; value = v } ∷ []))))
      (λ _. flat_done (Reference (length t.cells)) (with_slots t (t.cells ++ (record { site = (S.node i).argument; value = w } ∷ []))))
      (stopped CellsFull s.steps) (flat_stopped CellsFull t.steps) (ap (λ (x : ℕ). ltb x (S.sites + most_fresh)) e) (
        (λ j b q. q),
        e,
        record {
          slots = slots_append t.made s.cells t.cells (record { site = (S.node i).argument; value = v }) (record { site = (S.node i).argument; value = w }) m.slots refl c;
          count = m.count;
          steps = m.steps;
        },
      )
      (refl, m.steps)

  sim_choice : (i : ℕ) (ρ : Environment U) (k : ℕ) (v : Value U) (w : Word U) (s : State U) (t : FlatState U) → CarriesEnvironment t.made ρ k → Carries t.made v w → Sim s t
      → SimO t.made (choose M S ev i ρ v s) (flat_choose M S (limits S) flat_ev i k w t)
  sim_choice i ρ k (number n) (Number l) s t e c m =
      subst (λ (x : U). SimO t.made (choose M S ev i ρ (number n) s) (flat_choose M S (limits S) flat_ev i k (Number x) t)) c
      (ih (cond (M.is_zero n) (part S i 0) (part S i 1)) ρ k s t e m)
  sim_choice i ρ k (number n) (Closure g l) s t e c m = absurd c
  sim_choice i ρ k (number n) (Reference b) s t e c m = absurd c
  sim_choice i ρ k (closure f ρ') (Number l) s t e c m = absurd c
  sim_choice i ρ k (closure f ρ') (Closure g l) s t e c m = (refl, m.steps)
  sim_choice i ρ k (closure f ρ') (Reference b) s t e c m = absurd c
  sim_choice i ρ k (reference a) (Number l) s t e c m = absurd c
  sim_choice i ρ k (reference a) (Closure g l) s t e c m = absurd c
  sim_choice i ρ k (reference a) (Reference b) s t e c m = (refl, m.steps)

  sim_kind : (x : Kind) (i : ℕ) (ρ : Environment U) (k : ℕ) (s : State U) (t : FlatState U) → (x ≡ Literal → clamp (S.node i).literal ≡ (S.node i).literal) → CarriesEnvironment t.made ρ k → Sim s t
      → SimO t.made (by_kind M S ev x i ρ s) (flat_by_kind M S (limits S) flat_ev x i k t)
  sim_kind Literal i ρ k s t l e m = sim_done (number (M.whole (S.node i).literal)) (Number (M.whole (clamp (S.node i).literal))) s t (ap M.whole (sym (l refl))) m
  sim_kind Variable i ρ k s t l e m =
      sim_answer i s t (lookup (S.node i).argument ρ) (seek k t.made (S.node i).argument k) (seek_finds t.made k (S.node i).argument ρ k (omega arith) e) m
  sim_kind Lambda i ρ k s t l e m = sim_done (closure i ρ) (Closure i k) s t (refl, e) m
  sim_kind Application i ρ k s t l e m =
      sim_two M S ev flat_ev ih (part S i 1) (part S i 0) ρ k s t (λ v u s₁. apply ev i v u s₁) (λ v u t₁. flat_apply M S (limits S) flat_ev i v u t₁) e m (sim_apply M S ev flat_ev ih i)
  sim_kind New i ρ k s t l e m =
      sim_then t.made (ev (part S i 0) ρ s) (flat_ev (part S i 0) k t) (λ v s₁. create M S i v s₁) (λ v t₁. flat_create M S (limits S) i v t₁) (ih (part S i 0) ρ k s t e m)
      (λ v s₁ w t₁ st c m₁. sim_new i v w s₁ t₁ c m₁)
  sim_kind Channel i ρ k s t l e m = sim_done (reference (S.node i).argument) (Reference (S.node i).argument) s t refl m
  sim_kind Read i ρ k s t l e m =
      sim_then t.made (ev (part S i 0) ρ s) (flat_ev (part S i 0) k t) (λ v s₁. load i v s₁) (λ v t₁. flat_load i v t₁) (ih (part S i 0) ρ k s t e m)
      (λ v s₁ w t₁ st c m₁. sim_read i v w s₁ t₁ c m₁)
  sim_kind Write i ρ k s t l e m =
      sim_two M S ev flat_ev ih (part S i 1) (part S i 0) ρ k s t (λ v u s₁. store i v u s₁) (λ v u t₁. flat_store i v u t₁) e m (sim_write i)
  sim_kind Choice i ρ k s t l e m =
      sim_then t.made (ev (part S i 2) ρ s) (flat_ev (part S i 2) k t) (λ v s₁. choose M S ev i ρ v s₁) (λ v t₁. flat_choose M S (limits S) flat_ev i k v t₁) (ih (part S i 2) ρ k s t e m)
      (λ v s₁ w t₁ st c m₁. sim_choice i ρ k v w s₁ t₁ (environment_stays t.made t₁.made st ρ k e) c m₁)
  sim_kind Operation i ρ k s t l e m =
      sim_two M S ev flat_ev ih (part S i 1) (part S i 0) ρ k s t (λ v u s₁. operate M S i v u s₁) (λ v u t₁. flat_operate M S (limits S) i v u t₁) e m (sim_op i)
  sim_kind Unknown i ρ k s t l e m = (refl, m.steps)

module _ (M : NumberKind) (S : Sheet) (fits : (i : ℕ) → (S.node i).kind ≡ Literal → clamp (S.node i).literal ≡ (S.node i).literal) (fuel : ℕ) where
  stops_flat : (bs : List (Binding M.Value)) (b b' : Bool) (x x' : ℕ) → b ≡ b' → x ≡ x'
      → SimO {V = M.Value} bs (cond b (stopped FuelSpent x) (stopped PendingFull x)) (cond b' (flat_stopped FuelSpent x') (flat_stopped PendingFull x'))
  stops_flat bs b b' x x' e q = subst (λ (y : Bool). SimO {V = M.Value} bs (cond b (stopped FuelSpent x) (stopped PendingFull x)) (cond y (flat_stopped FuelSpent x') (flat_stopped PendingFull x'))) e (go b)
    where
      go : (y : Bool) → SimO {V = M.Value} bs (cond y (stopped FuelSpent x) (stopped PendingFull x)) (cond y (flat_stopped FuelSpent x') (flat_stopped PendingFull x'))
      go true = (refl, q)
      go false = (refl, q)

  pub flat : (d : ℕ) → SimEv (eval M S fuel d) (flat_eval M S (limits S) fuel d)
  unfolding eval flat_eval
  flat zero i ρ k s t e m = stops_flat t.made (eqb s.steps fuel) (eqb t.steps fuel) s.steps t.steps (ap (λ (x : ℕ). eqb x fuel) m.steps) m.steps
  flat (suc d) i ρ k s t e m =
      sim_provided t.made (eqb s.steps fuel) (eqb t.steps fuel) (λ _. stopped FuelSpent s.steps) (λ _. flat_stopped FuelSpent t.steps)
      (by_kind M S (eval M S fuel d) (S.node i).kind i ρ (one_step s)) (flat_by_kind M S (limits S) (flat_eval M S (limits S) fuel d) (S.node i).kind i k (flat_step t))
      (ap (λ (x : ℕ). eqb x fuel) m.steps)
      (refl, m.steps)
      (sim_kind M S (eval M S fuel d) (flat_eval M S (limits S) fuel d) (flat d) (S.node i).kind i ρ k (one_step s) (flat_step t) (fits i) e
      (record { slots = m.slots; count = m.count; steps = ap suc m.steps }))
