-- Evaluation is sound: the kinds whose result depends on what numbers are, and all kinds together.
use Rattle.std.proofs.Common.{ℕ, zero, suc, ◌+◌, Bool, true, false, cond, eqb, ltb, List, [], ◌∷◌, ◌++◌, length, refl, arith}
use Rattle.std.proofs.lemmas.Bool.{cond_both}
use Rattle.number.specs.NumberKind.{NumberKind}
use Rattle.sheet.specs.declared.decoded.Kind.{Kind}
use Rattle.sheet.specs.declared.decoded.Kind.TheVariants.{Literal, Variable, Lambda, Application, New, Channel, Read, Write, Choice, Operation, Unknown}
use Rattle.sheet.specs.Sheet.{Sheet, part}
use Rattle.evaluation.specs.declared.ending.Stop.TheVariants.{FuelSpent, PendingFull, CellsFull}
use Rattle.evaluation.specs.Values.{Value, number, closure, reference, Environment, Cell, State, done, stopped, Evaluator, with_cells, one_step}
use Rattle.evaluation.specs.Evaluation.{most_fresh, load, store, apply, create, choose, operate, by_kind, eval}
use Rattle.typing.specs.Rules.{Within, Fit, type_at, control_at}
use Rattle.guarantees.specs.Sheets.{TypedSheet}
use Rattle.guarantees.proofs.Outcomes.{Post, post_map, post_provided}
use Rattle.guarantees.proofs.Addresses.{nth_new}
use Rattle.guarantees.proofs.Values.{typed_fit}
use Rattle.guarantees.proofs.Stores.{Extends, extends_refl, extends_trans, extends_append, store_append, places_below}
use Rattle.guarantees.proofs.Nodes.{number_function, number_reference, Node, node_of, Ready, ready_part}
use Rattle.guarantees.proofs.Gives.{Gives, GivesOwn, Sound, gives_within, gives_after, gives_ready, closure_form, sound_part, sound_two}
use Rattle.guarantees.proofs.Sound.{sound_apply, sound_load, sound_store, sound_variable, sound_lambda, sound_channel}

module _ (M : NumberKind) (S : Sheet) (ok : TypedSheet S) (ev : Evaluator M.Value) (ih : Sound S ev) where
  -- the values of numbers
  abbrev V : Type 0
  V = M.Value

  -- an operation on two numbers
  sound_operate : (i : ℕ) (cs : List (Cell V)) (a b : Value V) (s : State V) → Node S Operation i → Gives S (control_at S i) (part S i 1) cs a s →
      Gives S (control_at S i) (part S i 0) cs b s → Post (GivesOwn S i cs) (operate M S i a b s)
  sound_operate i cs (number n) (number m) s nd g h = record { typed = nd.typing.2; cells = g.cells; extends = g.extends }
  sound_operate i cs (number n) (closure f ρ) s nd g h =
      number_function nd.typing.1 (closure_form S ok (type_at S (part S i 0)) f ρ s.cells h.typed)
  sound_operate i cs (number n) (reference a) s nd g h = number_reference nd.typing.1 h.typed.0
  sound_operate i cs (closure f ρ) w s nd g h = number_function nd.typing.0 (closure_form S ok (type_at S (part S i 1)) f ρ s.cells g.typed)
  sound_operate i cs (reference a) w s nd g h = number_reference nd.typing.0 g.typed.0

  -- a fresh cell
  sound_create : (i : ℕ) (cs : List (Cell V)) (v : Value V) (s : State V) → Node S New i → Gives S (control_at S i) (part S i 0) cs v s →
      Post (GivesOwn S i cs) (create M S i v s)
  sound_create i cs v s nd g =
      let d : Cell V = record { site = (S.node i).argument; value = v } in
      post_provided (GivesOwn S i cs) (ltb (length s.cells) (S.sites + most_fresh))
      (λ _. done (reference (length s.cells)) (with_cells s (s.cells ++ record { site = (S.node i).argument; value = v } ∷ [])))
      (stopped CellsFull s.steps)
      (record {
        typed = (nd.typing.0, (λ b. absurd (places_below S s.cells g.cells b)), ((S.node i).argument, (d, nth_new s.cells d, refl), nd.typing.1));
        cells = store_append S s.cells d g.cells
            (typed_fit S s.cells v (type_at S (part S i 0)) (S.site (S.node i).argument).content nd.typing.2.0 g.typed);
        extends = extends_trans S (control_at S i) cs s.cells (s.cells ++ d ∷ []) g.extends (extends_append S (control_at S i) s.cells d);
      })
      tt

  -- a branch of a choice
  sound_branch : (i p : ℕ) (ρ : Environment V) (cs : List (Cell V)) (s : State V) → Fit S (type_at S p) (type_at S i) →
      Within (control_at S i) (control_at S p) → Ready S p ρ s.cells → Extends S (control_at S i) cs s.cells → Post (GivesOwn S i cs) (ev p ρ s)
  sound_branch i p ρ cs s f u r e =
      post_map (GivesOwn S p s.cells) (GivesOwn S i cs) (ev p ρ s) (ih p ρ s r)
      (λ w t g. gives_after S (control_at S i) p i cs s.cells w t f e (gives_within S (control_at S i) (control_at S p) p s.cells w t u g))

  -- a choice
  sound_choose : (i : ℕ) (ρ : Environment V) (cs : List (Cell V)) (c : Value V) (s : State V) → Node S Choice i → Ready S i ρ s.cells →
      Gives S (control_at S i) (part S i 2) cs c s → Post (GivesOwn S i cs) (choose M S ev i ρ c s)
  sound_choose i ρ cs (number n) s nd r g =
      cond_both (M.is_zero n) (part S i 0) (part S i 1) (λ p. Post (GivesOwn S i cs) (ev p ρ s))
      (λ _. sound_branch i (part S i 0) ρ cs s nd.typing.2 nd.control.2.0 (ready_part S ok Choice i 0 ρ s.cells nd refl (omega arith) r) g.extends)
      (λ _. sound_branch i (part S i 1) ρ cs s nd.typing.1 nd.control.1.0 (ready_part S ok Choice i 1 ρ s.cells nd refl (omega arith) r) g.extends)
  sound_choose i ρ cs (closure f ρ') s nd r g = number_function nd.typing.0 (closure_form S ok (type_at S (part S i 2)) f ρ' s.cells g.typed)
  sound_choose i ρ cs (reference a) s nd r g = number_reference nd.typing.0 g.typed.0

  -- a node of each kind
  sound_by_kind : (k : Kind) (i : ℕ) (ρ : Environment V) (s : State V) → Node S k i → Ready S i ρ s.cells →
      Post (GivesOwn S i s.cells) (by_kind M S ev k i ρ s)
  sound_by_kind Literal i ρ s nd r = record { typed = nd.typing; cells = r.cells; extends = extends_refl S (control_at S i) s.cells }
  sound_by_kind Variable i ρ s nd r = sound_variable S ok ev ih i ρ s nd r
  sound_by_kind Lambda i ρ s nd r = sound_lambda S ok ev ih i ρ s nd r
  sound_by_kind Application i ρ s nd r =
      sound_two S ok ev ih Application i ρ s (λ f v t. apply ev i f v t) nd refl (omega arith) nd.control.0 nd.control.1 r
      (λ f v t g h. sound_apply S ok ev ih i s.cells f v t nd g h)
  sound_by_kind New i ρ s nd r =
      sound_part S ok ev ih New i 0 ρ s (λ v t. create M S i v t) nd refl (omega arith) nd.control r (λ v t g. sound_create i s.cells v t nd g)
  sound_by_kind Channel i ρ s nd r = sound_channel S ok ev ih i ρ s nd r
  sound_by_kind Read i ρ s nd r =
      sound_part S ok ev ih Read i 0 ρ s (λ v t. load i v t) nd refl (omega arith) nd.control r (λ v t g. sound_load S ok ev ih i s.cells v t nd g)
  sound_by_kind Write i ρ s nd r =
      sound_two S ok ev ih Write i ρ s (λ f v t. store i f v t) nd refl (omega arith) nd.control.0 nd.control.1 r
      (λ f v t g h. sound_store S ok ev ih i s.cells f v t nd g h)
  sound_by_kind Choice i ρ s nd r =
      sound_part S ok ev ih Choice i 2 ρ s (λ c t. choose M S ev i ρ c t) nd refl (omega arith) nd.control.0 r
      (λ c t g. sound_choose i ρ s.cells c t nd (gives_ready S (control_at S i) (part S i 2) i ρ s.cells c t g r) g)
  sound_by_kind Operation i ρ s nd r =
      sound_two S ok ev ih Operation i ρ s (λ f v t. operate M S i f v t) nd refl (omega arith) nd.control.0 nd.control.1 r
      (λ f v t g h. sound_operate i s.cells f v t nd g h)
  sound_by_kind Unknown i ρ s nd r = absurd nd.typing

module _ (M : NumberKind) (S : Sheet) (ok : TypedSheet S) (fuel : ℕ) where
  -- no place for a pending node
  stops : (b : Bool) (i t : ℕ) (cs : List (Cell M.Value)) → Post {V = M.Value} (GivesOwn S i cs) (cond b (stopped FuelSpent t) (stopped PendingFull t))
  stops true i t cs = tt
  stops false i t cs = tt

  -- evaluation is sound, however many places there are for pending nodes
  pub sound : (d : ℕ) → Sound S (eval M S fuel d)
  unfolding eval
  sound zero i ρ s r = stops (eqb s.steps fuel) i s.steps s.cells
  sound (suc d) i ρ s r =
      post_provided (GivesOwn S i s.cells) (eqb s.steps fuel) (λ _. stopped FuelSpent s.steps)
      (by_kind M S (eval M S fuel d) (S.node i).kind i ρ (one_step s)) tt
      (sound_by_kind M S ok (eval M S fuel d) (sound d) (S.node i).kind i ρ (one_step s) (node_of S ok (S.node i).kind i r.below refl)
      r)
