-- Evaluation is sound, for the kinds whose result does not depend on what numbers are.
use Rattle.std.proofs.Common.{◌≡◌, ℕ, ltb, List, set, Some, None, Option, sym, refl, ◌∙◌, subst, inl}
use Rattle.std.specs.List.{slice_get}
use Rattle.sheet.specs.declared.decoded.Kind.TheVariants.{Variable, Lambda, Application, Channel, Read, Write}
use Rattle.sheet.specs.Sheet.{Sheet, part}
use Rattle.evaluation.specs.declared.ending.Stop.TheVariants.{BindingsFull}
use Rattle.evaluation.specs.Values.{Value, number, closure, reference, Environment, bind, Cell, State, stopped, Evaluator, lookup, one_binding}
use Rattle.evaluation.specs.Evaluation.{most_bindings, found, loaded, load, stored, store, apply}
use Rattle.typing.specs.Rules.{Within, Fit, type_at, argument_at, result_at, effect_at, control_at}
use Rattle.typing.proofs.Exactly.{fit_trans}
use Rattle.guarantees.specs.Sheets.{TypedSheet, content_set}
use Rattle.guarantees.proofs.Outcomes.{Post, post_map, post_provided}
use Rattle.guarantees.proofs.Addresses.{none_some}
use Rattle.guarantees.proofs.Fitting.{within_trans, upto_argument, upto_result, upto_effect}
use Rattle.guarantees.proofs.Typed.{HasType}
use Rattle.guarantees.proofs.Values.{typed_keeps, typed_fit, lookup_typed}
use Rattle.guarantees.proofs.Stores.{extends_refl, extends_trans, extends_write, keeps_write, store_write}
use Rattle.guarantees.proofs.Nodes.{number_function, number_reference, function_reference, Node, node_of, variable_of, channel_of, Ready, ready_body}
use Rattle.guarantees.proofs.Gives.{Gives, GivesOwn, Sound, gives_within, gives_after, sited, closure_form}

-- the body of a closure that node i applies: it is ready, under i's control set and the labels of i's function, takes what i passes
-- and gives what i gives
pub record Called {V : Type 0} (S : Sheet) (i f : ℕ) (ρ : Environment V) (v : Value V) (cs : List (Cell V)) : Type 0 where
  pub ready : Ready S (part S f 0) (bind f v ρ) cs
  pub passed : Fit S (type_at S (part S i 0)) (argument_at S f)
  pub result : Fit S (type_at S (part S f 0)) (type_at S i)
  pub control : (A : ℕ) → Within A (effect_at S (part S i 1)) → Within A (control_at S (part S f 0))

module _ {V : Type 0} (S : Sheet) (ok : TypedSheet S) where
  -- what the rules of the application and of the function say of the body
  pub called : (i f m : ℕ) (ρ : Environment V) (v : Value V) (cs : List (Cell V)) (s : State V) → Node S Application i →
      Gives S m (part S i 1) cs (closure f ρ) s → Gives S m (part S i 0) cs v s → Called S i f ρ v s.cells
  called i f m ρ v cs s nd hf hv =
      let t : ℕ = type_at S (part S i 1) in
      let h : HasType S s.cells (closure f ρ) t = hf.typed in
      let b : Node S Lambda f = node_of S ok Lambda f h.0 h.1 in
      let a : Fit S (type_at S (part S i 0)) (argument_at S f) =
      upto_argument S (type_at S f) t (type_at S (part S i 0)) h.2 nd.typing.0 nd.typing.1 in
      record {
        ready = ready_body S ok f ρ v s.cells b h.3 h.4
            (typed_fit S s.cells v (type_at S (part S i 0)) (argument_at S f) a hv.typed) hv.cells;
        passed = a;
        result = fit_trans S (type_at S (part S f 0)) (result_at S f) (type_at S i) b.typing.1
            (upto_result S (type_at S f) t (type_at S i) h.2 nd.typing.0 nd.typing.4.0);
        control = λ A u. within_trans A (effect_at S f) (control_at S (part S f 0))
            (upto_effect S (type_at S f) t A h.2 nd.typing.0 u) b.control;
      }

module _ {V : Type 0} (S : Sheet) (ok : TypedSheet S) (ev : Evaluator V) (ih : Sound S ev) where
  -- an application
  pub sound_apply : (i : ℕ) (cs : List (Cell V)) (f v : Value V) (s : State V) → Node S Application i →
      Gives S (control_at S i) (part S i 1) cs f s → Gives S (control_at S i) (part S i 0) cs v s → Post (GivesOwn S i cs) (apply ev i f v s)
  sound_apply i cs (number n) v s nd hf hv = number_function hf.typed nd.typing.0
  sound_apply i cs (reference a) v s nd hf hv = function_reference nd.typing.0 hf.typed.0
  sound_apply i cs (closure f ρ) v s nd hf hv =
      let b : Called S i f ρ v s.cells = called S ok i f (control_at S i) ρ v cs s nd hf hv in
      let u : Within (control_at S i) (control_at S (part S f 0)) = b.control (control_at S i) nd.typing.3 in
      post_provided (GivesOwn S i cs) (ltb s.bindings most_bindings) (λ _. ev (part S f 0) (bind f v ρ) (one_binding s)) (stopped BindingsFull s.steps)
      (post_map (GivesOwn S (part S f 0) s.cells) (GivesOwn S i cs) (ev (part S f 0) (bind f v ρ) (one_binding s))
      (ih (part S f 0) (bind f v ρ) (one_binding s) b.ready)
      (λ w t g. gives_after S (control_at S i) (part S f 0) i cs s.cells w t b.result hv.extends
      (gives_within S (control_at S i) (control_at S (part S f 0)) (part S f 0) s.cells w t u g)))
      tt

  -- what a cell holds
  sound_loaded : (i a : ℕ) (cs : List (Cell V)) (s : State V) → Node S Read i → Gives S (control_at S i) (part S i 0) cs (reference a) s →
      (o : Option (Cell V)) → slice_get s.cells a ≡ o → Post (GivesOwn S i cs) (loaded i s o)
  sound_loaded i a cs s nd g None e = none_some (sym e ∙ g.typed.2.1.1)
  sound_loaded i a cs s nd g (Some c) e =
      let h : HasType S s.cells (reference a) (type_at S (part S i 0)) = g.typed in
      let f : Fit S (S.site c.site).content (type_at S i) =
      subst (λ (x : ℕ). Fit S (S.site x).content (type_at S i)) (sited S (type_at S (part S i 0)) a c s.cells h e)
      (nd.typing.1 h.2.0 h.2.2).0 in
      record {
        typed = typed_fit S s.cells c.value (S.site c.site).content (type_at S i) f (g.cells.typed a c e h.1);
        cells = g.cells;
        extends = g.extends;
      }

  -- a read
  pub sound_load : (i : ℕ) (cs : List (Cell V)) (r : Value V) (s : State V) → Node S Read i → Gives S (control_at S i) (part S i 0) cs r s →
      Post (GivesOwn S i cs) (load i r s)
  sound_load i cs (number n) s nd g = number_reference g.typed nd.typing.0
  sound_load i cs (closure f ρ) s nd g = function_reference (closure_form S ok (type_at S (part S i 0)) f ρ s.cells g.typed) nd.typing.0
  sound_load i cs (reference a) s nd g = sound_loaded i a cs s nd g (slice_get s.cells a) refl

  -- a cell with another value
  sound_stored : (i a : ℕ) (v : Value V) (cs : List (Cell V)) (s : State V) → Node S Write i → Gives S (control_at S i) (part S i 1) cs (reference a) s →
      Gives S (control_at S i) (part S i 0) cs v s → (o : Option (Cell V)) → slice_get s.cells a ≡ o → Post (GivesOwn S i cs) (stored i a v s o)
  sound_stored i a v cs s nd g k None e = none_some (sym e ∙ g.typed.2.1.1)
  sound_stored i a v cs s nd g k (Some c) e =
      let h : HasType S s.cells (reference a) (type_at S (part S i 1)) = g.typed in
      let d : Cell V = record { site = c.site; value = v } in
      let q : h.2.0 ≡ c.site = sited S (type_at S (part S i 1)) a c s.cells h e in
      let f : Fit S (type_at S (part S i 0)) (S.site c.site).content =
      subst (λ (x : ℕ). Fit S (type_at S (part S i 0)) (S.site x).content) q (nd.typing.1 h.2.0 h.2.2).0.0 in
      let u : Within (control_at S i) (content_set S c.site) =
      subst (λ (x : ℕ). Within (control_at S i) (content_set S x)) q (nd.typing.1 h.2.0 h.2.2).1 in
      record {
        typed = typed_keeps S s.cells (set s.cells a d) (keeps_write S s.cells a c d e refl) v (type_at S i)
            (typed_fit S s.cells v (type_at S (part S i 0)) (type_at S i) nd.typing.2 k.typed);
        cells = store_write S s.cells a c d e refl g.cells
            (typed_fit S s.cells v (type_at S (part S i 0)) (S.site c.site).content f k.typed);
        extends = extends_trans S (control_at S i) cs s.cells (set s.cells a d) g.extends
            (extends_write S (control_at S i) s.cells a c d e refl u);
      }

  -- a write
  pub sound_store : (i : ℕ) (cs : List (Cell V)) (r v : Value V) (s : State V) → Node S Write i → Gives S (control_at S i) (part S i 1) cs r s →
      Gives S (control_at S i) (part S i 0) cs v s → Post (GivesOwn S i cs) (store i r v s)
  sound_store i cs (number n) v s nd g k = number_reference g.typed nd.typing.0
  sound_store i cs (closure f ρ) v s nd g k = function_reference (closure_form S ok (type_at S (part S i 1)) f ρ s.cells g.typed) nd.typing.0
  sound_store i cs (reference a) v s nd g k = sound_stored i a v cs s nd g k (slice_get s.cells a) refl

  -- a variable
  pub sound_variable : (i : ℕ) (ρ : Environment V) (s : State V) → Node S Variable i → Ready S i ρ s.cells →
      Post (GivesOwn S i s.cells) (found i s (lookup (S.node i).argument ρ))
  sound_variable i ρ s nd r =
      let f : ℕ = (S.node i).argument in
      let n = variable_of S ok i nd in
      let b : (v : Value V) × (lookup f ρ ≡ Some v) = r.covers f n.0 n.1 n.2 in
      let g : GivesOwn S i s.cells b.0 s =
      record {
        typed = typed_fit S s.cells b.0 (argument_at S f) (type_at S i) nd.typing.1
            (lookup_typed S s.cells ρ f b.0 r.all b.1);
        cells = r.cells;
        extends = extends_refl S (control_at S i) s.cells;
      } in
      subst (λ (o : Option (Value V)). Post (GivesOwn S i s.cells) (found i s o)) (sym b.1) g

  -- a function
  pub sound_lambda : (i : ℕ) (ρ : Environment V) (s : State V) → Node S Lambda i → Ready S i ρ s.cells → GivesOwn S i s.cells (closure i ρ) s
  sound_lambda i ρ s nd r =
      record { typed = (nd.below, nd.kind, inl refl, r.covers, r.all); cells = r.cells; extends = extends_refl S (control_at S i) s.cells }

  -- a channel
  pub sound_channel : (i : ℕ) (ρ : Environment V) (s : State V) → Node S Channel i → Ready S i ρ s.cells →
      GivesOwn S i s.cells (reference (S.node i).argument) s
  sound_channel i ρ s nd r =
      let c = channel_of S ok i nd in
      record {
        typed = (nd.typing.0, (λ _. c.1), ((S.node i).argument, r.cells.places (S.node i).argument c.0, nd.typing.1));
        cells = r.cells;
        extends = extends_refl S (control_at S i) s.cells;
      }
