-- Two runs agree, for the kinds whose result does not depend on what numbers are.
use Rattle.std.proofs.Common.{◌≡◌, ℕ, Bool, ltb, List, set, Some, None, Option, sym, refl, ◌∙◌, subst, subst₂, inl, inr}
use Rattle.std.specs.List.{slice_get}
use Rattle.sheet.specs.declared.decoded.Kind.TheVariants.{Variable, Application, Read, Write}
use Rattle.sheet.specs.Sheet.{Sheet, part}
use Rattle.evaluation.specs.declared.ending.Stop.TheVariants.{BindingsFull, Stuck}
use Rattle.evaluation.specs.Values.{Value, number, closure, reference, Environment, bind, Cell, State, Evaluator, lookup, one_binding}
use Rattle.evaluation.specs.Evaluation.{most_bindings, found, loaded, load, stored, store, apply}
use Rattle.typing.specs.Rules.{Within, Fit, type_at, argument_at, set_at, control_at}
use Rattle.guarantees.specs.Sheets.{TypedSheet, Visible, content_set}
use Rattle.guarantees.proofs.Outcomes.{Both, both_stop, both_map, both_provided}
use Rattle.guarantees.proofs.Addresses.{some_inj}
use Rattle.guarantees.proofs.Typed.{HasType}
use Rattle.guarantees.proofs.Stores.{extends_write}
use Rattle.guarantees.proofs.Nodes.{Node}
use Rattle.guarantees.proofs.Gives.{Sound, sited}
use Rattle.guarantees.proofs.Sound.{Called, called}
use Rattle.guarantees.proofs.Visible.{visible_or_not, visible_within, visible_fit}
use Rattle.guarantees.proofs.Agreement.{Pairs, Paired, SameValue, SameEnv, CellsAgree, StoresAgree}
use Rattle.guarantees.proofs.Same.{same_lookup, stores_extend, stores_write}
use Rattle.guarantees.proofs.Runs.{RunsAgree, Agrees, PartsAgree, agree_now, agree_after, agree_unseen}

module _ {V : Type 0} (S : Sheet) (O : ℕ → Bool) (ok : TypedSheet S) (ev ev' : Evaluator V) (sd : Sound S ev) (sd' : Sound S ev') (ih : Agrees S O ev ev') where
  -- what the function and the argument of application i gave
  abbrev Applied : ℕ → Pairs → List (Cell V) → List (Cell V) → Value V → Value V → State V → Value V → Value V → State V → Type 0
  Applied i β cs cs' f v s f' v' s' = PartsAgree S O (control_at S i) (part S i 1) (part S i 0) β cs cs' f v s f' v' s'

  -- closures of one function, in environments that are the same
  apply_same : (i g : ℕ) (β : Pairs) (cs cs' : List (Cell V)) (ρ ρ' : Environment V) (v v' : Value V) (s s' : State V) → Node S Application i →
      (w : Applied i β cs cs' (closure g ρ) v s (closure g ρ') v' s') → SameEnv S O w.pairs ρ ρ' →
      Both (RunsAgree S O i β) (apply ev i (closure g ρ) v s) (apply ev' i (closure g ρ') v' s')
  apply_same i g β cs cs' ρ ρ' v v' s s' nd w al =
      let b : Called S i g ρ v s.cells = called S ok i g (control_at S i) ρ v cs s nd w.first w.second in
      let b' : Called S i g ρ' v' s'.cells = called S ok i g (control_at S i) ρ' v' cs' s' nd w.first' w.second' in
      both_provided (RunsAgree S O i β) (ltb s.bindings most_bindings) (ltb s'.bindings most_bindings)
      (λ _. ev (part S g 0) (bind g v ρ) (one_binding s)) (λ _. ev' (part S g 0) (bind g v' ρ') (one_binding s')) BindingsFull s.steps BindingsFull s'.steps
      (both_map (RunsAgree S O (part S g 0) w.pairs) (RunsAgree S O i β) (ev (part S g 0) (bind g v ρ) (one_binding s))
      (ev' (part S g 0) (bind g v' ρ') (one_binding s'))
      (ih (part S g 0) (bind g v ρ) (bind g v' ρ') (one_binding s) (one_binding s') w.pairs b.ready b'.ready
      (refl, (λ l. w.same_second (visible_fit O S (type_at S (part S i 0)) (argument_at S g) b.passed l)), al) w.agree)
      (λ x t x' t' l. agree_after S O i (part S g 0) β w.pairs x x' t t' b.result w.more l))

  -- closures that need not be the same, for the observer does not see the labels of the function
  apply_unseen : (i g g' : ℕ) (β : Pairs) (cs cs' : List (Cell V)) (ρ ρ' : Environment V) (v v' : Value V) (s s' : State V) → Node S Application i →
      (w : Applied i β cs cs' (closure g ρ) v s (closure g' ρ') v' s') → (Visible O (set_at S (part S i 1)) → ⊥) →
      Both (RunsAgree S O i β) (apply ev i (closure g ρ) v s) (apply ev' i (closure g' ρ') v' s')
  apply_unseen i g g' β cs cs' ρ ρ' v v' s s' nd w n =
      let b : Called S i g ρ v s.cells = called S ok i g (control_at S i) ρ v cs s nd w.first w.second in
      let b' : Called S i g' ρ' v' s'.cells = called S ok i g' (control_at S i) ρ' v' cs' s' nd w.first' w.second' in
      let A : ℕ = set_at S (part S i 1) in
      both_provided (RunsAgree S O i β) (ltb s.bindings most_bindings) (ltb s'.bindings most_bindings)
      (λ _. ev (part S g 0) (bind g v ρ) (one_binding s)) (λ _. ev' (part S g' 0) (bind g' v' ρ') (one_binding s')) BindingsFull s.steps BindingsFull s'.steps
      (agree_unseen S O i (part S g 0) (part S g' 0) A β w.pairs s.cells s'.cells
      (ev (part S g 0) (bind g v ρ) (one_binding s)) (ev' (part S g' 0) (bind g' v' ρ') (one_binding s')) n
      (b.control A nd.typing.2) (b'.control A nd.typing.2) nd.typing.4.1 w.more w.agree
      (sd (part S g 0) (bind g v ρ) (one_binding s) b.ready) (sd' (part S g' 0) (bind g' v' ρ') (one_binding s') b'.ready))

  -- two closures, by whether the observer sees the labels of the function
  apply_closures : (i g g' : ℕ) (β : Pairs) (cs cs' : List (Cell V)) (ρ ρ' : Environment V) (v v' : Value V) (s s' : State V) → Node S Application i →
      Applied i β cs cs' (closure g ρ) v s (closure g' ρ') v' s' →
      Both (RunsAgree S O i β) (apply ev i (closure g ρ) v s) (apply ev' i (closure g' ρ') v' s')
  apply_closures i g g' β cs cs' ρ ρ' v v' s s' nd w =
      elim (visible_or_not O (set_at S (part S i 1))) [
        | inr n ↦ apply_unseen i g g' β cs cs' ρ ρ' v v' s s' nd w n
        | inl l ↦
            subst (λ (x : ℕ). (y : Applied i β cs cs' (closure g ρ) v s (closure x ρ') v' s') → SameEnv S O y.pairs ρ ρ' →
            Both (RunsAgree S O i β) (apply ev i (closure g ρ) v s) (apply ev' i (closure x ρ') v' s'))
            (w.same_first l).0 (λ y. apply_same i g β cs cs' ρ ρ' v v' s s' nd y) w (w.same_first l).1
      ]

  -- an application
  pub agree_apply : (i : ℕ) (β : Pairs) (cs cs' : List (Cell V)) (f v f' v' : Value V) (s s' : State V) → Node S Application i →
      Applied i β cs cs' f v s f' v' s' → Both (RunsAgree S O i β) (apply ev i f v s) (apply ev' i f' v' s')
  agree_apply i β cs cs' (number n) v f' v' s s' nd w = tt
  agree_apply i β cs cs' (reference a) v f' v' s s' nd w = tt
  agree_apply i β cs cs' (closure g ρ) v (number n) v' s s' nd w = both_stop (RunsAgree S O i β) (apply ev i (closure g ρ) v s) (Stuck i) s'.steps
  agree_apply i β cs cs' (closure g ρ) v (reference a) v' s s' nd w = both_stop (RunsAgree S O i β) (apply ev i (closure g ρ) v s) (Stuck i) s'.steps
  agree_apply i β cs cs' (closure g ρ) v (closure g' ρ') v' s s' nd w = apply_closures i g g' β cs cs' ρ ρ' v v' s s' nd w

  -- a cell with another value: at paired addresses, or at addresses whose content the observer does not see
  agree_stored : (i a a' : ℕ) (β : Pairs) (cs cs' : List (Cell V)) (v v' : Value V) (s s' : State V) → Node S Write i →
      Applied i β cs cs' (reference a) v s (reference a') v' s' → (o o' : Option (Cell V)) → slice_get s.cells a ≡ o → slice_get s'.cells a' ≡ o' →
      Both (RunsAgree S O i β) (stored i a v s o) (stored i a' v' s' o')
  agree_stored i a a' β cs cs' v v' s s' nd w None o' e e' = tt
  agree_stored i a a' β cs cs' v v' s s' nd w (Some c) None e e' = tt
  agree_stored i a a' β cs cs' v v' s s' nd w (Some c) (Some c') e e' =
      let A : ℕ = set_at S (part S i 1) in
      let t : ℕ = type_at S (part S i 1) in
      let h : HasType S s.cells (reference a) t = w.first.typed in
      let h' : HasType S s'.cells (reference a') t = w.first'.typed in
      let q : h.2.0 ≡ c.site = sited S t a c s.cells h e in
      let q' : h'.2.0 ≡ c'.site = sited S t a' c' s'.cells h' e' in
      let f : Fit S (type_at S (part S i 0)) (S.site c.site).content =
      subst (λ (x : ℕ). Fit S (type_at S (part S i 0)) (S.site x).content) q (nd.typing.1 h.2.0 h.2.2).0.0 in
      let u : Within A (content_set S c.site) = subst (λ (x : ℕ). Within A (content_set S x)) q (nd.typing.1 h.2.0 h.2.2).0.1 in
      let u' : Within A (content_set S c'.site) = subst (λ (x : ℕ). Within A (content_set S x)) q' (nd.typing.1 h'.2.0 h'.2.2).0.1 in
      let d : Cell V = record { site = c.site; value = v } in
      let d' : Cell V = record { site = c'.site; value = v' } in
      record {
        pairs = w.pairs;
        more = w.more;
        same = λ l. w.same_second (visible_fit O S (type_at S (part S i 0)) (type_at S i) nd.typing.2 l);
        agree = elim (visible_or_not O A) [
          | inl l ↦
              stores_write S O w.pairs s.cells s'.cells a a' c c' d d' w.agree (w.same_first l) e e' refl refl
              (λ k. w.same_second (visible_fit O S (type_at S (part S i 0)) (S.site c.site).content f k))
          | inr n ↦
              stores_extend S O w.pairs A A s.cells s'.cells (set s.cells a d) (set s'.cells a' d') n n
              (extends_write S A s.cells a c d e refl u) (extends_write S A s'.cells a' c' d' e' refl u') w.agree
        ];
      }

  -- a write
  pub agree_store : (i : ℕ) (β : Pairs) (cs cs' : List (Cell V)) (f v f' v' : Value V) (s s' : State V) → Node S Write i →
      Applied i β cs cs' f v s f' v' s' → Both (RunsAgree S O i β) (store i f v s) (store i f' v' s')
  agree_store i β cs cs' (number n) v f' v' s s' nd w = tt
  agree_store i β cs cs' (closure g ρ) v f' v' s s' nd w = tt
  agree_store i β cs cs' (reference a) v (number n) v' s s' nd w = both_stop (RunsAgree S O i β) (store i (reference a) v s) (Stuck i) s'.steps
  agree_store i β cs cs' (reference a) v (closure g ρ) v' s s' nd w = both_stop (RunsAgree S O i β) (store i (reference a) v s) (Stuck i) s'.steps
  agree_store i β cs cs' (reference a) v (reference a') v' s s' nd w =
      agree_stored i a a' β cs cs' v v' s s' nd w (slice_get s.cells a) (slice_get s'.cells a') refl refl

  -- what a cell holds: where the observer sees the result, it sees the reference, so the addresses are paired
  agree_loaded : (i a a' : ℕ) (β : Pairs) (s s' : State V) → Node S Read i → HasType S s.cells (reference a) (type_at S (part S i 0)) →
      RunsAgree S O (part S i 0) β (reference a) s (reference a') s' → (o o' : Option (Cell V)) → slice_get s.cells a ≡ o → slice_get s'.cells a' ≡ o' →
      Both (RunsAgree S O i β) (loaded i s o) (loaded i s' o')
  agree_loaded i a a' β s s' nd t w None o' e e' = tt
  agree_loaded i a a' β s s' nd t w (Some c) None e e' = tt
  agree_loaded i a a' β s s' nd t w (Some c) (Some c') e e' =
      let rule = nd.typing.1 t.2.0 t.2.2 in
      let f : Fit S (S.site c.site).content (type_at S i) =
      subst (λ (x : ℕ). Fit S (S.site x).content (type_at S i)) (sited S (type_at S (part S i 0)) a c s.cells t e) rule.0 in
      record {
        pairs = w.pairs;
        more = w.more;
        same = λ l.
            let p : Paired w.pairs a a' = w.same (visible_within O (set_at S (part S i 0)) (set_at S i) rule.1 l) in
            let z : CellsAgree S O w.pairs s.cells s'.cells a a' = w.agree.match a a' p in
            let y : z.left ≡ c = some_inj (sym z.at_left ∙ e) in
            let y' : z.right ≡ c' = some_inj (sym z.at_right ∙ e') in
            subst₂ (λ (j j' : Cell V). SameValue S O w.pairs j.value j'.value) y y'
            (z.same (subst (λ (j : Cell V). Visible O (content_set S j.site)) (sym y) (visible_fit O S (S.site c.site).content (type_at S i) f l)));
        agree = w.agree;
      }

  -- a read
  pub agree_load : (i : ℕ) (β : Pairs) (r r' : Value V) (s s' : State V) → Node S Read i → HasType S s.cells r (type_at S (part S i 0)) →
      RunsAgree S O (part S i 0) β r s r' s' → Both (RunsAgree S O i β) (load i r s) (load i r' s')
  agree_load i β (number n) r' s s' nd t w = tt
  agree_load i β (closure g ρ) r' s s' nd t w = tt
  agree_load i β (reference a) (number n) s s' nd t w = both_stop (RunsAgree S O i β) (load i (reference a) s) (Stuck i) s'.steps
  agree_load i β (reference a) (closure g ρ) s s' nd t w = both_stop (RunsAgree S O i β) (load i (reference a) s) (Stuck i) s'.steps
  agree_load i β (reference a) (reference a') s s' nd t w =
      agree_loaded i a a' β s s' nd t w (slice_get s.cells a) (slice_get s'.cells a') refl refl

  -- what a variable is bound to
  agree_found : (i : ℕ) (β : Pairs) (s s' : State V) → StoresAgree S O β s.cells s'.cells → (o o' : Option (Value V)) →
      ((v v' : Value V) → o ≡ Some v → o' ≡ Some v' → Visible O (set_at S i) → SameValue S O β v v') →
      Both (RunsAgree S O i β) (found i s o) (found i s' o')
  agree_found i β s s' A None o' h = tt
  agree_found i β s s' A (Some v) None h = tt
  agree_found i β s s' A (Some v) (Some v') h = agree_now S O i β v v' s s' (h v v' refl refl) A

  -- a variable
  pub agree_variable : (i : ℕ) (ρ ρ' : Environment V) (s s' : State V) (β : Pairs) → Node S Variable i → SameEnv S O β ρ ρ' →
      StoresAgree S O β s.cells s'.cells →
      Both (RunsAgree S O i β) (found i s (lookup (S.node i).argument ρ)) (found i s' (lookup (S.node i).argument ρ'))
  agree_variable i ρ ρ' s s' β nd h A =
      let f : ℕ = (S.node i).argument in
      agree_found i β s s' A (lookup f ρ) (lookup f ρ')
      (λ v v' e e' l. same_lookup S O β ρ ρ' f v v' h e e' (visible_fit O S (argument_at S f) (type_at S i) nd.typing.1 l))
