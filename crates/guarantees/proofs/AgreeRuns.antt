-- Two runs agree: the kinds whose result depends on what numbers are, and all kinds together.
use Rattle.std.proofs.Common.{ℕ, zero, suc, ◌+◌, ◌<◌, Bool, true, false, cond, eqb, ltb, List, [], ◌∷◌, ◌++◌, length, refl, ap, subst, ap₂, inl, inr, arith}
use Rattle.std.proofs.lemmas.Bool.{cond_both}
use Rattle.number.specs.NumberKind.{NumberKind}
use Rattle.sheet.specs.declared.decoded.Kind.{Kind}
use Rattle.sheet.specs.declared.decoded.Kind.TheVariants.{Literal, Variable, Lambda, Application, New, Channel, Read, Write, Choice, Operation, Unknown}
use Rattle.sheet.specs.Sheet.{Sheet, parts_of, part}
use Rattle.evaluation.specs.declared.ending.Stop.TheVariants.{FuelSpent, PendingFull, CellsFull, Stuck}
use Rattle.evaluation.specs.Values.{Value, number, closure, reference, Environment, Cell, State, Outcome, done, stopped, Evaluator, and_then, with_cells, one_step}
use Rattle.evaluation.specs.Evaluation.{operation, most_fresh, load, store, apply, create, choose, operate, by_kind, eval}
use Rattle.typing.specs.Rules.{Within, Fit, type_at, set_at, control_at}
use Rattle.guarantees.specs.Sheets.{TypedSheet, Visible}
use Rattle.guarantees.proofs.Outcomes.{Both, both_stop, both_then, both_map, both_provided, both_unless}
use Rattle.guarantees.proofs.Nodes.{Other, Node, node_of, channel_of, Ready}
use Rattle.guarantees.proofs.Gives.{Sound}
use Rattle.guarantees.proofs.Soundness.{sound}
use Rattle.guarantees.proofs.Visible.{visible_or_not, visible_within, visible_fit}
use Rattle.guarantees.proofs.Agreement.{Pairs, More}
use Rattle.guarantees.proofs.Same.{wider, stores_new}
use Rattle.guarantees.proofs.Runs.{RunsAgree, Agrees, Starts, PartAgree, PartsAgree, agree_now, agree_after, agree_unseen, starts_part, starts_later, agree_part, agree_two}
use Rattle.guarantees.proofs.Agree.{agree_apply, agree_store, agree_load, agree_variable}

module _ (M : NumberKind) (S : Sheet) (O : ℕ → Bool) (ok : TypedSheet S) (ev ev' : Evaluator M.Value) (sd : Sound S ev) (sd' : Sound S ev') (ih : Agrees S O ev ev') where
  -- the values of numbers
  abbrev V : Type 0
  V = M.Value

  -- a branch that both runs take
  agree_branch : (i p : ℕ) (ρ ρ' : Environment V) (s s' : State V) (β γ : Pairs) → Fit S (type_at S p) (type_at S i) → More β γ →
      Starts S O p ρ ρ' s.cells s'.cells γ → Both (RunsAgree S O i β) (ev p ρ s) (ev' p ρ' s')
  agree_branch i p ρ ρ' s s' β γ f m b =
      both_map (RunsAgree S O p γ) (RunsAgree S O i β) (ev p ρ s) (ev' p ρ' s') (ih p ρ ρ' s s' γ b.left b.right b.same b.agree)
      (λ v t v' t' l. agree_after S O i p β γ v v' t t' f m l)

  -- what the branches of choice i start from, once its condition has been evaluated in both runs
  abbrev Branches : ℕ → Environment V → Environment V → State V → State V → Pairs → Type 0
  Branches i ρ ρ' s s' γ = Starts S O (part S i 0) ρ ρ' s.cells s'.cells γ × Starts S O (part S i 1) ρ ρ' s.cells s'.cells γ

  -- the branch that a run takes
  abbrev taken : ℕ → Bool → ℕ
  taken i x = cond x (part S i 0) (part S i 1)

  -- one branch in both runs
  branches_same : (i : ℕ) (x : Bool) (ρ ρ' : Environment V) (s s' : State V) (β γ : Pairs) → Node S Choice i → More β γ → Branches i ρ ρ' s s' γ →
      Both (RunsAgree S O i β) (ev (taken i x) ρ s) (ev' (taken i x) ρ' s')
  branches_same i true ρ ρ' s s' β γ nd m b = agree_branch i (part S i 0) ρ ρ' s s' β γ nd.typing.2 m b.0
  branches_same i false ρ ρ' s s' β γ nd m b = agree_branch i (part S i 1) ρ ρ' s s' β γ nd.typing.1 m b.1

  -- branches that need not be the same, for the observer does not see the labels of the condition
  branches_unseen : (i : ℕ) (x x' : Bool) (ρ ρ' : Environment V) (s s' : State V) (β γ : Pairs) → Node S Choice i → More β γ → Branches i ρ ρ' s s' γ →
      (Visible O (set_at S (part S i 2)) → ⊥) → Both (RunsAgree S O i β) (ev (taken i x) ρ s) (ev' (taken i x') ρ' s')
  branches_unseen i x x' ρ ρ' s s' β γ nd m b n =
      let A : ℕ = set_at S (part S i 2) in
      let p : ℕ = taken i x in
      let p' : ℕ = taken i x' in
      let under = λ (y : Bool). cond_both y (part S i 0) (part S i 1) (λ z. Within A (control_at S z)) (λ _. nd.control.2.1) (λ _. nd.control.1.1) in
      agree_unseen S O i p p' A β γ s.cells s'.cells (ev p ρ s) (ev' p' ρ' s') n (under x) (under x') nd.typing.3 m b.0.agree
      (sd p ρ s (cond_both x (part S i 0) (part S i 1) (λ z. Ready S z ρ s.cells) (λ _. b.0.left) (λ _. b.1.left)))
      (sd' p' ρ' s' (cond_both x' (part S i 0) (part S i 1) (λ z. Ready S z ρ' s'.cells) (λ _. b.0.right) (λ _. b.1.right)))

  -- a choice
  agree_choose : (i : ℕ) (ρ ρ' : Environment V) (c c' : Value V) (s s' : State V) (β : Pairs) → Node S Choice i →
      (w : RunsAgree S O (part S i 2) β c s c' s') → Branches i ρ ρ' s s' w.pairs →
      Both (RunsAgree S O i β) (choose M S ev i ρ c s) (choose M S ev' i ρ' c' s')
  agree_choose i ρ ρ' (closure g ρ₁) c' s s' β nd w b = tt
  agree_choose i ρ ρ' (reference a) c' s s' β nd w b = tt
  agree_choose i ρ ρ' (number n) (closure g ρ₁) s s' β nd w b = both_stop (RunsAgree S O i β) (choose M S ev i ρ (number n) s) (Stuck i) s'.steps
  agree_choose i ρ ρ' (number n) (reference a) s s' β nd w b = both_stop (RunsAgree S O i β) (choose M S ev i ρ (number n) s) (Stuck i) s'.steps
  agree_choose i ρ ρ' (number n) (number n') s s' β nd w b =
      elim (visible_or_not O (set_at S (part S i 2))) [
        | inl l ↦
            subst (λ (x : Bool). Both (RunsAgree S O i β) (ev (taken i (M.is_zero n)) ρ s) (ev' (taken i x) ρ' s')) (ap M.is_zero (w.same l))
            (branches_same i (M.is_zero n) ρ ρ' s s' β w.pairs nd w.more b)
        | inr u ↦ branches_unseen i (M.is_zero n) (M.is_zero n') ρ ρ' s s' β w.pairs nd w.more b u
      ]

  -- an operation on two numbers
  agree_operate : (i : ℕ) (β : Pairs) (cs cs' : List (Cell V)) (f v f' v' : Value V) (s s' : State V) → Node S Operation i →
      PartsAgree S O (control_at S i) (part S i 1) (part S i 0) β cs cs' f v s f' v' s' →
      Both (RunsAgree S O i β) (operate M S i f v s) (operate M S i f' v' s')
  agree_operate i β cs cs' (closure g ρ) v f' v' s s' nd w = tt
  agree_operate i β cs cs' (reference a) v f' v' s s' nd w = tt
  agree_operate i β cs cs' (number n) (closure g ρ) f' v' s s' nd w = tt
  agree_operate i β cs cs' (number n) (reference a) f' v' s s' nd w = tt
  agree_operate i β cs cs' (number n) (number m) (closure g ρ) v' s s' nd w = tt
  agree_operate i β cs cs' (number n) (number m) (reference a) v' s s' nd w = tt
  agree_operate i β cs cs' (number n) (number m) (number n') (closure g ρ) s s' nd w = tt
  agree_operate i β cs cs' (number n) (number m) (number n') (reference a) s s' nd w = tt
  agree_operate i β cs cs' (number n) (number m) (number n') (number m') s s' nd w =
      record {
        pairs = w.pairs;
        more = w.more;
        same = λ l. ap₂ (operation M (S.node i).argument)
            (w.same_first (visible_within O (set_at S (part S i 1)) (set_at S i) nd.typing.3 l))
            (w.same_second (visible_within O (set_at S (part S i 0)) (set_at S i) nd.typing.4 l));
        agree = w.agree;
      }

  -- a fresh cell: its addresses are paired
  agree_create : (i : ℕ) (β : Pairs) (v v' : Value V) (s s' : State V) → Node S New i → RunsAgree S O (part S i 0) β v s v' s' →
      Both (RunsAgree S O i β) (create M S i v s) (create M S i v' s')
  agree_create i β v v' s s' nd w =
      let d : Cell V = record { site = (S.node i).argument; value = v } in
      let d' : Cell V = record { site = (S.node i).argument; value = v' } in
      both_provided (RunsAgree S O i β) (ltb (length s.cells) (S.sites + most_fresh)) (ltb (length s'.cells) (S.sites + most_fresh))
      (λ _. done (reference (length s.cells)) (with_cells s (s.cells ++ record { site = (S.node i).argument; value = v } ∷ [])))
      (λ _. done (reference (length s'.cells)) (with_cells s' (s'.cells ++ record { site = (S.node i).argument; value = v' } ∷ [])))
      CellsFull s.steps CellsFull s'.steps
      (record {
        pairs = wider S O w.pairs s.cells s'.cells d d' w.agree;
        more = λ a b p. inr (w.more a b p);
        same = λ _. inl (refl, refl);
        agree = stores_new S O w.pairs s.cells s'.cells d d' w.agree refl
            (λ l. w.same (visible_fit O S (type_at S (part S i 0)) (S.site (S.node i).argument).content nd.typing.2.0 l));
      })

  -- part q of node i, and then what follows it in both runs
  agree_one : (k : Kind) (i q : ℕ) (ρ ρ' : Environment V) (s s' : State V) (β : Pairs) (next next' : Value V → State V → Outcome V) → Node S k i →
      Other k → q < parts_of k → Within (control_at S i) (control_at S (part S i q)) → Starts S O i ρ ρ' s.cells s'.cells β →
      ((v : Value V) (t : State V) (v' : Value V) (t' : State V) → PartAgree S O (control_at S i) (part S i q) β s.cells s'.cells v t v' t' →
      Both (RunsAgree S O i β) (next v t) (next' v' t')) →
      Both (RunsAgree S O i β) (and_then (ev (part S i q) ρ s) next) (and_then (ev' (part S i q) ρ' s') next')
  agree_one k i q ρ ρ' s s' β next next' nd o l u b c =
      both_then (PartAgree S O (control_at S i) (part S i q) β s.cells s'.cells) (RunsAgree S O i β) (ev (part S i q) ρ s) (ev' (part S i q) ρ' s') next next'
      (agree_part S O ok ev ev' sd sd' ih (control_at S i) (part S i q) ρ ρ' s s' β u (starts_part S O ok k i q ρ ρ' s.cells s'.cells β nd o l b)) c

  -- a node of each kind
  agree_by_kind : (k : Kind) (i : ℕ) (ρ ρ' : Environment V) (s s' : State V) (β : Pairs) → Node S k i → Starts S O i ρ ρ' s.cells s'.cells β →
      Both (RunsAgree S O i β) (by_kind M S ev k i ρ s) (by_kind M S ev' k i ρ' s')
  agree_by_kind Literal i ρ ρ' s s' β nd b =
      agree_now S O i β (number (M.whole (S.node i).literal)) (number (M.whole (S.node i).literal)) s s' (λ _. refl) b.agree
  agree_by_kind Variable i ρ ρ' s s' β nd b = agree_variable S O ok ev ev' sd sd' ih i ρ ρ' s s' β nd b.same b.agree
  agree_by_kind Lambda i ρ ρ' s s' β nd b = agree_now S O i β (closure i ρ) (closure i ρ') s s' (λ _. (refl, b.same)) b.agree
  agree_by_kind Application i ρ ρ' s s' β nd b =
      agree_two S O ok ev ev' sd sd' ih Application i ρ ρ' s s' β (λ f v t. apply ev i f v t) (λ f v t. apply ev' i f v t) nd refl (omega arith)
      nd.control.0 nd.control.1 b (λ f v f' v' t t' w. agree_apply S O ok ev ev' sd sd' ih i β s.cells s'.cells f v f' v' t t' nd w)
  agree_by_kind New i ρ ρ' s s' β nd b =
      agree_one New i 0 ρ ρ' s s' β (λ v t. create M S i v t) (λ v t. create M S i v t) nd refl (omega arith) nd.control b
      (λ v t v' t' w. agree_create i β v v' t t' nd w.link)
  agree_by_kind Channel i ρ ρ' s s' β nd b =
      let a : ℕ = (S.node i).argument in
      agree_now S O i β (reference a) (reference a) s s' (λ _. b.agree.places a (channel_of S ok i nd)) b.agree
  agree_by_kind Read i ρ ρ' s s' β nd b =
      agree_one Read i 0 ρ ρ' s s' β (λ v t. load i v t) (λ v t. load i v t) nd refl (omega arith) nd.control b
      (λ v t v' t' w. agree_load S O ok ev ev' sd sd' ih i β v v' t t' nd w.left.typed w.link)
  agree_by_kind Write i ρ ρ' s s' β nd b =
      agree_two S O ok ev ev' sd sd' ih Write i ρ ρ' s s' β (λ f v t. store i f v t) (λ f v t. store i f v t) nd refl (omega arith)
      nd.control.0 nd.control.1 b (λ f v f' v' t t' w. agree_store S O ok ev ev' sd sd' ih i β s.cells s'.cells f v f' v' t t' nd w)
  agree_by_kind Choice i ρ ρ' s s' β nd b =
      agree_one Choice i 2 ρ ρ' s s' β (λ c t. choose M S ev i ρ c t) (λ c t. choose M S ev' i ρ' c t) nd refl (omega arith) nd.control.0 b
      (λ c t c' t' w.
      let branch = λ (q : ℕ) (l : q < 3).
      starts_later S O ok (part S i q) (part S i 2) (control_at S i) ρ ρ' s.cells s'.cells β c c' t t' w
      (starts_part S O ok Choice i q ρ ρ' s.cells s'.cells β nd refl l b) in
      agree_choose i ρ ρ' c c' t t' β nd w.link (branch 0 (omega arith), branch 1 (omega arith)))
  agree_by_kind Operation i ρ ρ' s s' β nd b =
      agree_two S O ok ev ev' sd sd' ih Operation i ρ ρ' s s' β (λ f v t. operate M S i f v t) (λ f v t. operate M S i f v t) nd refl (omega arith)
      nd.control.0 nd.control.1 b (λ f v f' v' t t' w. agree_operate i β s.cells s'.cells f v f' v' t t' nd w)
  agree_by_kind Unknown i ρ ρ' s s' β nd b = absurd nd.typing

module _ (M : NumberKind) (S : Sheet) (O : ℕ → Bool) (ok : TypedSheet S) (fuel fuel' : ℕ) where
  -- no place for a pending node
  stops : (b : Bool) (i t : ℕ) (β : Pairs) (o : Outcome M.Value) → Both (RunsAgree S O i β) (cond b (stopped FuelSpent t) (stopped PendingFull t)) o
  stops true i t β o = tt
  stops false i t β o = tt

  -- two runs agree, whatever their fuel, with as many places for pending nodes
  pub agree : (d : ℕ) → Agrees S O (eval M S fuel d) (eval M S fuel' d)
  unfolding eval
  agree zero i ρ ρ' s s' β r r' h A = stops (eqb s.steps fuel) i s.steps β (eval M S fuel' zero i ρ' s')
  agree (suc d) i ρ ρ' s s' β r r' h A =
      both_unless (RunsAgree S O i β) (eqb s.steps fuel) (eqb s'.steps fuel') FuelSpent s.steps FuelSpent s'.steps
      (by_kind M S (eval M S fuel d) (S.node i).kind i ρ (one_step s)) (by_kind M S (eval M S fuel' d) (S.node i).kind i ρ' (one_step s'))
      (agree_by_kind M S O ok (eval M S fuel d) (eval M S fuel' d) (sound M S ok fuel d) (sound M S ok fuel' d) (agree d) (S.node i).kind i ρ ρ'
      (one_step s) (one_step s') β (node_of S ok (S.node i).kind i r.below refl) (record { left = r; right = r'; same = h; agree = A }))
