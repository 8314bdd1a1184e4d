-- What a sound evaluation gives: a value of the node's type, a well-typed store, and no change that the control set does not allow.
use Rattle.std.proofs.Common.{◌≡◌, ℕ, ◌<◌, List, Some, sym, ap, ◌∙◌, arith}
use Rattle.std.specs.List.{slice_get}
use Rattle.sheet.specs.declared.decoded.Form.TheVariants as form
use Rattle.sheet.specs.declared.decoded.Kind.{Kind}
use Rattle.sheet.specs.declared.decoded.Kind.TheVariants.{Lambda}
use Rattle.sheet.specs.Sheet.{Sheet, parts_of, part}
use Rattle.evaluation.specs.Values.{Value, closure, reference, Environment, Cell, State, Outcome, Evaluator, and_then}
use Rattle.typing.specs.Rules.{Within, Fit, type_at, control_at}
use Rattle.guarantees.specs.Sheets.{TypedSheet}
use Rattle.guarantees.proofs.Outcomes.{Post, post_then}
use Rattle.guarantees.proofs.Addresses.{some_inj}
use Rattle.guarantees.proofs.Fitting.{upto_form}
use Rattle.guarantees.proofs.Typed.{HasType, StoreTyped}
use Rattle.guarantees.proofs.Values.{typed_keeps, typed_fit}
use Rattle.guarantees.proofs.Stores.{Extends, extends_trans, extends_within, extends_keeps}
use Rattle.guarantees.proofs.Nodes.{Other, Node, Ready, node_of, ready_part, ready_later}

-- from the cells cs, under control set m: v is of node p's type, and the store is well-typed and extends cs
pub record Gives {V : Type 0} (S : Sheet) (m p : ℕ) (cs : List (Cell V)) (v : Value V) (s : State V) : Type 0 where
  pub typed : HasType S s.cells v (type_at S p)
  pub cells : StoreTyped S s.cells
  pub extends : Extends S m cs s.cells

-- node i gives a value, under its own control set
abbrev pub GivesOwn : {V : Type 0} → Sheet → ℕ → List (Cell V) → Value V → State V → Type 0
GivesOwn S i cs v s = Gives S (control_at S i) i cs v s

-- `ev` is sound: where a node is ready, it gives a value or stops, and is not stuck
abbrev pub Sound : {V : Type 0} → Sheet → Evaluator V → Type 0
Sound {V} S ev = (i : ℕ) (ρ : Environment V) (s : State V) → Ready S i ρ s.cells → Post (GivesOwn S i s.cells) (ev i ρ s)

module _ {V : Type 0} (S : Sheet) where
  -- under a control set within another
  pub gives_within : (m m' p : ℕ) (cs : List (Cell V)) (v : Value V) (s : State V) → Within m m' → Gives S m' p cs v s → Gives S m p cs v s
  gives_within m m' p cs v s u g = record { typed = g.typed; cells = g.cells; extends = extends_within S m m' cs s.cells u g.extends }

  -- from an earlier store, at a node whose type the value's fits
  pub gives_after : (m p q : ℕ) (cs cs₁ : List (Cell V)) (v : Value V) (s : State V) → Fit S (type_at S p) (type_at S q) → Extends S m cs cs₁ →
      Gives S m p cs₁ v s → Gives S m q cs v s
  gives_after m p q cs cs₁ v s f e g = record {
    typed = typed_fit S s.cells v (type_at S p) (type_at S q) f g.typed;
    cells = g.cells;
    extends = extends_trans S m cs cs₁ s.cells e g.extends;
  }

  -- an earlier value, after a later part gave its own
  pub gives_later : (m p q : ℕ) (cs : List (Cell V)) (f v : Value V) (s t : State V) → Gives S m p cs f s → Gives S m q s.cells v t → Gives S m p cs f t
  gives_later m p q cs f v s t g h = record {
    typed = typed_keeps S s.cells t.cells (extends_keeps S m s.cells t.cells h.extends) f (type_at S p) g.typed;
    cells = h.cells;
    extends = extends_trans S m cs s.cells t.cells g.extends h.extends;
  }

  -- and the later value, from where the earlier part began
  pub gives_then : (m p q : ℕ) (cs : List (Cell V)) (f v : Value V) (s t : State V) → Gives S m p cs f s → Gives S m q s.cells v t → Gives S m q cs v t
  gives_then m p q cs f v s t g h =
      record { typed = h.typed; cells = h.cells; extends = extends_trans S m cs s.cells t.cells g.extends h.extends }

  -- after a part gave its value, what was ready is ready
  pub gives_ready : (m p i : ℕ) (ρ : Environment V) (cs : List (Cell V)) (v : Value V) (s : State V) → Gives S m p cs v s → Ready S i ρ cs →
      Ready S i ρ s.cells
  gives_ready m p i ρ cs v s g r = ready_later S i ρ cs s.cells (extends_keeps S m cs s.cells g.extends) g.cells r

  -- the site that a reference's type has for its address is the cell's
  pub sited : (t a : ℕ) (c : Cell V) (cs : List (Cell V)) (h : HasType S cs (reference a) t) → slice_get cs a ≡ Some c → h.2.0 ≡ c.site
  sited t a c cs h e = sym (ap (λ (x : Cell V). x.site) (some_inj (sym e ∙ h.2.1.1)) ∙ h.2.1.2)

  -- a closure is of a function's type
  pub closure_form : TypedSheet S → (t f : ℕ) (ρ : Environment V) (cs : List (Cell V)) → HasType S cs (closure f ρ) t → (S.type t).form ≡ form.Function
  closure_form ok t f ρ cs h = sym (upto_form S (type_at S f) t h.2) ∙ (node_of S ok Lambda f h.0 h.1).typing.0

module _ {V : Type 0} (S : Sheet) (ok : TypedSheet S) (ev : Evaluator V) (ih : Sound S ev) where
  -- part q of node i, which is no function, gives its value under i's control set
  pub sound_part : (k : Kind) (i q : ℕ) (ρ : Environment V) (s : State V) (next : Value V → State V → Outcome V) → Node S k i → Other k → q < parts_of k →
      Within (control_at S i) (control_at S (part S i q)) → Ready S i ρ s.cells →
      ((v : Value V) (t : State V) → Gives S (control_at S i) (part S i q) s.cells v t → Post (GivesOwn S i s.cells) (next v t)) →
      Post (GivesOwn S i s.cells) (and_then (ev (part S i q) ρ s) next)
  sound_part k i q ρ s next nd o l u r c =
      post_then (GivesOwn S (part S i q) s.cells) (GivesOwn S i s.cells) (ev (part S i q) ρ s) next
      (ih (part S i q) ρ s (ready_part S ok k i q ρ s.cells nd o l r))
      (λ v t g. c v t (gives_within S (control_at S i) (control_at S (part S i q)) (part S i q) s.cells v t u g))

  -- two parts, the first one first
  pub sound_two : (k : Kind) (i : ℕ) (ρ : Environment V) (s : State V) (next : Value V → Value V → State V → Outcome V) → Node S k i → Other k → 1 < parts_of k →
      Within (control_at S i) (control_at S (part S i 1)) → Within (control_at S i) (control_at S (part S i 0)) → Ready S i ρ s.cells →
      ((f v : Value V) (t : State V) → Gives S (control_at S i) (part S i 1) s.cells f t → Gives S (control_at S i) (part S i 0) s.cells v t →
      Post (GivesOwn S i s.cells) (next f v t)) →
      Post (GivesOwn S i s.cells) (and_then (ev (part S i 1) ρ s) (λ f s₁. and_then (ev (part S i 0) ρ s₁) (λ v s₂. next f v s₂)))
  sound_two k i ρ s next nd o l u w r c =
      sound_part k i 1 ρ s (λ f s₁. and_then (ev (part S i 0) ρ s₁) (λ v s₂. next f v s₂)) nd o l u r
      (λ f s₁ g.
      post_then (GivesOwn S (part S i 0) s₁.cells) (GivesOwn S i s.cells) (ev (part S i 0) ρ s₁) (λ v s₂. next f v s₂)
      (ih (part S i 0) ρ s₁
      (gives_ready S (control_at S i) (part S i 1) (part S i 0) ρ s.cells f s₁ g (ready_part S ok k i 0 ρ s.cells nd o (omega arith) r)))
      (λ v s₂ h.
      let h' : Gives S (control_at S i) (part S i 0) s₁.cells v s₂ =
      gives_within S (control_at S i) (control_at S (part S i 0)) (part S i 0) s₁.cells v s₂ w h in
      c f v s₂ (gives_later S (control_at S i) (part S i 1) (part S i 0) s.cells f v s₁ s₂ g h')
      (gives_then S (control_at S i) (part S i 1) (part S i 0) s.cells f v s₁ s₂ g h')))
