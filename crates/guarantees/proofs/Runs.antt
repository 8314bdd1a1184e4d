-- Two runs of one node that agree where an observer sees: what that is, and how the parts' agreement is put together.
use Rattle.std.proofs.Common.{ℕ, ◌<◌, Bool, List, arith}
use Rattle.sheet.specs.declared.decoded.Kind.{Kind}
use Rattle.sheet.specs.Sheet.{Sheet, parts_of, part}
use Rattle.evaluation.specs.Values.{Value, Environment, Cell, State, Outcome, Evaluator, and_then}
use Rattle.typing.specs.Rules.{Within, Fit, type_at, set_at, control_at}
use Rattle.guarantees.specs.Sheets.{TypedSheet, Visible}
use Rattle.guarantees.proofs.Outcomes.{Post, Both, both_then, both_of, both_with}
use Rattle.guarantees.proofs.Stores.{extends_within}
use Rattle.guarantees.proofs.Nodes.{Other, Node, Ready, ready_part}
use Rattle.guarantees.proofs.Gives.{Gives, GivesOwn, Sound, gives_within, gives_later, gives_then, gives_ready}
use Rattle.guarantees.proofs.Visible.{visible_within, visible_fit}
use Rattle.guarantees.proofs.Agreement.{Pairs, More, SameValue, SameEnv, StoresAgree}
use Rattle.guarantees.proofs.Same.{same_value_more, same_env_more, stores_extend}

-- two runs of node i, from stores with the pairs of β, agree: the stores with perhaps more pairs, and the values where the observer
-- sees the labels of i's type
pub record RunsAgree {V : Type 0} (S : Sheet) (O : ℕ → Bool) (i : ℕ) (β : Pairs) (v : Value V) (s : State V) (v' : Value V) (s' : State V) : Type 0 where
  pub pairs : Pairs
  pub more : More β pairs
  pub same : Visible O (set_at S i) → SameValue S O pairs v v'
  pub agree : StoresAgree S O pairs s.cells s'.cells

-- two evaluators, whose fuel may differ, agree: two runs of one node do, from environments that are the same and stores that agree
abbrev pub Agrees : {V : Type 0} → Sheet → (ℕ → Bool) → Evaluator V → Evaluator V → Type 0
Agrees {V} S O ev ev' =
    (i : ℕ) (ρ ρ' : Environment V) (s s' : State V) (β : Pairs) → Ready S i ρ s.cells → Ready S i ρ' s'.cells →
    SameEnv S O β ρ ρ' → StoresAgree S O β s.cells s'.cells → Both (RunsAgree S O i β) (ev i ρ s) (ev' i ρ' s')

-- what a node's two runs begin with
pub record Starts {V : Type 0} (S : Sheet) (O : ℕ → Bool) (i : ℕ) (ρ ρ' : Environment V) (cs cs' : List (Cell V)) (β : Pairs) : Type 0 where
  pub left : Ready S i ρ cs
  pub right : Ready S i ρ' cs'
  pub same : SameEnv S O β ρ ρ'
  pub agree : StoresAgree S O β cs cs'

-- what part p gave in two runs of node i, under i's control set m
pub record PartAgree {V : Type 0} (S : Sheet) (O : ℕ → Bool) (m p : ℕ) (β : Pairs) (cs cs' : List (Cell V))
    (v : Value V) (s : State V) (v' : Value V) (s' : State V) : Type 0 where
  pub left : Gives S m p cs v s
  pub right : Gives S m p cs' v' s'
  pub link : RunsAgree S O p β v s v' s'

-- what the parts p and q gave, one after the other
pub record PartsAgree {V : Type 0} (S : Sheet) (O : ℕ → Bool) (m p q : ℕ) (β : Pairs) (cs cs' : List (Cell V))
    (f v : Value V) (s : State V) (f' v' : Value V) (s' : State V) : Type 0 where
  pub first : Gives S m p cs f s
  pub second : Gives S m q cs v s
  pub first' : Gives S m p cs' f' s'
  pub second' : Gives S m q cs' v' s'
  pub pairs : Pairs
  pub more : More β pairs
  pub same_first : Visible O (set_at S p) → SameValue S O pairs f f'
  pub same_second : Visible O (set_at S q) → SameValue S O pairs v v'
  pub agree : StoresAgree S O pairs s.cells s'.cells

module _ {V : Type 0} (S : Sheet) (O : ℕ → Bool) where
  -- values that are the same at once
  pub agree_now : (i : ℕ) (β : Pairs) (v v' : Value V) (s s' : State V) → (Visible O (set_at S i) → SameValue S O β v v') →
      StoresAgree S O β s.cells s'.cells → RunsAgree S O i β v s v' s'
  agree_now i β v v' s s' h A = record { pairs = β; more = λ a b p. p; same = h; agree = A }

  -- what node p gave, which began with more pairs, is what node i gives
  pub agree_after : (i p : ℕ) (β γ : Pairs) (v v' : Value V) (s s' : State V) → Fit S (type_at S p) (type_at S i) → More β γ →
      RunsAgree S O p γ v s v' s' → RunsAgree S O i β v s v' s'
  agree_after i p β γ v v' s s' f m l = record {
    pairs = l.pairs;
    more = λ a b q. l.more a b (m a b q);
    same = λ q. l.same (visible_fit O S (type_at S p) (type_at S i) f q);
    agree = l.agree;
  }

  -- two runs, perhaps of different nodes, under a set that the observer does not see
  pub agree_unseen : (i p p' m : ℕ) (β γ : Pairs) (cs cs' : List (Cell V)) (o o' : Outcome V) → (Visible O m → ⊥) → Within m (control_at S p) →
      Within m (control_at S p') → Within m (set_at S i) → More β γ → StoresAgree S O γ cs cs' → Post (GivesOwn S p cs) o → Post (GivesOwn S p' cs') o' →
      Both (RunsAgree S O i β) o o'
  agree_unseen i p p' m β γ cs cs' o o' n u u' z h A k k' =
      both_of (GivesOwn S p cs) (GivesOwn S p' cs') (RunsAgree S O i β) o o' k k'
      (λ x t x' t' g g'.
      record {
        pairs = γ;
        more = h;
        same = λ q. absurd (n (visible_within O m (set_at S i) z q));
        agree = stores_extend S O γ m m cs cs' t.cells t'.cells n n (extends_within S m (control_at S p) cs t.cells u g.extends)
            (extends_within S m (control_at S p') cs' t'.cells u' g'.extends) A;
      })

module _ {V : Type 0} (S : Sheet) (O : ℕ → Bool) (ok : TypedSheet S) where
  -- a part starts where its node does
  pub starts_part : (k : Kind) (i q : ℕ) (ρ ρ' : Environment V) (cs cs' : List (Cell V)) (β : Pairs) → Node S k i → Other k → q < parts_of k →
      Starts S O i ρ ρ' cs cs' β → Starts S O (part S i q) ρ ρ' cs cs' β
  starts_part k i q ρ ρ' cs cs' β nd o l b = record {
    left = ready_part S ok k i q ρ cs nd o l b.left;
    right = ready_part S ok k i q ρ' cs' nd o l b.right;
    same = b.same;
    agree = b.agree;
  }

  -- and where another part has given its value
  pub starts_later : (i p m : ℕ) (ρ ρ' : Environment V) (cs cs' : List (Cell V)) (β : Pairs) (v v' : Value V) (s s' : State V) →
      (a : PartAgree S O m p β cs cs' v s v' s') → Starts S O i ρ ρ' cs cs' β → Starts S O i ρ ρ' s.cells s'.cells a.link.pairs
  starts_later i p m ρ ρ' cs cs' β v v' s s' a b = record {
    left = gives_ready S m p i ρ cs v s a.left b.left;
    right = gives_ready S m p i ρ' cs' v' s' a.right b.right;
    same = same_env_more S O β a.link.pairs a.link.more ρ ρ' b.same;
    agree = a.link.agree;
  }

module _ {V : Type 0} (S : Sheet) (O : ℕ → Bool) (ok : TypedSheet S) (ev ev' : Evaluator V) (sd : Sound S ev) (sd' : Sound S ev') (ih : Agrees S O ev ev') where
  -- two runs of a part, under its node's control set
  pub agree_part : (m p : ℕ) (ρ ρ' : Environment V) (s s' : State V) (β : Pairs) → Within m (control_at S p) →
      Starts S O p ρ ρ' s.cells s'.cells β → Both (PartAgree S O m p β s.cells s'.cells) (ev p ρ s) (ev' p ρ' s')
  agree_part m p ρ ρ' s s' β u b =
      both_with (GivesOwn S p s.cells) (GivesOwn S p s'.cells) (RunsAgree S O p β) (PartAgree S O m p β s.cells s'.cells) (ev p ρ s) (ev' p ρ' s')
      (sd p ρ s b.left) (sd' p ρ' s' b.right) (ih p ρ ρ' s s' β b.left b.right b.same b.agree)
      (λ v t v' t' g g' l.
      record {
        left = gives_within S m (control_at S p) p s.cells v t u g;
        right = gives_within S m (control_at S p) p s'.cells v' t' u g';
        link = l;
      })

  -- two runs of two parts, the first one first
  pub agree_two : (k : Kind) (i : ℕ) (ρ ρ' : Environment V) (s s' : State V) (β : Pairs) (next next' : Value V → Value V → State V → Outcome V) → Node S k i →
      Other k → 1 < parts_of k → Within (control_at S i) (control_at S (part S i 1)) → Within (control_at S i) (control_at S (part S i 0)) →
      Starts S O i ρ ρ' s.cells s'.cells β →
      ((f v f' v' : Value V) (t t' : State V) → PartsAgree S O (control_at S i) (part S i 1) (part S i 0) β s.cells s'.cells f v t f' v' t' →
      Both (RunsAgree S O i β) (next f v t) (next' f' v' t')) →
      Both (RunsAgree S O i β) (and_then (ev (part S i 1) ρ s) (λ f s₁. and_then (ev (part S i 0) ρ s₁) (λ v s₂. next f v s₂)))
      (and_then (ev' (part S i 1) ρ' s') (λ f s₁. and_then (ev' (part S i 0) ρ' s₁) (λ v s₂. next' f v s₂)))
  agree_two k i ρ ρ' s s' β next next' nd o l u w b c =
      let m : ℕ = control_at S i in
      let p : ℕ = part S i 1 in
      let q : ℕ = part S i 0 in
      both_then (PartAgree S O m p β s.cells s'.cells) (RunsAgree S O i β) (ev p ρ s) (ev' p ρ' s')
      (λ f s₁. and_then (ev q ρ s₁) (λ v s₂. next f v s₂)) (λ f s₁. and_then (ev' q ρ' s₁) (λ v s₂. next' f v s₂))
      (agree_part m p ρ ρ' s s' β u (starts_part S O ok k i 1 ρ ρ' s.cells s'.cells β nd o l b))
      (λ f s₁ f' s₁' x.
      let γ : Pairs = x.link.pairs in
      both_then (PartAgree S O m q γ s₁.cells s₁'.cells) (RunsAgree S O i β) (ev q ρ s₁) (ev' q ρ' s₁') (λ v s₂. next f v s₂) (λ v s₂. next' f' v s₂)
      (agree_part m q ρ ρ' s₁ s₁' γ w
      (starts_later S O ok q p m ρ ρ' s.cells s'.cells β f f' s₁ s₁' x
      (starts_part S O ok k i 0 ρ ρ' s.cells s'.cells β nd o (omega arith) b)))
      (λ v s₂ v' s₂' y.
      c f v f' v' s₂ s₂'
      (record {
        first = gives_later S m p q s.cells f v s₁ s₂ x.left y.left;
        second = gives_then S m p q s.cells f v s₁ s₂ x.left y.left;
        first' = gives_later S m p q s'.cells f' v' s₁' s₂' x.right y.right;
        second' = gives_then S m p q s'.cells f' v' s₁' s₂' x.right y.right;
        pairs = y.link.pairs;
        more = λ a b z. y.link.more a b (x.link.more a b z);
        same_first = λ z. same_value_more S O γ y.link.pairs y.link.more f f' (x.link.same z);
        same_second = y.link.same;
        agree = y.link.agree;
      })))
