-- A node with its kind and its rules, and what is ready for it and for its parts.
use Rattle.std.proofs.Common.{◌≡◌, ℕ, ◌<◌, false, ◌≢◌, List, sym, ◌∙◌, subst, arith}
use Rattle.std.proofs.lemmas.Bool.{true≢false}
use Rattle.sheet.specs.declared.decoded.Form.{Form}
use Rattle.sheet.specs.declared.decoded.Form.TheVariants as form
use Rattle.sheet.specs.declared.decoded.Kind.{Kind}
use Rattle.sheet.specs.declared.decoded.Kind.TheVariants.{Variable, Lambda, Channel}
use Rattle.sheet.specs.Sheet.{Sheet, parts_of, part}
use Rattle.shaping.specs.Nodes.{is_lambda}
use Rattle.evaluation.specs.Values.{Value, Environment, bind, Cell}
use Rattle.typing.specs.Rules.{Typed, Controlled, argument_at}
use Rattle.guarantees.specs.Sheets.{TypedSheet, Inside, Channel as IsChannel}
use Rattle.guarantees.proofs.Spans.{part_out}
use Rattle.guarantees.proofs.Typed.{Covers, HasType, EnvTyped, StoreTyped}
use Rattle.guarantees.proofs.Values.{KeepsSites, env_keeps, covers_part, covers_body}

-- no form is two: a number's is no function's
pub number_function : {X : Type 0} {f : Form} → f ≡ form.Number → f ≡ form.Function → X
number_function e d = let z : ◌≡◌ {A = ℕ} 0 1 = cc in absurd (omega arith)

-- a number's is no reference's
pub number_reference : {X : Type 0} {f : Form} → f ≡ form.Number → f ≡ form.Reference → X
number_reference e d = let z : ◌≡◌ {A = ℕ} 0 1 = cc in absurd (omega arith)

-- a function's is no reference's
pub function_reference : {X : Type 0} {f : Form} → f ≡ form.Function → f ≡ form.Reference → X
function_reference e d = let z : ◌≡◌ {A = ℕ} 0 1 = cc in absurd (omega arith)

-- a kind other than a function's
abbrev pub Other : Kind → Type 0
Other k = is_lambda k ≡ false

-- which is no function's
not_lambda : (k : Kind) → Other k → k ≢ Lambda
not_lambda k h e = true≢false (subst (λ (x : Kind). is_lambda x ≡ false) e h)

module _ (S : Sheet) where
  -- node i is of kind k, and keeps the rules of that kind
  pub record Node (k : Kind) (i : ℕ) : Type 0 where
    pub below : i < S.nodes
    pub kind : (S.node i).kind ≡ k
    pub typing : Typed S k i
    pub control : Controlled S k i

  -- what node i may rely on: its variables are bound to values of their types, in a well-typed store
  pub record Ready {V : Type 0} (i : ℕ) (ρ : Environment V) (cs : List (Cell V)) : Type 0 where
    pub below : i < S.nodes
    pub covers : Covers S ρ i
    pub all : EnvTyped S cs ρ
    pub cells : StoreTyped S cs

module _ (S : Sheet) (ok : TypedSheet S) where
  -- a node of a well-typed sheet keeps its rules
  pub node_of : (k : Kind) (i : ℕ) → i < S.nodes → (S.node i).kind ≡ k → Node S k i
  node_of k i l e = record {
    below = l;
    kind = e;
    typing = subst (λ (x : Kind). Typed S x i) e (ok.rules i l).0;
    control = subst (λ (x : Kind). Controlled S x i) e (ok.rules i l).1;
  }

  -- a variable stands inside the function that it names
  pub variable_of : (i : ℕ) → Node S Variable i →
      ((S.node i).argument < S.nodes) × ((S.node (S.node i).argument).kind ≡ Lambda) × Inside S i (S.node i).argument
  variable_of i n = let v = ok.shape.variable i n.below n.kind in (v.0, v.1, (v.3, v.2))

  -- a channel node names a channel
  pub channel_of : (i : ℕ) → Node S Channel i → IsChannel S (S.node i).argument
  channel_of i n = ok.shape.channel i n.below n.kind

  -- a part of a node that is no function is ready where the node is
  pub ready_part : {V : Type 0} (k : Kind) (i q : ℕ) (ρ : Environment V) (cs : List (Cell V)) → Node S k i → Other k → q < parts_of k →
      Ready S i ρ cs → Ready S (part S i q) ρ cs
  ready_part k i q ρ cs n o h r =
      let p : q < parts_of (S.node i).kind = subst (λ (x : Kind). q < parts_of x) (sym n.kind) h in
      let f : part S i q < i = (ok.shape.nesting.parts i q n.below p).0 in
      record {
        below = omega (arith, n.below);
        covers = covers_part S ρ i (part S i q) (λ e. not_lambda k o (sym n.kind ∙ e)) (λ g. part_out S ok.nodes i q g n.below p) r.covers;
        all = r.all;
        cells = r.cells;
      }

  -- the body of a function is ready where the function's environment and the argument are well-typed
  pub ready_body : {V : Type 0} (f : ℕ) (ρ : Environment V) (v : Value V) (cs : List (Cell V)) → Node S Lambda f → Covers S ρ f → EnvTyped S cs ρ →
      HasType S cs v (argument_at S f) → StoreTyped S cs → Ready S (part S f 0) (bind f v ρ) cs
  ready_body f ρ v cs n c a h o =
      let p : 0 < parts_of (S.node f).kind = subst (λ (x : Kind). 0 < parts_of x) (sym n.kind) (omega arith) in
      record {
        below = omega (arith, n.below);
        covers = covers_body S ρ f (part S f 0) v (λ g. part_out S ok.nodes f 0 g n.below p) c;
        all = (h, a);
        cells = o;
      }

module _ {V : Type 0} (S : Sheet) where
  -- what is ready stays so in a later store
  pub ready_later : (i : ℕ) (ρ : Environment V) (cs cs' : List (Cell V)) → KeepsSites cs cs' → StoreTyped S cs' → Ready S i ρ cs → Ready S i ρ cs'
  ready_later i ρ cs cs' h o r = record { below = r.below; covers = r.covers; all = env_keeps S cs cs' h ρ r.all; cells = o }
