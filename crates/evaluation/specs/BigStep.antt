-- The big-step semantics of formulas, as a relation: in an environment and from a store, a node comes to a
-- value and leaves a store. One rule for each form; counts, fuel and limits have no part in it.
use Rattle.std.specs.Prelude.{◌≡◌, ℕ, true, false, List, [], ◌∷◌, ◌++◌, length, set, Some}
use Rattle.std.specs.List.{slice_get}
use Rattle.number.specs.NumberKind.{NumberKind}
use Rattle.sheet.specs.declared.decoded.Kind.TheVariants.{Literal, Variable, Lambda, Application, New, Channel, Read, Write, Choice, Operation}
use Rattle.sheet.specs.Sheet.{Sheet, last_part, part}
use Rattle.evaluation.specs.Values.{Value, number, closure, reference, Environment, bind, Cell, lookup}
use Rattle.evaluation.specs.Evaluation.{operation as operation_of}

-- the cells by their addresses
abbrev pub Store : Type 0 → Type 0
Store V = List (Cell V)

-- `Derives M S ρ μ i v μ'`: in the environment ρ and from the store μ, node i comes to v and leaves the store μ'
pub data Derives (M : NumberKind) (S : Sheet) : Environment M.Value → Store M.Value → ℕ → Value M.Value → Store M.Value → Type 0 where
  -- ρ, μ ⊢ n ⇓ n, μ
  literal : {ρ : Environment M.Value} {μ : Store M.Value} {i : ℕ}
      → (S.node i).kind ≡ Literal
      → Derives M S ρ μ i (number (M.whole (S.node i).literal)) μ
  -- ρ(x) = v  ⟹  ρ, μ ⊢ x ⇓ v, μ
  variable : {ρ : Environment M.Value} {μ : Store M.Value} {i : ℕ} {v : Value M.Value}
      → (S.node i).kind ≡ Variable
      → lookup (S.node i).argument ρ ≡ Some v
      → Derives M S ρ μ i v μ
  -- ρ, μ ⊢ λx. e ⇓ ⟨λx. e, ρ⟩, μ
  lambda : {ρ : Environment M.Value} {μ : Store M.Value} {i : ℕ}
      → (S.node i).kind ≡ Lambda
      → Derives M S ρ μ i (closure i ρ) μ
  -- ρ, μ ⊢ e₁ ⇓ ⟨λx. e, ρ'⟩, μ₁   ρ, μ₁ ⊢ e₂ ⇓ a, μ₂   ρ'[x ↦ a], μ₂ ⊢ e ⇓ v, μ₃  ⟹  ρ, μ ⊢ e₁ e₂ ⇓ v, μ₃
  application : {ρ : Environment M.Value} {μ : Store M.Value} {i : ℕ} {v : Value M.Value} {μ₃ : Store M.Value}
      (f : ℕ) (ρ' : Environment M.Value) (a : Value M.Value) (μ₁ μ₂ : Store M.Value)
      → (S.node i).kind ≡ Application
      → Derives M S ρ μ (part S i 1) (closure f ρ') μ₁
      → Derives M S ρ μ₁ (part S i 0) a μ₂
      → Derives M S (bind f a ρ') μ₂ (last_part f) v μ₃
      → Derives M S ρ μ i v μ₃
  -- ρ, μ ⊢ e ⇓ v, μ₁   l the first address that is not in μ₁  ⟹  ρ, μ ⊢ new e ⇓ l, μ₁[l ↦ v]
  new : {ρ : Environment M.Value} {μ : Store M.Value} {i : ℕ}
      (v : Value M.Value) (μ₁ : Store M.Value)
      → (S.node i).kind ≡ New
      → Derives M S ρ μ (part S i 0) v μ₁
      → Derives M S ρ μ i (reference (length μ₁)) (μ₁ ++ record { site = (S.node i).argument; value = v } ∷ [])
  -- a channel's address is its site's number: ρ, μ ⊢ c ⇓ c, μ
  channel : {ρ : Environment M.Value} {μ : Store M.Value} {i : ℕ}
      → (S.node i).kind ≡ Channel
      → Derives M S ρ μ i (reference (S.node i).argument) μ
  -- ρ, μ ⊢ e ⇓ l, μ₁   μ₁(l) = v  ⟹  ρ, μ ⊢ !e ⇓ v, μ₁
  read : {ρ : Environment M.Value} {μ : Store M.Value} {i : ℕ} {μ₁ : Store M.Value}
      (l : ℕ) (c : Cell M.Value)
      → (S.node i).kind ≡ Read
      → Derives M S ρ μ (part S i 0) (reference l) μ₁
      → slice_get μ₁ l ≡ Some c
      → Derives M S ρ μ i c.value μ₁
  -- ρ, μ ⊢ e₁ ⇓ l, μ₁   ρ, μ₁ ⊢ e₂ ⇓ v, μ₂   l in μ₂  ⟹  ρ, μ ⊢ e₁ := e₂ ⇓ v, μ₂[l ↦ v]; the cell keeps its site
  write : {ρ : Environment M.Value} {μ : Store M.Value} {i : ℕ} {v : Value M.Value}
      (l : ℕ) (c : Cell M.Value) (μ₁ μ₂ : Store M.Value)
      → (S.node i).kind ≡ Write
      → Derives M S ρ μ (part S i 1) (reference l) μ₁
      → Derives M S ρ μ₁ (part S i 0) v μ₂
      → slice_get μ₂ l ≡ Some c
      → Derives M S ρ μ i v (set μ₂ l (record { site = c.site; value = v }))
  -- ρ, μ ⊢ e₁ ⇓ n, μ₁   n zero   ρ, μ₁ ⊢ e₃ ⇓ v, μ₂  ⟹  ρ, μ ⊢ if e₁ then e₂ else e₃ ⇓ v, μ₂
  choice_zero : {ρ : Environment M.Value} {μ : Store M.Value} {i : ℕ} {v : Value M.Value} {μ₂ : Store M.Value}
      (n : M.Value) (μ₁ : Store M.Value)
      → (S.node i).kind ≡ Choice
      → Derives M S ρ μ (part S i 2) (number n) μ₁
      → M.is_zero n ≡ true
      → Derives M S ρ μ₁ (part S i 0) v μ₂
      → Derives M S ρ μ i v μ₂
  -- ρ, μ ⊢ e₁ ⇓ n, μ₁   n not zero   ρ, μ₁ ⊢ e₂ ⇓ v, μ₂  ⟹  ρ, μ ⊢ if e₁ then e₂ else e₃ ⇓ v, μ₂
  choice_nonzero : {ρ : Environment M.Value} {μ : Store M.Value} {i : ℕ} {v : Value M.Value} {μ₂ : Store M.Value}
      (n : M.Value) (μ₁ : Store M.Value)
      → (S.node i).kind ≡ Choice
      → Derives M S ρ μ (part S i 2) (number n) μ₁
      → M.is_zero n ≡ false
      → Derives M S ρ μ₁ (part S i 1) v μ₂
      → Derives M S ρ μ i v μ₂
  -- ρ, μ ⊢ e₁ ⇓ m, μ₁   ρ, μ₁ ⊢ e₂ ⇓ n, μ₂  ⟹  ρ, μ ⊢ e₁ ⊕ e₂ ⇓ m ⊕ n, μ₂
  operation : {ρ : Environment M.Value} {μ : Store M.Value} {i : ℕ} {μ₂ : Store M.Value}
      (m n : M.Value) (μ₁ : Store M.Value)
      → (S.node i).kind ≡ Operation
      → Derives M S ρ μ (part S i 1) (number m) μ₁
      → Derives M S ρ μ₁ (part S i 0) (number n) μ₂
      → Derives M S ρ μ i (number (operation_of M (S.node i).argument m n)) μ₂

-- the relation is a function: from one environment, store and node it derives at most one value and one store
abbrev pub Deterministic : NumberKind → Type 0
Deterministic M =
    (S : Sheet) (ρ : Environment M.Value) (μ : Store M.Value) (i : ℕ) (v w : Value M.Value) (μ₁ μ₂ : Store M.Value)
    → Derives M S ρ μ i v μ₁ → Derives M S ρ μ i w μ₂ → (v ≡ w) × (μ₁ ≡ μ₂)
