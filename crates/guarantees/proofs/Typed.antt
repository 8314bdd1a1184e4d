-- Well-typed values, environments and stores.
use Rattle.std.proofs.Common.{◌≡◌, ℕ, ◌<◌, true, List, Some}
use Rattle.std.specs.List.{slice_get}
use Rattle.sheet.specs.declared.decoded.Form.TheVariants as form
use Rattle.sheet.specs.declared.decoded.Flag.TheVariants as flag
use Rattle.sheet.specs.declared.decoded.Kind.TheVariants.{Lambda}
use Rattle.sheet.specs.Sets.{has}
use Rattle.sheet.specs.Sheet.{Sheet}
use Rattle.evaluation.specs.Values.{Value, number, closure, reference, Environment, empty, bind, Cell, lookup}
use Rattle.typing.specs.Rules.{type_at, argument_at}
use Rattle.guarantees.specs.Sheets.{Inside}
use Rattle.guarantees.proofs.Fitting.{Upto}

-- the cell at address a was made at site s
abbrev pub AtSite : {V : Type 0} → List (Cell V) → ℕ → ℕ → Type 0
AtSite {V} cs a s = (c : Cell V) × (slice_get cs a ≡ Some c) × (c.site ≡ s)

-- a reference may name address a: a channel's place or a fresh cell, and not the unused place of a fresh site
abbrev pub Live : Sheet → ℕ → Type 0
Live S a = a < S.sites → (S.site a).flag ≡ flag.Channel

module _ {V : Type 0} (S : Sheet) where
  -- the environment binds each variable that node i may name
  abbrev pub Covers : Environment V → ℕ → Type 0
  Covers ρ i = (g : ℕ) → g < S.nodes → (S.node g).kind ≡ Lambda → Inside S i g → (v : Value V) × (lookup g ρ ≡ Some v)

  abbrev mutual
    -- the value is of type t, in a store with these cells
    pub HasType : List (Cell V) → Value V → ℕ → Type 0
    HasType cs (number n) t = (S.type t).form ≡ form.Number
    HasType cs (closure f ρ) t = (f < S.nodes) × ((S.node f).kind ≡ Lambda) × Upto S (type_at S f) t × Covers ρ f × EnvTyped cs ρ
    HasType cs (reference a) t =
        ((S.type t).form ≡ form.Reference) × Live S a × ((s : ℕ) × AtSite cs a s × (has s (S.type t).sites ≡ true))

    -- each value of the environment is of its function's argument type
    pub EnvTyped : List (Cell V) → Environment V → Type 0
    EnvTyped cs empty = Unit {0}
    EnvTyped cs (bind f v ρ) = HasType cs v (argument_at S f) × EnvTyped cs ρ

  -- each site has its place, and each cell that may be named holds a value of its site's content type
  pub record StoreTyped (cs : List (Cell V)) : Type 0 where
    pub places : (a : ℕ) → a < S.sites → AtSite cs a a
    pub typed : (a : ℕ) (c : Cell V) → slice_get cs a ≡ Some c → Live S a → HasType cs c.value (S.site c.site).content
