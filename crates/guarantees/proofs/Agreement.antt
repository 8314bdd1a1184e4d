-- Values that are the same to an observer, and stores that agree where the observer sees.
use Rattle.std.proofs.Common.{◌≡◌, ℕ, Bool, ◌⊎◌, List, [], ◌∷◌, Some}
use Rattle.std.specs.List.{slice_get}
use Rattle.sheet.specs.Sheet.{Sheet}
use Rattle.evaluation.specs.Values.{Value, number, closure, reference, Environment, empty, bind, Cell}
use Rattle.typing.specs.Rules.{argument_at}
use Rattle.guarantees.specs.Sheets.{Channel, Visible, content_set}

-- which addresses of two stores are paired: fresh cells may stand at different addresses
abbrev pub Pairs : Type 0
Pairs = List (ℕ × ℕ)

-- the addresses a and b are paired
abbrev pub Paired : Pairs → ℕ → ℕ → Type 0
Paired [] a b = ⊥
Paired (p ∷ β) a b = ((p.0 ≡ a) × (p.1 ≡ b)) ⊎ Paired β a b

-- each pair of β is one of γ
abbrev pub More : Pairs → Pairs → Type 0
More β γ = (a b : ℕ) → Paired β a b → Paired γ a b

-- the observer sees the labels of O
module _ {V : Type 0} (S : Sheet) (O : ℕ → Bool) (β : Pairs) where
  abbrev mutual
    -- equal numbers, closures of one function in environments that are the same, references to paired addresses
    pub SameValue : Value V → Value V → Type 0
    SameValue (number n) (number m) = n ≡ m
    SameValue (number n) (closure g ρ') = ⊥
    SameValue (number n) (reference b) = ⊥
    SameValue (closure f ρ) (number m) = ⊥
    SameValue (closure f ρ) (closure g ρ') = (f ≡ g) × SameEnv ρ ρ'
    SameValue (closure f ρ) (reference b) = ⊥
    SameValue (reference a) (number m) = ⊥
    SameValue (reference a) (closure g ρ') = ⊥
    SameValue (reference a) (reference b) = Paired β a b

    -- bindings of the same functions, and the same values where the observer sees the argument type's labels
    pub SameEnv : Environment V → Environment V → Type 0
    SameEnv empty empty = Unit {0}
    SameEnv empty (bind g w ρ') = ⊥
    SameEnv (bind f v ρ) empty = ⊥
    SameEnv (bind f v ρ) (bind g w ρ') = (f ≡ g) × (Visible O (S.type (argument_at S f)).set → SameValue v w) × SameEnv ρ ρ'

  -- the cells at addresses a and b are of one site, and hold the same where the observer sees the content's labels
  pub record CellsAgree (cs cs' : List (Cell V)) (a b : ℕ) : Type 0 where
    pub left : Cell V
    pub right : Cell V
    pub at_left : slice_get cs a ≡ Some left
    pub at_right : slice_get cs' b ≡ Some right
    pub sited : left.site ≡ right.site
    pub same : Visible O (content_set S left.site) → SameValue left.value right.value

  -- no address is paired twice, each channel's place is paired with itself, and the cells at paired addresses agree
  pub record StoresAgree (cs cs' : List (Cell V)) : Type 0 where
    pub to : (a b b' : ℕ) → Paired β a b → Paired β a b' → b ≡ b'
    pub fro : (a a' b : ℕ) → Paired β a b → Paired β a' b → a ≡ a'
    pub places : (a : ℕ) → Channel S a → Paired β a a
    pub match : (a b : ℕ) → Paired β a b → CellsAgree cs cs' a b
