-- What the theorems ask of a sheet, and what an observer may see of it.
use Rattle.std.specs.Prelude.{◌≡◌, ℕ, ◌<◌, Bool, true}
use Rattle.sheet.specs.declared.decoded.Form.TheVariants as form
use Rattle.sheet.specs.declared.decoded.Flag.TheVariants as flag
use Rattle.sheet.specs.Sets.{has}
use Rattle.sheet.specs.Sheet.{Sheet, InSpan}
use Rattle.shaping.specs.Nodes.{lawful_node}
use Rattle.sheet.specs.Asked.{Each}
use Rattle.typing.specs.Rules.{form_at, KeepsRules}
use Rattle.admission.specs.Meaning.{WellShaped}

-- each entry's root gives a number
abbrev pub NumberRoots : Sheet → Type 0
NumberRoots S = (e : ℕ) → e < S.entries → form_at S (S.entry e).root ≡ form.Number

-- a well-typed sheet: its nodes are lawful, so that the parts of a node follow one another; its trees, variables, channels and
-- sites are in order; every node keeps the rules of types and control; and every entry's root gives a number
pub record TypedSheet (S : Sheet) : Type 0 where
  pub nodes : Each S.nodes (lawful_node S)
  pub shape : WellShaped S
  pub rules : KeepsRules S
  pub roots : NumberRoots S

-- node i stands strictly inside the span of node f
abbrev pub Inside : Sheet → ℕ → ℕ → Type 0
Inside S i f = InSpan S f i × (i < f)

-- site s is a channel
abbrev pub Channel : Sheet → ℕ → Type 0
Channel S s = (s < S.sites) × ((S.site s).flag ≡ flag.Channel)

-- the labels of what the cells of site s hold
abbrev pub content_set : Sheet → ℕ → ℕ
content_set S s = (S.type (S.site s).content).set

-- an observer who sees the labels of O sees what carries the labels of A: each of them is one of O
unfoldable pub Visible : (ℕ → Bool) → ℕ → Type 0
Visible O A = (k : ℕ) → has k A ≡ true → O k ≡ true
