-- The type rules as a relation over the tree of a node: one constructor a rule. The rules are those of nontransitive security types
-- (Lu and Zhang), with the labels of the applied function counted into the effect.
use Rattle.std.specs.Prelude.{◌≡◌, ℕ, ◌<◌, true, List}
use Rattle.sheet.specs.declared.row.Row.{Row}
use Rattle.sheet.specs.declared.decoded.Form.TheVariants as form
use Rattle.sheet.specs.declared.decoded.Kind.TheVariants.{Literal, Variable, Lambda, Application, New, Channel, Read, Write, Choice, Operation}
use Rattle.sheet.specs.Sets.{has}
use Rattle.sheet.specs.Sheet.{Sheet, view, part}
use Rattle.shaping.specs.Meaning.{IsShaped}
use Rattle.typing.specs.Rules.{Within, Fit, Raised, type_at, form_at, set_at, control_at, argument_at, result_at, effect_at, sites_at}
use Rattle.typing.specs.Tests.{typed, controlled}

-- node i has its type, under its control set. Parts are counted from the last, which is part 0
pub data Derivation (S : Sheet) : ℕ → Type 0 where
  -- a literal is a number
  literal : (i : ℕ) → (S.node i).kind ≡ Literal → form_at S i ≡ form.Number → Derivation S i
  -- a variable is of a type that its function's argument type fits
  variable : (i : ℕ) → (S.node i).kind ≡ Variable → form_at S (S.node i).argument ≡ form.Function →
      Fit S (argument_at S (S.node i).argument) (type_at S i) → Derivation S i
  -- a function: its body fits the result, and runs under the effect
  lambda : (i : ℕ) → (S.node i).kind ≡ Lambda → form_at S i ≡ form.Function →
      Derivation S (part S i 0) → Fit S (type_at S (part S i 0)) (result_at S i) → Within (effect_at S i) (control_at S (part S i 0)) → Derivation S i
  -- an application: the argument fits, the effect has the function's own labels and the control set, and the result is raised by
  -- the function's labels
  application : (i : ℕ) → (S.node i).kind ≡ Application → form_at S (part S i 1) ≡ form.Function →
      Derivation S (part S i 1) → Within (control_at S i) (control_at S (part S i 1)) →
      Derivation S (part S i 0) → Within (control_at S i) (control_at S (part S i 0)) →
      Fit S (type_at S (part S i 0)) (argument_at S (part S i 1)) →
      Within (set_at S (part S i 1)) (effect_at S (part S i 1)) → Within (control_at S i) (effect_at S (part S i 1)) →
      Raised S (result_at S (part S i 1)) (set_at S (part S i 1)) (type_at S i) → Derivation S i
  -- a fresh cell holds its first value, raised by the control set
  new : (i : ℕ) → (S.node i).kind ≡ New → form_at S i ≡ form.Reference → has (S.node i).argument (sites_at S i) ≡ true →
      Derivation S (part S i 0) → Within (control_at S i) (control_at S (part S i 0)) →
      Raised S (type_at S (part S i 0)) (control_at S i) (S.site (S.node i).argument).content → Derivation S i
  -- a channel is a reference to its site
  channel : (i : ℕ) → (S.node i).kind ≡ Channel → form_at S i ≡ form.Reference → has (S.node i).argument (sites_at S i) ≡ true → Derivation S i
  -- a read gives what any of the reference's sites may hold, raised by the reference's labels
  read : (i : ℕ) → (S.node i).kind ≡ Read → form_at S (part S i 0) ≡ form.Reference →
      Derivation S (part S i 0) → Within (control_at S i) (control_at S (part S i 0)) →
      ((s : ℕ) → has s (sites_at S (part S i 0)) ≡ true → Raised S (S.site s).content (set_at S (part S i 0)) (type_at S i)) → Derivation S i
  -- a write: each of the reference's sites may hold the value, raised by the reference's labels, under the control set
  write : (i : ℕ) → (S.node i).kind ≡ Write → form_at S (part S i 1) ≡ form.Reference →
      Derivation S (part S i 1) → Within (control_at S i) (control_at S (part S i 1)) →
      Derivation S (part S i 0) → Within (control_at S i) (control_at S (part S i 0)) →
      ((s : ℕ) → has s (sites_at S (part S i 1)) ≡ true →
      Raised S (type_at S (part S i 0)) (set_at S (part S i 1)) (S.site s).content × Within (control_at S i) (S.type (S.site s).content).set) →
      Fit S (type_at S (part S i 0)) (type_at S i) → Derivation S i
  -- a choice: the condition's labels are in the result's, and in the control sets of both branches
  choice : (i : ℕ) → (S.node i).kind ≡ Choice → form_at S (part S i 2) ≡ form.Number →
      Derivation S (part S i 2) → Within (control_at S i) (control_at S (part S i 2)) →
      Derivation S (part S i 1) → Within (control_at S i) (control_at S (part S i 1)) → Within (set_at S (part S i 2)) (control_at S (part S i 1)) →
      Derivation S (part S i 0) → Within (control_at S i) (control_at S (part S i 0)) → Within (set_at S (part S i 2)) (control_at S (part S i 0)) →
      Fit S (type_at S (part S i 1)) (type_at S i) → Fit S (type_at S (part S i 0)) (type_at S i) → Within (set_at S (part S i 2)) (set_at S i) →
      Derivation S i
  -- an operation on two numbers has the labels of both
  operation : (i : ℕ) → (S.node i).kind ≡ Operation → form_at S i ≡ form.Number → form_at S (part S i 1) ≡ form.Number → form_at S (part S i 0) ≡ form.Number →
      Derivation S (part S i 1) → Within (control_at S i) (control_at S (part S i 1)) →
      Derivation S (part S i 0) → Within (control_at S i) (control_at S (part S i 0)) →
      Within (set_at S (part S i 1)) (set_at S i) → Within (set_at S (part S i 0)) (set_at S i) → Derivation S i

-- each entry's root has a derivation
abbrev pub EntriesDerived : Sheet → Type 0
EntriesDerived S = (e : ℕ) → e < S.entries → Derivation S (S.entry e).root

-- a shaped sheet whose entries have derivations answers questions 34 and 35 with yes, of each node
abbrev pub DerivedPasses : Type 0
DerivedPasses =
    (rs : List Row) → IsShaped rs → EntriesDerived (view rs) → (i : ℕ) → i < (view rs).nodes → (typed (view rs) i ≡ true) × (controlled (view rs) i ≡ true)
