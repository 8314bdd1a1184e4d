-- What an admitted sheet is, said of all its rows: as tests that hold of each, and as facts.
use Rattle.std.specs.Prelude.{◌≡◌, ℕ, ◌<◌, ◌≤◌, Bool, true, false, List}
use Rattle.sheet.specs.declared.row.Row.{Row}
use Rattle.sheet.specs.declared.decoded.Form.TheVariants as form
use Rattle.sheet.specs.declared.decoded.Kind.TheVariants as kind
use Rattle.sheet.specs.declared.decoded.Flag.TheVariants as flag
use Rattle.sheet.specs.Asked.{passed, Each}
use Rattle.sheet.specs.Sets.{has}
use Rattle.sheet.specs.Sheet.{Sheet, view, InSpan}
use Rattle.shaping.specs.Meaning.{IsShaped, Nesting, Forest}
use Rattle.typing.specs.Tests.{typed, controlled}
use Rattle.typing.specs.Rules.{Fit, form_at, set_at, control_at, KeepsRules}
use Rattle.admission.specs.Questions.{type_labels, site_label, node_labels, entry_label, site_owned, site_flows, entry_rooted, entry_flows}
use Rattle.admission.specs.Verdict.{admission_verdict}

-- of n labels, a label flows to itself, and no label at or above n is in a pair
pub record PolicyLaw (n : ℕ) (flows : ℕ → ℕ → Bool) : Type 0 where
  pub counted : (1 ≤ n) × (n ≤ 32)
  pub reflexive : (a : ℕ) → a < n → flows a a ≡ true
  pub sources : (a b : ℕ) → n ≤ a → flows a b ≡ false
  pub targets : (a b : ℕ) → n ≤ b → flows a b ≡ false

-- the sheet passes every question of admission
abbrev pub IsAdmitted : ℕ → (ℕ → ℕ → Bool) → Sheet → Type 0
IsAdmitted n flows S = passed (admission_verdict n flows S) ≡ true

-- each question holds of each row that it is about
pub record Accepted (n : ℕ) (flows : ℕ → ℕ → Bool) (S : Sheet) : Type 0 where
  pub types : Each S.types (type_labels n S)
  pub sites : Each S.sites (site_label n S)
  pub nodes : Each S.nodes (node_labels n S)
  pub entries : Each S.entries (entry_label n S)
  pub owners : Each S.sites (site_owned S)
  pub contents : Each S.sites (site_flows flows S)
  pub type_rule : Each S.nodes (typed S)
  pub control_rule : Each S.nodes (controlled S)
  pub roots : Each S.entries (entry_rooted S)
  pub results : Each S.entries (entry_flows flows S)

-- a sheet is admitted exactly when each question holds of each row
abbrev pub AdmittedExactly : Type 0
AdmittedExactly =
    (n : ℕ) (flows : ℕ → ℕ → Bool) (S : Sheet) → (IsAdmitted n flows S → Accepted n flows S) × (Accepted n flows S → IsAdmitted n flows S)

-- what shaping says of a sheet, as facts: its nodes are trees, those of its entries; variables stand in the functions that they
-- name; references, new nodes and channel nodes name sites that exist; and a channel holds a number
pub record WellShaped (S : Sheet) : Type 0 where
  pub nesting : Nesting S
  pub forest : Forest S
  pub typed : (i : ℕ) → i < S.nodes → (S.node i).ty < S.types
  pub variable : (i : ℕ) → i < S.nodes → (S.node i).kind ≡ kind.Variable →
      ((S.node i).argument < S.nodes) × ((S.node (S.node i).argument).kind ≡ kind.Lambda) × (i < (S.node i).argument) × InSpan S (S.node i).argument i
  pub references : (t s : ℕ) → t < S.types → (S.type t).form ≡ form.Reference → has s (S.type t).sites ≡ true → s < S.sites
  pub fresh : (i : ℕ) → i < S.nodes → (S.node i).kind ≡ kind.New → ((S.node i).argument < S.sites) × ((S.site (S.node i).argument).flag ≡ flag.Fresh)
  pub channel : (i : ℕ) → i < S.nodes → (S.node i).kind ≡ kind.Channel → ((S.node i).argument < S.sites) × ((S.site (S.node i).argument).flag ≡ flag.Channel)
  pub contents : (s : ℕ) → s < S.sites → (S.site s).content < S.types
  pub numeric : (s : ℕ) → s < S.sites → (S.site s).flag ≡ flag.Channel → (S.type (S.site s).content).form ≡ form.Number

-- what admission adds, as facts: all labels are below n; every node keeps its rules; a site's label is one of its content's, whose
-- labels all flow to it; an entry's root gives a number under the entry's label, and the labels of that number all flow to it
pub record Admissible (n : ℕ) (flows : ℕ → ℕ → Bool) (S : Sheet) : Type 0 where
  pub shape : WellShaped S
  pub type_below : (t a : ℕ) → t < S.types → has a (S.type t).set ≡ true → a < n
  pub effect_below : (t a : ℕ) → t < S.types → has a (S.type t).effect ≡ true → a < n
  pub control_below : (i a : ℕ) → i < S.nodes → has a (S.node i).control ≡ true → a < n
  pub site_below : (s : ℕ) → s < S.sites → (S.site s).label < n
  pub entry_below : (e : ℕ) → e < S.entries → (S.entry e).label < n
  pub rules : KeepsRules S
  pub owned : (s : ℕ) → s < S.sites → has (S.site s).label (S.type (S.site s).content).set ≡ true
  pub held : (s a : ℕ) → s < S.sites → has a (S.type (S.site s).content).set ≡ true → flows a (S.site s).label ≡ true
  pub number : (e : ℕ) → e < S.entries → form_at S (S.entry e).root ≡ form.Number
  pub control : (e : ℕ) → e < S.entries → has (S.entry e).label (control_at S (S.entry e).root) ≡ true
  pub result : (e a : ℕ) → e < S.entries → has a (set_at S (S.entry e).root) ≡ true → flows a (S.entry e).label ≡ true

-- an admitted sheet keeps the rules
abbrev pub AdmittedKeepsRules : Type 0
AdmittedKeepsRules =
    (n : ℕ) (flows : ℕ → ℕ → Bool) (rs : List Row) → IsShaped rs → IsAdmitted n flows (view rs) → Admissible n flows (view rs)

-- some policy admits the sheet
abbrev pub SomePolicyAdmits : Sheet → Type 0
SomePolicyAdmits S = (n : ℕ) × (flows : ℕ → ℕ → Bool) × PolicyLaw n flows × IsAdmitted n flows S

-- in a shaped sheet each type fits itself, and what fits a type that fits a third fits the third
abbrev pub FitsPreorder : Type 0
FitsPreorder =
    (rs : List Row) → IsShaped rs
    → ((X : ℕ) → X < (view rs).types → Fit (view rs) X X) × ((X Y Z : ℕ) → Fit (view rs) X Y → Fit (view rs) Y Z → Fit (view rs) X Z)

-- some policy under which the sheet keeps the rules
abbrev pub Keeps : Sheet → Type 0
Keeps S = (n : ℕ) × (flows : ℕ → ℕ → Bool) × PolicyLaw n flows × Admissible n flows S
