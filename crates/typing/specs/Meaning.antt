-- The tests say what the rules say.
use Rattle.std.specs.Prelude.{◌≡◌, ℕ, ◌<◌, true}
use Rattle.sheet.specs.declared.decoded.Form.TheVariants as form
use Rattle.sheet.specs.declared.decoded.Kind.TheVariants as kind
use Rattle.sheet.specs.declared.decoded.Flag.TheVariants as flag
use Rattle.sheet.specs.Sets.{has}
use Rattle.sheet.specs.Sheet.{Sheet}
use Rattle.typing.specs.Fitting.{fit, raised_fit}
use Rattle.typing.specs.Tests.{typed, controlled}
use Rattle.typing.specs.Rules.{Fit, Raised, Typed, Controlled, form_at, sites_at}

-- each of two follows from the other
abbrev pub Iff : Type 0 → Type 0 → Type 0
Iff A B = (A → B) × (B → A)

-- the test of fitting says what fitting is, of all types, raised or not
abbrev pub FitsExactly : Type 0
FitsExactly =
    (S : Sheet) (X Y M : ℕ) → Iff (fit S X Y ≡ true) (Fit S X Y) × Iff (raised_fit S X M Y ≡ true) (Raised S X M Y)

-- what fits a type that fits a third fits the third
abbrev pub FitsTransitive : Type 0
FitsTransitive = (S : Sheet) (X Y Z : ℕ) → Fit S X Y → Fit S Y Z → Fit S X Z

-- references name sites that exist, new nodes fresh sites, and channel nodes channels
pub record NamesSites (S : Sheet) : Type 0 where
  pub references : (i s : ℕ) → i < S.nodes → form_at S i ≡ form.Reference → has s (sites_at S i) ≡ true → s < S.sites
  pub fresh : (i : ℕ) → i < S.nodes → (S.node i).kind ≡ kind.New → (S.site (S.node i).argument).flag ≡ flag.Fresh
  pub channel : (i : ℕ) → i < S.nodes → (S.node i).kind ≡ kind.Channel → (S.site (S.node i).argument).flag ≡ flag.Channel

-- the tests of questions 34 and 35 say what the type rule and the control rule are
abbrev pub RulesExactly : Type 0
RulesExactly =
    (S : Sheet) → NamesSites S → (i : ℕ) → i < S.nodes
    → Iff (typed S i ≡ true) (Typed S (S.node i).kind i) × Iff (controlled S i ≡ true) (Controlled S (S.node i).kind i)
