-- What the theorems promise of the runs of a sheet, in terms of what a run tells and what it leaves in the channels.
use Rattle.std.specs.Prelude.{◌≡◌, ℕ, ◌<◌, Bool, true, false, ◌≢◌, List, length}
use Rattle.std.specs.List.{slice_get}
use Rattle.number.specs.NumberKind.{NumberKind}
use Rattle.sheet.specs.declared.row.Row.{Row}
use Rattle.sheet.specs.Sets.{has}
use Rattle.sheet.specs.Sheet.{Sheet, view}
use Rattle.shaping.specs.Meaning.{IsShaped}
use Rattle.evaluation.specs.declared.ending.Ending.{Ending}
use Rattle.evaluation.specs.declared.ending.Ending.TheVariants.{Number}
use Rattle.evaluation.specs.Endings.{number_of}
use Rattle.evaluation.specs.Runs.{numbers_after, run, run_report}
use Rattle.typing.specs.Rules.{set_at, control_at}
use Rattle.admission.specs.Meaning.{IsAdmitted}
use Rattle.guarantees.specs.Sheets.{Channel, Visible, content_set}

-- of every sheet that is shaped, and that is admitted under a relation of n labels
abbrev pub OfAdmitted : ((ℕ → ℕ → Bool) → Sheet → Type 0) → Type 0
OfAdmitted P = (n : ℕ) (flows : ℕ → ℕ → Bool) (rs : List Row) → IsShaped rs → IsAdmitted n flows (view rs) → P flows (view rs)

-- an ending other than stuck, 5, and no number, 6
pub record EndsSoundly (e : Ending) : Type 0 where
  pub not_stuck : number_of e ≢ 5
  pub a_number : number_of e ≢ 6

-- the labels that flow to b
abbrev pub flowing_to : (ℕ → ℕ → Bool) → ℕ → ℕ → Bool
flowing_to flows b a = flows a b

-- the channels that b may see, those whose content's labels all flow to b, hold the same numbers
abbrev pub ChannelsAgree : {V : Type 0} → (ℕ → ℕ → Bool) → Sheet → ℕ → List V → List V → Type 0
ChannelsAgree flows S b ns ns' = (s : ℕ) → Channel S s → Visible (flowing_to flows b) (content_set S s) → slice_get ns s ≡ slice_get ns' s

module _ (M : NumberKind) where
  -- a run of an entry, whatever the sites hold, is not stuck, and if it is done then with a number
  abbrev pub Soundness : Sheet → Type 0
  Soundness S =
      (fuel e : ℕ) (ns : List M.Value) → e < S.entries → length ns ≡ S.sites → EndsSoundly (run_report M S fuel e ns).ending

  -- a run whose root's control set has a label k that may not flow to b changes no channel that b may see
  abbrev pub Confinement : (ℕ → ℕ → Bool) → Sheet → Type 0
  Confinement flows S =
      (b k fuel e : ℕ) (ns : List M.Value) → e < S.entries → length ns ≡ S.sites →
      has k (control_at S (S.entry e).root) ≡ true → flows k b ≡ false →
      ChannelsAgree flows S b (numbers_after (run M S fuel e ns) ns) ns

  -- two runs of entry e that ended in a number, perhaps with different fuel, from numbers ns and ns': the channels that b may see
  -- hold the same again, and if b may see the root's type the numbers are the same
  pub record Alike (flows : ℕ → ℕ → Bool) (S : Sheet) (b fuel fuel' e : ℕ) (ns ns' : List M.Value) : Type 0 where
    pub channels : ChannelsAgree flows S b (numbers_after (run M S fuel e ns) ns) (numbers_after (run M S fuel' e ns') ns')
    pub number : Visible (flowing_to flows b) (set_at S (S.entry e).root) → (run_report M S fuel e ns).number ≡ (run_report M S fuel' e ns').number

  -- two runs of one entry, from numbers that are the same in the channels that b may see, are alike to b if both end in a number
  abbrev pub TwoRuns : (ℕ → ℕ → Bool) → Sheet → Type 0
  TwoRuns flows S =
      (b fuel fuel' e : ℕ) (ns ns' : List M.Value) → e < S.entries → length ns ≡ S.sites → length ns' ≡ S.sites →
      ChannelsAgree flows S b ns ns' →
      (run_report M S fuel e ns).ending ≡ Number → (run_report M S fuel' e ns').ending ≡ Number →
      Alike flows S b fuel fuel' e ns ns'

  -- what the relation means to party b: an entry whose label may not flow to b changes no channel of b's; and two runs of an entry of
  -- b's own, from numbers that are the same in the channels that b may see, end in the same number if both end in one
  pub record Unswayed (flows : ℕ → ℕ → Bool) (S : Sheet) (b : ℕ) : Type 0 where
    pub channels : (fuel e s : ℕ) (ns : List M.Value) → e < S.entries → length ns ≡ S.sites → flows (S.entry e).label b ≡ false →
        Channel S s → (S.site s).label ≡ b → slice_get (numbers_after (run M S fuel e ns) ns) s ≡ slice_get ns s
    pub figures : (fuel fuel' e : ℕ) (ns ns' : List M.Value) → e < S.entries → length ns ≡ S.sites → length ns' ≡ S.sites →
        (S.entry e).label ≡ b → ChannelsAgree flows S b ns ns' →
        (run_report M S fuel e ns).ending ≡ Number → (run_report M S fuel' e ns').ending ≡ Number →
        (run_report M S fuel e ns).number ≡ (run_report M S fuel' e ns').number

  -- of every party
  abbrev pub Parties : (ℕ → ℕ → Bool) → Sheet → Type 0
  Parties flows S = (b : ℕ) → Unswayed flows S b
