-- What the station's theorem rests on: facts about the runs of an admitted sheet, and about its sites and entries.
use Rattle.std.proofs.Common.{◌≡◌, ℕ, ◌<◌, Bool, true, false, List, length, get_or}
use Rattle.number.specs.NumberKind.{NumberKind}
use Rattle.sheet.specs.Sets.{has}
use Rattle.sheet.specs.Sheet.{Sheet}
use Rattle.evaluation.specs.declared.ending.Stop.TheVariants.{FuelSpent, PendingFull, BindingsFull, CellsFull, Stuck}
use Rattle.evaluation.specs.Values.{number, closure, reference, Outcome, done, stopped}
use Rattle.evaluation.specs.Runs.{run, numbers_after}
use Rattle.typing.specs.Rules.{set_at, control_at}
use Rattle.station.specs.Calls.{zero_number, is_channel}

-- an outcome that is done with a number, or stopped and not stuck
abbrev pub EndsWell : {V : Type 0} → Outcome V → Type 0
EndsWell (done (number v) s) = Unit {0}
EndsWell (done (closure f ρ) s) = ⊥
EndsWell (done (reference a) s) = ⊥
EndsWell (stopped FuelSpent t) = Unit {0}
EndsWell (stopped PendingFull t) = Unit {0}
EndsWell (stopped BindingsFull t) = Unit {0}
EndsWell (stopped CellsFull t) = Unit {0}
EndsWell (stopped (Stuck i) t) = ⊥

module _ (M : NumberKind) (S : Sheet) where
  -- the labels of what site s holds
  abbrev pub content_set : ℕ → ℕ
  content_set s = (S.type (S.site s).content).set

  -- each label of the set A flows to the observer, whose labels are O
  abbrev pub SeenBy : (ℕ → Bool) → ℕ → Type 0
  SeenBy O A = (k : ℕ) → has k A ≡ true → O k ≡ true

  -- two lists of numbers agree at each channel whose content the observer may see
  abbrev pub Agree : (ℕ → Bool) → List M.Value → List M.Value → Type 0
  Agree O ns ns' = (s : ℕ) → is_channel S s ≡ true → SeenBy O (content_set s) → get_or ns s (zero_number S M) ≡ get_or ns' s (zero_number S M)

  -- of two runs of entry e that are both done with a number: what they leave agrees, and so do the numbers where the observer may see
  -- the root's
  abbrev pub BothAgree : (ℕ → Bool) → ℕ → Outcome M.Value → Outcome M.Value → List M.Value → List M.Value → Type 0
  BothAgree O e (done (number v) s) (done (number v') s') ns ns' =
      Agree O (numbers_after (done (number v) s) ns) (numbers_after (done (number v') s') ns')
      × (SeenBy O (set_at S (S.entry e).root) → v ≡ v')
  BothAgree O e (done (number v) s) (done (closure f ρ) s') ns ns' = Unit {0}
  BothAgree O e (done (number v) s) (done (reference a) s') ns ns' = Unit {0}
  BothAgree O e (done (number v) s) (stopped x t) ns ns' = Unit {0}
  BothAgree O e (done (closure f ρ) s) o ns ns' = Unit {0}
  BothAgree O e (done (reference a) s) o ns ns' = Unit {0}
  BothAgree O e (stopped x t) o ns ns' = Unit {0}

  pub record Assured (flows : ℕ → ℕ → Bool) : Type 0 where
    -- a site's label is one of its content's labels, and these all flow to it
    pub owned : (s : ℕ) → s < S.sites → has (S.site s).label (content_set s) ≡ true
    pub held : (s a : ℕ) → s < S.sites → has a (content_set s) ≡ true → flows a (S.site s).label ≡ true
    -- an entry's label is in its root's control set, and the labels of the root's number all flow to it
    pub controls : (e : ℕ) → e < S.entries → has (S.entry e).label (control_at S (S.entry e).root) ≡ true
    pub results : (e a : ℕ) → e < S.entries → has a (set_at S (S.entry e).root) ≡ true → flows a (S.entry e).label ≡ true
    -- soundness, confinement, and two runs
    pub sound : (fuel e : ℕ) (ns : List M.Value) → e < S.entries → length ns ≡ S.sites → EndsWell (run M S fuel e ns)
    pub confined :
        (b fuel e a : ℕ) (ns : List M.Value) → e < S.entries → length ns ≡ S.sites
        → has a (control_at S (S.entry e).root) ≡ true → flows a b ≡ false
        → Agree (λ x. flows x b) (numbers_after (run M S fuel e ns) ns) ns
    pub lockstep :
        (b fuel fuel' e : ℕ) (ns ns' : List M.Value) → e < S.entries → length ns ≡ S.sites → length ns' ≡ S.sites
        → Agree (λ x. flows x b) ns ns' → BothAgree (λ x. flows x b) e (run M S fuel e ns) (run M S fuel' e ns') ns ns'
