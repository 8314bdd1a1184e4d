-- What is loaded into the cells, and what is told and kept of a run.
use Rattle.std.proofs.Common.{◌≡◌, ℕ, suc, ◌+◌, List, [], ◌∷◌, map, pos, Ok, Err, Result, sym, refl, ap, ◌∙◌, subst, ap₂}
use Rattle.number.specs.NumberKind.{NumberKind}
use Rattle.number.specs.Millimetre.{clamp}
use Rattle.sheet.specs.declared.decoded.Kind.TheVariants.{Literal}
use Rattle.sheet.specs.Sheet.{Sheet}
use Rattle.evaluation.specs.declared.ending.Stop.{Stop}
use Rattle.evaluation.specs.declared.ending.Ending.TheVariants as ending
use Rattle.evaluation.specs.Values.{Cell as TreeCell, Value as Tree, number, closure, reference, empty, Outcome as TreeOutcome, done, stopped}
use Rattle.evaluation.specs.Evaluation.{most_pending, most_bindings, most_fresh, eval}
use Rattle.evaluation.specs.Runs.{site_cells, opening, number_or, written, numbers_after, report, run, run_report}
use Rattle.machine.specs.declared.values.Value.{Value}
use Rattle.machine.specs.declared.values.Value.TheVariants.{Number, Closure, Reference}
use Rattle.machine.specs.declared.values.Binding.{Binding}
use Rattle.machine.specs.declared.values.Cell.{Cell}
use Rattle.machine.specs.declared.values.Outcome.{Outcome}
use Rattle.machine.specs.Flat.{FlatOutcome, flat_eval}
use Rattle.machine.specs.Seen.{value, cells, bindings, ended, outcome, flat}
use Rattle.evaluator.specs.Runs.{limits, told, concluded, opened, number_in, taken, kept_by, kept}
use Rattle.evaluator.proofs.Carry.{Carries, Slots}
use Rattle.evaluator.proofs.Flatten.{SimO, flat as flattened}

module _ {K V : Type 0} (n : K → V) (z : V) where
  -- the same is told of both
  same_told : (bs : List (Binding V)) (o : TreeOutcome V) (a : Result (Value K) Stop) (u : ℕ) (bs' : List (Binding K)) (cs' : List (Cell K))
      → SimO bs o (ended n a u bs' cs') → told n z a u ≡ report z o
  same_told bs (done (number x) s) (Ok (Number y)) t bs' cs' h =
      ap (λ (w : V). record { ending = ending.Number; number = w; steps = t }) (sym h.1) ∙ ap (λ (w : ℕ). record { ending = ending.Number; number = x; steps = w }) (sym h.2.steps)
  same_told bs (done (number x) s) (Ok (Closure f k)) t bs' cs' h = absurd h.1
  same_told bs (done (number x) s) (Ok (Reference a)) t bs' cs' h = absurd h.1
  same_told bs (done (closure f ρ) s) (Ok (Number y)) t bs' cs' h = absurd h.1
  same_told bs (done (closure f ρ) s) (Ok (Closure g k)) t bs' cs' h = ap (λ (w : ℕ). record { ending = ending.NoNumber; number = z; steps = w }) (sym h.2.steps)
  same_told bs (done (closure f ρ) s) (Ok (Reference a)) t bs' cs' h = absurd h.1
  same_told bs (done (reference a) s) (Ok (Number y)) t bs' cs' h = absurd h.1
  same_told bs (done (reference a) s) (Ok (Closure g k)) t bs' cs' h = absurd h.1
  same_told bs (done (reference a) s) (Ok (Reference b)) t bs' cs' h = ap (λ (w : ℕ). record { ending = ending.NoNumber; number = z; steps = w }) (sym h.2.steps)
  same_told bs (done v s) (Err e) t bs' cs' h = absurd h
  same_told bs (stopped e t) (Ok v) u bs' cs' h = absurd h
  same_told bs (stopped e t) (Err e') t' bs' cs' h =
      ap (λ (w : Stop). record { ending = ending.Stopped w; number = z; steps = t' }) (sym h.0) ∙ ap (λ (w : ℕ). record { ending = ending.Stopped e; number = z; steps = w }) (sym h.1)

module _ {K V : Type 0} (n : K → V) where
  -- the loaded cells carry the cells of the opening
  opened_slots : (bs : List (Binding V)) (s : ℕ) (ks : List K) → Slots bs (site_cells s (map n ks)) (cells n (opened s ks))
  opened_slots bs s [] = tt
  opened_slots bs s (k ∷ ks) = (refl, refl, opened_slots bs (suc s) ks)

  same_number : (bs : List (Binding V)) (v : Tree V) (w : Value K) (k : K) → Carries bs v (value n w) → n (number_in w k) ≡ number_or v (n k)
  same_number bs (number x) (Number y) k c = sym c
  same_number bs (number x) (Closure f j) k c = absurd c
  same_number bs (number x) (Reference a) k c = absurd c
  same_number bs (closure f ρ) (Number y) k c = absurd c
  same_number bs (closure f ρ) (Closure g j) k c = refl
  same_number bs (closure f ρ) (Reference a) k c = absurd c
  same_number bs (reference a) (Number y) k c = absurd c
  same_number bs (reference a) (Closure g j) k c = absurd c
  same_number bs (reference a) (Reference b) k c = refl

  -- the same numbers are taken
  same_taken : (bs : List (Binding V)) (ts : List (TreeCell V)) (cs : List (Cell K)) (ks : List K) → Slots bs ts (cells n cs)
      → map n (taken cs ks) ≡ written ts (map n ks)
  same_taken bs [] [] [] h = refl
  same_taken bs [] [] (k ∷ ks) h = refl
  same_taken bs [] (c ∷ cs) ks h = absurd h
  same_taken bs (t ∷ ts) [] ks h = absurd h
  same_taken bs (t ∷ ts) (c ∷ cs) [] h = refl
  same_taken bs (t ∷ ts) (c ∷ cs) (k ∷ ks) h =
      ap₂ (λ (y : V) (l : List V). y ∷ l) (same_number bs t.value c.value k h.1) (same_taken bs ts cs ks h.2)

  same_kept : (bs : List (Binding V)) (o : TreeOutcome V) (a : Result (Value K) Stop) (u : ℕ) (bs' : List (Binding K)) (cs' : List (Cell K)) (ks : List K)
      → SimO bs o (ended n a u bs' cs') → map n (kept_by a cs' ks) ≡ numbers_after o (map n ks)
  same_kept bs (done (number x) s) (Ok (Number y)) t bs' cs' ks h = same_taken (bindings n bs') s.cells cs' ks h.2.slots
  same_kept bs (done (number x) s) (Ok (Closure f k)) t bs' cs' ks h = absurd h.1
  same_kept bs (done (number x) s) (Ok (Reference a)) t bs' cs' ks h = absurd h.1
  same_kept bs (done (closure f ρ) s) (Ok (Number y)) t bs' cs' ks h = absurd h.1
  same_kept bs (done (closure f ρ) s) (Ok (Closure g k)) t bs' cs' ks h = refl
  same_kept bs (done (closure f ρ) s) (Ok (Reference a)) t bs' cs' ks h = absurd h.1
  same_kept bs (done (reference a) s) (Ok (Number y)) t bs' cs' ks h = absurd h.1
  same_kept bs (done (reference a) s) (Ok (Closure g k)) t bs' cs' ks h = absurd h.1
  same_kept bs (done (reference a) s) (Ok (Reference b)) t bs' cs' ks h = refl
  same_kept bs (done v s) (Err e) t bs' cs' ks h = absurd h
  same_kept bs (stopped e t) (Ok v) u bs' cs' ks h = absurd h
  same_kept bs (stopped e t) (Err f) u bs' cs' ks h = refl

-- the stacks that a run begins with: the limits are their rooms
pub begun : {K : Type 0} (M : NumberKind) (S : Sheet) (n : K → M.Value) (fuel e b c d root : ℕ) (bs : List (Binding K)) (cs : List (Cell K)) (ks : List K)
    → b ≡ most_bindings → c ≡ S.sites + most_fresh → d ≡ most_pending → root ≡ (S.entry e).root → bs ≡ [] → cs ≡ opened 0 ks
    → flat_eval M S (record { bindings = b; cells = c }) fuel d root 0 (flat n bs cs 0)
    ≡ flat_eval M S (limits S) fuel most_pending (S.entry e).root 0 (flat n [] (opened 0 ks) 0)
begun {K = K} M S n fuel e b c d root bs cs ks eb ec ed er es et =
    ap (λ (x : ℕ). flat_eval M S (record { bindings = x; cells = c }) fuel d root 0 (flat n bs cs 0)) eb
    ∙ ap (λ (x : ℕ). flat_eval M S (record { bindings = most_bindings; cells = x }) fuel d root 0 (flat n bs cs 0)) ec
    ∙ ap (λ (x : ℕ). flat_eval M S (limits S) fuel x root 0 (flat n bs cs 0)) ed
    ∙ ap (λ (x : ℕ). flat_eval M S (limits S) fuel most_pending x 0 (flat n bs cs 0)) er
    ∙ ap (λ (x : List (Binding K)). flat_eval M S (limits S) fuel most_pending (S.entry e).root 0 (flat n x cs 0)) es
    ∙ ap (λ (x : List (Cell K)). flat_eval M S (limits S) fuel most_pending (S.entry e).root 0 (flat n [] x 0)) et

module _ {K : Type 0} (M : NumberKind) (S : Sheet) (n : K → M.Value) (fits : (i : ℕ) → (S.node i).kind ≡ Literal → clamp (S.node i).literal ≡ (S.node i).literal)
    (fuel e : ℕ) (ks : List K) (r : Outcome K) (bs' : List (Binding K)) (cs' : List (Cell K))
    (ran : outcome n r bs' cs' ≡ flat_eval M S (limits S) fuel most_pending (S.entry e).root 0 (flat n [] (opened 0 ks) 0)) where
  -- the machine ends as the definition does
  ends : SimO [] (run M S fuel e (map n ks)) (outcome n r bs' cs')
  unfolding run
  ends =
      subst (λ (o : FlatOutcome M.Value). SimO [] (eval M S fuel most_pending (S.entry e).root empty (opening (map n ks))) o) (sym ran)
      (flattened M S fits fuel most_pending (S.entry e).root empty 0 (opening (map n ks)) (flat n [] (opened 0 ks) 0) refl
      (record { slots = opened_slots n [] 0 ks; count = refl; steps = refl }))

  pub tells_as_defined : concluded n (M.whole (pos 0)) r ≡ run_report M S fuel e (map n ks)
  tells_as_defined = same_told n (M.whole (pos 0)) [] (run M S fuel e (map n ks)) r.answer r.steps bs' cs' ends

  pub keeps_as_defined : (xs : List K) → map n (kept r cs' xs) ≡ numbers_after (run M S fuel e (map n ks)) (map n xs)
  keeps_as_defined xs = same_kept n [] (run M S fuel e (map n ks)) r.answer r.steps bs' cs' xs ends
