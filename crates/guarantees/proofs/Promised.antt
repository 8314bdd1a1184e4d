-- The promises hold of a well-typed sheet.
use Rattle.std.proofs.Common.{◌≡◌, ℕ, ◌<◌, Bool, List, length, pos, Some, sym, refl, ap, ◌∙◌, subst, inl, inr, arith}
use Rattle.std.specs.List.{slice_get}
use Rattle.number.specs.NumberKind.{NumberKind}
use Rattle.sheet.specs.declared.decoded.Form.TheVariants as form
use Rattle.sheet.specs.Sheet.{Sheet}
use Rattle.evaluation.specs.declared.ending.Stop.TheVariants.{FuelSpent, PendingFull, BindingsFull, CellsFull, Stuck}
use Rattle.evaluation.specs.declared.ending.Ending.TheVariants as ending
use Rattle.evaluation.specs.Values.{Value, number, closure, reference, empty, Cell, State, Outcome, done, stopped}
use Rattle.evaluation.specs.Evaluation.{most_pending}
use Rattle.evaluation.specs.Runs.{site_cells, opening, number_or, written, numbers_after, report, run}
use Rattle.typing.specs.Rules.{type_at, control_at}
use Rattle.guarantees.specs.Sheets.{TypedSheet, Channel, Visible, content_set}
use Rattle.guarantees.specs.Promises.{EndsSoundly, flowing_to, Soundness, Confinement, TwoRuns}
use Rattle.guarantees.proofs.Outcomes.{Post, Both, post_done, both_done}
use Rattle.guarantees.proofs.Addresses.{some_inj}
use Rattle.guarantees.proofs.Typed.{HasType, StoreTyped}
use Rattle.guarantees.proofs.Stores.{Unchanged, After, extends_at}
use Rattle.guarantees.proofs.Nodes.{number_function, number_reference, Ready}
use Rattle.guarantees.proofs.Gives.{GivesOwn, closure_form}
use Rattle.guarantees.proofs.Soundness.{sound}
use Rattle.guarantees.proofs.Visible.{visible_within, not_visible}
use Rattle.guarantees.proofs.Agreement.{Pairs, SameValue, CellsAgree, StoresAgree}
use Rattle.guarantees.proofs.Runs.{RunsAgree}
use Rattle.guarantees.proofs.AgreeRuns.{agree}
use Rattle.guarantees.proofs.Opening.{nth_there, place, place_of, opening_typed, read_back, diagonal, opening_agrees}

module _ (M : NumberKind) (S : Sheet) (ok : TypedSheet S) where
  -- the values of numbers
  abbrev V : Type 0
  V = M.Value

  -- the root of an entry
  abbrev root : ℕ → ℕ
  root e = (S.entry e).root

  -- the root of an entry is ready for the opening store: it stands in no function
  ready_root : (e : ℕ) (ns : List V) → e < S.entries → length ns ≡ S.sites → Ready S (root e) empty (site_cells 0 ns)
  ready_root e ns l h = record {
    below = ok.shape.forest.rooted e l;
    covers = λ g b k i. let o : g ≡ root e = ok.shape.forest.outermost e g l b i.0 in absurd (omega (arith, i.1));
    all = tt;
    cells = opening_typed S ok ns h;
  }

  -- a run is sound
  run_sound : (fuel e : ℕ) (ns : List V) → e < S.entries → length ns ≡ S.sites → Post (GivesOwn S (root e) (site_cells 0 ns)) (run M S fuel e ns)
  unfolding run
  run_sound fuel e ns l h = sound M S ok fuel most_pending (root e) empty (opening ns) (ready_root e ns l h)

  -- how a sound run ends
  ends : (z : V) (e : ℕ) (cs : List (Cell V)) (o : Outcome V) → e < S.entries → Post (GivesOwn S (root e) cs) o → EndsSoundly (report z o).ending
  ends z e cs (done (number n) s) l g = record { not_stuck = omega arith; a_number = omega arith }
  ends z e cs (done (closure f ρ) s) l g = number_function (ok.roots e l) (closure_form S ok (type_at S (root e)) f ρ s.cells g.typed)
  ends z e cs (done (reference a) s) l g = number_reference (ok.roots e l) g.typed.0
  ends z e cs (stopped FuelSpent t) l g = record { not_stuck = omega arith; a_number = omega arith }
  ends z e cs (stopped PendingFull t) l g = record { not_stuck = omega arith; a_number = omega arith }
  ends z e cs (stopped BindingsFull t) l g = record { not_stuck = omega arith; a_number = omega arith }
  ends z e cs (stopped CellsFull t) l g = record { not_stuck = omega arith; a_number = omega arith }
  ends z e cs (stopped (Stuck i) t) l g = absurd g

  -- no run is stuck, and what is done is a number
  pub soundness : Soundness M S
  soundness fuel e ns l h = ends (M.whole (pos 0)) e (site_cells 0 ns) (run M S fuel e ns) l (run_sound fuel e ns l h)

  -- a cell that is unchanged, or that the control set may not write
  place_kept : (O : ℕ → Bool) (m s : ℕ) (n : V) (c : Cell V) → (Visible O m → ⊥) → Visible O (content_set S s) → Unchanged S m (place s n) c →
      number_or c.value n ≡ n
  place_kept O m s n c u v (inl e) = ap (λ (x : Cell V). number_or x.value n) e
  place_kept O m s n c u v (inr w) = absurd (u (visible_within O m (content_set S s) w v))

  -- a run under a control set that the observer does not see leaves the channels that the observer sees
  confined : (O : ℕ → Bool) (e : ℕ) (ns : List V) (o : Outcome V) → length ns ≡ S.sites → (Visible O (control_at S (root e)) → ⊥) →
      Post (GivesOwn S (root e) (site_cells 0 ns)) o → (s : ℕ) → Channel S s → Visible O (content_set S s) → slice_get (numbers_after o ns) s ≡ slice_get ns s
  confined O e ns (done (number r) t) h u g s c v =
      let n = nth_there ns s (omega (arith, c.0)) in
      let a : After S (control_at S (root e)) t.cells s (place s n.0) =
      extends_at S (control_at S (root e)) (site_cells 0 ns) t.cells g.extends s (place s n.0) (place_of ns s n.0 n.1) in
      read_back t.cells ns s a.now n.0 a.at n.1
      ∙ ap Some (place_kept O (control_at S (root e)) s n.0 a.now u v a.unchanged) ∙ sym n.1
  confined O e ns (done (closure f ρ) t) h u g s c v = refl
  confined O e ns (done (reference a) t) h u g s c v = refl
  confined O e ns (stopped x t) h u g s c v = refl

  -- a run under a label that may not flow to b changes nothing that b may see
  pub confinement : (flows : ℕ → ℕ → Bool) → Confinement M flows S
  confinement flows b k fuel e ns l h t f =
      confined (flowing_to flows b) e ns (run M S fuel e ns) h (not_visible (flowing_to flows b) (control_at S (root e)) k t f) (run_sound fuel e ns l h)

  -- a run that tells a number is done with it
  told_number : (z : V) (o : Outcome V) → (report z o).ending ≡ ending.Number → (n : V) × (s : State V) × (o ≡ done (number n) s)
  told_number z (done (number n) s) h = (n, s, refl)
  told_number z (done (closure f ρ) s) h = let x : ◌≡◌ {A = ℕ} 0 1 = cc in absurd (omega arith)
  told_number z (done (reference a) s) h = let x : ◌≡◌ {A = ℕ} 0 1 = cc in absurd (omega arith)
  told_number z (stopped e t) h = let x : ◌≡◌ {A = ℕ} 0 1 = cc in absurd (omega arith)

  -- values that are the same read back as the same number, where the first is of a number's type
  same_number : (O : ℕ → Bool) (β : Pairs) (cs : List (Cell V)) (f : ℕ) (v w : Value V) (n m : V) → (S.type f).form ≡ form.Number → HasType S cs v f →
      SameValue S O β v w → number_or v n ≡ number_or w m
  same_number O β cs f (number x) (number y) n m e h k = k
  same_number O β cs f (number x) (closure g ρ) n m e h k = absurd k
  same_number O β cs f (number x) (reference a) n m e h k = absurd k
  same_number O β cs f (closure g ρ) w n m e h k = number_function e (closure_form S ok f g ρ cs h)
  same_number O β cs f (reference a) w n m e h k = number_reference e h.0

  -- stores that agree leave the same numbers in the channels that the observer sees
  seen_again : (O : ℕ → Bool) (β : Pairs) (cs cs' : List (Cell V)) (ns ns' : List V) → length ns ≡ S.sites → length ns' ≡ S.sites → StoreTyped S cs →
      StoresAgree S O β cs cs' → (s : ℕ) → Channel S s → Visible O (content_set S s) → slice_get (written cs ns) s ≡ slice_get (written cs' ns') s
  seen_again O β cs cs' ns ns' h h' g A s c v =
      let n = nth_there ns s (omega (arith, c.0)) in
      let n' = nth_there ns' s (omega (arith, c.0)) in
      let m : CellsAgree S O β cs cs' s s = A.match s s (A.places s c) in
      let p = g.places s c.0 in
      let q : m.left.site ≡ s = ap (λ (x : Cell V). x.site) (some_inj (sym m.at_left ∙ p.1)) ∙ p.2 in
      let f : (S.type (S.site m.left.site).content).form ≡ form.Number = ap (λ (x : ℕ). (S.type (S.site x).content).form) q ∙ ok.shape.numeric s c.0 c.1 in
      let k = same_number O β cs (S.site m.left.site).content m.left.value m.right.value n.0 n'.0 f
      (g.typed s m.left m.at_left (λ _. c.1)) (m.same (subst (λ (x : ℕ). Visible O (content_set S x)) (sym q) v)) in
      read_back cs ns s m.left n.0 m.at_left n.1 ∙ (ap Some k ∙ sym (read_back cs' ns' s m.right n'.0 m.at_right n'.1))

  -- two runs agree
  runs_agree_lem : (O : ℕ → Bool) (fuel fuel' e : ℕ) (ns ns' : List V) → e < S.entries → length ns ≡ S.sites → length ns' ≡ S.sites →
      ((s : ℕ) → Channel S s → Visible O (content_set S s) → slice_get ns s ≡ slice_get ns' s) →
      Both (RunsAgree S O (root e) (diagonal S S.sites)) (run M S fuel e ns) (run M S fuel' e ns')
  unfolding run
  runs_agree_lem O fuel fuel' e ns ns' l h h' k =
      agree M S O ok fuel fuel' most_pending (root e) empty empty (opening ns) (opening ns') (diagonal S S.sites) (ready_root e ns l h)
      (ready_root e ns' l h') tt (opening_agrees S O ns ns' h h' k)

  -- two runs are alike to b
  pub two_runs : (flows : ℕ → ℕ → Bool) → TwoRuns M flows S
  two_runs flows b fuel fuel' e ns ns' l h h' k t t' =
      let O : ℕ → Bool = flowing_to flows b in
      let z : V = M.whole (pos 0) in
      let r = told_number z (run M S fuel e ns) t in
      let r' = told_number z (run M S fuel' e ns') t' in
      let g = post_done (GivesOwn S (root e) (site_cells 0 ns)) (run M S fuel e ns) (number r.0) r.1 (run_sound fuel e ns l h) r.2 in
      let a = both_done (RunsAgree S O (root e) (diagonal S S.sites)) (run M S fuel e ns) (run M S fuel' e ns') (number r.0) (number r'.0) r.1 r'.1
      (runs_agree_lem O fuel fuel' e ns ns' l h h' k) r.2 r'.2 in
      record {
        channels = λ s c v.
            ap (λ (o : Outcome V). slice_get (numbers_after o ns) s) r.2
            ∙ (seen_again O a.pairs r.1.cells r'.1.cells ns ns' h h' g.cells a.agree s c v
            ∙ sym (ap (λ (o : Outcome V). slice_get (numbers_after o ns') s) r'.2));
        number = λ v.
            ap (λ (o : Outcome V). (report z o).number) r.2 ∙ (a.same v ∙ sym (ap (λ (o : Outcome V). (report z o).number) r'.2));
      }
