-- What the rest of a run makes of where it stands; each step of the machine leaves that as it is.
use Rattle.std.proofs.Common.{◌≡◌, ℕ, zero, suc, ◌+◌, ◌-◌, ◌<◌, ◌≤◌, Bool, true, false, cond, eqb, ltb, List, [], ◌∷◌, ◌++◌, length, Some, None, Option, sym, refl, ap, ◌∙◌, arith, length-append}
use Rattle.std.specs.List.{slice_get}
use Rattle.number.specs.NumberKind.{NumberKind}
use Rattle.sheet.specs.declared.decoded.Kind.{Kind}
use Rattle.sheet.specs.declared.decoded.Kind.TheVariants.{Literal, Variable, Lambda, Application, New, Channel, Read, Write, Choice, Operation, Unknown}
use Rattle.machine.specs.declared.values.Value.{Value}
use Rattle.machine.specs.declared.values.Value.TheVariants.{Number, Closure, Reference}
use Rattle.machine.specs.declared.values.Binding.{Binding}
use Rattle.machine.specs.declared.values.Cell.{Cell}
use Rattle.machine.specs.declared.values.Frame.{Frame}
use Rattle.machine.specs.declared.values.Stage.{Stage}
use Rattle.machine.specs.declared.values.Stage.TheVariants.{Chooses, Creates, Reads, Calls, Applies, Targets, Writes, Operates, Combines, Passes}
use Rattle.evaluation.specs.declared.ending.Stop.{Stop}
use Rattle.evaluation.specs.declared.ending.Stop.TheVariants.{FuelSpent, PendingFull, BindingsFull, CellsFull}
use Rattle.sheet.specs.Sheet.{Sheet, last_part, part}
use Rattle.machine.specs.Flat.{Limits, FlatState, FlatOutcome, flat_done, flat_stopped, FlatEvaluator, seek, flat_then, flat_provided, one_step, flat_found, flat_loaded, flat_load, flat_stored, flat_store, flat_apply, flat_create, flat_choose, flat_operate, flat_by_kind, flat_eval}
use Rattle.machine.specs.Seen.{Machine, Turn, Start, Return, Halt}
use Rattle.machine.specs.Steps.{at, framed, pends, gives, halts, looks, reads_at, reads, writes_at, writes, applies, creates, chooses, combines, starts, resumes}

module _ {V : Type 0} where
  abbrev pub state : List (Binding V) → List (Cell V) → ℕ → FlatState V
  state bs cs t = record { cells = cs; made = bs; steps = t }

  pub then_done : (o : FlatOutcome V) → flat_then o (λ v s. flat_done v s) ≡ o
  then_done (flat_done v s) = refl
  then_done (flat_stopped e t) = refl

module _ (M : NumberKind) (S : Sheet) (L : Limits) (fuel : ℕ) where
  abbrev V : Type 0
  V = M.Value

  -- what a node makes of the value that it waited for, where ev evaluates its parts
  abbrev pub after : FlatEvaluator V → Stage V → ℕ → ℕ → Value V → FlatState V → FlatOutcome V
  after ev Chooses i k v s = flat_choose M S L ev i k v s
  after ev Creates i k v s = flat_create M S L i v s
  after ev Reads i k v s = flat_load i v s
  after ev Calls i k v s = flat_then (ev (part S i 0) k s) (λ u s₁. flat_apply M S L ev i v u s₁)
  after ev (Applies f) i k v s = flat_apply M S L ev i f v s
  after ev Targets i k v s = flat_then (ev (part S i 0) k s) (λ u s₁. flat_store i v u s₁)
  after ev (Writes r) i k v s = flat_store i r v s
  after ev Operates i k v s = flat_then (ev (part S i 0) k s) (λ u s₁. flat_operate M S L i v u s₁)
  after ev (Combines a) i k v s = flat_operate M S L i a v s
  after ev Passes i k v s = flat_done v s

  abbrev pub resumed : FlatEvaluator V → Frame V → FlatOutcome V → FlatOutcome V
  resumed ev f o = flat_then o (λ v s. after ev f.stage f.node f.scope v s)

  -- the pending nodes, the outermost first; d places for them in all
  unfoldable pub unwind : ℕ → List (Frame V) → FlatOutcome V → FlatOutcome V
  unwind d [] o = o
  unwind zero (f ∷ fs) o = o
  unwind (suc d) (f ∷ fs) o = resumed (flat_eval M S L fuel d) f (unwind d fs o)

  abbrev pub going : Turn V → ℕ → FlatState V → FlatOutcome V
  going (Start i k) d s = flat_eval M S L fuel d i k s
  going (Return v) d s = flat_done v s
  going (Halt e) d s = flat_stopped e s.steps

  abbrev pub finish : ℕ → Machine V → ℕ → FlatOutcome V
  finish d m t = unwind d m.frames (going m.next (d - length m.frames) (state m.made m.cells t))

  -- the innermost node first
  top : (d e : ℕ) (fs : List (Frame V)) (f : Frame V) (o : FlatOutcome V) → d ≡ suc (e + length fs)
      → unwind d (fs ++ (f ∷ [])) o ≡ unwind d fs (resumed (flat_eval M S L fuel e) f o)
  unfolding unwind
  top zero e fs f o h = absurd (omega arith)
  top (suc d) e [] f o h = let q : d ≡ e = omega arith in ap (λ (x : ℕ). resumed (flat_eval M S L fuel x) f o) q
  top (suc d) e (x ∷ fs) f o h = ap (resumed (flat_eval M S L fuel d) x) (top d e fs f o (omega arith))

  stays : (d : ℕ) (fs : List (Frame V)) (e : Stop) (t : ℕ) → unwind d fs (flat_stopped e t) ≡ flat_stopped e t
  unfolding unwind
  stays d [] e t = refl
  stays zero (f ∷ fs) e t = refl
  stays (suc d) (f ∷ fs) e t = ap (resumed (flat_eval M S L fuel d) f) (stays d fs e t)

  -- d places, of which e are left under the node that waits above fs
  module _ (d e : ℕ) (fs : List (Frame V)) (h : d ≡ suc (e + length fs)) where
    pends_means : (i k : ℕ) (g : Stage V) (p : ℕ) (bs : List (Binding V)) (cs : List (Cell V)) (t : ℕ)
        → finish d (pends i k g p fs bs cs) t
        ≡ unwind d fs (flat_then (flat_eval M S L fuel e p k (state bs cs t)) (λ v s. after (flat_eval M S L fuel e) g i k v s))
    pends_means i k g p bs cs t =
        let n : length (fs ++ (framed i k g ∷ [])) ≡ suc (length fs) = omega (arith, length-append fs (framed i k g ∷ [])) in
        let q : d - length (fs ++ (framed i k g ∷ [])) ≡ e = omega arith in
        ap (λ (x : ℕ). unwind d (fs ++ (framed i k g ∷ [])) (flat_eval M S L fuel x p k (state bs cs t))) q
        ∙ top d e fs (framed i k g) (flat_eval M S L fuel e p k (state bs cs t)) h

    passes_means : (i k p : ℕ) (bs : List (Binding V)) (cs : List (Cell V)) (t : ℕ)
        → finish d (pends i k Passes p fs bs cs) t ≡ unwind d fs (flat_eval M S L fuel e p k (state bs cs t))
    passes_means i k p bs cs t = pends_means i k Passes p bs cs t ∙ ap (unwind d fs) (then_done (flat_eval M S L fuel e p k (state bs cs t)))

    looks_means : (i : ℕ) (o : Option (Value V)) (bs : List (Binding V)) (cs : List (Cell V)) (t : ℕ)
        → finish d (looks i o fs bs cs) t ≡ unwind d fs (flat_found i (state bs cs t) o)
    looks_means i None bs cs t = refl
    looks_means i (Some v) bs cs t = refl

    -- a node is started
    starts_means : (x : Kind) (i k : ℕ) (bs : List (Binding V)) (cs : List (Cell V)) (t : ℕ)
        → finish d (starts M S x i k fs bs cs) t ≡ unwind d fs (flat_by_kind M S L (flat_eval M S L fuel e) x i k (state bs cs t))
    starts_means Literal i k bs cs t = refl
    starts_means Variable i k bs cs t = looks_means i (seek k bs (S.node i).argument k) bs cs t
    starts_means Lambda i k bs cs t = refl
    starts_means Application i k bs cs t = pends_means i k Calls (part S i 1) bs cs t
    starts_means New i k bs cs t = pends_means i k Creates (part S i 0) bs cs t
    starts_means Channel i k bs cs t = refl
    starts_means Read i k bs cs t = pends_means i k Reads (part S i 0) bs cs t
    starts_means Write i k bs cs t = pends_means i k Targets (part S i 1) bs cs t
    starts_means Choice i k bs cs t = pends_means i k Chooses (part S i 2) bs cs t
    starts_means Operation i k bs cs t = pends_means i k Operates (part S i 1) bs cs t
    starts_means Unknown i k bs cs t = refl

    given_means : (b : Bool) (m n : Machine V) (t : ℕ) (k : Unit {0} → FlatOutcome V) (o : FlatOutcome V)
        → finish d m t ≡ unwind d fs (k tt) → finish d n t ≡ unwind d fs o → finish d (cond b m n) t ≡ unwind d fs (flat_provided b k o)
    given_means true m n t k o p q = p
    given_means false m n t k o p q = q

    chooses_means : (i k : ℕ) (v : Value V) (bs : List (Binding V)) (cs : List (Cell V)) (t : ℕ)
        → finish d (chooses M S i k v fs bs cs) t ≡ unwind d fs (flat_choose M S L (flat_eval M S L fuel e) i k v (state bs cs t))
    chooses_means i k (Number n) bs cs t = passes_means i k (cond (M.is_zero n) (part S i 0) (part S i 1)) bs cs t
    chooses_means i k (Closure f j) bs cs t = refl
    chooses_means i k (Reference a) bs cs t = refl

    creates_means : (i : ℕ) (v : Value V) (bs : List (Binding V)) (cs : List (Cell V)) (t : ℕ)
        → finish d (creates S L.cells i v fs bs cs) t ≡ unwind d fs (flat_create M S L i v (state bs cs t))
    creates_means i v bs cs t =
        given_means (ltb (length cs) L.cells) (gives (Reference (length cs)) fs bs (cs ++ (record { site = (S.node i).argument; value = v } ∷ []))) (halts CellsFull fs bs cs) t
        (λ _. flat_done (Reference (length cs)) (state bs (cs ++ (record { site = (S.node i).argument; value = v } ∷ [])) t)) (flat_stopped CellsFull t) refl refl

    reads_at_means : (i : ℕ) (o : Option (Cell V)) (bs : List (Binding V)) (cs : List (Cell V)) (t : ℕ)
        → finish d (reads_at i o fs bs cs) t ≡ unwind d fs (flat_loaded i (state bs cs t) o)
    reads_at_means i None bs cs t = refl
    reads_at_means i (Some c) bs cs t = refl

    reads_means : (i : ℕ) (v : Value V) (bs : List (Binding V)) (cs : List (Cell V)) (t : ℕ)
        → finish d (reads i v fs bs cs) t ≡ unwind d fs (flat_load i v (state bs cs t))
    reads_means i (Number n) bs cs t = refl
    reads_means i (Closure f k) bs cs t = refl
    reads_means i (Reference a) bs cs t = reads_at_means i (slice_get cs a) bs cs t

    writes_at_means : (i a : ℕ) (v : Value V) (o : Option (Cell V)) (bs : List (Binding V)) (cs : List (Cell V)) (t : ℕ)
        → finish d (writes_at i a v o fs bs cs) t ≡ unwind d fs (flat_stored i a v (state bs cs t) o)
    writes_at_means i a v None bs cs t = refl
    writes_at_means i a v (Some c) bs cs t = refl

    writes_means : (i : ℕ) (r v : Value V) (bs : List (Binding V)) (cs : List (Cell V)) (t : ℕ)
        → finish d (writes i r v fs bs cs) t ≡ unwind d fs (flat_store i r v (state bs cs t))
    writes_means i (Number n) v bs cs t = refl
    writes_means i (Closure f k) v bs cs t = refl
    writes_means i (Reference a) v bs cs t = writes_at_means i a v (slice_get cs a) bs cs t

    applies_means : (i : ℕ) (f v : Value V) (bs : List (Binding V)) (cs : List (Cell V)) (t : ℕ)
        → finish d (applies L.bindings i f v fs bs cs) t ≡ unwind d fs (flat_apply M S L (flat_eval M S L fuel e) i f v (state bs cs t))
    applies_means i (Number n) v bs cs t = refl
    applies_means i (Closure f k) v bs cs t =
        let more : List (Binding V) = bs ++ (record { function = f; value = v; outer = k } ∷ []) in
        given_means (ltb (length bs) L.bindings) (pends i (suc (length bs)) Passes (last_part f) fs more cs) (halts BindingsFull fs bs cs) t
        (λ _. flat_eval M S L fuel e (last_part f) (suc (length bs)) (state more cs t)) (flat_stopped BindingsFull t)
        (passes_means i (suc (length bs)) (last_part f) more cs t) refl
    applies_means i (Reference a) v bs cs t = refl

    combines_means : (i : ℕ) (a v : Value V) (bs : List (Binding V)) (cs : List (Cell V)) (t : ℕ)
        → finish d (combines M S i a v fs bs cs) t ≡ unwind d fs (flat_operate M S L i a v (state bs cs t))
    combines_means i (Number n) (Number m) bs cs t = refl
    combines_means i (Number n) (Closure f k) bs cs t = refl
    combines_means i (Number n) (Reference a) bs cs t = refl
    combines_means i (Closure f k) v bs cs t = refl
    combines_means i (Reference a) v bs cs t = refl

    -- a value comes back
    resumes_means : (g : Stage V) (i k : ℕ) (v : Value V) (bs : List (Binding V)) (cs : List (Cell V)) (t : ℕ)
        → finish d (resumes M S L g i k v fs bs cs) t ≡ unwind d fs (after (flat_eval M S L fuel e) g i k v (state bs cs t))
    resumes_means Chooses i k v bs cs t = chooses_means i k v bs cs t
    resumes_means Creates i k v bs cs t = creates_means i v bs cs t
    resumes_means Reads i k v bs cs t = reads_means i v bs cs t
    resumes_means Calls i k v bs cs t = pends_means i k (Applies v) (part S i 0) bs cs t
    resumes_means (Applies f) i k v bs cs t = applies_means i f v bs cs t
    resumes_means Targets i k v bs cs t = pends_means i k (Writes v) (part S i 0) bs cs t
    resumes_means (Writes r) i k v bs cs t = writes_means i r v bs cs t
    resumes_means Operates i k v bs cs t = pends_means i k (Combines v) (part S i 0) bs cs t
    resumes_means (Combines a) i k v bs cs t = combines_means i a v bs cs t
    resumes_means Passes i k v bs cs t = refl

  -- the four things that happen in a turn
  pub started : (d : ℕ) (i k : ℕ) (fs : List (Frame V)) (bs : List (Binding V)) (cs : List (Cell V)) (t : ℕ)
      → length fs < d → eqb t fuel ≡ false
      → finish d (starts M S (S.node i).kind i k fs bs cs) (suc t) ≡ finish d (at (Start i k) fs bs cs) t
  unfolding flat_eval
  started d i k fs bs cs t l u =
      let e : ℕ = d - suc (length fs) in
      let h : d ≡ suc (e + length fs) = omega arith in
      let q : suc e ≡ d - length fs = omega arith in
      starts_means d e fs h (S.node i).kind i k bs cs (suc t)
      ∙ ap (λ (b : Bool). unwind d fs (flat_provided b (λ _. flat_stopped FuelSpent t) (flat_by_kind M S L (flat_eval M S L fuel e) (S.node i).kind i k (state bs cs (suc t))))) (sym u)
      ∙ ap (λ (x : ℕ). unwind d fs (flat_eval M S L fuel x i k (state bs cs t))) q

  pub returned : (d : ℕ) (f : Frame V) (v : Value V) (fs : List (Frame V)) (bs : List (Binding V)) (cs : List (Cell V)) (t : ℕ)
      → length fs < d
      → finish d (resumes M S L f.stage f.node f.scope v fs bs cs) t ≡ finish d (at (Return v) (fs ++ (f ∷ [])) bs cs) t
  returned d f v fs bs cs t l =
      let e : ℕ = d - suc (length fs) in
      let h : d ≡ suc (e + length fs) = omega arith in
      resumes_means d e fs h f.stage f.node f.scope v bs cs t ∙ sym (top d e fs f (flat_done v (state bs cs t)) h)

  spent : (d i k : ℕ) (s : FlatState V) → eqb s.steps fuel ≡ true → flat_eval M S L fuel d i k s ≡ flat_stopped FuelSpent s.steps
  unfolding flat_eval
  spent zero i k s u = ap (λ (b : Bool). cond b (flat_stopped FuelSpent s.steps) (flat_stopped PendingFull s.steps)) u
  spent (suc d) i k s u = ap (λ (b : Bool). flat_provided b (λ _. flat_stopped FuelSpent s.steps) (flat_by_kind M S L (flat_eval M S L fuel d) (S.node i).kind i k (one_step s))) u

  pub out_of_fuel : (d i k : ℕ) (fs : List (Frame V)) (bs : List (Binding V)) (cs : List (Cell V)) (t : ℕ)
      → eqb t fuel ≡ true → flat_stopped FuelSpent t ≡ finish d (at (Start i k) fs bs cs) t
  out_of_fuel d i k fs bs cs t u =
      sym (ap (unwind d fs) (spent (d - length fs) i k (state bs cs t) u) ∙ stays d fs FuelSpent t)

  pub out_of_places : (d i k : ℕ) (fs : List (Frame V)) (bs : List (Binding V)) (cs : List (Cell V)) (t : ℕ)
      → d ≤ length fs → eqb t fuel ≡ false → flat_stopped PendingFull t ≡ finish d (at (Start i k) fs bs cs) t
  unfolding flat_eval
  out_of_places d i k fs bs cs t l u =
      let q : d - length fs ≡ 0 = omega arith in
      sym (
      ap (λ (x : ℕ). unwind d fs (flat_eval M S L fuel x i k (state bs cs t))) q
      ∙ ap (λ (b : Bool). unwind d fs (cond b (flat_stopped FuelSpent t) (flat_stopped PendingFull t))) u
      ∙ stays d fs PendingFull t)

  pub stopping : (d : ℕ) (e : Stop) (fs : List (Frame V)) (bs : List (Binding V)) (cs : List (Cell V)) (t : ℕ)
      → flat_stopped e t ≡ finish d (at (Halt e) fs bs cs) t
  stopping d e fs bs cs t = sym (stays d fs e t)

  pub returning : (d : ℕ) (v : Value V) (bs : List (Binding V)) (cs : List (Cell V)) (t : ℕ)
      → flat_done v (state bs cs t) ≡ finish d (at (Return v) [] bs cs) t
  unfolding unwind
  returning d v bs cs t = refl

  pub beginning : (d i k : ℕ) (bs : List (Binding V)) (cs : List (Cell V)) (t : ℕ)
      → finish d (at (Start i k) [] bs cs) t ≡ flat_eval M S L fuel d i k (state bs cs t)
  unfolding unwind
  beginning d i k bs cs t = let q : d - 0 ≡ d = omega arith in ap (λ (x : ℕ). flat_eval M S L fuel x i k (state bs cs t)) q
