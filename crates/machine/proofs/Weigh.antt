-- Each turn of the machine makes it lighter: so it ends.
use Rattle.std.proofs.Common.{◌≡◌, ℕ, suc, ◌+◌, ◌-◌, ◌*◌, ◌<◌, ◌≤◌, Bool, true, false, cond, ltb, List, [], ◌∷◌, ◌++◌, length, Some, None, Option, arith}
use Rattle.std.specs.List.{slice_get}
use Rattle.number.specs.NumberKind.{NumberKind}
use Rattle.number.specs.Millimetre.{clamp}
use Rattle.sheet.specs.declared.decoded.Kind.{Kind}
use Rattle.sheet.specs.declared.decoded.Kind.TheVariants.{Literal, Variable, Lambda, Application, New, Channel, Read, Write, Choice, Operation, Unknown}
use Rattle.machine.specs.declared.values.Value.{Value}
use Rattle.machine.specs.declared.values.Value.TheVariants.{Number, Closure, Reference}
use Rattle.machine.specs.declared.values.Binding.{Binding}
use Rattle.machine.specs.declared.values.Cell.{Cell}
use Rattle.machine.specs.declared.values.Frame.{Frame}
use Rattle.machine.specs.declared.values.Stage.{Stage}
use Rattle.machine.specs.declared.values.Stage.TheVariants.{Chooses, Creates, Reads, Calls, Applies, Targets, Writes, Operates, Combines, Passes}
use Rattle.evaluation.specs.declared.ending.Stop.{Stop}
use Rattle.evaluation.specs.declared.ending.Stop.TheVariants.{BindingsFull, CellsFull, Stuck}
use Rattle.sheet.specs.Sheet.{Sheet, last_part, part}
use Rattle.machine.specs.Flat.{Limits, seek}
use Rattle.machine.specs.Seen.{Machine, Turn, Start, Return, Halt}
use Rattle.machine.specs.Steps.{at, framed, pends, gives, halts, looks, reads_at, reads, writes_at, writes, applies, creates, chooses, combines, starts, resumes}

module _ {V : Type 0} where
  -- more than the turns until the node that waits is done, its parts' steps apart
  abbrev pub weight : Stage V → ℕ
  weight Chooses = 3
  weight Creates = 3
  weight Reads = 3
  weight Calls = 5
  weight (Applies v) = 3
  weight Targets = 5
  weight (Writes v) = 3
  weight Operates = 5
  weight (Combines v) = 3
  weight Passes = 1

  unfoldable pub load : List (Frame V) → ℕ
  load [] = 0
  load (f ∷ fs) = weight f.stage + load fs

  abbrev pub pace : Turn V → ℕ
  pace (Start i k) = 2
  pace (Return v) = 1
  pace (Halt e) = 0

  abbrev pub weigh : ℕ → Machine V → ℕ → ℕ
  weigh fuel m t = 6 * (fuel - t) + load m.frames + pace m.next

  load_top : (fs : List (Frame V)) (f : Frame V) → load (fs ++ (f ∷ [])) ≡ load fs + weight f.stage
  unfolding load
  load_top [] f = omega arith
  load_top (x ∷ fs) f = let h : load (fs ++ (f ∷ [])) ≡ load fs + weight f.stage = load_top fs f in omega arith

  -- lighter than r, the load of fs, w and 1
  abbrev Lighter : ℕ → ℕ → List (Frame V) → ℕ → Machine V → Type 0
  Lighter fuel t fs w m = weigh fuel m t < 6 * (fuel - t) + (load fs + w) + 1

  light_pends : (fuel t : ℕ) (fs : List (Frame V)) (w i k : ℕ) (g : Stage V) (p : ℕ) (bs : List (Binding V)) (cs : List (Cell V))
      → weight g + 2 ≤ w → Lighter fuel t fs w (pends i k g p fs bs cs)
  light_pends fuel t fs w i k g p bs cs h =
      let l : load (fs ++ (framed i k g ∷ [])) ≡ load fs + weight g = load_top fs (framed i k g) in omega arith

  light_gives : (fuel t : ℕ) (fs : List (Frame V)) (w : ℕ) (v : Value V) (bs : List (Binding V)) (cs : List (Cell V))
      → 1 ≤ w → Lighter fuel t fs w (gives v fs bs cs)
  light_gives fuel t fs w v bs cs h = omega arith

  light_halts : (fuel t : ℕ) (fs : List (Frame V)) (w : ℕ) (e : Stop) (bs : List (Binding V)) (cs : List (Cell V))
      → Lighter fuel t fs w (halts e fs bs cs)
  light_halts fuel t fs w e bs cs = omega arith

  light_cond : (fuel t : ℕ) (fs : List (Frame V)) (w : ℕ) (b : Bool) (m n : Machine V) → Lighter fuel t fs w m → Lighter fuel t fs w n → Lighter fuel t fs w (cond b m n)
  light_cond fuel t fs w true m n h k = h
  light_cond fuel t fs w false m n h k = k

  light_looks : (fuel t : ℕ) (fs : List (Frame V)) (w i : ℕ) (o : Option (Value V)) (bs : List (Binding V)) (cs : List (Cell V))
      → 1 ≤ w → Lighter fuel t fs w (looks i o fs bs cs)
  light_looks fuel t fs w i None bs cs h = light_halts fuel t fs w (Stuck i) bs cs
  light_looks fuel t fs w i (Some v) bs cs h = light_gives fuel t fs w v bs cs h

  light_reads_at : (fuel t : ℕ) (fs : List (Frame V)) (w i : ℕ) (o : Option (Cell V)) (bs : List (Binding V)) (cs : List (Cell V))
      → 1 ≤ w → Lighter fuel t fs w (reads_at i o fs bs cs)
  light_reads_at fuel t fs w i None bs cs h = light_halts fuel t fs w (Stuck i) bs cs
  light_reads_at fuel t fs w i (Some c) bs cs h = light_gives fuel t fs w c.value bs cs h

  light_reads : (fuel t : ℕ) (fs : List (Frame V)) (w i : ℕ) (v : Value V) (bs : List (Binding V)) (cs : List (Cell V))
      → 1 ≤ w → Lighter fuel t fs w (reads i v fs bs cs)
  light_reads fuel t fs w i (Number n) bs cs h = light_halts fuel t fs w (Stuck i) bs cs
  light_reads fuel t fs w i (Closure f k) bs cs h = light_halts fuel t fs w (Stuck i) bs cs
  light_reads fuel t fs w i (Reference a) bs cs h = light_reads_at fuel t fs w i (slice_get cs a) bs cs h

  light_writes_at : (fuel t : ℕ) (fs : List (Frame V)) (w i a : ℕ) (v : Value V) (o : Option (Cell V)) (bs : List (Binding V)) (cs : List (Cell V))
      → 1 ≤ w → Lighter fuel t fs w (writes_at i a v o fs bs cs)
  light_writes_at fuel t fs w i a v None bs cs h = light_halts fuel t fs w (Stuck i) bs cs
  light_writes_at fuel t fs w i a v (Some c) bs cs h = omega arith

  light_writes : (fuel t : ℕ) (fs : List (Frame V)) (w i : ℕ) (r v : Value V) (bs : List (Binding V)) (cs : List (Cell V))
      → 1 ≤ w → Lighter fuel t fs w (writes i r v fs bs cs)
  light_writes fuel t fs w i (Number n) v bs cs h = light_halts fuel t fs w (Stuck i) bs cs
  light_writes fuel t fs w i (Closure f k) v bs cs h = light_halts fuel t fs w (Stuck i) bs cs
  light_writes fuel t fs w i (Reference a) v bs cs h = light_writes_at fuel t fs w i a v (slice_get cs a) bs cs h

module _ (M : NumberKind) (S : Sheet) (L : Limits) (fuel : ℕ) where
  abbrev V : Type 0
  V = M.Value

  light_starts : (x : Kind) (t i k : ℕ) (fs : List (Frame V)) (bs : List (Binding V)) (cs : List (Cell V)) → Lighter fuel t fs 7 (starts M S x i k fs bs cs)
  light_starts Literal t i k fs bs cs = light_gives fuel t fs 7 (Number (M.whole (clamp (S.node i).literal))) bs cs (omega arith)
  light_starts Variable t i k fs bs cs = light_looks fuel t fs 7 i (seek k bs (S.node i).argument k) bs cs (omega arith)
  light_starts Lambda t i k fs bs cs = light_gives fuel t fs 7 (Closure i k) bs cs (omega arith)
  light_starts Application t i k fs bs cs = light_pends fuel t fs 7 i k Calls (part S i 1) bs cs (omega arith)
  light_starts New t i k fs bs cs = light_pends fuel t fs 7 i k Creates (part S i 0) bs cs (omega arith)
  light_starts Channel t i k fs bs cs = light_gives fuel t fs 7 (Reference (S.node i).argument) bs cs (omega arith)
  light_starts Read t i k fs bs cs = light_pends fuel t fs 7 i k Reads (part S i 0) bs cs (omega arith)
  light_starts Write t i k fs bs cs = light_pends fuel t fs 7 i k Targets (part S i 1) bs cs (omega arith)
  light_starts Choice t i k fs bs cs = light_pends fuel t fs 7 i k Chooses (part S i 2) bs cs (omega arith)
  light_starts Operation t i k fs bs cs = light_pends fuel t fs 7 i k Operates (part S i 1) bs cs (omega arith)
  light_starts Unknown t i k fs bs cs = light_halts fuel t fs 7 (Stuck i) bs cs

  light_applies : (t i : ℕ) (f v : Value V) (fs : List (Frame V)) (bs : List (Binding V)) (cs : List (Cell V)) → Lighter fuel t fs 3 (applies L.bindings i f v fs bs cs)
  light_applies t i (Number n) v fs bs cs = light_halts fuel t fs 3 (Stuck i) bs cs
  light_applies t i (Closure f k) v fs bs cs =
      let more : List (Binding V) = bs ++ (record { function = f; value = v; outer = k } ∷ []) in
      light_cond fuel t fs 3 (ltb (length bs) L.bindings) (pends i (suc (length bs)) Passes (last_part f) fs more cs) (halts BindingsFull fs bs cs)
      (light_pends fuel t fs 3 i (suc (length bs)) Passes (last_part f) more cs (omega arith)) (light_halts fuel t fs 3 BindingsFull bs cs)
  light_applies t i (Reference a) v fs bs cs = light_halts fuel t fs 3 (Stuck i) bs cs

  light_chooses : (t i k : ℕ) (v : Value V) (fs : List (Frame V)) (bs : List (Binding V)) (cs : List (Cell V)) → Lighter fuel t fs 3 (chooses M S i k v fs bs cs)
  light_chooses t i k (Number n) fs bs cs = light_pends fuel t fs 3 i k Passes (cond (M.is_zero n) (part S i 0) (part S i 1)) bs cs (omega arith)
  light_chooses t i k (Closure f j) fs bs cs = light_halts fuel t fs 3 (Stuck i) bs cs
  light_chooses t i k (Reference a) fs bs cs = light_halts fuel t fs 3 (Stuck i) bs cs

  light_creates : (t i : ℕ) (v : Value V) (fs : List (Frame V)) (bs : List (Binding V)) (cs : List (Cell V)) → Lighter fuel t fs 3 (creates S L.cells i v fs bs cs)
  light_creates t i v fs bs cs =
      let more : List (Cell V) = cs ++ (record { site = (S.node i).argument; value = v } ∷ []) in
      light_cond fuel t fs 3 (ltb (length cs) L.cells) (gives (Reference (length cs)) fs bs more) (halts CellsFull fs bs cs)
      (light_gives fuel t fs 3 (Reference (length cs)) bs more (omega arith)) (light_halts fuel t fs 3 CellsFull bs cs)

  light_combines : (t i : ℕ) (a v : Value V) (fs : List (Frame V)) (bs : List (Binding V)) (cs : List (Cell V)) → Lighter fuel t fs 3 (combines M S i a v fs bs cs)
  light_combines t i (Number n) (Number m) fs bs cs = omega arith
  light_combines t i (Number n) (Closure f k) fs bs cs = light_halts fuel t fs 3 (Stuck i) bs cs
  light_combines t i (Number n) (Reference a) fs bs cs = light_halts fuel t fs 3 (Stuck i) bs cs
  light_combines t i (Closure f k) v fs bs cs = light_halts fuel t fs 3 (Stuck i) bs cs
  light_combines t i (Reference a) v fs bs cs = light_halts fuel t fs 3 (Stuck i) bs cs

  light_resumes : (g : Stage V) (t i k : ℕ) (v : Value V) (fs : List (Frame V)) (bs : List (Binding V)) (cs : List (Cell V))
      → Lighter fuel t fs (weight g) (resumes M S L g i k v fs bs cs)
  light_resumes Chooses t i k v fs bs cs = light_chooses t i k v fs bs cs
  light_resumes Creates t i k v fs bs cs = light_creates t i v fs bs cs
  light_resumes Reads t i k v fs bs cs = light_reads fuel t fs 3 i v bs cs (omega arith)
  light_resumes Calls t i k v fs bs cs = light_pends fuel t fs 5 i k (Applies v) (part S i 0) bs cs (omega arith)
  light_resumes (Applies f) t i k v fs bs cs = light_applies t i f v fs bs cs
  light_resumes Targets t i k v fs bs cs = light_pends fuel t fs 5 i k (Writes v) (part S i 0) bs cs (omega arith)
  light_resumes (Writes r) t i k v fs bs cs = light_writes fuel t fs 3 i r v bs cs (omega arith)
  light_resumes Operates t i k v fs bs cs = light_pends fuel t fs 5 i k (Combines v) (part S i 0) bs cs (omega arith)
  light_resumes (Combines a) t i k v fs bs cs = light_combines t i a v fs bs cs
  light_resumes Passes t i k v fs bs cs = light_gives fuel t fs 1 v bs cs (omega arith)

  pub lighter_started : (t i k : ℕ) (fs : List (Frame V)) (bs : List (Binding V)) (cs : List (Cell V)) → t < fuel
      → weigh fuel (starts M S (S.node i).kind i k fs bs cs) (suc t) < weigh fuel (at (Start i k) fs bs cs) t
  lighter_started t i k fs bs cs h = let l : weigh fuel (starts M S (S.node i).kind i k fs bs cs) (suc t) < 6 * (fuel - suc t) + (load fs + 7) + 1 = light_starts (S.node i).kind (suc t) i k fs bs cs in omega arith

  pub lighter_returned : (t : ℕ) (f : Frame V) (v : Value V) (fs : List (Frame V)) (bs : List (Binding V)) (cs : List (Cell V))
      → weigh fuel (resumes M S L f.stage f.node f.scope v fs bs cs) t < weigh fuel (at (Return v) (fs ++ (f ∷ [])) bs cs) t
  lighter_returned t f v fs bs cs =
      let l : weigh fuel (resumes M S L f.stage f.node f.scope v fs bs cs) t < 6 * (fuel - t) + (load fs + weight f.stage) + 1 = light_resumes f.stage t f.node f.scope v fs bs cs in
      let k : load (fs ++ (f ∷ [])) ≡ load fs + weight f.stage = load_top fs f in
      omega arith
