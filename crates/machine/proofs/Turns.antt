-- A turn of the loop, in what the program holds.
use Rattle.std.proofs.Common.{◌≡◌, ℕ, suc, ◌+◌, ◌<◌, ◌≤◌, Bool, true, false, eqb, leb, List, [], ◌∷◌, ◌++◌, length, Result, Ok, Err, IsErrAnd, sym, ap, ◌∙◌, subst, ⊎_elim, add-one, arith}
use Rattle.std.proofs.lemmas.List.{length-map, map-append}
use Rattle.std.proofs.lemmas.Bool.{eq-eqb, ne_eqb, cases_Bool, eqb-true, eqb-false, leb-true, leb-false}
use Rattle.number.specs.NumberKind.{NumberKind}
use Rattle.machine.specs.declared.values.Value.{Value}
use Rattle.machine.specs.declared.values.Binding.{Binding}
use Rattle.machine.specs.declared.values.Cell.{Cell}
use Rattle.machine.specs.declared.values.Frame.{Frame}
use Rattle.machine.specs.declared.values.Next.{Next}
use Rattle.machine.specs.declared.values.Next.TheVariants.{Start as Starts, Return as Returns}
use Rattle.evaluation.specs.declared.ending.Stop.{Stop}
use Rattle.evaluation.specs.declared.ending.Stop.TheVariants.{FuelSpent, PendingFull}
use Rattle.sheet.specs.Sheet.{Sheet}
use Rattle.machine.specs.Flat.{Limits, FlatOutcome, flat_done, flat_stopped, flat_eval}
use Rattle.machine.specs.Seen.{Machine, Start, Return, value, stage, frame, next, frames, bindings, cells, machine, flat, ended}
use Rattle.machine.specs.Steps.{at, may_start, starts, resumes}
use Rattle.machine.proofs.Finish.{finish, started, returned, out_of_fuel, out_of_places, stopping, returning, beginning}
use Rattle.machine.proofs.Weigh.{weigh, lighter_started, lighter_returned}

-- equal answers
err_is : {A : Type 0} (a b : Stop) → ◌≡◌ {A = Result A Stop} (Err a) (Err b) → a ≡ b
err_is a b e = cc

ok_err : {A B : Type 0} (x : A) (a : Stop) → Ok x ≡ Err a → B
ok_err x a e = cc

-- the error that a `?` passes on
passed_on : {A : Type 0} (r : Result A Stop) (e : Stop) → IsErrAnd r (λ y. y ≡ e) → r ≡ Err e
passed_on (Ok x) e h = absurd h
passed_on (Err y) e h = ap Err h

-- the same limits
pub limits : (b b' c c' : ℕ) → b ≡ b' → c ≡ c' → ◌≡◌ {A = Limits} (record { bindings = b; cells = c }) (record { bindings = b'; cells = c' })
limits b b' c c' e h = ap (λ (x : ℕ). record { bindings = x; cells = c }) e ∙ ap (λ (x : ℕ). record { bindings = b'; cells = x }) h

-- a node may start, where l of p places are taken
pub room_to_start : (t fuel d l p : ℕ) (full : Bool) (u : Unit {0}) → full ≡ leb p l → p ≡ d → Ok u ≡ may_start (eqb t fuel) full → t ≤ fuel → (t < fuel) × (l < d)
room_to_start t fuel d l p full x h q r b =
    ⊎_elim
    (λ (u : eqb t fuel ≡ true). ok_err x FuelSpent (r ∙ ap (λ (b : Bool). may_start b full) u))
    (λ (u : eqb t fuel ≡ false).
    ⊎_elim
    (λ (w : full ≡ true). ok_err x PendingFull (r ∙ ap (λ (b : Bool). may_start b full) u ∙ ap (may_start false) w))
    (λ (w : full ≡ false). let g = leb-false p l (sym h ∙ w) in let n = eqb-false t fuel u in (grind arith, omega arith))
    (cases_Bool full))
    (cases_Bool (eqb t fuel))

module _ {K : Type 0} (M : NumberKind) (S : Sheet) (L : Limits) (n : K → M.Value) (fuel d : ℕ) where
  abbrev V : Type 0
  V = M.Value

  pub begins : (i t : ℕ) (fs : List (Frame K)) (bs : List (Binding K)) (cs : List (Cell K)) → fs ≡ [] → t ≡ 0
      → finish M S L fuel d (machine n (Ok (Starts i 0)) fs bs cs) t ≡ flat_eval M S L fuel d i 0 (flat n bs cs 0)
  begins i t fs bs cs e z =
      ap (λ (y : ℕ). finish M S L fuel d (machine n (Ok (Starts i 0)) fs bs cs) y) z
      ∙ ap (λ (x : List (Frame K)). finish M S L fuel d (machine n (Ok (Starts i 0)) x bs cs) 0) e ∙ beginning M S L fuel d i 0 (bindings n bs) (cells n cs) 0

  module _ (x : Result (Next K) Stop) (fs : List (Frame K)) (bs : List (Binding K)) (cs : List (Cell K)) (t : ℕ) (o : FlatOutcome V)
      (inv : finish M S L fuel d (machine n x fs bs cs) t ≡ o) where
    pub ends_fuel : (i k : ℕ) → x ≡ Ok (Starts i k) → t ≡ fuel → flat_stopped FuelSpent t ≡ o
    ends_fuel i k e h =
        out_of_fuel M S L fuel d i k (frames n fs) (bindings n bs) (cells n cs) t (eq-eqb _ _ h)
        ∙ ap (λ (y : Result (Next K) Stop). finish M S L fuel d (machine n y fs bs cs) t) (sym e) ∙ inv

    pub ends_full : (i k : ℕ) → x ≡ Ok (Starts i k) → (t ≡ fuel → ⊥) → d ≤ length fs → flat_stopped PendingFull t ≡ o
    ends_full i k e h l =
        let q : length (frames n fs) ≡ length fs = length-map fs (frame n) in
        out_of_places M S L fuel d i k (frames n fs) (bindings n bs) (cells n cs) t (omega arith) (ne_eqb _ _ h)
        ∙ ap (λ (y : Result (Next K) Stop). finish M S L fuel d (machine n y fs bs cs) t) (sym e) ∙ inv

    pub ends_refused : (a : Result (Value K) Stop) (stop : Stop) (p : ℕ) (full : Bool) (i k : ℕ) → IsErrAnd a (λ y. y ≡ stop)
        → x ≡ Ok (Starts i k) → full ≡ leb p (length fs) → p ≡ d → Err stop ≡ may_start (eqb t fuel) full → ended n a t bs cs ≡ o
    ends_refused a stop p full i k y e h pd r =
        ap (λ (z : Result (Value K) Stop). ended n z t bs cs) (passed_on a stop y) ∙
        ⊎_elim
        (λ (u : eqb t fuel ≡ true).
        let q : stop ≡ FuelSpent = err_is stop FuelSpent (r ∙ ap (λ (b : Bool). may_start b full) u) in
        ap (λ (z : Stop). flat_stopped z t) q ∙ ends_fuel i k e (eqb-true t fuel u))
        (λ (u : eqb t fuel ≡ false).
        ⊎_elim
        (λ (w : full ≡ true).
        let q : stop ≡ PendingFull = err_is stop PendingFull (r ∙ ap (λ (b : Bool). may_start b full) u ∙ ap (may_start false) w) in
        ap (λ (z : Stop). flat_stopped z t) q ∙ ends_full i k e (eqb-false t fuel u) (leb-true d (length fs) (sym (h ∙ ap (λ (z : ℕ). leb z (length fs)) pd) ∙ w)))
        (λ (w : full ≡ false). ok_err tt stop (sym (r ∙ ap (λ (b : Bool). may_start b full) u ∙ ap (may_start false) w)))
        (cases_Bool full))
        (cases_Bool (eqb t fuel))

    pub ends_stop : (a : Result (Value K) Stop) (e : Stop) → IsErrAnd a (λ y. y ≡ e) → x ≡ Err e → ended n a t bs cs ≡ o
    ends_stop a e y q =
        ap (λ (z : Result (Value K) Stop). ended n z t bs cs) (passed_on a e y)
        ∙ stopping M S L fuel d e (frames n fs) (bindings n bs) (cells n cs) t
        ∙ ap (λ (y : Result (Next K) Stop). finish M S L fuel d (machine n y fs bs cs) t) (sym q) ∙ inv

    pub ends_done : (v : Value K) → x ≡ Ok (Returns v) → fs ≡ [] → flat_done (value n v) (flat n bs cs t) ≡ o
    ends_done v q e =
        returning M S L fuel d (value n v) (bindings n bs) (cells n cs) t
        ∙ ap (λ (y : List (Frame K)). finish M S L fuel d (machine n (Ok (Returns v)) y bs cs) t) (sym e)
        ∙ ap (λ (y : Result (Next K) Stop). finish M S L fuel d (machine n y fs bs cs) t) (sym q) ∙ inv

    -- a node is started
    module _ (i k : ℕ) (e : x ≡ Ok (Starts i k)) (r : Result (Next K) Stop) (after : List (Frame K))
        (step : at (next n r) (frames n after) (bindings n bs) (cells n cs) ≡ starts M S (S.node i).kind i k (frames n fs) (bindings n bs) (cells n cs)) where
      pub goes_start : t < fuel → length fs < d → finish M S L fuel d (machine n r after bs cs) (t + 1) ≡ o
      goes_start h l =
          let q : length (frames n fs) ≡ length fs = length-map fs (frame n) in
          ap (λ (y : ℕ). finish M S L fuel d (machine n r after bs cs) y) (add-one t)
          ∙ ap (λ (m : Machine V). finish M S L fuel d m (suc t)) step
          ∙ started M S L fuel d i k (frames n fs) (bindings n bs) (cells n cs) t (omega arith) (ne_eqb _ _ (λ (z : t ≡ fuel). omega arith))
          ∙ ap (λ (y : Result (Next K) Stop). finish M S L fuel d (machine n y fs bs cs) t) (sym e) ∙ inv

      pub falls_start : t < fuel → weigh fuel (machine n r after bs cs) (t + 1) < weigh fuel (machine n x fs bs cs) t
      falls_start h =
          let l : weigh fuel (starts M S (S.node i).kind i k (frames n fs) (bindings n bs) (cells n cs)) (suc t) < weigh fuel (at (Start i k) (frames n fs) (bindings n bs) (cells n cs)) t =
          lighter_started M S L fuel t i k (frames n fs) (bindings n bs) (cells n cs) h in
          let p : weigh fuel (machine n r after bs cs) (t + 1) ≡ weigh fuel (starts M S (S.node i).kind i k (frames n fs) (bindings n bs) (cells n cs)) (suc t) =
          ap (λ (y : ℕ). weigh fuel (machine n r after bs cs) y) (add-one t) ∙ ap (λ (m : Machine V). weigh fuel m (suc t)) step in
          let q : weigh fuel (machine n x fs bs cs) t ≡ weigh fuel (at (Start i k) (frames n fs) (bindings n bs) (cells n cs)) t =
          ap (λ (y : Result (Next K) Stop). weigh fuel (machine n y fs bs cs) t) e in
          subst (λ (y : ℕ). weigh fuel (machine n r after bs cs) (t + 1) < y) (sym q)
          (subst (λ (y : ℕ). y < weigh fuel (at (Start i k) (frames n fs) (bindings n bs) (cells n cs)) t) (sym p) l)

    -- a value comes back
    module _ (v : Value K) (e : x ≡ Ok (Returns v)) (f : Frame K) (low after : List (Frame K)) (popped : fs ≡ low ++ (f ∷ []))
        (r : Result (Next K) Stop) (bs' : List (Binding K)) (cs' : List (Cell K)) (L' : Limits) (same : L' ≡ L)
        (by : machine n r after bs' cs'
        ≡ resumes M S L' (stage n f.stage) f.node f.scope (value n v) (frames n low) (bindings n bs) (cells n cs)) where
      step : machine n r after bs' cs' ≡ resumes M S L (stage n f.stage) f.node f.scope (value n v) (frames n low) (bindings n bs) (cells n cs)
      step = by ∙ ap (λ (l : Limits). resumes M S l (stage n f.stage) f.node f.scope (value n v) (frames n low) (bindings n bs) (cells n cs)) same

      here : at (Return (value n v)) (frames n low ++ (frame n f ∷ [])) (bindings n bs) (cells n cs) ≡ machine n x fs bs cs
      here =
          ap (λ (l : List (Frame V)). at (Return (value n v)) l (bindings n bs) (cells n cs)) (sym (ap (frames n) popped ∙ map-append (frame n) low (f ∷ [])))
          ∙ ap (λ (y : Result (Next K) Stop). machine n y fs bs cs) (sym e)

      pub goes_return : length low < d → finish M S L fuel d (machine n r after bs' cs') t ≡ o
      goes_return l =
          let q : length (frames n low) ≡ length low = length-map low (frame n) in
          ap (λ (m : Machine V). finish M S L fuel d m t) step
          ∙ returned M S L fuel d (frame n f) (value n v) (frames n low) (bindings n bs) (cells n cs) t (omega arith)
          ∙ ap (λ (m : Machine V). finish M S L fuel d m t) here ∙ inv

      pub falls_return : weigh fuel (machine n r after bs' cs') t < weigh fuel (machine n x fs bs cs) t
      falls_return =
          subst (λ (m : Machine V). weigh fuel (machine n r after bs' cs') t < weigh fuel m t) here
          (subst (λ (m : Machine V). weigh fuel m t < weigh fuel (at (Return (value n v)) (frames n low ++ (frame n f ∷ [])) (bindings n bs) (cells n cs)) t) (sym step)
          (lighter_returned M S L fuel t (frame n f) (value n v) (frames n low) (bindings n bs) (cells n cs)))
