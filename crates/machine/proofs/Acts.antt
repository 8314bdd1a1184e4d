-- From what the calls of a step ensure to what the step does.
use Rattle.std.proofs.Common.{◌≡◌, ℕ, zero, suc, Bool, cond, eqb, ltb, List, length, map, set, Some, None, Option, Ok, sym, refl, ap, ◌∙◌, arith}
use lib.Seq.{map-set}
use Rattle.std.specs.List.{slice_get}
use Rattle.std.specs.Option.{option_map}
use Rattle.std.proofs.lemmas.Option.{slice_get-map, slice_get_within}
use Rattle.std.proofs.lemmas.Bool.{eq-eqb, ne_eqb, lt-ltb, cond-true, cond-false}
use Rattle.machine.specs.declared.values.Value.{Value}
use Rattle.machine.specs.declared.values.Value.TheVariants.{Number, Closure, Reference}
use Rattle.machine.specs.declared.values.Binding.{Binding}
use Rattle.machine.specs.declared.values.Cell.{Cell}
use Rattle.machine.specs.declared.values.Frame.{Frame}
use Rattle.machine.specs.Wanted.{address_for}
use Rattle.machine.specs.Flat.{seek, chain}
use Rattle.machine.specs.Seen.{Return, value, binding, cell, bindings, cells}
use Rattle.machine.specs.Steps.{at, reads_at, reads, writes_at, writes}

-- the element that a function made
made_at : {A B : Type 0} (f : A → B) (xs : List A) (i : ℕ) (o : Option A) → o ≡ slice_get xs i → slice_get (map f xs) i ≡ option_map f o
made_at f xs i o e = slice_get-map f xs i ∙ ap (option_map f) (sym e)

-- the value that has an address
address_is : {K : Type 0} (i a : ℕ) (v : Value K) → Ok a ≡ address_for i v → v ≡ Reference a
address_is i a (Number x) h = cc
address_is i a (Closure f k) h = cc
address_is i a (Reference b) h = let z : a ≡ b = cc in ap Reference (sym z)

module _ {K V : Type 0} (n : K → V) where
  -- a cell is read
  pub read_some : (i a : ℕ) (v : Value K) (x : Cell K) (cs : List (Cell K)) (fs : List (Frame V)) (bs : List (Binding V))
      → Ok a ≡ address_for i v → Some x ≡ slice_get cs a
      → at (Return (value n x.value)) fs bs (cells n cs) ≡ reads i (value n v) fs bs (cells n cs)
  read_some i a v x cs fs bs e r =
      sym (
      ap (λ (w : Value K). reads i (value n w) fs bs (cells n cs)) (address_is i a v e)
      ∙ ap (λ (o : Option (Cell V)). reads_at i o fs bs (cells n cs)) (made_at (cell n) cs a (Some x) r))

  -- a cell is written
  pub write_some : (i a : ℕ) (t v : Value K) (x : Cell K) (cs after : List (Cell K)) (r : Bool) (fs : List (Frame V)) (bs : List (Binding V))
      → Ok a ≡ address_for i t → Some x ≡ slice_get cs a
      → r ≡ ltb a (length cs) → after ≡ cond r (set cs a (record { site = x.site; value = v })) cs
      → at (Return (value n v)) fs bs (cells n after) ≡ writes i (value n t) (value n v) fs bs (cells n cs)
  write_some i a t v x cs after r fs bs e q er ea =
      let y : Cell K = record { site = x.site; value = v } in
      ap (λ (l : List (Cell V)). at (Return (value n v)) fs bs l)
      (ap (cells n) (ea ∙ cond-true r _ _ (er ∙ lt-ltb _ _ (slice_get_within cs a x (sym q)))) ∙ map-set (cell n) cs a y)
      ∙ sym (
      ap (λ (w : Value K). writes i (value n w) (value n v) fs bs (cells n cs)) (address_is i a t e)
      ∙ ap (λ (o : Option (Cell V)). writes_at i a (value n v) o fs bs (cells n cs)) (made_at (cell n) cs a (Some x) q))

  -- looking up the bindings: the empty environment, no binding left to look at, a place past the bindings
  pub seek_empty : (m f k : ℕ) (bs : List (Binding V)) → k ≡ 0 → None ≡ seek m bs f k
  seek_empty m f zero bs h = refl
  seek_empty m f (suc k) bs h = absurd (omega arith)

  pub seek_spent : (m f k : ℕ) (bs : List (Binding V)) → m ≡ 0 → None ≡ seek m bs f k
  seek_spent zero f zero bs h = refl
  seek_spent zero f (suc k) bs h = refl
  seek_spent (suc m) f k bs h = absurd (omega arith)

  -- one binding up
  seek_at : (m l f k j : ℕ) (bs : List (Binding K)) (o : Option (Binding K)) → m ≡ suc l → k ≡ suc j → o ≡ slice_get bs j
      → seek m (bindings n bs) f k
      ≡ chain (option_map (binding n) o) (λ b. cond (eqb f b.function) (Some b.value) (seek l (bindings n bs) f b.outer))
  seek_at m l f k j bs o em ek e =
      ap (λ (x : ℕ). seek x (bindings n bs) f k) em
      ∙ ap (λ (x : ℕ). seek (suc l) (bindings n bs) f x) ek
      ∙ ap (λ (z : Option (Binding V)). chain z (λ b. cond (eqb f b.function) (Some b.value) (seek l (bindings n bs) f b.outer))) (made_at (binding n) bs j o e)

  pub seek_past : (m l f k j : ℕ) (bs : List (Binding K)) → m ≡ suc l → k ≡ suc j → None ≡ slice_get bs j → None ≡ seek m (bindings n bs) f k
  seek_past m l f k j bs em ek e = sym (seek_at m l f k j bs None em ek e)

  pub seek_here : (m l f k j : ℕ) (bs : List (Binding K)) (b : Binding K) → m ≡ suc l → k ≡ suc j → Some b ≡ slice_get bs j
      → b.function ≡ f → Some (value n b.value) ≡ seek m (bindings n bs) f k
  seek_here m l f k j bs b em ek e q = sym (seek_at m l f k j bs (Some b) em ek e ∙ cond-true _ _ _ (eq-eqb _ _ (sym q)))

  pub seek_on : (m l f k j : ℕ) (bs : List (Binding K)) (b : Binding K) → m ≡ suc l → k ≡ suc j → Some b ≡ slice_get bs j
      → (b.function ≡ f → ⊥) → seek l (bindings n bs) f b.outer ≡ seek m (bindings n bs) f k
  seek_on m l f k j bs b em ek e q = sym (seek_at m l f k j bs (Some b) em ek e ∙ cond-false _ _ _ (ne_eqb _ _ (λ x. q (sym x))))
