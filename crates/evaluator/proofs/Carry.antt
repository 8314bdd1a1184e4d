-- A flat state carries a state: each word a value, each place an environment.
use Rattle.std.proofs.Common.{◌≡◌, ℕ, zero, suc, ◌≤◌, Bool, true, false, cond, eqb, List, [], ◌∷◌, ◌++◌, length, set, Some, None, Option, sym, refl, ap, subst, arith}
use Rattle.std.specs.List.{slice_get}
use Rattle.evaluation.specs.Values.{Value, number, closure, reference, Environment, empty, bind, Cell, lookup}
use Rattle.machine.specs.declared.values.Value.{Value as Word}
use Rattle.machine.specs.declared.values.Value.TheVariants.{Number, Closure, Reference}
use Rattle.machine.specs.declared.values.Binding.{Binding}
use Rattle.machine.specs.declared.values.Cell.{Cell as Slot}
use Rattle.machine.specs.Flat.{seek, chain}

module _ {V : Type 0} where
  abbrev mutual
    pub Carries : List (Binding V) → Value V → Word V → Type 0
    Carries bs (number n) (Number m) = n ≡ m
    Carries bs (number n) (Closure g k) = ⊥
    Carries bs (number n) (Reference b) = ⊥
    Carries bs (closure f ρ) (Number m) = ⊥
    Carries bs (closure f ρ) (Closure g k) = (f ≡ g) × CarriesEnvironment bs ρ k
    Carries bs (closure f ρ) (Reference b) = ⊥
    Carries bs (reference a) (Number m) = ⊥
    Carries bs (reference a) (Closure g k) = ⊥
    Carries bs (reference a) (Reference b) = a ≡ b

    -- the environment at the place k
    pub CarriesEnvironment : List (Binding V) → Environment V → ℕ → Type 0
    CarriesEnvironment bs empty k = k ≡ 0
    CarriesEnvironment bs (bind f v ρ) k =
        (j : ℕ) × (b : Binding V) × (k ≡ suc j) × (slice_get bs j ≡ Some b) × (f ≡ b.function) × (b.outer ≤ j)
        × Carries bs v b.value × CarriesEnvironment bs ρ b.outer

  -- the bindings made so far stay
  abbrev pub Stay : List (Binding V) → List (Binding V) → Type 0
  Stay bs cs = (j : ℕ) (b : Binding V) → slice_get bs j ≡ Some b → slice_get cs j ≡ Some b

module _ {V : Type 0} (bs cs : List (Binding V)) (h : Stay bs cs) where
  mutual
    pub value_stays : (v : Value V) (w : Word V) → Carries bs v w → Carries cs v w
    value_stays (number n) (Number m) c = c
    value_stays (number n) (Closure g k) c = c
    value_stays (number n) (Reference b) c = c
    value_stays (closure f ρ) (Number m) c = c
    value_stays (closure f ρ) (Closure g k) c = (c.0, environment_stays ρ k c.1)
    value_stays (closure f ρ) (Reference b) c = c
    value_stays (reference a) (Number m) c = c
    value_stays (reference a) (Closure g k) c = c
    value_stays (reference a) (Reference b) c = c

    pub environment_stays : (ρ : Environment V) (k : ℕ) → CarriesEnvironment bs ρ k → CarriesEnvironment cs ρ k
    environment_stays empty k c = c
    environment_stays (bind f v ρ) k c =
        (c.0, c.1, c.2, h c.0 c.1 c.3, c.4, c.5, value_stays v c.1.value c.6, environment_stays ρ c.1.outer c.7)

module _ {V : Type 0} (bs : List (Binding V)) where
  -- what is found in the one and in the other
  abbrev pub Finds : Option (Value V) → Option (Word V) → Type 0
  Finds None None = Unit {0}
  Finds None (Some w) = ⊥
  Finds (Some v) None = ⊥
  Finds (Some v) (Some w) = Carries bs v w

  finds_cond : (x : Bool) (v : Value V) (w : Word V) (o : Option (Value V)) (o' : Option (Word V)) → Carries bs v w → Finds o o'
      → Finds (cond x (Some v) o) (cond x (Some w) o')
  finds_cond true v w o o' h k = h
  finds_cond false v w o o' h k = k

  pub seek_finds : (n f : ℕ) (ρ : Environment V) (k : ℕ) → k ≤ n → CarriesEnvironment bs ρ k → Finds (lookup f ρ) (seek n bs f k)
  seek_finds n f empty k l c = subst (λ (x : ℕ). Finds None (seek n bs f x)) (sym c) tt
  seek_finds zero f (bind g v ρ) k l c = let e : k ≡ suc c.0 = c.2 in absurd (omega arith)
  seek_finds (suc n) f (bind g v ρ) k l c =
      let j : ℕ = c.0 in
      let b : Binding V = c.1 in
      let e : k ≡ suc j = c.2 in
      let m : b.outer ≤ j = c.5 in
      let r : Finds (lookup f ρ) (seek n bs f b.outer) = seek_finds n f ρ b.outer (omega arith) c.7 in
      let q : Finds (cond (eqb f g) (Some v) (lookup f ρ)) (cond (eqb f b.function) (Some b.value) (seek n bs f b.outer)) =
      subst (λ (x : ℕ). Finds (cond (eqb f g) (Some v) (lookup f ρ)) (cond (eqb f x) (Some b.value) (seek n bs f b.outer))) c.4
      (finds_cond (eqb f g) v b.value (lookup f ρ) (seek n bs f b.outer) c.6 r) in
      subst (λ (x : ℕ). Finds (lookup f (bind g v ρ)) (seek (suc n) bs f x)) (sym e)
      (subst (λ (o : Option (Binding V)). Finds (lookup f (bind g v ρ)) (chain o (λ x. cond (eqb f x.function) (Some x.value) (seek n bs f x.outer))))
      (sym c.3) q)

  -- the slots carry the cells
  abbrev pub Slots : List (Cell V) → List (Slot V) → Type 0
  Slots [] [] = Unit {0}
  Slots [] (d ∷ ds) = ⊥
  Slots (c ∷ cs) [] = ⊥
  Slots (c ∷ cs) (d ∷ ds) = (c.site ≡ d.site) × Carries bs c.value d.value × Slots cs ds

  abbrev pub SlotAt : Option (Cell V) → Option (Slot V) → Type 0
  SlotAt None None = Unit {0}
  SlotAt None (Some d) = ⊥
  SlotAt (Some c) None = ⊥
  SlotAt (Some c) (Some d) = (c.site ≡ d.site) × Carries bs c.value d.value

  pub slots_at : (cs : List (Cell V)) (ds : List (Slot V)) (a : ℕ) → Slots cs ds → SlotAt (slice_get cs a) (slice_get ds a)
  slots_at [] [] a h = tt
  slots_at [] (d ∷ ds) a h = absurd h
  slots_at (c ∷ cs) [] a h = absurd h
  slots_at (c ∷ cs) (d ∷ ds) zero h = (h.0, h.1)
  slots_at (c ∷ cs) (d ∷ ds) (suc a) h = slots_at cs ds a h.2

  pub slots_length : (cs : List (Cell V)) (ds : List (Slot V)) → Slots cs ds → length cs ≡ length ds
  slots_length [] [] h = refl
  slots_length [] (d ∷ ds) h = absurd h
  slots_length (c ∷ cs) [] h = absurd h
  slots_length (c ∷ cs) (d ∷ ds) h = ap suc (slots_length cs ds h.2)

  pub slots_set : (cs : List (Cell V)) (ds : List (Slot V)) (a : ℕ) (c : Cell V) (d : Slot V) → Slots cs ds
      → c.site ≡ d.site → Carries bs c.value d.value → Slots (set cs a c) (set ds a d)
  slots_set [] [] a c d h e k = tt
  slots_set [] (y ∷ ds) a c d h e k = absurd h
  slots_set (x ∷ cs) [] a c d h e k = absurd h
  slots_set (x ∷ cs) (y ∷ ds) zero c d h e k = (e, k, h.2)
  slots_set (x ∷ cs) (y ∷ ds) (suc a) c d h e k = (h.0, h.1, slots_set cs ds a c d h.2 e k)

  pub slots_append : (cs : List (Cell V)) (ds : List (Slot V)) (c : Cell V) (d : Slot V) → Slots cs ds
      → c.site ≡ d.site → Carries bs c.value d.value → Slots (cs ++ (c ∷ [])) (ds ++ (d ∷ []))
  slots_append [] [] c d h e k = (e, k, tt)
  slots_append [] (y ∷ ds) c d h e k = absurd h
  slots_append (x ∷ cs) [] c d h e k = absurd h
  slots_append (x ∷ cs) (y ∷ ds) c d h e k = (h.0, h.1, slots_append cs ds c d h.2 e k)

module _ {V : Type 0} (bs bs' : List (Binding V)) (h : Stay bs bs') where
  pub slots_stay : (cs : List (Cell V)) (ds : List (Slot V)) → Slots bs cs ds → Slots bs' cs ds
  slots_stay [] [] k = tt
  slots_stay [] (d ∷ ds) k = k
  slots_stay (c ∷ cs) [] k = k
  slots_stay (c ∷ cs) (d ∷ ds) k = (k.0, value_stays bs bs' h c.value d.value k.1, slots_stay cs ds k.2)
