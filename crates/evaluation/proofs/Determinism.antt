-- The big-step relation is deterministic.
use Rattle.std.proofs.Common.{◌≡◌, ℕ, Bool, cond, [], ◌∷◌, ◌++◌, length, set, Some, sym, refl, ap, ◌∙◌, subst}
use Rattle.std.specs.List.{slice_get}
use Rattle.number.specs.NumberKind.{NumberKind}
use Rattle.sheet.specs.declared.decoded.Kind.{Kind}
use Rattle.sheet.specs.declared.decoded.Kind.TheVariants.{Literal, Variable, Lambda, Application, New, Channel, Read, Write, Choice, Operation, Unknown}
use Rattle.sheet.specs.Sheet.{Sheet, last_part, part}
use Rattle.evaluation.specs.Values.{Value, number, closure, reference, Environment, bind, Cell, lookup}
use Rattle.evaluation.specs.Evaluation.{operation as operation_of}
use Rattle.evaluation.specs.BigStep.{Derives, literal, variable, lambda, application, new, channel, read, write, choice_zero, choice_nonzero, operation, Store, Deterministic}

module _ (M : NumberKind) (S : Sheet) where
  -- what a derivation's last rule says, by the kind of its node
  abbrev Last : Kind → Environment M.Value → Store M.Value → ℕ → Value M.Value → Store M.Value → Type 0
  Last Literal ρ μ i v ν = (v ≡ number (M.whole (S.node i).literal)) × (ν ≡ μ)
  Last Variable ρ μ i v ν = (lookup (S.node i).argument ρ ≡ Some v) × (ν ≡ μ)
  Last Lambda ρ μ i v ν = (v ≡ closure i ρ) × (ν ≡ μ)
  Last Application ρ μ i v ν =
      (f : ℕ) × (ρ' : Environment M.Value) × (a : Value M.Value) × (μ₁ : Store M.Value) × (μ₂ : Store M.Value)
      × Derives M S ρ μ (part S i 1) (closure f ρ') μ₁ × Derives M S ρ μ₁ (part S i 0) a μ₂ × Derives M S (bind f a ρ') μ₂ (last_part f) v ν
  Last New ρ μ i v ν =
      (a : Value M.Value) × (μ₁ : Store M.Value) × Derives M S ρ μ (part S i 0) a μ₁
      × (v ≡ reference (length μ₁)) × (ν ≡ μ₁ ++ record { site = (S.node i).argument; value = a } ∷ [])
  Last Channel ρ μ i v ν = (v ≡ reference (S.node i).argument) × (ν ≡ μ)
  Last Read ρ μ i v ν =
      (l : ℕ) × (c : Cell M.Value) × Derives M S ρ μ (part S i 0) (reference l) ν × (slice_get ν l ≡ Some c) × (v ≡ c.value)
  Last Write ρ μ i v ν =
      (l : ℕ) × (c : Cell M.Value) × (μ₁ : Store M.Value) × (μ₂ : Store M.Value)
      × Derives M S ρ μ (part S i 1) (reference l) μ₁ × Derives M S ρ μ₁ (part S i 0) v μ₂ × (slice_get μ₂ l ≡ Some c)
      × (ν ≡ set μ₂ l (record { site = c.site; value = v }))
  Last Choice ρ μ i v ν =
      (n : M.Value) × (μ₁ : Store M.Value) × Derives M S ρ μ (part S i 2) (number n) μ₁
      × Derives M S ρ μ₁ (cond (M.is_zero n) (part S i 0) (part S i 1)) v ν
  Last Operation ρ μ i v ν =
      (m : M.Value) × (n : M.Value) × (μ₁ : Store M.Value) × Derives M S ρ μ (part S i 1) (number m) μ₁
      × Derives M S ρ μ₁ (part S i 0) (number n) ν × (v ≡ number (operation_of M (S.node i).argument m n))
  Last Unknown ρ μ i v ν = ⊥

  -- a fact about the node's kind, at the kind that it is known to have
  known : (k : Kind) (ρ : Environment M.Value) (μ : Store M.Value) (i : ℕ) (v : Value M.Value) (ν : Store M.Value)
      → (S.node i).kind ≡ k → Last k ρ μ i v ν → Last (S.node i).kind ρ μ i v ν
  known k ρ μ i v ν e h = subst (λ (x : Kind). Last x ρ μ i v ν) (sym e) h

  -- every derivation ends in the rule of its node's kind
  last : (ρ : Environment M.Value) (μ : Store M.Value) (i : ℕ) (v : Value M.Value) (ν : Store M.Value)
      → Derives M S ρ μ i v ν → Last (S.node i).kind ρ μ i v ν
  last ρ μ i v ν (literal e) = known Literal ρ μ i _ μ e (refl, refl)
  last ρ μ i v ν (variable e h) = known Variable ρ μ i v μ e (h, refl)
  last ρ μ i v ν (lambda e) = known Lambda ρ μ i _ μ e (refl, refl)
  last ρ μ i v ν (application f ρ' a μ₁ μ₂ e D₁ D₂ D₃) = known Application ρ μ i v ν e (f, ρ', a, μ₁, μ₂, D₁, D₂, D₃)
  last ρ μ i v ν (new a μ₁ e D) = known New ρ μ i _ _ e (a, μ₁, D, refl, refl)
  last ρ μ i v ν (channel e) = known Channel ρ μ i _ μ e (refl, refl)
  last ρ μ i v ν (read l c e D h) = known Read ρ μ i _ ν e (l, c, D, h, refl)
  last ρ μ i v ν (write l c μ₁ μ₂ e D₁ D₂ h) = known Write ρ μ i v _ e (l, c, μ₁, μ₂, D₁, D₂, h, refl)
  last ρ μ i v ν (choice_zero n μ₁ e D₁ z D₂) =
      known Choice ρ μ i v ν e (n, μ₁, D₁, subst (λ (b : Bool). Derives M S ρ μ₁ (cond b (part S i 0) (part S i 1)) v ν) (sym z) D₂)
  last ρ μ i v ν (choice_nonzero n μ₁ e D₁ z D₂) =
      known Choice ρ μ i v ν e (n, μ₁, D₁, subst (λ (b : Bool). Derives M S ρ μ₁ (cond b (part S i 0) (part S i 1)) v ν) (sym z) D₂)
  last ρ μ i v ν (operation m n μ₁ e D₁ D₂) = known Operation ρ μ i _ ν e (m, n, μ₁, D₁, D₂, refl)

  -- a derivation's last rule, where the node's kind is known
  rule : (k : Kind) (ρ : Environment M.Value) (μ : Store M.Value) (i : ℕ) (v : Value M.Value) (ν : Store M.Value)
      → (S.node i).kind ≡ k → Derives M S ρ μ i v ν → Last k ρ μ i v ν
  rule k ρ μ i v ν e D = subst (λ (x : Kind). Last x ρ μ i v ν) e (last ρ μ i v ν D)

  -- a derivation from an equal environment, an equal store and an equal node
  moved : {ρ ρ₁ : Environment M.Value} {μ μ₁ : Store M.Value} {i i₁ : ℕ} {v : Value M.Value} {ν : Store M.Value}
      → ρ₁ ≡ ρ → μ₁ ≡ μ → i₁ ≡ i → Derives M S ρ μ i v ν → Derives M S ρ₁ μ₁ i₁ v ν
  moved {ρ} {ρ₁} {μ} {μ₁} {i} {i₁} {v} {ν} p q r D =
      subst (λ (x : Environment M.Value). Derives M S x μ₁ i₁ v ν) (sym p)
      (subst (λ (x : Store M.Value). Derives M S ρ x i₁ v ν) (sym q) (subst (λ (x : ℕ). Derives M S ρ μ x v ν) (sym r) D))

  -- equal conditions choose the same branch
  branch : (i : ℕ) {m n : M.Value} {b : Bool} → M.is_zero m ≡ b → number m ≡ number n
      → cond b (part S i 0) (part S i 1) ≡ cond (M.is_zero n) (part S i 0) (part S i 1)
  branch i {m} {n} {b} z h = let q : b ≡ M.is_zero n = cc in ap (λ (x : Bool). cond x (part S i 0) (part S i 1)) q

  -- by induction on the first derivation; the second ends in the same rule
  deterministic_from : (ρ : Environment M.Value) (μ : Store M.Value) (i : ℕ) (v : Value M.Value) (ν : Store M.Value)
      → Derives M S ρ μ i v ν → (w : Value M.Value) (κ : Store M.Value) → Derives M S ρ μ i w κ → (v ≡ w) × (ν ≡ κ)
  deterministic_from ρ μ i v ν (literal e) w κ E =
      let L = rule Literal ρ μ i w κ e E in (sym L.0, sym L.1)
  deterministic_from ρ μ i v ν (variable e h) w κ E =
      let L = rule Variable ρ μ i w κ e E in
      (cc, sym L.1)
  deterministic_from ρ μ i v ν (lambda e) w κ E =
      let L = rule Lambda ρ μ i w κ e E in (sym L.0, sym L.1)
  deterministic_from ρ μ i v ν (application f ρ' a μ₁ μ₂ e D₁ D₂ D₃) w κ E =
      let L = rule Application ρ μ i w κ e E in
      let h₁ = deterministic_from ρ μ (part S i 1) (closure f ρ') μ₁ D₁ (closure L.0 L.1) L.3 L.5 in
      let h₂ = deterministic_from ρ μ₁ (part S i 0) a μ₂ D₂ L.2 L.4 (moved refl h₁.1 refl L.6) in
      let p : bind f a ρ' ≡ bind L.0 L.2 L.1 = cc in
      let q : f ≡ L.0 = cc in
      deterministic_from (bind f a ρ') μ₂ (last_part f) v ν D₃ w κ (moved p h₂.1 (ap last_part q) L.7)
  deterministic_from ρ μ i v ν (new a μ₁ e D) w κ E =
      let L = rule New ρ μ i w κ e E in
      let h = deterministic_from ρ μ (part S i 0) a μ₁ D L.0 L.1 L.2 in
      (cc, cc)
  deterministic_from ρ μ i v ν (channel e) w κ E =
      let L = rule Channel ρ μ i w κ e E in (sym L.0, sym L.1)
  deterministic_from ρ μ i v ν (read l c e D h) w κ E =
      let L = rule Read ρ μ i w κ e E in
      let k = deterministic_from ρ μ (part S i 0) (reference l) ν D (reference L.0) κ L.2 in
      let q : c ≡ L.1 = cc in
      (ap (λ (b : Cell M.Value). b.value) q ∙ sym L.4, k.1)
  deterministic_from ρ μ i v ν (write l c μ₁ μ₂ e D₁ D₂ h) w κ E =
      let L = rule Write ρ μ i w κ e E in
      let h₁ = deterministic_from ρ μ (part S i 1) (reference l) μ₁ D₁ (reference L.0) L.2 L.4 in
      let h₂ = deterministic_from ρ μ₁ (part S i 0) v μ₂ D₂ w L.3 (moved refl h₁.1 refl L.5) in
      let q : c ≡ L.1 = cc in
      let r : c.site ≡ L.1.site = ap (λ (b : Cell M.Value). b.site) q in
      (h₂.0, cc)
  deterministic_from ρ μ i v ν (choice_zero n μ₁ e D₁ z D₂) w κ E =
      let L = rule Choice ρ μ i w κ e E in
      let h₁ = deterministic_from ρ μ (part S i 2) (number n) μ₁ D₁ (number L.0) L.1 L.2 in
      deterministic_from ρ μ₁ (part S i 0) v ν D₂ w κ
      (moved refl h₁.1 (branch i z h₁.0) L.3)
  deterministic_from ρ μ i v ν (choice_nonzero n μ₁ e D₁ z D₂) w κ E =
      let L = rule Choice ρ μ i w κ e E in
      let h₁ = deterministic_from ρ μ (part S i 2) (number n) μ₁ D₁ (number L.0) L.1 L.2 in
      deterministic_from ρ μ₁ (part S i 1) v ν D₂ w κ
      (moved refl h₁.1 (branch i z h₁.0) L.3)
  deterministic_from ρ μ i v ν (operation m n μ₁ e D₁ D₂) w κ E =
      let L = rule Operation ρ μ i w κ e E in
      let h₁ = deterministic_from ρ μ (part S i 1) (number m) μ₁ D₁ (number L.0) L.2 L.3 in
      let h₂ = deterministic_from ρ μ₁ (part S i 0) (number n) ν D₂ (number L.1) κ (moved refl h₁.1 refl L.4) in
      let p : m ≡ L.0 = cc in
      let q : n ≡ L.1 = cc in
      (rw (p, q) (sym L.5), h₂.1)

-- the relation is deterministic, for every number kind
pub deterministic : (M : NumberKind) → Deterministic M
deterministic M S ρ μ i v w μ₁ μ₂ D E = deterministic_from M S ρ μ i v μ₁ D w μ₂ E
