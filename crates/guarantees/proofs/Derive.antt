-- Derivations: a sheet that keeps the rules has them, and a sheet that has them keeps the rules.
use Rattle.std.proofs.Common.{◌≡◌, ℕ, zero, suc, ◌<◌, sym, refl, subst, inl, inr, arith}
use Rattle.sheet.specs.declared.decoded.Kind.{Kind}
use Rattle.sheet.specs.declared.decoded.Kind.TheVariants.{Literal, Variable, Lambda, Application, New, Channel, Read, Write, Choice, Operation, Unknown}
use Rattle.sheet.specs.Sheet.{Sheet, parts_of, part, InSpan}
use Rattle.shaping.specs.Meaning.{Nesting, Forest}
use Rattle.typing.specs.Rules.{Typed, Controlled, KeepsRules}
use Rattle.guarantees.specs.Derivations.{Derivation, literal, variable, lambda, application, new, channel, read, write, choice, operation, EntriesDerived}

module _ (S : Sheet) where
  -- each of node i's parts, which are n, has a derivation
  abbrev PartsDerived : ℕ → ℕ → Type 0
  PartsDerived n i = (q : ℕ) → q < n → Derivation S (part S i q)

  -- the rule of each kind
  by_rule : (k : Kind) (i : ℕ) → (S.node i).kind ≡ k → Typed S k i → Controlled S k i → PartsDerived (parts_of k) i → Derivation S i
  by_rule Literal i e t c d = literal i e t
  by_rule Variable i e t c d = variable i e t.0 t.1
  by_rule Lambda i e t c d = lambda i e t.0 (d 0 (omega arith)) t.1 c
  by_rule Application i e t c d =
      application i e t.0 (d 1 (omega arith)) c.0 (d 0 (omega arith)) c.1 t.1 t.2 t.3 t.4
  by_rule New i e t c d = new i e t.0 t.1 (d 0 (omega arith)) c t.2
  by_rule Channel i e t c d = channel i e t.0 t.1
  by_rule Read i e t c d = read i e t.0 (d 0 (omega arith)) c t.1
  by_rule Write i e t c d = write i e t.0 (d 1 (omega arith)) c.0 (d 0 (omega arith)) c.1 t.1 t.2
  by_rule Choice i e t c d =
      choice i e t.0 (d 2 (omega arith)) c.0 (d 1 (omega arith)) c.1.0 c.1.1 (d 0 (omega arith)) c.2.0 c.2.1 t.1 t.2 t.3
  by_rule Operation i e t c d = operation i e t.2 t.0 t.1 (d 1 (omega arith)) c.0 (d 0 (omega arith)) c.1 t.3 t.4
  by_rule Unknown i e t c d = absurd t

  -- no part
  no_parts : (i : ℕ) → PartsDerived 0 i
  no_parts i q l = absurd (omega arith)

  -- one part
  one_part : (i : ℕ) → Derivation S (part S i 0) → PartsDerived 1 i
  one_part i a zero l = a
  one_part i a (suc q) l = absurd (omega arith)

  -- two parts
  two_parts : (i : ℕ) → Derivation S (part S i 0) → Derivation S (part S i 1) → PartsDerived 2 i
  two_parts i a b zero l = a
  two_parts i a b (suc zero) l = b
  two_parts i a b (suc (suc q)) l = absurd (omega arith)

  -- three parts
  three_parts : (i : ℕ) → Derivation S (part S i 0) → Derivation S (part S i 1) → Derivation S (part S i 2) → PartsDerived 3 i
  three_parts i a b c zero l = a
  three_parts i a b c (suc zero) l = b
  three_parts i a b c (suc (suc zero)) l = c
  three_parts i a b c (suc (suc (suc q))) l = absurd (omega arith)

  -- what a derivation of a node of kind k says
  pub record Inverted (k : Kind) (i : ℕ) : Type 0 where
    pub typing : Typed S k i
    pub control : Controlled S k i
    pub parts : PartsDerived (parts_of k) i

  -- of the kind that the node has
  at_kind : (k : Kind) (i : ℕ) → (S.node i).kind ≡ k → Inverted k i → Inverted (S.node i).kind i
  at_kind k i e r = subst (λ (x : Kind). Inverted x i) (sym e) r

  -- the rule that a derivation ends with
  invert : (i : ℕ) → Derivation S i → Inverted (S.node i).kind i
  invert j (literal i e t) = at_kind Literal i e (record { typing = t; control = tt; parts = no_parts i })
  invert j (variable i e f t) = at_kind Variable i e (record { typing = (f, t); control = tt; parts = no_parts i })
  invert j (lambda i e f d t c) = at_kind Lambda i e (record { typing = (f, t); control = c; parts = one_part i d })
  invert j (application i e f d c d' c' a l m r) =
      at_kind Application i e (record { typing = (f, a, l, m, r); control = (c, c'); parts = two_parts i d' d })
  invert j (new i e f h d c t) = at_kind New i e (record { typing = (f, h, t); control = c; parts = one_part i d })
  invert j (channel i e f h) = at_kind Channel i e (record { typing = (f, h); control = tt; parts = no_parts i })
  invert j (read i e f d c t) = at_kind Read i e (record { typing = (f, t); control = c; parts = one_part i d })
  invert j (write i e f d c d' c' t u) = at_kind Write i e (record { typing = (f, t, u); control = (c, c'); parts = two_parts i d' d })
  invert j (choice i e f d c d₁ c₁ l₁ d₂ c₂ l₂ t u v) =
      at_kind Choice i e (record { typing = (f, t, u, v); control = (c, (c₁, l₁), (c₂, l₂)); parts = three_parts i d₂ d₁ d })
  invert j (operation i e f g h d c d' c' t u) =
      at_kind Operation i e (record { typing = (g, h, f, t, u); control = (c, c'); parts = two_parts i d' d })

module _ (S : Sheet) (N : Nesting S) where
  -- a node below a bound has a derivation, since its parts have
  derive_below : KeepsRules S → (n i : ℕ) → i < n → i < S.nodes → Derivation S i
  derive_below k zero i b l = absurd (omega arith)
  derive_below k (suc n) i b l =
      by_rule S (S.node i).kind i refl (k i l).0 (k i l).1
      (λ q h. let p = (N.parts i q l h).0 in derive_below k n (part S i q) (omega arith) (omega arith))

  -- each node of a sheet that keeps the rules has a derivation
  pub derive : KeepsRules S → (i : ℕ) → i < S.nodes → Derivation S i
  derive k i l = derive_below k (suc i) i (omega arith) l

  -- a node in the tree of one that has a derivation has one
  inside_below : (n r i : ℕ) → r < n → r < S.nodes → Derivation S r → InSpan S r i → Derivation S i
  inside_below zero r i b l d h = absurd (omega arith)
  inside_below (suc n) r i b l d h =
      elim (N.tiled r i l h) [
        | inl e ↦ subst (Derivation S) (sym e) d
        | inr t ↦
            let p = (N.parts r t.0 l t.1).0 in
            inside_below n (part S r t.0) i (omega arith) (omega arith) ((invert S r d).parts t.0 t.1) t.2
      ]

  -- so a sheet whose entries have derivations keeps the rules
  pub derived_keeps : Forest S → EntriesDerived S → KeepsRules S
  derived_keeps F d i l =
      let c = F.cover i l in
      let r = (S.entry c.0).root in
      let v = invert S i (inside_below (suc r) r i (omega arith) (F.rooted c.0 c.1) (d c.0 c.1) c.2) in
      (v.typing, v.control)
