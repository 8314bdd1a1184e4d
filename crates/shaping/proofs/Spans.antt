-- The parts of a node, and spans that nest.
use Rattle.std.proofs.Common.{◌≡◌, ℕ, zero, suc, ◌+◌, ◌-◌, ◌<◌, ◌≤◌, true, false, ◌&&◌, ltb, leb, ◌⊎◌, Some, None, Option, sym, refl, ap, ◌∙◌, subst, inl, inr, ⊎_elim, arith}
use Rattle.std.proofs.lemmas.Bool.{true≢false, cases_lt, cases_Bool, cond-true, cond-false, and_parts, ltb-true, leb-true, eqb-true}
use Rattle.sheet.specs.Asked.{Each}
use Rattle.sheet.specs.Sheet.{Sheet, parts_of, part, part_before, InSpan}
use Rattle.shaping.specs.Nodes.{parts_begin, sized, lawful_node}
use Rattle.shaping.specs.Meaning.{SpanWithin, SpansApart, Nesting}

-- parts of the right size begin somewhere
sized_means : (i s : ℕ) (o : Option ℕ) → sized i s o ≡ true → (b : ℕ) × (o ≡ Some b) × (s ≡ i - b + 1)
sized_means i s None h = absurd (true≢false (sym h))
sized_means i s (Some b) h = (b, refl, eqb-true _ _ h)

module _ (S : Sheet) where
  -- the size of a node
  abbrev size : ℕ → ℕ
  size i = (S.node i).size

  -- a part more: the last one has a size, and the others begin where they did before it
  begin_more : (n e b : ℕ) → parts_begin S (suc n) e ≡ Some b → (1 ≤ size (e - 1)) × (size (e - 1) ≤ e) × (parts_begin S n (e - size (e - 1)) ≡ Some b)
  unfolding parts_begin
  begin_more n e b h =
      ⊎_elim
      (λ (t : (ltb 0 (size (e - 1)) && leb (size (e - 1)) e) ≡ true).
      let p = and_parts _ _ t in
      (ltb-true _ _ p.0, leb-true _ _ p.1, sym (cond-true _ (parts_begin S n (e - size (e - 1))) None t) ∙ h))
      (λ (f : (ltb 0 (size (e - 1)) && leb (size (e - 1)) e) ≡ false).
      let x : None ≡ Some b = sym (cond-false _ (parts_begin S n (e - size (e - 1))) None f) ∙ h in
      let z : ◌≡◌ {A = ℕ} 0 1 = cc in
      absurd (omega arith))
      (cases_Bool (ltb 0 (size (e - 1)) && leb (size (e - 1)) e))

  -- no part: they begin where they end
  begin_zero : (e b : ℕ) → parts_begin S zero e ≡ Some b → e ≡ b
  unfolding parts_begin
  begin_zero e b h = cc

  -- the parts before the last one are the parts of what ends before it
  part_shift : (e q : ℕ) → part S e (suc q) ≡ part S (e - size (e - 1)) q
  part_shift e zero = omega arith
  part_shift e (suc q) = ap (part_before S) (part_shift e q)

  -- part p ends before node e, and its span does not begin before node b
  abbrev Between : ℕ → ℕ → ℕ → Type 0
  Between b e p = (p < e) × (1 ≤ size p) × (b + size p ≤ p + 1)

  -- parts begin no later than they end
  begins_before : (n e b : ℕ) → parts_begin S n e ≡ Some b → b ≤ e
  begins_before zero e b h = let x = begin_zero e b h in omega arith
  begins_before (suc n) e b h =
      let m = begin_more n e b h in
      let r = begins_before n (e - size (e - 1)) b m.2 in
      omega arith

  -- each part lies between where they begin and where they end
  parts_between : (n e b : ℕ) → parts_begin S n e ≡ Some b → (q : ℕ) → q < n → Between b e (part S e q)
  parts_between zero e b h q l = absurd (omega arith)
  parts_between (suc n) e b h zero l =
      let m = begin_more n e b h in
      let r = begins_before n (e - size (e - 1)) b m.2 in
      (omega (arith, m.0, m.1), m.0, omega (arith, m.0, m.1))
  parts_between (suc n) e b h (suc q) l =
      let m = begin_more n e b h in
      let r = parts_between n (e - size (e - 1)) b m.2 q (omega arith) in
      subst (Between b e) (sym (part_shift e q)) (omega (arith, r.0), r.1, r.2)

  -- each node among the parts is in the span of one
  parts_tile : (n e b : ℕ) → parts_begin S n e ≡ Some b → (j : ℕ) → b ≤ j → j < e → (q : ℕ) × (q < n) × InSpan S (part S e q) j
  parts_tile zero e b h j k l = let x = begin_zero e b h in absurd (omega arith)
  parts_tile (suc n) e b h j k l =
      let m = begin_more n e b h in
      ⊎_elim
      (λ (x : j < e - size (e - 1)).
      let r = parts_tile n (e - size (e - 1)) b m.2 j k x in
      (suc r.0, omega (arith, r.1), subst (λ (p : ℕ). InSpan S p j) (sym (part_shift e r.0)) r.2))
      (λ (x : e - size (e - 1) ≤ j). (zero, omega arith, (omega arith, omega (arith, m.0, m.1))))
      (cases_lt j (e - size (e - 1)))

module _ (S : Sheet) (ok : Each S.nodes (lawful_node S)) where
  -- where the parts of node i begin
  begins : (i : ℕ) → i < S.nodes → (b : ℕ) × (parts_begin S (parts_of (S.node i).kind) i ≡ Some b) × ((S.node i).size ≡ i - b + 1)
  begins i l =
      let h : lawful_node S i ≡ true = ok i l in
      let z : sized i (S.node i).size (parts_begin S (parts_of (S.node i).kind) i) ≡ true = grind arith in
      sized_means i (S.node i).size _ z

  -- a node is in its own span, which begins at node 0 or later
  pub own : (i : ℕ) → i < S.nodes → InSpan S i i × ((S.node i).size ≤ i + 1)
  own i l = let b = begins i l in ((omega arith, omega (arith, b.2)), omega (arith, b.2))

  -- the span of j does not begin before that of g
  abbrev Nested : ℕ → ℕ → Type 0
  Nested j g = g + (S.node j).size ≤ j + (S.node g).size

  -- a part stands before its node, and its span does not begin before the node's
  part_nested : (i q : ℕ) → i < S.nodes → q < parts_of (S.node i).kind → (part S i q < i) × Nested (part S i q) i
  part_nested i q l k =
      let b = begins i l in
      let r = begins_before S _ i b.0 b.1 in
      let p = parts_between S _ i b.0 b.1 q k in
      (p.0, omega (arith, p.2, b.2))

  -- a node in the span of g is g, or in the span of one of its parts
  tiled : (g j : ℕ) → g < S.nodes → InSpan S g j → (j ≡ g) ⊎ ((q : ℕ) × (q < parts_of (S.node g).kind) × InSpan S (part S g q) j)
  tiled g j l h =
      let b = begins g l in
      let r = begins_before S _ g b.0 b.1 in
      ⊎_elim
      (λ (x : j < g). inr (parts_tile S _ g b.0 b.1 j (omega (arith, h.1, b.2)) x))
      (λ (x : g ≤ j). inl (omega (arith, h.0)))
      (cases_lt j g)

  -- by induction on a bound of the later node
  nested_to : (n j g : ℕ) → g < n → g < S.nodes → InSpan S g j → Nested j g
  nested_to zero j g b l h = absurd (omega arith)
  nested_to (suc n) j g b l h =
      ⊎_elim
      (λ (e : j ≡ g). subst (λ (x : ℕ). Nested x g) (sym e) (omega arith))
      (λ (t : (q : ℕ) × (q < parts_of (S.node g).kind) × InSpan S (part S g q) j).
      let p = part_nested g t.0 l t.1 in
      let r = nested_to n j (part S g t.0) (omega (arith, p.0)) (omega (arith, p.0)) t.2 in
      omega (arith, p.1, r))
      (tiled g j l h)

  -- a node in the span of g has its whole span there
  pub within : (j g : ℕ) → g < S.nodes → InSpan S g j → SpanWithin S j g
  within j g l h k i = let n = nested_to (suc g) j g (omega arith) l h in (omega (arith, h.0, i.0), omega (arith, n, i.1))

  -- a span that does not have node i, which is no later, is apart from that of i
  apart : (i j : ℕ) → i ≤ j → (j < i + (S.node j).size → ⊥) → SpansApart S i j
  apart i j l n k a b = n (omega (arith, a.0, b.1))

  -- of two nodes, the earlier one is in the span of the later one, or their spans are apart
  by_order : (i j : ℕ) → j < S.nodes → i ≤ j → SpanWithin S i j ⊎ SpansApart S i j
  by_order i j l o =
      ⊎_elim
      (λ (x : j < i + (S.node j).size). inl (within i j l (o, x)))
      (λ (x : i + (S.node j).size ≤ j). inr (apart i j o (λ y. omega arith)))
      (cases_lt j (i + (S.node j).size))

  -- all of it
  pub nesting : Nesting S
  nesting = record {
    own = own;
    parts = λ i q l k. let p = part_nested i q l k in (p.0, λ j h. (omega (arith, p.0, h.0), omega (arith, p.1, h.1)));
    tiled = tiled;
    nested = λ i j l k.
        ⊎_elim
        (λ (x : i < j). ⊎_elim (λ a. inl a) (λ b. inr (inr b)) (by_order i j k (omega arith)))
        (λ (x : j ≤ i). ⊎_elim (λ a. inr (inl a)) (λ b. inr (inr (λ m p q. b m q p))) (by_order j i l x))
        (cases_lt i j);
  }
