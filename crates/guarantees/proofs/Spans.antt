-- Where nodes stand: a variable in its function, and a part of a node in no function but those that the node stands in.
use Rattle.std.proofs.Common.{◌≡◌, ℕ, zero, suc, ◌+◌, ◌-◌, ◌<◌, ◌≤◌, true, ◌&&◌, ltb, leb, ◌≢◌, Some, None, Option, sym, refl, ap, ◌∙◌, subst, inl, inr, arith}
use Rattle.std.proofs.lemmas.Bool.{true≢false, cases_lt, cases_Bool, cond-true, cond-false, and_parts, ltb-true, leb-true}
use Rattle.sheet.specs.Sheet.{Sheet, parts_of, part, part_before, InSpan}
use Rattle.shaping.specs.Nodes.{parts_begin, sized, lawful_node}
use Rattle.sheet.specs.Asked.{Each}
use Rattle.shaping.specs.Meaning.{Nesting}
use Rattle.shaping.proofs.Spans.{within, nesting}
use Rattle.guarantees.specs.Sheets.{Inside}
use Rattle.guarantees.proofs.Addresses.{none_some}

-- parts of the right size begin somewhere
sized_begin : (i s : ℕ) (o : Option ℕ) → sized i s o ≡ true → (b : ℕ) × (o ≡ Some b)
sized_begin i s None h = absurd (true≢false (sym h))
sized_begin i s (Some b) h = (b, refl)

module _ (S : Sheet) where
  -- n parts that end before node e are there: they have sizes, and none begins before node 0
  abbrev Begin : ℕ → ℕ → Type 0
  Begin n e = (b : ℕ) × (parts_begin S n e ≡ Some b)

  -- what there is of the last one, and the others
  begin_more : (n e : ℕ) → Begin (suc n) e → (1 ≤ (S.node (e - 1)).size) × ((S.node (e - 1)).size ≤ e) × Begin n (e - (S.node (e - 1)).size)
  unfolding parts_begin
  begin_more n e (b, h) =
      elim (cases_Bool (ltb 0 (S.node (e - 1)).size && leb (S.node (e - 1)).size e)) [
        | inl t ↦
            let p = and_parts _ _ t in
            (ltb-true _ _ p.0, leb-true _ _ p.1, (b, sym (cond-true _ (parts_begin S n (e - (S.node (e - 1)).size)) None t) ∙ h))
        | inr f ↦ none_some (sym (cond-false _ (parts_begin S n (e - (S.node (e - 1)).size)) None f) ∙ h)
      ]

  -- the parts before the last one are the parts of what ends before it
  part_shift : (e q : ℕ) → part S e (suc q) ≡ part S (e - (S.node (e - 1)).size) q
  part_shift e zero = omega arith
  part_shift e (suc q) = ap (part_before S) (part_shift e q)

  -- the part before ends just before the part begins
  adjacent : (n e q : ℕ) → Begin n e → suc q < n → part S e (suc q) + (S.node (part S e q)).size ≡ part S e q
  adjacent zero e q h l = absurd (omega arith)
  adjacent (suc zero) e q h l = absurd (omega arith)
  adjacent (suc (suc n)) e zero h l =
      let m = begin_more (suc n) e h in
      let k = begin_more n (e - (S.node (e - 1)).size) m.2 in
      omega (arith, m.0, m.1, k.0, k.1)
  adjacent (suc (suc n)) e (suc q) h l =
      let m = begin_more (suc n) e h in
      let r : part S (e - (S.node (e - 1)).size) (suc q) + (S.node (part S (e - (S.node (e - 1)).size) q)).size ≡ part S (e - (S.node (e - 1)).size) q =
      adjacent (suc n) (e - (S.node (e - 1)).size) q m.2 (omega arith) in
      subst (λ (x : ℕ). part_before S x + (S.node x).size ≡ x) (sym (part_shift e q)) r

  -- a part that is counted later stands no later
  part_falls : (i q r : ℕ) → q ≤ r → part S i r ≤ part S i q
  part_falls i q zero l = let e : 0 ≡ q = omega arith in subst (λ (x : ℕ). part S i 0 ≤ part S i x) e (omega arith)
  part_falls i q (suc r) l =
      elim (cases_lt r q) [
        | inl x ↦ let e : suc r ≡ q = omega arith in subst (λ (x : ℕ). part S i (suc r) ≤ part S i x) e (omega arith)
        | inr x ↦ let f : part S i r ≤ part S i q = part_falls i q r x in omega arith
      ]

module _ (S : Sheet) (ok : Each S.nodes (lawful_node S)) where
  -- and ends before the other begins
  part_apart : (i q r : ℕ) → i < S.nodes → q < r → r < parts_of (S.node i).kind → part S i r + (S.node (part S i q)).size ≤ part S i q
  part_apart i q r l k m =
      let h : lawful_node S i ≡ true = ok i l in
      let z : sized i (S.node i).size (parts_begin S (parts_of (S.node i).kind) i) ≡ true = grind arith in
      let a : part S i (suc q) + (S.node (part S i q)).size ≡ part S i q = adjacent S _ i q (sized_begin i _ _ z) (omega arith) in
      let f : part S i r ≤ part S i (suc q) = part_falls S i (suc q) r k in
      omega arith

  -- a node that has one of i's parts inside it is in no part of i
  no_part : (i q r g : ℕ) → i < S.nodes → q < parts_of (S.node i).kind → r < parts_of (S.node i).kind → Inside S (part S i q) g →
      InSpan S (part S i r) g → ⊥
  no_part i q r g l k m h t =
      elim (cases_lt r q) [
        | inl x ↦
            let a : part S i q + (S.node (part S i r)).size ≤ part S i r = part_apart i r q l x k in
            let w : InSpan S (part S i r) (part S i q) = within S ok g (part S i r) (omega (arith, ((nesting S ok).parts i r l m).0)) t (part S i q) h.0 in
            omega (arith, a, w.1)
        | inr x ↦
            let a : part S i r ≤ part S i q = part_falls S i q r x in
            omega (arith, h.1, t.0, a)
      ]

  -- where a part of i stands inside g, and g is not i, i stands inside g
  pub part_out : (i q g : ℕ) → i < S.nodes → q < parts_of (S.node i).kind → g ≢ i → Inside S (part S i q) g → Inside S i g
  part_out i q g l k n h =
      let N : Nesting S = nesting S ok in
      let p : part S i q < i = (N.parts i q l k).0 in
      elim (cases_lt g i) [
        | inl x ↦
            let w : InSpan S i (part S i q) = (N.parts i q l k).1 (part S i q) (N.own (part S i q) (omega arith)).0 in
            elim (N.tiled i g l (omega arith, omega (arith, h.1, w.1))) [
              | inl e ↦ absurd (n e)
              | inr t ↦ absurd (no_part i q t.0 g l k t.1 h t.2)
            ]
        | inr x ↦ ((omega arith, omega (arith, h.0.1, p)), omega arith)
      ]
