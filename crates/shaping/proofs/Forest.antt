-- The trees of the entries are disjoint and cover all nodes.
use Rattle.std.proofs.Common.{◌≡◌, ℕ, ◌<◌, ◌≤◌, true, ltb, ◌⊎◌, ap, inl, inr, ⊎_elim, arith}
use Rattle.std.proofs.lemmas.Bool.Decides.{nat_tests}
use Rattle.std.proofs.lemmas.Bool.{cases_order, ltb-true, ltb-false, or_cases, or_parts}
use Rattle.sheet.specs.Asked.{every, Each}
use Rattle.sheet.specs.Sheet.{Sheet, view, InSpan}
use Rattle.sheet.proofs.Asking.{every_means, some_no}
use Rattle.shaping.specs.Nodes.{lawful_node}
use Rattle.shaping.specs.Entries.{first_of, apart, apart_from_earlier, lawful_entry, outside, covered}
use Rattle.shaping.specs.Meaning.{InTree, Forest, SpansNest, TreesCover}
use Rattle.shaping.proofs.Exactly.{lawful}
use Rattle.shaping.proofs.Spans.{own, within, nesting}

module _ (S : Sheet) (nodes : Each S.nodes (lawful_node S)) (entries : Each S.entries (lawful_entry S)) (cover : Each S.nodes (covered S)) where
  -- the root of an entry
  abbrev root : ℕ → ℕ
  root e = (S.entry e).root

  -- a root is a node
  rooted : (e : ℕ) → e < S.entries → root e < S.nodes
  rooted e l = let h : lawful_entry S e ≡ true = entries e l in grind (arith, nat_tests)

  -- the tree of an entry is apart from that of an earlier one
  earlier : (e f : ℕ) → e < S.entries → f < e → (root e < first_of S f) ⊎ (root f < first_of S e)
  unfolding apart_from_earlier
  earlier e f l k =
      let h : lawful_entry S e ≡ true = entries e l in
      let a : every (apart S e) e ≡ true = grind arith in
      ⊎_elim (λ p. inl (ltb-true _ _ p)) (λ q. inr (ltb-true _ _ q)) (or_cases _ _ (every_means (apart S e) e a f k))

  -- a node of both trees is in neither order of them
  not_both : (e f i : ℕ) → e < S.entries → f < e → InTree S e i → InTree S f i → ⊥
  not_both e f i l k a b =
      ⊎_elim (λ (x : root e < first_of S f). omega (arith, a.0, b.1)) (λ (x : root f < first_of S e). omega (arith, b.0, a.1)) (earlier e f l k)

  -- so entries that share a node are one
  disjoint : (e f i : ℕ) → e < S.entries → f < S.entries → InTree S e i → InTree S f i → e ≡ f
  disjoint e f i l k a b =
      ⊎_elim
      (λ (x : e ≡ f). x)
      (⊎_elim (λ (x : e < f). absurd (not_both f e i k x b a)) (λ (x : f < e). absurd (not_both e f i l x a b)))
      (cases_order e f)

  -- some entry's tree has the node
  covers : (i : ℕ) → i < S.nodes → (e : ℕ) × (e < S.entries) × InTree S e i
  unfolding covered
  covers i l =
      let z = some_no (outside S i) S.entries (cover i l) in
      let o = or_parts (ltb i (first_of S z.0)) (ltb (root z.0) i) z.2 in
      let w = own S nodes (root z.0) (rooted z.0 z.1) in
      let lo : first_of S z.0 ≤ i = ltb-false _ _ o.0 in
      let hi : i ≤ root z.0 = ltb-false _ _ o.1 in
      (z.0, z.1, (hi, omega (arith, w.0.1, w.1)))

  -- a node whose span has an entry's root is in the tree of that entry, so it is that root
  outermost : (e i : ℕ) → e < S.entries → i < S.nodes → InSpan S i (root e) → i ≡ root e
  outermost e i l k h =
      let c = covers i k in
      let w = within S nodes i (root c.0) (rooted c.0 c.1) c.2 (root e) h in
      let d : e ≡ c.0 = disjoint e c.0 (root e) l c.1 (own S nodes (root e) (rooted e l)).0 w in
      let r : root e ≡ root c.0 = ap root d in
      omega (arith, h.0, c.2.0)

  -- all of it
  pub forest : Forest S
  forest = record { rooted = rooted; cover = covers; disjoint = disjoint; outermost = outermost }

-- of shaped rows
pub spans_nest_lem : SpansNest
spans_nest_lem rs h = nesting (view rs) (lawful rs h).nodes

pub trees_cover_lem : TreesCover
trees_cover_lem rs h = let w = lawful rs h in forest (view rs) w.nodes w.entries w.cover
