-- What a shaped sheet gives a run: literals of 32 bits, and few sites.
use Rattle.std.proofs.Common.{◌≡◌, ℕ, ◌≤◌, Bool, true, false, ◌&&◌, ltb, List, ℤ, pos, negsuc, sym, refl, ap, ◌∙◌, subst, ⊎_elim, arith}
use Rattle.std.proofs.lemmas.Bool.{cond-false, le-ltb, ltb-true, cases_Bool, true≢false}
use Rattle.number.specs.Millimetre.{clamp}
use Rattle.sheet.specs.declared.row.Row.{Row}
use Rattle.sheet.specs.declared.decoded.NodeRow.{NodeRow}
use Rattle.sheet.specs.declared.decoded.Kind.TheVariants.{Literal}
use Rattle.sheet.specs.Sets.{set_below}
use Rattle.sheet.specs.Sheet.{view, no_row, node_of, parts_of}
use Rattle.shaping.specs.Nodes.{literal_fits, lawful_argument, parts_begin, sized}
use Rattle.shaping.specs.Meaning.{IsShaped}
use Rattle.shaping.proofs.Exactly.{lawful}

-- a number of 32 bits is the nearest to itself
clamp_fits : (z : ℤ) → literal_fits z ≡ true → clamp z ≡ z
clamp_fits (pos n) h = let k = ltb-true n 2147483648 h in cond-false _ _ _ (le-ltb 2147483647 n (omega arith))
clamp_fits (negsuc n) h = let k = ltb-true n 2147483648 h in cond-false _ _ _ (le-ltb 2147483647 n (omega arith))

-- the third of four tests
third : (a b c d : Bool) → a && (b && (c && d)) ≡ true → c ≡ true
third true true true d h = refl
third true true false d h = h
third true false c d h = absurd (true≢false (sym h))
third false b c d h = absurd (true≢false (sym h))

module _ (rs : List Row) (s : IsShaped rs) where
  -- few sites
  pub few_sites : (view rs).sites ≤ 32
  few_sites = (lawful rs s).limits.1.1

  -- a node past the end is a literal 0
  past : (i : ℕ) → ltb i (view rs).nodes ≡ false → (view rs).node i ≡ node_of no_row
  unfolding view
  past i h = ap node_of (cond-false _ _ _ h)

  -- each literal has 32 bits
  pub literals_fit : (i : ℕ) → ((view rs).node i).kind ≡ Literal → clamp ((view rs).node i).literal ≡ ((view rs).node i).literal
  literals_fit i e =
      ⊎_elim
      (λ (t : ltb i (view rs).nodes ≡ true).
      clamp_fits ((view rs).node i).literal
      (ap (lawful_argument (view rs) ((view rs).node i)) (sym e) ∙ third (ltb ((view rs).node i).ty (view rs).types) (set_below 32 ((view rs).node i).control) _ (sized i ((view rs).node i).size (parts_begin (view rs) (parts_of ((view rs).node i).kind) i)) ((lawful rs s).nodes i (ltb-true i (view rs).nodes t))))
      (λ (f : ltb i (view rs).nodes ≡ false). subst (λ (x : NodeRow). clamp x.literal ≡ x.literal) (sym (past i f)) refl)
      (cases_Bool (ltb i (view rs).nodes))
