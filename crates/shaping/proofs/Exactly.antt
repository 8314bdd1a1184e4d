-- The verdict is yes exactly when each question holds of each row.
use Rattle.std.proofs.Common.{◌≡◌, ℕ, ◌-◌, true, leb, List, length, sym, refl, ◌∙◌}
use Rattle.std.proofs.lemmas.Bool.{leb-true, le-leb, and_parts, and_from}
use Rattle.sheet.specs.declared.row.Row.{Row}
use Rattle.sheet.specs.declared.section.Section.TheVariants as section
use Rattle.sheet.specs.Asked.{every, Verdict, once, ◌then◌}
use Rattle.sheet.specs.Sheet.{Sheet, view}
use Rattle.sheet.proofs.Asking.{every_means, every_from}
use Rattle.sheet.proofs.Verdicts.{then_parts, then_from, once_is, each_of, each_from}
use Rattle.shaping.specs.declared.question.Question.{Question}
use Rattle.shaping.specs.declared.question.Question.TheVariants.{Letters, Counts, Types, Sites, Nodes, Variables, Entries}
use Rattle.shaping.specs.Letters.{in_order, from_one, within_limits}
use Rattle.shaping.specs.Types.{lawful_type}
use Rattle.shaping.specs.Sites.{lawful_site}
use Rattle.shaping.specs.Nodes.{lawful_node, bound}
use Rattle.shaping.specs.Entries.{lawful_entry, covered}
use Rattle.shaping.specs.Verdict.{over, letters_verdict, parts_verdict}
use Rattle.shaping.specs.Meaning.{IsShaped, FromOne, Lawful, ShapedExactly}

-- a count from 1 to the most
count_means : (most n : ℕ) → from_one most n ≡ true → FromOne most n
count_means most n h = let p = and_parts (leb 1 n) (leb n most) h in (leb-true 1 n p.0, leb-true n most p.1)

count_from : (most n : ℕ) → FromOne most n → from_one most n ≡ true
count_from most n h = and_from (leb 1 n) (leb n most) (le-leb 1 n h.0) (le-leb n most h.1)

module _ (rs : List Row) where
  abbrev S : Sheet
  S = view rs

  -- the sheet has as many rows as there are
  rows_are : S.rows ≡ length rs
  unfolding view
  rows_are = refl

  -- the verdicts of the questions, in order
  abbrev v21 : Verdict Question
  v21 = over S Letters section.All (in_order rs)

  abbrev v22 : Verdict Question
  v22 = once Counts 0 (within_limits S)

  abbrev v23 : Verdict Question
  v23 = over S Types section.Types (lawful_type S)

  abbrev v24 : Verdict Question
  v24 = over S Sites section.Sites (lawful_site S)

  abbrev v25 : Verdict Question
  v25 = over S Nodes section.Nodes (lawful_node S)

  abbrev v26 : Verdict Question
  v26 = over S Variables section.Nodes (bound S)

  abbrev v27 : Verdict Question
  v27 = over S Entries section.Entries (lawful_entry S)

  abbrev v27_cover : Verdict Question
  v27_cover = once Entries (S.rows - 1) (every (covered S) S.nodes)

  -- the limits as a test and as a fact
  limits_mean : within_limits S ≡ true → FromOne 128 S.types × FromOne 32 S.sites × FromOne 512 S.nodes × FromOne 32 S.entries
  limits_mean h =
      let a = and_parts _ _ h in
      let b = and_parts _ _ a.1 in
      let c = and_parts _ _ b.1 in
      (count_means _ _ a.0, count_means _ _ b.0, count_means _ _ c.0, count_means _ _ c.1)

  limits_from : FromOne 128 S.types × FromOne 32 S.sites × FromOne 512 S.nodes × FromOne 32 S.entries → within_limits S ≡ true
  limits_from h =
      and_from _ _ (count_from 128 S.types h.0) (and_from _ _ (count_from 32 S.sites h.1)
      (and_from _ _ (count_from 512 S.nodes h.2) (count_from 32 S.entries h.3)))

  -- from the verdict to each row, and back
  pub lawful : IsShaped rs → Lawful rs
  lawful h =
      let p = then_parts (letters_verdict rs) (parts_verdict S) h in
      let p1 = then_parts v21 v22 p.0 in
      let p3 = then_parts v23 (v24 then (v25 then (v26 then (v27 then v27_cover)))) p.1 in
      let p4 = then_parts v24 (v25 then (v26 then (v27 then v27_cover))) p3.1 in
      let p5 = then_parts v25 (v26 then (v27 then v27_cover)) p4.1 in
      let p6 = then_parts v26 (v27 then v27_cover) p5.1 in
      let p7 = then_parts v27 v27_cover p6.1 in
      record {
        letters = λ k l. each_of _ _ _ _ p1.0 k (rw rows_are l);
        limits = limits_mean (sym (once_is _ _ _) ∙ p1.1);
        types = each_of _ _ _ _ p3.0;
        sites = each_of _ _ _ _ p4.0;
        nodes = each_of _ _ _ _ p5.0;
        variables = each_of _ _ _ _ p6.0;
        entries = each_of _ _ _ _ p7.0;
        cover = every_means _ _ (sym (once_is _ _ _) ∙ p7.1);
      }

  pub shaped : Lawful rs → IsShaped rs
  shaped w =
      then_from (letters_verdict rs) (parts_verdict S)
      (then_from v21 v22 (each_from _ _ _ _ (λ k l. w.letters k (rw rows_are at l))) (once_is Counts 0 (within_limits S) ∙ limits_from w.limits))
      (then_from v23 _ (each_from _ _ _ _ w.types)
      (then_from v24 _ (each_from _ _ _ _ w.sites)
      (then_from v25 _ (each_from _ _ _ _ w.nodes)
      (then_from v26 _ (each_from _ _ _ _ w.variables)
      (then_from v27 _ (each_from _ _ _ _ w.entries)
      (once_is Entries (S.rows - 1) (every (covered S) S.nodes) ∙ every_from _ _ w.cover))))))

pub exactly : ShapedExactly
exactly rs = (lawful rs, shaped rs)
