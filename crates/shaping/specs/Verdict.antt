-- The verdict of shaping: the first question that is answered no, and the row that it names.
use Rattle.std.specs.Prelude.{ℕ, ◌-◌, Bool, List}
use Rattle.sheet.specs.declared.row.Row.{Row}
use Rattle.sheet.specs.declared.section.Section.{Section}
use Rattle.sheet.specs.declared.section.Section.TheVariants as section
use Rattle.sheet.specs.Sheet.{Sheet, view, first_row, rows_in}
use Rattle.sheet.specs.Asked.{every, Verdict, asked, once, ◌then◌}
use Rattle.shaping.specs.declared.question.Question.{Question}
use Rattle.shaping.specs.declared.question.Question.TheVariants.{Letters, Counts, Types, Sites, Nodes, Variables, Entries}
use Rattle.shaping.specs.declared.counts.Counts.{Counts as Four}
use Rattle.shaping.specs.Letters.{in_order, within_limits}
use Rattle.shaping.specs.Types.{lawful_type}
use Rattle.shaping.specs.Sites.{lawful_site}
use Rattle.shaping.specs.Nodes.{lawful_node, bound}
use Rattle.shaping.specs.Entries.{lawful_entry, covered}

-- the number of each question
abbrev pub number_of : Question → ℕ
number_of Letters = 21
number_of Counts = 22
number_of Types = 23
number_of Sites = 24
number_of Nodes = 25
number_of Variables = 26
number_of Entries = 27

-- question q, whose test is p, asked of each row of a section
abbrev pub over : Sheet → Question → Section → (ℕ → Bool) → Verdict Question
over S q s p = asked q (first_row S s) p (rows_in S s)

-- 21 and 22, of the rows' letters; 22 names row 0
abbrev pub letters_verdict : List Row → Verdict Question
letters_verdict rs = over (view rs) Letters section.All (in_order rs) then once Counts 0 (within_limits (view rs))

-- 23 to 27, of the sheet; where some node is in no tree, the last row, which is an entry's, is named
abbrev pub parts_verdict : Sheet → Verdict Question
parts_verdict S =
    over S Types section.Types (lawful_type S)
    then over S Sites section.Sites (lawful_site S)
    then over S Nodes section.Nodes (lawful_node S)
    then over S Variables section.Nodes (bound S)
    then over S Entries section.Entries (lawful_entry S)
    then once Entries (S.rows - 1) (every (covered S) S.nodes)

-- the verdict on rows handed in
abbrev pub shape_verdict : List Row → Verdict Question
shape_verdict rs = letters_verdict rs then parts_verdict (view rs)

-- how many there are of each
abbrev pub counts_of : Sheet → Four
counts_of S = record { types = S.types; sites = S.sites; nodes = S.nodes; entries = S.entries }
