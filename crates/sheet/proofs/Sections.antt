-- The rows of a section.
use Rattle.std.proofs.Common.{ℕ, ◌+◌, ◌≤◌, arith}
use Rattle.sheet.specs.declared.section.Section.{Section}
use Rattle.sheet.specs.declared.section.Section.TheVariants.{All, Types, Sites, Nodes, Entries}
use Rattle.sheet.specs.Sheet.{Sheet, first_row, rows_in}

-- a section ends among the rows
pub section_ends : (S : Sheet) (s : Section) (n : ℕ) → S.rows ≤ n → S.types + S.sites + S.nodes + S.entries ≤ n → first_row S s + rows_in S s ≤ n
section_ends S All n w h = omega arith
section_ends S Types n w h = omega arith
section_ends S Sites n w h = omega arith
section_ends S Nodes n w h = omega arith
section_ends S Entries n w h = omega arith
