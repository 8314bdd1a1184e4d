use Rattle.std.proofs.Common.{◌≡◌, ◌++◌, take, drop}
use Rattle.sheet_text.specs.Symbols.{symbols}
use Rattle.sheet_text.specs.Grammar.{rows}
use Rattle.sheet_text.specs.Questions.{filled}
use Rattle.sheet_text.specs.Rows.{rows_from}
use Rattle.sheet_text.proofs.read.fill.Given as goal

-- the first places are filled, and filling the others from the rows still to come fills the table
abbrev pub invariant-loop-place : goal.invariant-loop-place
invariant-loop-place l = take l.place-index l.table ++ filled (drop l.place-index l.table) (rows_from l.reader) ≡ filled l.initial.table (rows (symbols l.input))
