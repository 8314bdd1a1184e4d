use Rattle.std.proofs.Common.{◌≡◌}
use Rattle.sheet_text.specs.Symbols.{symbols}
use Rattle.sheet_text.specs.Grammar.{rows}
use Rattle.sheet_text.specs.Questions.{judged, count}
use Rattle.sheet_text.specs.Rows.{rows_from}
use Rattle.sheet_text.proofs.Surveyed.{judged_on}
use Rattle.sheet_text.proofs.read.survey.Given as goal

-- the faults noted so far and the rows still to come give the verdict
abbrev pub invariant-loop-row : goal.invariant-loop-row
invariant-loop-row l = judged_on l.faults l.reader.row (rows_from l.reader) ≡ judged (rows (symbols l.input))

abbrev pub decreases-loop-row : goal.decreases-loop-row
decreases-loop-row l = count (rows_from l.reader)
