use Rattle.std.proofs.Common.{◌≡◌, ◌-◌, ◌<◌, ◌≤◌, length, drop}
use Rattle.sheet_text.specs.Symbols.{symbols}
use Rattle.sheet_text.specs.Grammar.{field}
use Rattle.sheet_text.specs.Rows.{next, next_after, after}
use Rattle.sheet_text.proofs.reader.next.read_fields.Given as goal

-- the line and the fields still to come are the row, and either some bytes were passed or some are left
abbrev pub invariant-loop-step : goal.invariant-loop-step
invariant-loop-step l =
    (l.start ≤ l.at) × (l.at ≤ length l.input) × (l.at ≤ l.start → l.at < length l.input)
    × (next_after l.line (field (symbols (drop l.at l.input))) ≡ next (field (symbols (drop l.start l.input))))
    × (after (field (symbols (drop l.at l.input))) ≡ after (field (symbols (drop l.start l.input))))

abbrev pub decreases-loop-step : goal.decreases-loop-step
decreases-loop-step l = length l.input - l.at
