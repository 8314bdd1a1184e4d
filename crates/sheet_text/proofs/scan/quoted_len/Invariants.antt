use Rattle.std.proofs.Common.{◌≡◌, ◌-◌, ◌≤◌, [], length, take, drop}
use Rattle.sheet_text.specs.Symbols.{symbols}
use Rattle.sheet_text.specs.Grammar.{quoted}
use Rattle.sheet_text.proofs.scan.quoted_len.Given as goal

-- the field has taken the first n bytes
abbrev pub invariant-loop-n : goal.invariant-loop-n
invariant-loop-n l = (l.n ≤ length l.rest) × (quoted (symbols l.rest) [] ≡ quoted (symbols (drop l.n l.rest)) (take l.n l.rest))

abbrev pub decreases-loop-n : goal.decreases-loop-n
decreases-loop-n l = length l.rest - l.n
