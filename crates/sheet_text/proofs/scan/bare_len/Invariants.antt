use Rattle.std.proofs.Common.{◌≡◌, [], take, drop}
use Rattle.sheet_text.specs.Symbols.{symbols}
use Rattle.sheet_text.specs.Grammar.{bare}
use Rattle.sheet_text.proofs.scan.bare_len.Given as goal

-- the field has taken the first n bytes
abbrev pub invariant-loop-n : goal.invariant-loop-n
invariant-loop-n l = bare (symbols l.rest) [] ≡ bare (symbols (drop l.n l.rest)) (take l.n l.rest)
