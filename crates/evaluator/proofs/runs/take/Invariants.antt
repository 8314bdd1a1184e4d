use Rattle.std.proofs.Common.{◌≡◌, take}
use Rattle.stack.specs.Live.{live}
use Rattle.evaluator.specs.Runs.{taken}
use Rattle.evaluator.proofs.runs.take.Given as goal

-- the numbers of the cells so far
abbrev pub invariant-loop-site : goal.invariant-loop-site
invariant-loop-site g l = l.numbers ≡ taken (take l.site (live l.cells)) l.initial.numbers
