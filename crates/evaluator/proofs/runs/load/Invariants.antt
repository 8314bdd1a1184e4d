use Rattle.std.proofs.Common.{◌≡◌}
use Rattle.stack.specs.Live.{live, SameArea}
use Rattle.evaluator.specs.Runs.{opened, padded}
use Rattle.evaluator.proofs.runs.load.Given as goal

-- a cell for each site so far
abbrev pub invariant-loop-site : goal.invariant-loop-site
invariant-loop-site g l =
    (SameArea l.initial.cells l.cells)
    × (live l.cells ≡ opened 0 (padded l.site l.zero l.numbers))
