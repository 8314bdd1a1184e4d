use Rattle.std.proofs.Common.{◌≡◌, ◌-◌}
use Rattle.stack.specs.Live.{live}
use Rattle.machine.specs.Flat.{seek}
use Rattle.machine.specs.Seen.{bindings}
use Rattle.machine.proofs.steps.look_up.Given as goal

-- what is found from here on is what is found from the start
abbrev pub invariant-loop : goal.invariant-loop
invariant-loop g l =
    seek (l.scope - l.counter) (bindings g.K.Number.value (live l.bindings)) l.function l.place
    ≡ seek l.scope (bindings g.K.Number.value (live l.bindings)) l.function l.scope
