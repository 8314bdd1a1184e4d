use Rattle.std.proofs.Common.{◌≡◌, ◌≤◌, Ok}
use Rattle.stack.specs.Live.{live, room}
use Rattle.sheet.specs.Sheet.{view}
use Rattle.machine.specs.Flat.{flat_eval}
use Rattle.machine.specs.Seen.{machine, flat}
use Rattle.machine.proofs.Finish.{finish}
use Rattle.machine.proofs.Weigh.{weigh}
use Rattle.machine.proofs.runs.value_of.Given as goal

-- the rest of the run ends as the flat evaluation does
abbrev pub invariant-loop-next : goal.invariant-loop-next
invariant-loop-next g l =
    record {
      counted : l.steps ≤ l.fuel;
      frames_places : room l.frames ≡ room l.initial.frames;
      bindings_places : room l.bindings ≡ room l.initial.bindings;
      cells_places : room l.cells ≡ room l.initial.cells;
      rest :
          finish g.K.Number.kind (view l.table.rows.now) (record { bindings = room l.initial.bindings; cells = room l.initial.cells }) l.fuel (room l.initial.frames)
          (machine g.K.Number.value (Ok l.next) (live l.frames) (live l.bindings) (live l.cells)) l.steps
          ≡ flat_eval g.K.Number.kind (view l.table.rows.now) (record { bindings = room l.initial.bindings; cells = room l.initial.cells }) l.fuel (room l.initial.frames) l.root 0
          (flat g.K.Number.value (live l.initial.bindings) (live l.initial.cells) 0);
    }

abbrev pub decreases-loop-next : goal.decreases-loop-next
decreases-loop-next g l = weigh l.fuel (machine g.K.Number.value (Ok l.next) (live l.frames) (live l.bindings) (live l.cells)) l.steps
