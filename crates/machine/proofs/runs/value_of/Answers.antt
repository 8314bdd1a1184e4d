use Rattle.std.proofs.Common.{◌<◌, Ok, Err, sym, refl, ap, ◌∙◌, arith}
use Rattle.stack.specs.Live.{live, room}
use Rattle.stack.proofs.Ends.{empty_from_top}
use Rattle.machine.specs.Seen.{cells}
use Rattle.machine.proofs.Lists.{fewer, whole, within}
use Rattle.machine.proofs.Turns.{limits, room_to_start, begins, ends_refused, ends_stop, ends_done, goes_start, falls_start, goes_return, falls_return}
use Rattle.machine.proofs.runs.value_of.Goals as goal

pub loop-next-init : goal.loop-next-init
loop-next-init g c =
    record {
      counted = omega arith;
      frames_places = refl;
      bindings_places = refl;
      cells_places = refl;
      rest = begins _ _ _ _ _ _ _ _ _ _ _ c.requires.empty c.requires.fresh;
    }

-- a node is started
pub returns-in_err-may_start-in-Start : goal.returns-in_err-may_start-in-Start
returns-in_err-may_start-in-Start g c =
    ends_refused _ _ _ _ _ _ _ _ _ _ _ _ c.loop-next.invariant.rest _ _ (room c.loop-next.frames) c.is_full.result _ _ c.from_residual.ensures.1 (ap Ok c.in-Start.is)
    c.is_full.ensures c.loop-next.invariant.frames_places c.in_err-may_start-in-Start.ensures

pub overflow_add-steps : goal.overflow_add-steps
overflow_add-steps g c =
    let free = room_to_start _ _ _ _ _ _ _ c.is_full.ensures c.loop-next.invariant.frames_places c.in_ok-may_start-in-Start.ensures c.loop-next.invariant.counted in
    let l : c.loop-next.steps < c.args.fuel = free.0 in
    omega arith

pub returns-in_err-next-in-Start : goal.returns-in_err-next-in-Start
returns-in_err-next-in-Start g c =
    let free = room_to_start _ _ _ _ _ _ _ c.is_full.ensures c.loop-next.invariant.frames_places c.in_ok-may_start-in-Start.ensures c.loop-next.invariant.counted in
    ends_stop _ _ _ _ _ _ (Err c.in_err-next-in-Start.field-0.0) (live c.start.new.frames) _ _ _ _
    (goes_start _ _ _ _ _ _ _ _ _ _ _ _ c.loop-next.invariant.rest
    c.in-Start.node c.in-Start.scope (ap Ok c.in-Start.is) (Err c.in_err-next-in-Start.field-0.0) _ (c.in_err-next-in-Start.ensures.step (cells g.K.Number.value (live c.loop-next.cells))) free.0 free.1) _ _ c.from_residual-in_err-next-in-Start.ensures.1 refl

pub loop-next-smaller-in_ok-next-in-Start : goal.loop-next-smaller-in_ok-next-in-Start
loop-next-smaller-in_ok-next-in-Start g c =
    let free = room_to_start _ _ _ _ _ _ _ c.is_full.ensures c.loop-next.invariant.frames_places c.in_ok-may_start-in-Start.ensures c.loop-next.invariant.counted in
    falls_start _ _ _ _ _ _ _ _ _ _ _ _ c.loop-next.invariant.rest
    c.in-Start.node c.in-Start.scope (ap Ok c.in-Start.is) (Ok c.in_ok-next-in-Start.next) _ (c.in_ok-next-in-Start.ensures.step (cells g.K.Number.value (live c.loop-next.cells))) free.0

pub loop-next-preserved-in_ok-next-in-Start : goal.loop-next-preserved-in_ok-next-in-Start
loop-next-preserved-in_ok-next-in-Start g c =
    let free = room_to_start _ _ _ _ _ _ _ c.is_full.ensures c.loop-next.invariant.frames_places c.in_ok-may_start-in-Start.ensures c.loop-next.invariant.counted in
    let l : c.loop-next.steps < c.args.fuel = free.0 in
    record {
      counted = omega arith;
      frames_places = c.in_ok-next-in-Start.ensures.area.places ∙ c.loop-next.invariant.frames_places;
      bindings_places = c.loop-next.invariant.bindings_places;
      cells_places = c.loop-next.invariant.cells_places;
      rest =
          goes_start _ _ _ _ _ _ _ _ _ _ _ _ c.loop-next.invariant.rest
          c.in-Start.node c.in-Start.scope (ap Ok c.in-Start.is) (Ok c.in_ok-next-in-Start.next) _ (c.in_ok-next-in-Start.ensures.step (cells g.K.Number.value (live c.loop-next.cells))) free.0 free.1;
    }

-- a value comes back
pub returns-in-None : goal.returns-in-None
returns-in-None g c = ends_done _ _ _ _ _ _ _ _ _ _ _ _ c.loop-next.invariant.rest _ (ap Ok c.in-Return.is) (empty_from_top _ (sym c.in-None.ensures.answer))

pub resume-requires : goal.resume-requires
resume-requires g c =
    fewer _ _ c.in-Some.frame _ (whole _ _ _ c.in-Some.ensures.answer c.in-Some.ensures.held) (within c.loop-next.frames _ (sym c.in-Some.ensures.area.places))

pub returns-in_err-next-in-Some : goal.returns-in_err-next-in-Some
returns-in_err-next-in-Some g c =
    let fits = within c.loop-next.frames _ c.loop-next.invariant.frames_places in
    let popped = whole _ _ _ c.in-Some.ensures.answer c.in-Some.ensures.held in
    ends_stop _ _ _ _ _ _ (Err c.in_err-next-in-Some.field-0.0) (live c.resume.new.frames) _ _ _ _
    (goes_return _ _ _ _ _ _ _ _ _ _ _ _ c.loop-next.invariant.rest
    c.in-Return.value (ap Ok c.in-Return.is) c.in-Some.frame _ _ popped (Err c.in_err-next-in-Some.field-0.0) _ _ _ (limits _ _ _ _ c.loop-next.invariant.bindings_places c.loop-next.invariant.cells_places) c.in_err-next-in-Some.ensures.step (fewer _ _ c.in-Some.frame _ popped fits)) _ _ c.from_residual-in_err-next-in-Some.ensures.1 refl

pub loop-next-smaller : goal.loop-next-smaller
loop-next-smaller g c =
    let popped = whole _ _ _ c.in-Some.ensures.answer c.in-Some.ensures.held in
    falls_return _ _ _ _ _ _ _ _ _ _ _ _ c.loop-next.invariant.rest
    c.in-Return.value (ap Ok c.in-Return.is) c.in-Some.frame _ _ popped (Ok c.in_ok-next-in-Some.next) _ _ _ (limits _ _ _ _ c.loop-next.invariant.bindings_places c.loop-next.invariant.cells_places) c.in_ok-next-in-Some.ensures.step

pub loop-next-preserved : goal.loop-next-preserved
loop-next-preserved g c =
    let fits = within c.loop-next.frames _ c.loop-next.invariant.frames_places in
    let popped = whole _ _ _ c.in-Some.ensures.answer c.in-Some.ensures.held in
    record {
      counted = c.loop-next.invariant.counted;
      frames_places = c.in_ok-next-in-Some.ensures.frames_area.places ∙ c.in-Some.ensures.area.places ∙ c.loop-next.invariant.frames_places;
      bindings_places = c.in_ok-next-in-Some.ensures.bindings_area.places ∙ c.loop-next.invariant.bindings_places;
      cells_places = c.in_ok-next-in-Some.ensures.cells_area.places ∙ c.loop-next.invariant.cells_places;
      rest =
          goes_return _ _ _ _ _ _ _ _ _ _ _ _ c.loop-next.invariant.rest
          c.in-Return.value (ap Ok c.in-Return.is) c.in-Some.frame _ _ popped (Ok c.in_ok-next-in-Some.next) _ _ _ (limits _ _ _ _ c.loop-next.invariant.bindings_places c.loop-next.invariant.cells_places) c.in_ok-next-in-Some.ensures.step (fewer _ _ c.in-Some.frame _ popped fits);
    }
