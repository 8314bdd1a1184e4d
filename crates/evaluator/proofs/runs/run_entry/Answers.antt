use Rattle.std.proofs.Common.{◌≡◌, ◌+◌, ◌-◌, ◌≤◌, List, map, length, pos, ap, ◌∙◌, arith, rules, length-take-le}
use Rattle.stack.specs.Live.{live, room}
use Rattle.sheet.specs.declared.decoded.EntryRow.{EntryRow}
use Rattle.sheet.specs.Sheet.{view}
use Rattle.evaluation.specs.Evaluation.{most_pending, most_bindings, most_fresh}
use Rattle.evaluation.specs.Runs.{run_report, run, numbers_after}
use Rattle.evaluator.specs.Runs.{padded}
use Rattle.evaluator.proofs.Loading.{map_padded}
use Rattle.evaluator.proofs.Opened.{begun, tells_as_defined, keeps_as_defined}
use Rattle.evaluator.proofs.Shaped.{literals_fit}
use Rattle.evaluator.proofs.runs.run_entry.Goals as goal

pub returns : goal.returns
returns g c =
    let M = g.K.Number.kind in
    let n = g.K.Number.value in
    let rs = c.args.sheet.now.table.rows.now in
    let S = view rs in
    let zero = c.from_whole.result in
    let ks = padded c.args.sheet.now.table.sites zero c.args.numbers.now in
    let pending : room c.new-frames.result ≡ most_pending = c.new-frames.ensures.places ∙ length-take-le _ _ c.requires.areas.pending in
    let bound : room c.new-bindings.result ≡ most_bindings = c.new-bindings.ensures.places ∙ length-take-le _ _ c.requires.areas.bound in
    let few = c.requires.areas.held in
    let sites = c.args.sheet.now.table.s in
    let big : c.args.sheet.now.table.sites + 512 - 0 ≤ length c.args.areas.now.held.now = omega arith in
    let all : c.args.sheet.now.table.sites + 512 - 0 ≡ S.sites + most_fresh = omega arith in
    let held : room c.load.new.cells ≡ S.sites + most_fresh =
    c.load.ensures.area.places ∙ c.new-cells.ensures.places ∙ length-take-le _ _ big ∙ all in
    let ran =
    c.run-outcome.ensures
    ∙ begun M S n c.args.fuel c.args.entry (room c.new-bindings.result) (room c.load.new.cells) (room c.new-frames.result) c.entry_at-root.result.root
    (live c.new-bindings.result) (live c.load.new.cells) ks bound held pending (ap (λ (x : EntryRow). x.root) c.entry_at-root.ensures) c.new-bindings.ensures.held c.load.ensures.held in
    let began : map n ks ≡ padded S.sites (M.whole (pos 0)) (map n c.args.numbers.now) =
    map_padded n c.args.sheet.now.table.sites zero (M.whole (pos 0)) c.args.numbers.now c.from_whole.ensures
    ∙ ap (λ x. padded x (M.whole (pos 0)) (map n c.args.numbers.now)) sites in
    record {
      answer =
          c.conclude.ensures
          ∙ tells_as_defined M S n (literals_fit rs c.args.sheet.now.shaped) c.args.fuel c.args.entry ks c.run-outcome.result (live c.run-outcome.new.bindings) (live c.run-outcome.new.cells) ran
          ∙ ap (run_report M S c.args.fuel c.args.entry) began;
      left =
          ap (map n) c.keep.ensures
          ∙ keeps_as_defined M S n (literals_fit rs c.args.sheet.now.shaped) c.args.fuel c.args.entry ks c.run-outcome.result (live c.run-outcome.new.bindings) (live c.run-outcome.new.cells) ran c.args.numbers.now
          ∙ ap (λ (ns : List M.Value). numbers_after (run M S c.args.fuel c.args.entry ns) (map n c.args.numbers.now)) began;
      loans = search rules;
    }
