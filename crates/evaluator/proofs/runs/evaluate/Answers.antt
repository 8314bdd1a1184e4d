use Rattle.std.proofs.Common.{◌≡◌, List, map, pos, ap, ◌∙◌}
use lib.ListN.{length-map}
use Rattle.sheet.specs.Sheet.{view}
use Rattle.evaluation.specs.Runs.{run_report, run, numbers_after}
use Rattle.evaluator.specs.Runs.{padded}
use Rattle.evaluator.proofs.Loading.{padded_full}
use Rattle.evaluator.proofs.runs.evaluate.Goals as goal

pub returns : goal.returns
returns g c =
    let M = g.K.Number.kind in
    let S = view c.args.sheet.now.table.rows.now in
    let ns : List M.Value = map g.K.Number.value c.args.numbers.now in
    let all : padded S.sites (M.whole (pos 0)) ns ≡ ns =
    padded_full S.sites (M.whole (pos 0)) ns (length-map c.args.numbers.now g.K.Number.value ∙ c.requires.numbers) in
    record {
      answer = c.run_entry.ensures.answer ∙ ap (run_report M S c.args.fuel c.args.entry) all;
      left = c.run_entry.ensures.left ∙ ap (λ (l : List M.Value). numbers_after (run M S c.args.fuel c.args.entry l) ns) all;
      loans = c.run_entry.ensures.loans;
    }
