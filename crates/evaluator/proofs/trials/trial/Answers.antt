use Rattle.std.proofs.Common.{Ok, pos, ap, ◌∙◌, sym}
use Rattle.sheet.specs.Sheet.{view}
use Rattle.evaluation.specs.Runs.{run_report}
use Rattle.evaluator.specs.Trials.{granted, trial_report}
use Rattle.evaluator.proofs.Loading.{padded_none}
use Rattle.evaluator.proofs.trials.trial.Goals as goal

pub returns-clause-answer : goal.returns-clause-answer
returns-clause-answer g c =
    let M = g.K.Number.kind in
    let S = view c.args.sheet.now.table.rows.now in
    ap Ok (c.run_entry.ensures.answer ∙ ap (run_report M S c.args.fuel c.args.entry) (padded_none S.sites (M.whole (pos 0))))
    ∙ ap (λ v. granted v (trial_report M S c.args.fuel c.args.entry)) (sym c.in_ok-check.was ∙ c.check.ensures)
