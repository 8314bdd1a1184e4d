use Rattle.std.proofs.Common.{sym, ap, ◌∙◌}
use Rattle.stack.specs.Live.{live}
use Rattle.std.proofs.lemmas.List.{set-get_or}
use Rattle.evaluator.specs.Runs.{number_in}
use Rattle.evaluator.proofs.Loading.{taken_none, taken_number, taken_all}
use Rattle.evaluator.proofs.runs.take.Goals as goal
use Rattle.evaluator.proofs.runs.take.Goals.{in-Some, in_default}

pub loop-site-preserved : goal.loop-site-preserved
loop-site-preserved g c =
    elim c.match-get.branch [
      | in-Some w ↦
          w.numbers-is
          ∙ taken_number (live c.args.cells.now) c.args.numbers.now c.loop-site.numbers c.loop-site.site w.in-Some.cell w.number_in.result c.index-numbers-site.result
          w.in-Some.ensures (w.number_in.ensures ∙ ap (number_in w.in-Some.cell.value) (sym c.index-numbers-site.is)) c.index-numbers-site.is c.loop-site.invariant
      | in_default w ↦
          w.numbers-is ∙ set-get_or c.loop-site.numbers c.loop-site.site c.index-numbers-site.result ∙ c.loop-site.invariant ∙ taken_none (live c.args.cells.now) c.args.numbers.now c.loop-site.site w.in_default.ensures
    ]

pub returns : goal.returns
returns g c = c.loop-site.invariant ∙ taken_all (live c.args.cells.now) c.args.numbers.now c.loop-site.site c.loop-site-test.false
