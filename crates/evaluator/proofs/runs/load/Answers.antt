use Rattle.std.proofs.Common.{◌≡◌, ◌≤◌, get_or, unwrap_or, ◌∙◌, ap, arith}
use Rattle.stack.specs.Live.{live, room}
use Rattle.evaluator.proofs.Loading.{loads}
use Rattle.evaluator.proofs.runs.load.Goals as goal

pub loop-site-preserved : goal.loop-site-preserved
loop-site-preserved g c =
    let fits : c.args.sites ≤ room c.loop-site.cells =
    let p = c.requires.1 in
    let q = c.loop-site.invariant.0.places in
    omega arith in
    let x : c.unwrap_or-number.result ≡ get_or c.args.numbers.now c.loop-site.site c.args.zero =
    c.unwrap_or-number.ensures ∙ ap (λ o. unwrap_or o c.args.zero) c.copied.ensures ∙ c.get.ensures.lookup.4 (omega arith) c.args.zero in (
      record {
        lender = c.push.ensures.area.lender ∙ c.loop-site.invariant.0.lender;
        places = c.push.ensures.area.places ∙ c.loop-site.invariant.0.places;
      },
      loads c.args.sites c.args.numbers.now (live c.loop-site.cells) (live c.push.new.self) c.loop-site.site (room c.loop-site.cells) c.unwrap_or-number.result c.args.zero c.push.result
          fits c.loop-site-test.true x c.loop-site.invariant.1 c.push.ensures.answer c.push.ensures.held,
    )
