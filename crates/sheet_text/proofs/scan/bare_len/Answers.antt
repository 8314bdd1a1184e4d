use Rattle.std.proofs.Common.{◌≡◌, false, drop, sym, ap, ◌∙◌}
use Rattle.sheet_text.specs.Lines.{ends_bare}
use Rattle.sheet_text.proofs.Scanning.{rest_is, bare_on}
use Rattle.sheet_text.proofs.scan.bare_len.Goals as goal

pub loop-n-preserved : goal.loop-n-preserved
loop-n-preserved c =
    let xs = c.args.rest.now in
    let n = c.loop-n.n in
    let goes_on : ends_bare (drop n xs) ≡ false = sym (c.if-ends_bare_field.ensures ∙ ap ends_bare (rest_is n xs)) in
    bare_on xs n c.loop-n-test.true goes_on c.loop-n.invariant
