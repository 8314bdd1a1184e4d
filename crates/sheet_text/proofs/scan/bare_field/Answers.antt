use Rattle.std.proofs.Common.{[], take, drop, refl, sym, ap, ◌∙◌, subst}
use Rattle.sheet_text.specs.Symbols.{symbols}
use Rattle.sheet_text.specs.Grammar.{bare}
use Rattle.sheet_text.specs.Lines.{mark, Scanned}
use Rattle.sheet_text.proofs.Scanning.{rest_is}
use Rattle.sheet_text.proofs.Marks.{stepped, bare_closes, bare_unmarked}
use Rattle.sheet_text.proofs.scan.bare_field.Goals as goal

pub returns-in_err-mark : goal.returns-in_err-mark
returns-in_err-mark c =
    let xs = c.args.rest.now in
    let n = c.bare_len-n.result in
    subst (Scanned xs (bare (symbols xs) []) c.args.at) (sym c.from_residual.ensures)
    (c.bare_len-n.ensures.read ∙ bare_unmarked (drop n xs) (take n xs) c.bare_len-n.ensures.ends (c.in_err-mark.ensures ∙ ap mark (rest_is n xs)))

pub returns : goal.returns
returns c =
    let xs = c.args.rest.now in
    let n = c.bare_len-n.result in
    let s = stepped (bare (symbols xs) []) bare bare_closes xs (take n xs) n c.in_ok-mark.size c.in_ok-mark.mark c.bare_len-n.ensures.within c.bare_len-n.ensures.read (c.in_ok-mark.ensures ∙ ap mark (rest_is n xs)) in
    record { within = s.0; moves = s.1; falls = s.2; located = refl; read = s.3 }
