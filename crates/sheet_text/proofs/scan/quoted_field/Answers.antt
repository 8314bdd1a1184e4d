use Rattle.std.proofs.Common.{◌+◌, ◌≤◌, [], length, take, drop, refl, sym, ap, ◌∙◌, subst, arith}
use Rattle.sheet_text.specs.Symbols.{symbols}
use Rattle.sheet_text.specs.Grammar.{quoted, closed}
use Rattle.sheet_text.specs.Lines.{mark, Scanned}
use Rattle.sheet_text.proofs.Scanning.{rest_is}
use Rattle.sheet_text.proofs.Marks.{stepped, closed_closes, closed_unmarked}
use Rattle.sheet_text.proofs.scan.quoted_field.Goals as goal

pub returns-in_err-mark : goal.returns-in_err-mark
returns-in_err-mark c =
    let xs = c.args.rest.now in
    let n = c.in_ok-n.n in
    subst (Scanned xs (quoted (symbols xs) []) c.args.at) (sym c.from_residual-in_err-mark.ensures)
    (c.in_ok-n.ensures.read ∙ closed_unmarked (drop (n + 1) xs) (take n xs) c.in_ok-n.ensures.ends (c.in_err-mark.ensures ∙ ap mark (rest_is (n + 1) xs)))

pub returns : goal.returns
returns c =
    let xs = c.args.rest.now in
    let n = c.in_ok-n.n in
    let inside : n + 1 ≤ length xs = omega (arith, c.in_ok-n.ensures.within) in
    let s = stepped (quoted (symbols xs) []) closed closed_closes xs (take n xs) (n + 1) c.in_ok-mark.size c.in_ok-mark.mark inside c.in_ok-n.ensures.read (c.in_ok-mark.ensures ∙ ap mark (rest_is (n + 1) xs)) in
    record { within = s.0; moves = s.1; falls = s.2; located = refl; read = s.3 }
