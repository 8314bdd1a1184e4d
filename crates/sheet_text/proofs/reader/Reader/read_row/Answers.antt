use Rattle.std.proofs.Common.{sym, ap, ◌∙◌}
use Rattle.sheet_text.specs.Rows.{blank, rows_from, next, after}
use Rattle.sheet_text.proofs.Lines.{rows_at, rows_none, misquoted}
use Rattle.sheet_text.proofs.reader.Reader.read_row.Goals as goal

pub returns-then-self-clause-value : goal.returns-then-self-clause-value
returns-then-self-clause-value c = let r = c.args.self.now in sym (ap next (rows_none r.input.now r.pos c.if-self.true))

pub returns-then-self-clause-rest : goal.returns-then-self-clause-rest
returns-then-self-clause-rest c =
    let r = c.args.self.now in
    let none = rows_none r.input.now r.pos c.if-self.true in
    none ∙ sym (ap after none)

pub returns-in-Err-clause-value : goal.returns-in-Err-clause-value
returns-in-Err-clause-value c =
    let r = c.args.self.now in
    sym (ap next (rows_at r.input.now r.pos c.if-self.false) ∙ c.in-Err.ensures)

pub returns-in-Err-clause-rest : goal.returns-in-Err-clause-rest
returns-in-Err-clause-rest c =
    let r = c.args.self.now in
    let bad = misquoted blank (rows_from r) c.in-Err.misquoted (ap next (rows_at r.input.now r.pos c.if-self.false) ∙ c.in-Err.ensures) in
    bad ∙ sym (ap after bad)

pub returns-in-Ok-clause-value : goal.returns-in-Ok-clause-value
returns-in-Ok-clause-value c =
    let r = c.args.self.now in
    sym (ap next (rows_at r.input.now r.pos c.if-self.false) ∙ c.in-Ok.ensures.2)

pub returns-in-Ok-clause-rest : goal.returns-in-Ok-clause-rest
returns-in-Ok-clause-rest c =
    let r = c.args.self.now in
    sym (ap after (rows_at r.input.now r.pos c.if-self.false) ∙ c.in-Ok.ensures.3)
