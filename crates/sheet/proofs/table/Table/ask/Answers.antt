use Rattle.std.proofs.Common.{length, ap, ◌∙◌, arith, rules}
use Rattle.sheet.specs.Asked.{asked, told, first_no}
use Rattle.sheet.specs.Sheet.{view, first_row}
use Rattle.sheet.proofs.Sections.{section_ends}
use Rattle.sheet.proofs.table.Table.ask.Goals as goal

pub overflow_add-result : goal.overflow_add-result
overflow_add-result g c =
    let e = section_ends (view c.args.self.now.rows.now) c.args.section (length c.args.self.now.rows.now) (omega arith) (omega arith) in
    let b = c.in-Some.ensures.bound in
    search rules

pub returns-in-None : goal.returns-in-None
unfolding asked
returns-in-None g c p says =
    let h = c.in-None.ensures.first p (rw c.rows_in.ensures says) in
    ap (told c.args.question (first_row (view c.args.self.now.rows.now) c.args.section)) (h ∙ ap (first_no p 0) c.rows_in.ensures)

pub returns-in-Some : goal.returns-in-Some
unfolding asked
returns-in-Some g c p says =
    let h = c.in-Some.ensures.first p (rw c.rows_in.ensures says) in
    let a = ap (told c.args.question (first_row (view c.args.self.now.rows.now) c.args.section)) (h ∙ ap (first_no p 0) c.rows_in.ensures) in
    cc
