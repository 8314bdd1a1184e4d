use Rattle.std.proofs.Common.{◌≡◌, ◌+◌, Some, Ok, Err, sym, ap, ◌∙◌, add-zero, arith}
use Rattle.sheet_text.specs.declared.refusal.Question.TheVariants.{Quoting}
use Rattle.sheet_text.specs.Questions.{count}
use Rattle.sheet_text.specs.Rows.{rows_from, next, rows_read, faults_with, faults_verdict}
use Rattle.sheet_text.proofs.Surveyed.{judged_on, judged_next, judged_end, judged_wrong, count_next}
use Rattle.sheet_text.proofs.read.survey.Goals as goal

pub returns-in_default-row : goal.returns-in_default-row
returns-in_default-row c =
    let r = c.loop-row.reader in
    let value : Some (Err c.in_default-row.field-0) ≡ next (rows_from r) = cc in
    let n = c.rows_read.ensures ∙ c.in-Some.ensures.row ∙ ap (λ a. r.row + rows_read (Some a)) c.in_default-row.is ∙ add-zero r.row in
    ap Err (c.refused_at.ensures ∙ ap (λ k. record { question = Quoting; row = k + 1 }) n)
    ∙ sym (judged_wrong c.loop-row.faults r.row (rows_from r) c.in_default-row.field-0 value) ∙ c.loop-row.invariant

pub loop-row-smaller : goal.loop-row-smaller
loop-row-smaller c =
    let rs = rows_from c.loop-row.reader in
    let value : Some (Ok c.in-Ok.line) ≡ next rs = cc in
    omega (arith, count_next rs c.in-Ok.line value, ap count c.in-Some.ensures.rest)

pub loop-row-preserved : goal.loop-row-preserved
loop-row-preserved c =
    let r = c.loop-row.reader in
    let f = c.loop-row.faults in
    let line = c.in-Ok.line in
    let s = c.in-Some.ensures in
    let after_one = rows_from c.read_row.new.self in
    let value : Some (Ok line) ≡ next (rows_from r) = cc in
    ap (λ g. judged_on g c.read_row.new.self.row after_one) (c.with-faults.ensures ∙ ap (faults_with f line) c.rows_read-in-Some.ensures)
    ∙ ap (λ n. judged_on (faults_with f line n) n after_one) (s.row ∙ ap (λ a. r.row + rows_read (Some a)) c.in-Ok.is)
    ∙ ap (judged_on (faults_with f line (r.row + 1)) (r.row + 1)) s.rest
    ∙ sym (judged_next f r.row (rows_from r) line value) ∙ c.loop-row.invariant

pub returns : goal.returns
returns c =
    let r = c.loop-row.reader in
    let s = c.in_default.ensures in
    let n = c.rows_read-2.ensures ∙ s.row ∙ add-zero r.row in
    c.verdict.ensures ∙ ap (faults_verdict c.loop-row.faults) n
    ∙ sym (judged_end c.loop-row.faults r.row (rows_from r) s.value) ∙ c.loop-row.invariant
