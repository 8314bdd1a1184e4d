use Rattle.std.proofs.Common.{◌≡◌, ◌+◌, ◌<◌, ◌++◌, length, take, drop, set, Some, Ok, sym, ap, ◌∙◌, arith}
use Rattle.std.proofs.lemmas.List.{set-get_or}
use Rattle.sheet_text.specs.Questions.{filled}
use Rattle.sheet_text.specs.Rows.{rows_from, row_in, next}
use Rattle.sheet_text.proofs.Filled.{fill_row, fill_stop, fill_all}
use Rattle.sheet_text.proofs.read.fill.Goals as goal

pub returns-in_default : goal.returns-in_default
returns-in_default c =
    let l = c.loop-place in
    set-get_or l.table l.place-index _ ∙ sym (fill_stop l.table l.place-index (rows_from l.reader) (λ line e. cc)) ∙ l.invariant

pub returns-in_default-2 : goal.returns-in_default-2
returns-in_default-2 c =
    let l = c.loop-place in
    set-get_or l.table l.place-index _ ∙ sym (fill_stop l.table l.place-index (rows_from l.reader) (λ line e. cc)) ∙ l.invariant

pub loop-place-preserved : goal.loop-place-preserved
loop-place-preserved c =
    let table = c.loop-place.table in
    let i = c.loop-place.place-index in
    let line = c.in-Some-Ok.line in
    let h : i < length table = omega arith in
    let value : Some (Ok line) ≡ next (rows_from c.loop-place.reader) = cc in
    ap (λ x. take (i + 1) (set table i x) ++ filled (drop (i + 1) (set table i x)) (rows_from c.read_row.new.self)) c.row.ensures
    ∙ ap (λ rs. take (i + 1) (set table i (row_in line)) ++ filled (drop (i + 1) (set table i (row_in line))) rs) c.read_row.ensures.rest
    ∙ fill_row table i (rows_from c.loop-place.reader) line h value ∙ c.loop-place.invariant

pub returns : goal.returns
returns c =
    let l = c.loop-place in
    sym (fill_all l.table l.place-index (rows_from l.reader) (omega arith)) ∙ l.invariant
