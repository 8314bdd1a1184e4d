use Rattle.std.proofs.Common.{◌≡◌, ◌<◌, length, get_or, sym, ap, ◌∙◌, subst, arith, rules}
use Rattle.sheet_text.specs.Symbols.{symbols}
use Rattle.sheet_text.specs.Grammar.{field}
use Rattle.sheet_text.specs.Lines.{raw, continued, Scanned}
use Rattle.sheet_text.proofs.Marks.{field_bare, field_quoted, drop_tail, length_tail}
use Rattle.sheet_text.proofs.scan.next_field.Goals as goal
use Rattle.sheet_text.proofs.scan.next_field.Goals.{in_default-via-then-rest-lt1, in_default-via-else-rest-lt1+in_default-1}

pub returns-in_err-step-in-34 : goal.returns-in_err-step-in-34
returns-in_err-step-in-34 c =
    let xs = c.args.rest.now in
    let some : 0 < length xs = search rules in
    let q : get_or xs 0 0 ≡ 34 = search rules in
    subst (Scanned xs (field (symbols xs)) c.args.at) (sym c.from_residual.ensures) (field_quoted xs some q ∙ c.in_err-step-in-34.ensures)

pub returns-in_ok-step-in-34 : goal.returns-in_ok-step-in-34
returns-in_ok-step-in-34 c =
    let xs = c.args.rest.now in
    let step = c.in_ok-step-in-34.step in
    let some : 0 < length xs = search rules in
    let q : get_or xs 0 0 ≡ 34 = search rules in
    let s = c.in_ok-step-in-34.ensures in
    let l = length_tail xs some in
    record {
      within = omega (arith, s.within);
      moves = λ _. omega arith;
      falls = λ _. omega arith;
      located = s.located;
      read = field_quoted xs some q ∙ s.read ∙ ap (λ t. continued (raw step.field) step.mark (symbols t)) (drop_tail xs step.size some);
    }

pub returns-in_default : goal.returns-in_default
returns-in_default c =
    let xs = c.args.rest.now in
    let lone = λ (some : 0 < length xs) (q : get_or xs 0 0 ≡ 34). elim c.in_default.branch as (λ _. ⊥) [ in_default-via-then-rest-lt1 w ↦ search rules | in_default-via-else-rest-lt1+in_default-1 w ↦ search rules ] in
    subst (λ rs. Scanned xs rs c.args.at c.bare_field.result) (sym (field_bare xs lone)) c.bare_field.ensures
