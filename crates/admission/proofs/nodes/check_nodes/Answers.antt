use Rattle.std.proofs.Common.{Some, None, sym, rules}
use Rattle.sheet.specs.Sheet.{view}
use Rattle.admission.specs.Questions.{rules_kept}
use Rattle.admission.proofs.Told.{rules_told}
use Rattle.admission.proofs.nodes.check_nodes.Goals as goal

pub overflow_add-result-in-Some : goal.overflow_add-result-in-Some
overflow_add-result-in-Some c = let b = c.in-Some.ensures.bound in search rules

pub returns-in-None : goal.returns-in-None
returns-in-None c =
    let S = view c.args.table.now.rows.now in
    sym (rules_told S None c.args.table.now.nodes c.args.table.now.n (c.in-None.ensures.first (rules_kept S) (λ k b l e. search rules)))

pub returns-in-Some : goal.returns-in-Some
returns-in-Some c =
    let S = view c.args.table.now.rows.now in
    let s = rules_told S (Some c.in-Some.i) c.args.table.now.nodes c.args.table.now.n (c.in-Some.ensures.first (rules_kept S) (λ k b l e. search rules)) in
    cc
