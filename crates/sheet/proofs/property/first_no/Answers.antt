use Rattle.std.proofs.Common.{sym, ◌∙◌, arith}
use Rattle.std.proofs.lemmas.Bool.{cond-true, cond-false}
use Rattle.sheet.proofs.Asking.{first_step, first_end}
use Rattle.sheet.proofs.property.first_no.Goals as goal

pub returns-then-not-test-clause-first : goal.returns-then-not-test-clause-first
returns-then-not-test-clause-first g c p says =
    let s = first_step p c.loop-k.k c.args.n (omega arith) in
    let no = says c.loop-k.k _ (omega arith) c.if-not-test.ensures in
    sym (c.loop-k.invariant p says ∙ s ∙ cond-false _ _ _ (sym no))

pub loop-k-preserved : goal.loop-k-preserved
loop-k-preserved g c p says =
    let s = first_step p c.loop-k.k c.args.n (omega arith) in
    let yes = says c.loop-k.k _ (omega arith) c.if-not-test.ensures in
    c.loop-k.invariant p says ∙ s ∙ cond-true _ _ _ (sym yes)

pub returns-clause-first : goal.returns-clause-first
returns-clause-first g c p says = let s = first_end p c.loop-k.k c.args.n (omega arith) in let i = c.loop-k.invariant p says in cc
