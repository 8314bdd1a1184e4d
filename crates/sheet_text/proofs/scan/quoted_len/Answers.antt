use Rattle.std.proofs.Common.{◌≡◌, ◌-◌, ◌<◌, length, get_or, take, drop, arith, rules}
use Rattle.sheet_text.proofs.Scanning.{quoted_on, quoted_on_two, quoted_at_mark, quoted_open}
use Rattle.sheet_text.proofs.scan.quoted_len.Goals as goal
use Rattle.sheet_text.proofs.scan.quoted_len.Goals.{in_default-via-then-this-lt2+in_default-1, in_default-via-else-this-lt2+in_default-1}

pub returns-in-empty-clause-read : goal.returns-in-empty-clause-read
returns-in-empty-clause-read c = quoted_open c.args.rest.now c.loop-n.n c.loop-n.invariant.1 c.in-empty.len_below

pub loop-n-preserved-in-34-this-3 : goal.loop-n-preserved-in-34-this-3
loop-n-preserved-in-34-this-3 c = quoted_on_two c.args.rest.now c.loop-n.n c.loop-n.invariant.1 c.in-34.len_at_least (search rules) (search rules)

pub returns-in-34-2-clause-read : goal.returns-in-34-2-clause-read
returns-in-34-2-clause-read c = quoted_at_mark c.args.rest.now c.loop-n.n c.loop-n.invariant.1 (omega arith) (search rules)

pub returns-in-34-2-2-clause-read : goal.returns-in-34-2-2-clause-read
returns-in-34-2-2-clause-read c = quoted_at_mark c.args.rest.now c.loop-n.n c.loop-n.invariant.1 (omega arith) (search rules)

pub loop-n-preserved : goal.loop-n-preserved
loop-n-preserved c =
    let xs = c.args.rest.now in
    let n = c.loop-n.n in
    let rest = take (length xs - n) (drop n xs) in
    let some : 0 < length rest = search rules in
    let other = λ (mark : get_or rest 0 0 ≡ 34). elim c.in_default.branch as (λ _. ⊥) [ in_default-via-then-this-lt2+in_default-1 w ↦ search rules | in_default-via-else-this-lt2+in_default-1 w ↦ search rules ] in
    quoted_on xs n c.loop-n.invariant.1 some other
