use Rattle.std.proofs.Common.{sym, refl, ◌∙◌, eqb, arith, rules, tests}
use Rattle.std.proofs.lemmas.Iterator.{YieldsList-from_slice}
use Rattle.std.proofs.lemmas.Iterator.Consumers.{count_from_yields_List, YieldsList-from_filter}
use Rattle.std.proofs.lemmas.List.Sums.{length-filter}
use Rattle.std.proofs.lemmas.List.Recursion.{is_count_by}
use Rattle.sheet.specs.declared.row.Row.{Row}
use Rattle.sheet.specs.Sheet.{count}
use Rattle.sheet.proofs.decode.count.Goals as goal

pub returns : goal.returns
unfolding count
returns c =
    let named = λ (r : Row). eqb r.letter c.args.letter in
    count_from_yields_List _ _ c.count.ensures.ran
    (YieldsList-from_filter _ named (YieldsList-from_slice c.args.rows.now cc) c.filter.ensures.closure (λ x b q k. search (rules, tests)))
    ∙ length-filter named c.args.rows.now
    ∙ sym (is_count_by (count c.args.letter) named refl (λ r rs. grind arith) c.args.rows.now)
