use Rattle.std.proofs.Common.{refl, arith}
use Rattle.sheet.specs.Sheet.{view}
use Rattle.sheet.proofs.Counted.{counted_once}
use Rattle.sheet.proofs.table.Table.new.Goals as goal

pub invariant_of-result : goal.invariant_of-result
unfolding view
invariant_of-result c =
    let o = counted_once c.args.rows.now in
    record {
      r = refl;
      t = c.count.ensures;
      s = c.count-2.ensures;
      n = c.count-3.ensures;
      e = c.count-4.ensures;
      room = omega arith;
    }
