use Rattle.std.proofs.Common.{◌≡◌, ℕ, ◌≤◌, false, ltb, List, length, sym, ap}
use Rattle.std.proofs.lemmas.List.{get_or_past}
use Rattle.std.proofs.lemmas.Bool.{and_left}
use Rattle.sheet.specs.declared.row.Row.{Row}
use Rattle.sheet.specs.Sheet.{no_row}
use Rattle.shaping.specs.Letters.{rank, in_order}
use Rattle.shaping.proofs.letters.in_order.Goals as goal

-- past the last row there is no letter
past : (rs : List Row) (k : ℕ) → length rs ≤ k → in_order rs k ≡ false
past rs k h = and_left _ _ (ap (λ (r : Row). ltb (rank r.letter) 4) (get_or_past rs k no_row h))

pub returns-then-k-rows : goal.returns-then-k-rows
returns-then-k-rows c = sym (past c.args.rows.now c.args.k c.if-k-rows.true)
