use Rattle.std.proofs.Common.{◌≡◌, ℕ, Bool, ◌-◌}
use Rattle.sheet.specs.Asked.{first_no, Says}
use Rattle.sheet.proofs.property.first_no.Given as goal

abbrev pub invariant-loop-k : goal.invariant-loop-k
invariant-loop-k g l = (p : ℕ → Bool) → Says (goal.F-post g) l.test l.n p → first_no p 0 l.n ≡ first_no p l.k (l.n - l.k)
