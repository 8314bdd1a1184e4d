-- One level of a type, and one part of a node.
use Rattle.std.proofs.Common.{◌≡◌, ℕ, suc, ◌-◌, false, cond, ◌&&◌, ltb, leb, Some, None, refl, ap, arith}
use Rattle.sheet.specs.Sheet.{Sheet}
use Rattle.shaping.specs.Types.{nests, parts_nest}
use Rattle.shaping.specs.Nodes.{parts_begin}

-- nothing is nested no deep
pub nests_none : (S : Sheet) (n t : ℕ) → n ≡ 0 → nests S n t ≡ false
unfolding nests
nests_none S n t e = rw e refl

-- one level of the type is looked at, and its parts are one level less deep
pub nests_step : (S : Sheet) (n t : ℕ) → (n ≡ 0 → ⊥) → nests S n t ≡ parts_nest (nests S (n - 1)) t (S.type t) (S.type t).form
unfolding nests
nests_step S n t h = let e : n ≡ suc (n - 1) = omega arith in ap (λ m. nests S m t) e

-- no parts begin where they end
pub begin_none : (S : Sheet) (n e : ℕ) → n ≡ 0 → parts_begin S n e ≡ Some e
unfolding parts_begin
begin_none S n e h = rw h refl

-- the last part is looked at, and the others end just before its first node
pub begin_step : (S : Sheet) (n e : ℕ) → (n ≡ 0 → ⊥)
    → parts_begin S n e ≡ cond (ltb 0 (S.node (e - 1)).size && leb (S.node (e - 1)).size e) (parts_begin S (n - 1) (e - (S.node (e - 1)).size)) None
unfolding parts_begin
begin_step S n e h = let q : n ≡ suc (n - 1) = omega arith in ap (λ m. parts_begin S m e) q
