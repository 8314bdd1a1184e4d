-- Sets as numbers: the test of one set within another says that every member is one of the other.
use Rattle.std.proofs.Common.{◌≡◌, ℕ, zero, suc, ◌*◌, ◌/◌, ◌%◌, ◌^◌, ◌<◌, ◌≤◌, min, max, true, false, sym, ap, ◌∙◌, subst, ⊎_elim, arith}
use native.Mathlib.Nat.{div-div-eq-div-mul, pow-succ'}
use lib.Bits.{bit_and, bit_or, and_step, or_step, and_shr, or_shr, and_zero_l}
use Rattle.std.proofs.lemmas.Bool.{eqb-true, eqb-false, eq-eqb, cases_Bool}
use Rattle.sheet.specs.Sets.{has, within}
use Rattle.typing.specs.Rules.{Within}
use Rattle.typing.specs.Meaning.{Iff}

-- member k, by its digit
pub digit : (k s : ℕ) → has k s ≡ true → (s / 2 ^ k) % 2 ≡ 1
unfolding has
digit k s h = eqb-true ((s / 2 ^ k) % 2) 1 h

pub of_digit : (k s : ℕ) → (s / 2 ^ k) % 2 ≡ 1 → has k s ≡ true
unfolding has
of_digit k s e = eq-eqb ((s / 2 ^ k) % 2) 1 e

no_digit : (k s : ℕ) → has k s ≡ false → (s / 2 ^ k) % 2 ≡ 0
unfolding has
no_digit k s h = let n = eqb-false ((s / 2 ^ k) % 2) 1 h in omega arith

-- the digits of an intersection and of a union
and_digit : (k a b : ℕ) → (bit_and a b / 2 ^ k) % 2 ≡ min ((a / 2 ^ k) % 2) ((b / 2 ^ k) % 2)
and_digit k a b =
    let e : bit_and (a / 2 ^ k) (b / 2 ^ k) % 2 ≡ min (a / 2 ^ k % 2) (b / 2 ^ k % 2) = let s = and_step (a / 2 ^ k) (b / 2 ^ k) in omega arith in
    ap (λ (x : ℕ). x % 2) (and_shr a b k) ∙ e

or_digit : (k a b : ℕ) → (bit_or a b / 2 ^ k) % 2 ≡ max ((a / 2 ^ k) % 2) ((b / 2 ^ k) % 2)
or_digit k a b =
    let e : bit_or (a / 2 ^ k) (b / 2 ^ k) % 2 ≡ max (a / 2 ^ k % 2) (b / 2 ^ k % 2) = let s = or_step (a / 2 ^ k) (b / 2 ^ k) in omega arith in
    ap (λ (x : ℕ). x % 2) (or_shr a b k) ∙ e

-- a member of a & b is one of b
and_right : (k a b : ℕ) → has k (bit_and a b) ≡ true → has k b ≡ true
and_right k a b h = let d = digit k (bit_and a b) h in let e = and_digit k a b in of_digit k b (omega arith)

-- a member of a or of b is one of a | b
or_left : (k a b : ℕ) → has k a ≡ true → has k (bit_or a b) ≡ true
or_left k a b h = let d = digit k a h in let e = or_digit k a b in of_digit k (bit_or a b) (omega arith)

or_right : (k a b : ℕ) → has k b ≡ true → has k (bit_or a b) ≡ true
or_right k a b h = let d = digit k b h in let e = or_digit k a b in of_digit k (bit_or a b) (omega arith)

-- member k of the half is member k + 1 of the whole
half : (k a : ℕ) → has k (a / 2) ≡ has (suc k) a
unfolding has
half k a = let e : 2 ^ suc k ≡ 2 * 2 ^ k = pow-succ' 2 k in rw (e, div-div-eq-div-mul)

-- member 0 is the last digit
last : (a : ℕ) → a % 2 ≡ 1 → has 0 a ≡ true
last a h = of_digit 0 a (let e : a / 2 ^ 0 ≡ a = omega arith in omega arith)

to_last : (a : ℕ) → has 0 a ≡ true → a % 2 ≡ 1
to_last a h = let d = digit 0 a h in let e : a / 2 ^ 0 ≡ a = omega arith in omega arith

-- a set of numbers up to n that is within b meets b in itself
meets : (n a b : ℕ) → a ≤ n → Within a b → bit_and a b ≡ a
meets zero a b l h = let e : a ≡ 0 = omega arith in rw e (and_zero_l b)
meets (suc n) a b l h =
    let ih : bit_and (a / 2) (b / 2) ≡ a / 2 = meets n (a / 2) (b / 2) (omega arith) (λ k t. half k b ∙ h (suc k) (sym (half k a) ∙ t)) in
    let s = and_step a b in
    let m : min (a % 2) (b % 2) ≡ a % 2 = digits (a % 2) (b % 2) (omega arith) (omega arith) (λ e. to_last b (h 0 (last a e))) in
    omega arith
  where
    -- the smaller of two digits is the first, where the second is 1 if the first is
    digits : (x y : ℕ) → x < 2 → y < 2 → (x ≡ 1 → y ≡ 1) → min x y ≡ x
    digits zero y p q f = omega arith
    digits (suc x) y p q f = let e : suc x ≡ 1 = omega arith in let g : y ≡ 1 = f e in omega arith

-- the test a & b == a says that every member of a is one of b
pub within_is : (a b : ℕ) → Iff (within a b ≡ true) (Within a b)
unfolding within
within_is a b = (
  (λ t k h. and_right k a b (subst (λ (x : ℕ). has k x ≡ true) (sym (eqb-true (bit_and a b) a t)) h)),
  (λ h. eq-eqb (bit_and a b) a (meets a a b (omega arith) h)),
)

-- a union is within a set exactly when both are
pub union_within : (a b c : ℕ) → Iff (Within (bit_or a b) c) (Within a c × Within b c)
union_within a b c = (
  (λ h. ((λ k t. h k (or_left k a b t)), (λ k t. h k (or_right k a b t)))),
  (λ p k t. either k (digit k (bit_or a b) t) p),
)
  where
    -- a member of the union is a member of one of the two
    either : (k : ℕ) → (bit_or a b / 2 ^ k) % 2 ≡ 1 → Within a c × Within b c → has k c ≡ true
    either k d p =
        ⊎_elim
        (λ (t : has k a ≡ true). p.0 k t)
        (λ (f : has k a ≡ false). p.1 k (of_digit k b (let n = no_digit k a f in let e = or_digit k a b in omega arith)))
        (cases_Bool (has k a))
