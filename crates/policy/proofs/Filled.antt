-- Lists of one value, and tables of truth values.
use Rattle.std.proofs.Common.{◌≡◌, ℕ, zero, suc, ◌<◌, Bool, true, false, ◌&&◌, ◌||◌, eqb, List, [], length, get_or, set, replicate, refl, ap, ⊎_elim, arith}
use Rattle.std.proofs.lemmas.List.{get_or-set_other, get_or-set_same}
use Rattle.std.proofs.lemmas.Bool.{cases_eq}
use Rattle.std.proofs.lemmas.Bool.Decides.{nat_tests}

-- a list of one value reads as that value at every place, and past its end too where that is the default
pub get_or-filled : {X : Type 0} (n k : ℕ) (x : X) → get_or (replicate n x) k x ≡ x
get_or-filled zero k x = refl
get_or-filled (suc n) zero x = refl
get_or-filled (suc n) (suc k) x = get_or-filled n k x

-- a table that is false throughout reads as false at every place
pub unmarked : (n m a b : ℕ) → get_or (get_or (replicate n (replicate m false)) a []) b false ≡ false
unmarked zero m a b = refl
unmarked (suc n) m zero b = get_or-filled m b false
unmarked (suc n) m (suc a) b = unmarked n m a b

-- the list with its place b set is true there, and otherwise reads as it did
pub set_true : (row : List Bool) (b y : ℕ) → b < length row → get_or (set row b true) y false ≡ (eqb y b || get_or row y false)
set_true row b y h =
    ⊎_elim
    (λ (e : y ≡ b). let same : get_or (set row b true) y false ≡ true = rw e (get_or-set_same row b true false h) in grind (arith, nat_tests))
    (λ (e : y ≡ b → ⊥). let other = get_or-set_other row b y true false e in grind (arith, nat_tests))
    (cases_eq y b)

-- so is the table with one of its rows so changed
pub set_row : (rows : List (List Bool)) (row : List Bool) (a b x y : ℕ) → a < length rows
    → get_or row y false ≡ (eqb y b || get_or (get_or rows a []) y false)
    → get_or (get_or (set rows a row) x []) y false ≡ ((eqb x a && eqb y b) || get_or (get_or rows x []) y false)
set_row rows row a b x y h new =
    ⊎_elim
    (λ (e : x ≡ a).
    let here : get_or (set rows a row) x [] ≡ row = rw e (get_or-set_same rows a row [] h) in
    let was : get_or rows x [] ≡ get_or rows a [] = ap (λ k. get_or rows k []) e in
    let place = ap (λ r. get_or r y false) here in
    let old = ap (λ r. get_or r y false) was in
    grind (arith, nat_tests))
    (λ (e : x ≡ a → ⊥).
    let place = ap (λ r. get_or r y false) (get_or-set_other rows a x row [] e) in
    grind (arith, nat_tests))
    (cases_eq x a)
