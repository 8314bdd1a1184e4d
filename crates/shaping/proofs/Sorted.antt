-- Rows in order: each section's rows stand together, after those of the sections before it.
use Rattle.std.proofs.Common.{◌≡◌, ℕ, zero, suc, ◌+◌, ◌-◌, ◌<◌, ◌≤◌, true, cond, ltb, leb, List, [], ◌∷◌, length, sym, refl, ap, ◌∙◌, subst, ⊎_elim, arith}
use Rattle.std.proofs.lemmas.Bool.Decides.{nat_tests}
use Rattle.std.proofs.lemmas.Bool.{and_parts, and_from, ltb-true, leb-true, lt-ltb, le-ltb, le-leb, cond-true, cond-false, cases_lt, cases_order}
use Rattle.sheet.specs.declared.row.Row.{Row}
use Rattle.sheet.specs.Asked.{Each}
use Rattle.sheet.specs.Sheet.{view, count}
use Rattle.shaping.specs.Letters.{rank, in_order}
use Rattle.shaping.specs.Meaning.{letter_at, ReadByLetter}
use Rattle.shaping.proofs.Exactly.{lawful}

-- the place of row k's letter
abbrev rank_at : List Row → ℕ → ℕ
rank_at rs k = rank (letter_at rs k)

-- how many rows have a letter that goes before place r
before : ℕ → List Row → ℕ
before r [] = 0
before r (x ∷ xs) = cond (ltb (rank x.letter) r) (suc (before r xs)) (before r xs)

-- question 21 holds of each row
abbrev Ordered : List Row → Type 0
Ordered rs = Each (length rs) (in_order rs)

-- a row in order has one of the four letters, and none that goes before that of the row before
rank_below : (rs : List Row) (k : ℕ) → in_order rs k ≡ true → rank_at rs k < 4
rank_below rs k h = ltb-true _ _ (and_parts (ltb (rank_at rs k) 4) _ h).0

rank_rises : (rs : List Row) (k : ℕ) → in_order rs k ≡ true → rank_at rs (k - 1) ≤ rank_at rs k
rank_rises rs k h = leb-true _ _ (and_parts (ltb (rank_at rs k) 4) (leb (rank_at rs (k - 1)) (rank_at rs k)) h).1

-- one row more: it counts where its letter goes before place r
before_more : (r : ℕ) (x : Row) (xs : List Row) → rank x.letter < r → before r (x ∷ xs) ≡ suc (before r xs)
unfolding before
before_more r x xs h = cond-true _ _ _ (lt-ltb _ _ h)

before_same : (r : ℕ) (x : Row) (xs : List Row) → r ≤ rank x.letter → before r (x ∷ xs) ≡ before r xs
unfolding before
before_same r x xs h = cond-false _ _ _ (le-ltb _ _ h)

before_most : (r : ℕ) (x : Row) (xs : List Row) → before r (x ∷ xs) ≤ suc (before r xs)
before_most r x xs =
    ⊎_elim
    (λ (h : rank x.letter < r). let e = before_more r x xs h in omega arith)
    (λ (h : r ≤ rank x.letter). let e = before_same r x xs h in omega arith)
    (cases_lt (rank x.letter) r)

-- no row goes before place r
before_none : (r : ℕ) (xs : List Row) → ((k : ℕ) → k < length xs → r ≤ rank_at xs k) → before r xs ≡ 0
unfolding before
before_none r [] h = refl
before_none r (x ∷ xs) h = before_same r x xs (h 0 (omega arith)) ∙ before_none r xs (λ k l. h (suc k) (omega arith))

-- every row goes before place 4
before_all : (xs : List Row) → ((k : ℕ) → k < length xs → rank_at xs k < 4) → before 4 xs ≡ length xs
unfolding before
before_all [] h = refl
before_all (x ∷ xs) h = before_more 4 x xs (h 0 (omega arith)) ∙ ap suc (before_all xs (λ k l. h (suc k) (omega arith)))

-- a later place has as many rows before it, or more
before_rises : (r s : ℕ) (xs : List Row) → r ≤ s → before r xs ≤ before s xs
unfolding before
before_rises r s [] h = omega arith
before_rises r s (x ∷ xs) h =
    let i = before_rises r s xs h in
    ⊎_elim
    (λ (a : rank x.letter < r). let e = before_more r x xs a in let f = before_more s x xs (omega arith) in omega arith)
    (λ (a : r ≤ rank x.letter).
    let e = before_same r x xs a in
    ⊎_elim
    (λ (b : rank x.letter < s). let f = before_more s x xs b in omega arith)
    (λ (b : s ≤ rank x.letter). let f = before_same s x xs b in omega arith)
    (cases_lt (rank x.letter) s))
    (cases_lt (rank x.letter) r)

-- the rows after the first are in order, and their letters do not go before that of the first
rises_after : (x : Row) (xs : List Row) → Ordered (x ∷ xs) → (k : ℕ) → suc k < length xs → rank_at xs k ≤ rank_at xs (suc k)
rises_after x xs h k l =
    let e : suc (suc k) - 1 ≡ suc k = omega arith in
    subst (λ (j : ℕ). rank_at (x ∷ xs) j ≤ rank_at xs (suc k)) e (rank_rises (x ∷ xs) (suc (suc k)) (h (suc (suc k)) (omega arith)))

rest_ordered : (x : Row) (xs : List Row) → Ordered (x ∷ xs) → Ordered xs
rest_ordered x xs h zero l =
    and_from _ _ (lt-ltb _ _ (rank_below (x ∷ xs) 1 (h 1 (omega arith)))) (le-leb (rank_at xs 0) (rank_at xs 0) (omega arith))
rest_ordered x xs h (suc k) l =
    let e : suc k - 1 ≡ k = omega arith in
    and_from _ _
    (lt-ltb _ _ (rank_below (x ∷ xs) (suc (suc k)) (h (suc (suc k)) (omega arith))))
    (le-leb (rank_at xs (suc k - 1)) (rank_at xs (suc k)) (subst (λ (j : ℕ). rank_at xs j ≤ rank_at xs (suc k)) (sym e) (rises_after x xs h k l)))

first_least : (x : Row) (xs : List Row) → Ordered (x ∷ xs) → (k : ℕ) → k < length xs → rank x.letter ≤ rank_at xs k
first_least x xs h zero l = rank_rises (x ∷ xs) 1 (h 1 (omega arith))
first_least x xs h (suc k) l =
    let i = first_least x xs h k (omega arith) in
    let r = rises_after x xs h k l in
    omega arith

-- a row stands after those whose letters go before its own
placed : (rs : List Row) → Ordered rs → (k : ℕ) → k < length rs → (before (rank_at rs k) rs ≤ k) × (k < before (suc (rank_at rs k)) rs)
placed [] h k l = absurd (omega arith)
placed (x ∷ xs) h zero l =
    let a = before_same (rank x.letter) x xs (omega arith) in
    let b = before_none (rank x.letter) xs (first_least x xs h) in
    let c = before_more (suc (rank x.letter)) x xs (omega arith) in
    (omega arith, omega arith)
placed (x ∷ xs) h (suc k) l =
    let i = placed xs (rest_ordered x xs h) k (omega arith) in
    let a = before_most (rank_at xs k) x xs in
    let f = first_least x xs h k (omega arith) in
    let b = before_more (suc (rank_at xs k)) x xs (omega arith) in
    (omega (arith, i.0), omega (arith, i.1))

-- so a row that stands there has that place
place_of : (rs : List Row) → Ordered rs → (r k : ℕ) → k < length rs → before r rs ≤ k → k < before (suc r) rs → rank_at rs k ≡ r
place_of rs h r k l a b =
    let p = placed rs h k l in
    ⊎_elim
    (λ (e : rank_at rs k ≡ r). e)
    (⊎_elim
    (λ (e : rank_at rs k < r). let m = before_rises (suc (rank_at rs k)) r rs (omega arith) in absurd (omega (arith, p.1)))
    (λ (e : r < rank_at rs k). let m = before_rises (suc r) (rank_at rs k) rs (omega arith) in absurd (omega (arith, p.0))))
    (cases_order (rank_at rs k) r)

-- the counts of the letters add up to the rows before each place
counts : (rs : List Row)
    → (before 0 rs ≡ 0) × (before 1 rs ≡ count 84 rs) × (before 2 rs ≡ count 84 rs + count 83 rs)
    × (before 3 rs ≡ count 84 rs + count 83 rs + count 78 rs) × (before 4 rs ≡ count 84 rs + count 83 rs + count 78 rs + count 69 rs)
unfolding before count
counts [] = (refl, refl, refl, refl, refl)
counts (x ∷ xs) =
    let i = counts xs in
    (grind (arith, nat_tests, i.0), grind (arith, nat_tests, i.1), grind (arith, nat_tests, i.2), grind (arith, nat_tests, i.3), grind (arith, nat_tests, i.4))

-- the letter of each place
letter_of : (l : ℕ) → (rank l ≡ 0 → l ≡ 84) × (rank l ≡ 1 → l ≡ 83) × (rank l ≡ 2 → l ≡ 78) × (rank l ≡ 3 → l ≡ 69)
letter_of l = (λ h. grind (arith, nat_tests), λ h. grind (arith, nat_tests), λ h. grind (arith, nat_tests), λ h. grind (arith, nat_tests))

pub read_by_letter_lem : ReadByLetter
unfolding view
read_by_letter_lem rs s =
    let h : Ordered rs = (lawful rs s).letters in
    let c = counts rs in
    let a = before_all rs (λ k l. rank_below rs k (h k l)) in
    let w : count 84 rs + count 83 rs + count 78 rs + count 69 rs ≡ length rs = omega (arith, c.4) in
    record {
      whole = w;
      types = λ t l. (letter_of _).0 (place_of rs h 0 (0 + t) (omega arith) (omega (arith, c.0)) (omega (arith, c.1)));
      sites = λ t l. (letter_of _).1 (place_of rs h 1 (count 84 rs + t) (omega arith) (omega (arith, c.1)) (omega (arith, c.2)));
      nodes = λ t l. (letter_of _).2 (place_of rs h 2 (count 84 rs + count 83 rs + t) (omega arith) (omega (arith, c.2)) (omega (arith, c.3)));
      entries = λ t l. (letter_of _).3 (place_of rs h 3 (count 84 rs + count 83 rs + count 78 rs + t) (omega arith) (omega (arith, c.3)) (omega (arith, c.4)));
    }
