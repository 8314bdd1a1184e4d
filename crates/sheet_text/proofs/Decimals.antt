-- A number written in decimal reads as that number.
use Rattle.std.proofs.Common.{◌≡◌, ℕ, suc, ◌+◌, ◌-◌, ◌*◌, ◌/◌, ◌%◌, ◌^◌, ◌<◌, ◌≤◌, Bool, true, false, ◌&&◌, eqb, leb, List, [], ◌∷◌, ◌++◌, length, ℤ, pos, negsuc, Some, None, decimal, Option, refl, ap, ◌∙◌, mod-lt, div-add-mod', zero-add, arith}
use Rattle.std.proofs.lemmas.Fmt.{decimal_by_steps, decimal_nonempty, length-decimal-le}
use Rattle.std.proofs.lemmas.Bool.Decides.{nat_tests}
use Rattle.std.specs.Fmt.{signed_decimal}
use Rattle.sheet_text.specs.Fields.{digits_after, magnitude, number}
use Rattle.sheet_text.specs.Writing.{InRange}
use Rattle.sheet_text.proofs.Numerals.{magnitude_short}

-- bytes that neither end a bare field nor begin a quoted one
abbrev pub Plain : List ℕ → Type 0
Plain [] = Unit {0}
Plain (c ∷ cs) = ((c ≡ 34 → ⊥) × (c ≡ 44 → ⊥) × (c ≡ 13 → ⊥)) × Plain cs

-- one digit more
digits_push : (n m : ℕ) (ds : List ℕ) (d : ℕ) → d < 10 → digits_after n ds ≡ Some m → digits_after n (ds ++ (48 + d) ∷ []) ≡ Some (m * 10 + d)
digits_push n m [] d h e =
    let t : (leb 48 (48 + d) && leb (48 + d) 57) ≡ true = grind (arith, nat_tests) in
    let k : n ≡ m = cc in
    let v : n * 10 + (48 + d - 48) ≡ m * 10 + d = omega arith in
    rw (t, v) refl
digits_push n m (c ∷ cs) d h e = go (digits_push (n * 10 + (c - 48)) m cs d h) (leb 48 c && leb c 57) refl
  where
    go : (digits_after (n * 10 + (c - 48)) cs ≡ Some m → digits_after (n * 10 + (c - 48)) (cs ++ (48 + d) ∷ []) ≡ Some (m * 10 + d)) → (t : Bool) → (leb 48 c && leb c 57) ≡ t → digits_after n (c ∷ (cs ++ (48 + d) ∷ [])) ≡ Some (m * 10 + d)
    go ih true t = let r : digits_after (n * 10 + (c - 48)) cs ≡ Some m = rw t at e in rw t (ih r)
    go ih false t = let r : ◌≡◌ {A = Option ℕ} None (Some m) = rw t at e in cc

plain_push : (ds : List ℕ) (d : ℕ) → d < 10 → Plain ds → Plain (ds ++ (48 + d) ∷ [])
plain_push [] d h p = ((λ e. omega arith, λ e. omega arith, λ e. omega arith), tt)
plain_push (c ∷ cs) d h p = (p.0, plain_push cs d h p.1)

-- the first byte is no sign
abbrev DigitFirst : List ℕ → Type 0
DigitFirst [] = Unit {0}
DigitFirst (c ∷ cs) = c ≡ 45 → ⊥

first_push : (ds : List ℕ) (d : ℕ) → DigitFirst ds → DigitFirst (ds ++ (48 + d) ∷ [])
first_push [] d p = λ e. omega arith
first_push (c ∷ cs) d p = p

-- what is known of a number's digits: they are plain bytes and worth the number
abbrev DigitsOf : ℕ → List ℕ → Type 0
DigitsOf n ds = (digits_after 0 ds ≡ Some n) × Plain ds

decimal_first : (n : ℕ) → n < 2 ^ 64 → DigitFirst (decimal n)
decimal_first = decimal_by_steps (λ n ds. DigitFirst ds) (λ n h e. omega arith) (λ n ds h p. first_push ds (n % 10) p)

decimal_digits : (n : ℕ) → n < 2 ^ 64 → DigitsOf n (decimal n)
decimal_digits = decimal_by_steps DigitsOf one more
  where
    one : (n : ℕ) → n < 10 → DigitsOf n ((48 + n) ∷ [])
    one n h = (digits_push 0 0 [] n h refl ∙ ap Some (zero-add n), plain_push [] n h tt)

    more : (n : ℕ) (ds : List ℕ) → 10 ≤ n → DigitsOf (n / 10) ds → DigitsOf n (ds ++ (48 + n % 10) ∷ [])
    more n ds h i =
        let small = mod-lt n {m = 10} (omega arith) in
        (digits_push 0 (n / 10) ds (n % 10) small i.0 ∙ ap Some (div-add-mod' n 10), plain_push ds (n % 10) small i.1)

-- a magnitude of at most ten digits
decimal_magnitude : (n : ℕ) → n < 4294967296 → magnitude (decimal n) ≡ Some n
decimal_magnitude n h =
    magnitude_short (decimal n) (decimal_nonempty n (omega arith)) (length-decimal-le 10 n (omega arith) (omega arith) (omega arith))
    ∙ (decimal_digits n (omega arith)).0

-- a magnitude without a sign is a number from zero up
unsigned_number : (ds : List ℕ) (n : ℕ) → DigitFirst ds → n < 4294967296 → magnitude ds ≡ Some n → number ds ≡ Some (pos n)
unsigned_number [] n d h e = cc
unsigned_number (c ∷ cs) n d h e =
    let m : eqb c 45 ≡ false = grind (arith, nat_tests) in
    let t : leb n 4294967295 ≡ true = grind (arith, nat_tests) in
    rw (m, e, t) refl

-- a number in range is read back from its decimal
pub number_signed : (z : ℤ) → InRange z → number (signed_decimal z) ≡ Some z
number_signed (pos n) h = unsigned_number (decimal n) n (decimal_first n (omega arith)) h (decimal_magnitude n h)
number_signed (negsuc n) h =
    let t : leb (suc n) 2147483648 ≡ true = grind (arith, nat_tests) in
    rw (decimal_magnitude (suc n) (omega arith), t) refl

-- and its bytes are plain ones
pub plain_signed : (z : ℤ) → InRange z → Plain (signed_decimal z)
plain_signed (pos n) h = (decimal_digits n (omega arith)).1
plain_signed (negsuc n) h = ((λ e. omega arith, λ e. omega arith, λ e. omega arith), (decimal_digits (suc n) (omega arith)).1)

-- of which there is one at least
pub some_signed : (z : ℤ) → InRange z → 0 < length (signed_decimal z)
some_signed (pos n) h = decimal_nonempty n (omega arith)
some_signed (negsuc n) h = omega arith
