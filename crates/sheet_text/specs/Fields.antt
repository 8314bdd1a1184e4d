-- What the fields of a row say.
use Rattle.std.specs.Prelude.{ℕ, ◌+◌, ◌-◌, ◌*◌, Bool, true, false, cond, ◌&&◌, List, [], ◌∷◌, length, ℤ, pos, neg_ℤ, Some, None, Option, ◌==◌, nat_le}

-- a field's content: two quotation marks inside it stand for one
abbrev pub content : List ℕ → List ℕ
content [] = []
content (c ∷ []) = c ∷ []
content (c ∷ d ∷ cs) = elim (c == 34 && d == 34) [ true ↦ 34 ∷ content cs | false ↦ c ∷ content (d ∷ cs) ]

-- T, S, N or E
abbrev pub is_letter : ℕ → Bool
is_letter c = cond (c == 84) true (cond (c == 83) true (cond (c == 78) true (c == 69)))

-- the letter that a field's bytes are: one alone
abbrev pub letter : List ℕ → Option ℕ
letter [] = None
letter (c ∷ []) = cond (is_letter c) (Some c) None
letter (c ∷ d ∷ cs) = None

-- the number that decimal digits write, read on after n
abbrev pub digits_after : ℕ → List ℕ → Option ℕ
digits_after n [] = Some n
digits_after n (c ∷ cs) = cond (nat_le 48 c && nat_le c 57) (digits_after (n * 10 + (c - 48)) cs) None

-- one to ten digits
abbrev pub magnitude : List ℕ → Option ℕ
magnitude bs = cond (nat_le 1 (length bs) && nat_le (length bs) 10) (digits_after 0 bs) None

-- a magnitude up to a largest one, under its sign
abbrev pub at_most : ℕ → (ℕ → ℤ) → Option ℕ → Option ℤ
at_most top sign None = None
at_most top sign (Some m) = cond (nat_le m top) (Some (sign m)) None

-- the number that a field's bytes are: perhaps a minus sign, then one to ten digits, from -2^31 to 2^32 - 1
abbrev pub number : List ℕ → Option ℤ
number [] = None
number (c ∷ cs) = cond (c == 45) (at_most 2147483648 (λ m. neg_ℤ (pos m)) (magnitude cs)) (at_most 4294967295 pos (magnitude (c ∷ cs)))
