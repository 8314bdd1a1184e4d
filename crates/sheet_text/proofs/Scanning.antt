-- How the scans of a field follow the grammar.
use Rattle.std.proofs.Common.{◌≡◌, ℕ, ◌+◌, ◌-◌, ◌<◌, ◌≤◌, Bool, true, false, ◌&&◌, eqb, List, [], ◌∷◌, ◌++◌, length, get_or, take, drop, sym, refl, ap, ◌∙◌, ap₂, append_assoc, le_refl, add-zero, arith, length-drop}
use Rattle.std.proofs.lemmas.List.{drop_more, drop_all, take_more, get_or-drop}
use Rattle.std.proofs.lemmas.Slice.{between_to_end}
use Rattle.std.proofs.lemmas.Bool.Decides.{nat_tests}
use Rattle.sheet_text.specs.Symbols.{Symbol, newline, symbol, symbols, line_end}
use Rattle.sheet_text.specs.Grammar.{wrong, bare, quoted, closed}
use Rattle.sheet_text.specs.Lines.{begins, ends_bare}

-- what `&xs[n..]` holds
pub rest_is : (n : ℕ) (xs : List ℕ) → take (length xs - n) (drop n xs) ≡ drop n xs
rest_is n xs = between_to_end xs n (length xs) (le_refl _)

module _ (n : ℕ) (xs : List ℕ) where
  -- how many bytes that is
  rest_length : length (take (length xs - n) (drop n xs)) ≡ length xs - n
  rest_length = ap length (rest_is n xs) ∙ length-drop n xs

  -- the byte at a place of it
  rest_at : (k : ℕ) → get_or (take (length xs - n) (drop n xs)) k 0 ≡ get_or xs (n + k) 0
  rest_at k = ap (λ l. get_or l k 0) (rest_is n xs) ∙ get_or-drop n xs k 0

  -- its first byte
  rest_first : get_or (take (length xs - n) (drop n xs)) 0 0 ≡ get_or xs n 0
  rest_first = rest_at 0 ∙ ap (λ k. get_or xs k 0) (add-zero n)

-- CR and LF together end a line
pub symbols_newline : (c d : ℕ) (cs : List ℕ) → line_end c d ≡ true → symbols (c ∷ d ∷ cs) ≡ newline ∷ symbols cs
unfolding symbols
symbols_newline c d cs h = rw (h, symbols) refl

-- two bytes that end no line: the first stands for itself
symbols_apart : (c d : ℕ) (cs : List ℕ) → line_end c d ≡ false → symbols (c ∷ d ∷ cs) ≡ symbol c ∷ symbols (d ∷ cs)
unfolding symbols
symbols_apart c d cs h = rw (h, symbols) refl

-- a byte that ends no line with the next one stands for itself
pub symbols_plain : (c : ℕ) (cs : List ℕ) → (eqb c 13 && begins 10 cs) ≡ false → symbols (c ∷ cs) ≡ symbol c ∷ symbols cs
unfolding symbols
symbols_plain c [] h = refl
symbols_plain c (d ∷ ds) h = symbols_apart c d ds h

-- one that ends a line with it ends it
pub symbols_line_end : (c : ℕ) (cs : List ℕ) → (eqb c 13 && begins 10 cs) ≡ true → symbols (c ∷ cs) ≡ newline ∷ symbols (drop 1 cs)
symbols_line_end c [] h = let z : (eqb c 13 && false) ≡ false = grind (arith, nat_tests) in cc
symbols_line_end c (d ∷ ds) h = symbols_newline c d ds h

-- a bare field takes a byte that does not end it
pub bare_byte : (c : ℕ) (cs f : List ℕ) → ends_bare (c ∷ cs) ≡ false → bare (symbols (c ∷ cs)) f ≡ bare (symbols cs) (f ++ c ∷ [])
unfolding bare
bare_byte c cs f h =
    let q : eqb c 34 ≡ false = grind (arith, nat_tests) in
    let k : eqb c 44 ≡ false = grind (arith, nat_tests) in
    let l : (eqb c 13 && begins 10 cs) ≡ false = grind (arith, nat_tests) in
    rw (symbols_plain c cs l, q, k) refl

-- the scan of a bare field goes on by one byte
pub bare_on : (xs : List ℕ) (n : ℕ) → n < length xs → ends_bare (drop n xs) ≡ false → bare (symbols xs) [] ≡ bare (symbols (drop n xs)) (take n xs) → bare (symbols xs) [] ≡ bare (symbols (drop (n + 1) xs)) (take (n + 1) xs)
bare_on xs n h e inv =
    let d = drop_more xs n 0 h in
    inv ∙ ap (λ l. bare (symbols l) (take n xs)) d ∙ bare_byte (get_or xs n 0) (drop (n + 1) xs) (take n xs) (sym (ap ends_bare d) ∙ e)
    ∙ ap (bare (symbols (drop (n + 1) xs))) (sym (take_more xs n 0 h))

-- a quoted field takes the symbol of any byte but a quotation mark
quoted_symbol : (c : ℕ) (ss : List Symbol) (f : List ℕ) → eqb c 34 ≡ false → quoted (symbol c ∷ ss) f ≡ quoted ss (f ++ c ∷ [])
unfolding quoted
quoted_symbol c ss f q = go (eqb c 44) refl
  where
    go : (k : Bool) → eqb c 44 ≡ k → quoted (symbol c ∷ ss) f ≡ quoted ss (f ++ c ∷ [])
    go true e = let k : c ≡ 44 = grind (arith, nat_tests) in rw (q, e, k) refl
    go false e = rw (q, e) refl

-- a quoted field takes CR and LF as two bytes
quoted_newline : (d : ℕ) (ds f : List ℕ) → d ≡ 10 → quoted (newline ∷ symbols ds) f ≡ quoted (symbols (d ∷ ds)) (f ++ 13 ∷ [])
unfolding quoted
quoted_newline d ds f e =
    let p : (eqb d 13 && begins 10 ds) ≡ false = grind (arith, nat_tests) in
    let q : eqb d 34 ≡ false = grind (arith, nat_tests) in
    ap (λ x. quoted (symbols ds) (f ++ 13 ∷ x ∷ [])) (sym e) ∙ ap (quoted (symbols ds)) (sym (append_assoc f (13 ∷ []) (d ∷ []))) ∙ sym (ap (λ ss. quoted ss (f ++ 13 ∷ [])) (symbols_plain d ds p) ∙ quoted_symbol d (symbols ds) (f ++ 13 ∷ []) q)

-- a quoted field takes any byte but a quotation mark
pub quoted_byte : (c : ℕ) (cs f : List ℕ) → eqb c 34 ≡ false → quoted (symbols (c ∷ cs)) f ≡ quoted (symbols cs) (f ++ c ∷ [])
quoted_byte c [] f q =
    let p : (eqb c 13 && false) ≡ false = grind (arith, nat_tests) in
    ap (λ ss. quoted ss f) (symbols_plain c [] p) ∙ quoted_symbol c (symbols []) f q
quoted_byte c (d ∷ ds) f q = go (line_end c d) refl
  where
    go : (l : Bool) → line_end c d ≡ l → quoted (symbols (c ∷ d ∷ ds)) f ≡ quoted (symbols (d ∷ ds)) (f ++ c ∷ [])
    go false l = ap (λ ss. quoted ss f) (symbols_apart c d ds l) ∙ quoted_symbol c (symbols (d ∷ ds)) f q
    go true l =
        let i : c ≡ 13 = grind (arith, nat_tests) in
        let j : d ≡ 10 = grind (arith, nat_tests) in
        ap (λ ss. quoted ss f) (symbols_newline c d ds l) ∙ quoted_newline d ds f j ∙ ap (λ x. quoted (symbols (d ∷ ds)) (f ++ x ∷ [])) (sym i)

-- a quotation mark inside a quoted field
pub quoted_mark : (c : ℕ) (cs f : List ℕ) → c ≡ 34 → quoted (symbols (c ∷ cs)) f ≡ closed (symbols cs) f
unfolding quoted
quoted_mark c cs f e =
    let p : (eqb c 13 && begins 10 cs) ≡ false = grind (arith, nat_tests) in
    ap (λ ss. quoted ss f) (symbols_plain c cs p) ∙ ap (λ x. quoted (symbol x ∷ symbols cs) f) e

-- a second one goes on with the field
closed_mark : (c : ℕ) (cs f : List ℕ) → c ≡ 34 → closed (symbols (c ∷ cs)) f ≡ quoted (symbols cs) (f ++ 34 ∷ 34 ∷ [])
unfolding closed
closed_mark c cs f e =
    let p : (eqb c 13 && begins 10 cs) ≡ false = grind (arith, nat_tests) in
    ap (λ ss. closed ss f) (symbols_plain c cs p) ∙ ap (λ x. closed (symbol x ∷ symbols cs) f) e

-- what the scan of a quoted field has shown after n bytes
abbrev pub Taken : List ℕ → ℕ → Type 0
Taken xs n = quoted (symbols xs) [] ≡ quoted (symbols (drop n xs)) (take n xs)

module _ (xs : List ℕ) (n : ℕ) (inv : Taken xs n) where
  abbrev rest : List ℕ
  rest = take (length xs - n) (drop n xs)

  -- the scan comes to the text's end with the field open
  pub quoted_open : length rest < 1 → quoted (symbols xs) [] ≡ wrong
  unfolding symbols quoted
  quoted_open h = inv ∙ ap (λ l. quoted (symbols l) (take n xs)) (drop_all n xs (omega (arith, rest_length n xs)))

  -- the scan goes on by a byte
  pub quoted_on : 0 < length rest → (get_or rest 0 0 ≡ 34 → ⊥) → (n + 1 ≤ length xs) × Taken xs (n + 1)
  quoted_on some other =
      let h : n < length xs = omega (arith, rest_length n xs) in
      let first = rest_first n xs in
      let q : eqb (get_or xs n 0) 34 ≡ false = grind (arith, nat_tests) in (
        omega arith,
        inv ∙ ap (λ l. quoted (symbols l) (take n xs)) (drop_more xs n 0 h) ∙ quoted_byte (get_or xs n 0) (drop (n + 1) xs) (take n xs) q
            ∙ ap (quoted (symbols (drop (n + 1) xs))) (sym (take_more xs n 0 h)),
      )

  -- the scan comes to a quotation mark
  pub quoted_at_mark : 0 < length rest → get_or rest 0 0 ≡ 34 → quoted (symbols xs) [] ≡ closed (symbols (drop (n + 1) xs)) (take n xs)
  quoted_at_mark some mark =
      inv ∙ ap (λ l. quoted (symbols l) (take n xs)) (drop_more xs n 0 (omega (arith, rest_length n xs)))
      ∙ quoted_mark (get_or xs n 0) (drop (n + 1) xs) (take n xs) (sym (rest_first n xs) ∙ mark)

  -- the scan goes on by two quotation marks
  pub quoted_on_two : 2 ≤ length rest → get_or rest 0 0 ≡ 34 → get_or rest 1 0 ≡ 34 → (n + 2 ≤ length xs) × Taken xs (n + 2)
  quoted_on_two some mark mark' =
      let h : n + 1 < length xs = omega (arith, rest_length n xs) in
      let one : get_or xs n 0 ≡ 34 = sym (rest_first n xs) ∙ mark in
      let two : get_or xs (n + 1) 0 ≡ 34 = sym (rest_at n xs 1) ∙ mark' in
      let both : take n xs ++ 34 ∷ 34 ∷ [] ≡ take (n + 1 + 1) xs =
      ap₂ (λ x y. take n xs ++ x ∷ y ∷ []) (sym one) (sym two) ∙ sym (append_assoc (take n xs) (get_or xs n 0 ∷ []) (get_or xs (n + 1) 0 ∷ []))
      ∙ ap (λ l. l ++ get_or xs (n + 1) 0 ∷ []) (sym (take_more xs n 0 (omega arith))) ∙ sym (take_more xs (n + 1) 0 h) in
      let same : n + 1 + 1 ≡ n + 2 = omega arith in (
        omega arith,
        quoted_at_mark (omega arith) mark ∙ ap (λ l. closed (symbols l) (take n xs)) (drop_more xs (n + 1) 0 h)
            ∙ closed_mark (get_or xs (n + 1) 0) (drop (n + 1 + 1) xs) (take n xs) two ∙ ap (quoted (symbols (drop (n + 1 + 1) xs))) both
            ∙ ap (λ k. quoted (symbols (drop k xs)) (take k xs)) same,
      )
