-- How a field's end follows the grammar.
use Rattle.std.proofs.Common.{◌≡◌, ℕ, ◌+◌, ◌-◌, ◌<◌, ◌≤◌, Bool, true, false, cond, ◌&&◌, eqb, List, [], ◌∷◌, length, get_or, drop, Some, None, Option, sym, refl, ap, ◌∙◌, subst, add-one, arith, length-drop}
use native.Mathlib.Decide.{dec_lt}
use Rattle.std.proofs.lemmas.List.{drop-drop}
use Rattle.std.proofs.lemmas.Bool.Decides.{nat_tests}
use Rattle.sheet_text.specs.declared.scan.Mark.{Mark}
use Rattle.sheet_text.specs.declared.scan.Mark.TheVariants.{Comma, RowEnd}
use Rattle.sheet_text.specs.Symbols.{Symbol, quote, comma, newline, byte, symbol, symbols}
use Rattle.sheet_text.specs.Grammar.{Rows, end, wrong, ◌then◌, front, field, bare, quoted, closed, rows}
use Rattle.sheet_text.specs.Lines.{begins, ends_bare, mark, goes_on, continued}
use Rattle.sheet_text.proofs.Numerals.{tail, tail_is}
use Rattle.sheet_text.proofs.Scanning.{symbols_plain, symbols_newline, symbols_line_end}

-- a symbol of the grammar that a comma, a line's end and the text's end close alike
pub record Closes (g : List Symbol → List ℕ → Rows) : Type 0 where
  pub at_end : (f : List ℕ) → g [] f ≡ (f ∷ []) then end
  pub at_comma : (ss : List Symbol) (f : List ℕ) → g (comma ∷ ss) f ≡ front f (field ss)
  pub at_newline : (ss : List Symbol) (f : List ℕ) → g (newline ∷ ss) f ≡ (f ∷ []) then rows ss

pub bare_closes : Closes bare
unfolding bare
bare_closes = record { at_end = λ f. refl; at_comma = λ ss f. refl; at_newline = λ ss f. refl }

pub closed_closes : Closes closed
unfolding closed
closed_closes = record { at_end = λ f. refl; at_comma = λ ss f. refl; at_newline = λ ss f. refl }

module _ (g : List Symbol → List ℕ → Rows) (closes : Closes g) (f : List ℕ) where
  -- what a mark at the front of the bytes comes to
  abbrev pub Marked : List ℕ → Option (Mark × ℕ) → Type 0
  Marked cs None = Unit {0}
  Marked cs (Some p) = (g (symbols cs) f ≡ continued f p.0 (symbols (drop p.1 cs))) × (p.1 ≤ length cs) × (0 < length cs → 0 < p.1) × (goes_on p.0 ≡ true → 0 < p.1)

  -- CR and LF at the front
  marked_newline : (c : ℕ) (cs : List ℕ) → (eqb c 13 && begins 10 cs) ≡ true → Marked (c ∷ cs) (Some (RowEnd, 2))
  marked_newline c [] h = let z : (eqb c 13 && false) ≡ false = grind (arith, nat_tests) in cc
  marked_newline c (d ∷ ds) h = (ap (λ ss. g ss f) (symbols_newline c d ds h) ∙ closes.at_newline (symbols ds) f, omega arith, λ _. omega arith, λ _. omega arith)

  -- each mark ends the field as the grammar has it
  pub marked : (cs : List ℕ) → Marked cs (mark cs)
  unfolding symbols
  marked [] = (closes.at_end f, omega arith, λ h. h, λ h. cc)
  marked (c ∷ cs) = go (eqb c 44) refl (eqb c 13 && begins 10 cs) refl
    where
      go : (k : Bool) → eqb c 44 ≡ k → (l : Bool) → (eqb c 13 && begins 10 cs) ≡ l → Marked (c ∷ cs) (cond k (Some (Comma, 1)) (cond l (Some (RowEnd, 2)) None))
      go true e l el =
          let p : (eqb c 13 && begins 10 cs) ≡ false = grind (arith, nat_tests) in
          let q : eqb c 34 ≡ false = grind (arith, nat_tests) in
          let s : symbol c ≡ comma = rw (q, e) refl in
          (ap (λ ss. g ss f) (symbols_plain c cs p ∙ ap (λ x. x ∷ symbols cs) s) ∙ closes.at_comma (symbols cs) f, omega arith, λ _. omega arith, λ _. omega arith)
      go false e true el = marked_newline c cs el
      go false e false el = tt

-- no mark: neither test held
unmarked : (k l : Bool) → ◌≡◌ {A = Option (Mark × ℕ)} None (cond k (Some (Comma, 1)) (cond l (Some (RowEnd, 2)) None)) → (k ≡ false) × (l ≡ false)
unmarked true l h = cc
unmarked false true h = cc
unmarked false false h = (refl, refl)

-- a bare field that no mark ends meets a quotation mark
pub bare_unmarked : (cs f : List ℕ) → ends_bare cs ≡ true → None ≡ mark cs → bare (symbols cs) f ≡ wrong
unfolding bare
bare_unmarked [] f h n = cc
bare_unmarked (c ∷ cs) f h n =
    let u = unmarked (eqb c 44) (eqb c 13 && begins 10 cs) n in
    let k = u.0 in
    let l = u.1 in
    let q : eqb c 34 ≡ true = grind (arith, nat_tests) in
    rw (symbols_plain c cs l, q) refl

-- a closed field that no mark ends meets another byte
pub closed_unmarked : (cs f : List ℕ) → begins 34 cs ≡ false → None ≡ mark cs → closed (symbols cs) f ≡ wrong
unfolding closed
closed_unmarked [] f h n = cc
closed_unmarked (c ∷ cs) f h n =
    let u = unmarked (eqb c 44) (eqb c 13 && begins 10 cs) n in
    rw (symbols_plain c cs u.1, h, u.0) refl

-- a step over a field that takes the bytes up to p, and then a mark
pub stepped : (meaning : Rows) (g : List Symbol → List ℕ → Rows) → Closes g → (xs f : List ℕ) (p k : ℕ) (m : Mark) → p ≤ length xs → meaning ≡ g (symbols (drop p xs)) f → Some (m, k) ≡ mark (drop p xs) → (p + k ≤ length xs) × (0 < length xs → 0 < p + k) × (goes_on m ≡ true → 0 < p + k) × (meaning ≡ continued f m (symbols (drop (p + k) xs)))
stepped meaning g closes xs f p k m inside read e =
    let w = subst (Marked g closes f (drop p xs)) (sym e) (marked g closes f (drop p xs)) in
    let len : length (drop p xs) ≡ length xs - p = length-drop p xs in (
      omega (arith, w.1),
      λ some. elim (dec_lt 0 p) [ yes h ↦ omega arith | no h ↦ omega (arith, w.2 (omega arith)) ],
      λ on. omega (arith, w.3 on),
      read ∙ w.0 ∙ ap (λ l. continued f m (symbols l)) (drop-drop k p xs),
    )

-- where a field begins without a quotation mark it is a bare one
field_symbol : (s : Symbol) (ss : List Symbol) → (s ≡ quote → ⊥) → field (s ∷ ss) ≡ bare (s ∷ ss) []
unfolding field bare
field_symbol quote ss h = absurd (h refl)
field_symbol comma ss h = refl
field_symbol newline ss h = refl
field_symbol (byte c) ss h = refl

-- a byte that is no quotation mark stands for none
symbol_other : (c : ℕ) → (c ≡ 34 → ⊥) → symbol c ≡ quote → ⊥
symbol_other c ne e = go (eqb c 34) refl (eqb c 44) e
  where
    go : (q : Bool) → eqb c 34 ≡ q → (k : Bool) → cond q quote (cond k comma (byte c)) ≡ quote → ⊥
    go true eq k e = ne (grind (arith, nat_tests))
    go false eq true e = cc
    go false eq false e = cc

pub field_bare : (xs : List ℕ) → (0 < length xs → get_or xs 0 0 ≡ 34 → ⊥) → field (symbols xs) ≡ bare (symbols xs) []
unfolding field bare symbols
field_bare [] h = refl
field_bare (c ∷ cs) h = go (eqb c 13 && begins 10 cs) refl
  where
    lone : c ≡ 34 → ⊥
    lone e = h (omega arith) e

    go : (l : Bool) → (eqb c 13 && begins 10 cs) ≡ l → field (symbols (c ∷ cs)) ≡ bare (symbols (c ∷ cs)) []
    go false l = rw (symbols_plain c cs l) (field_symbol (symbol c) (symbols cs) (symbol_other c lone))
    go true l = rw (symbols_line_end c cs l) refl

-- where a field begins with a quotation mark it is a quoted one
pub field_quoted : (xs : List ℕ) → 0 < length xs → get_or xs 0 0 ≡ 34 → field (symbols xs) ≡ quoted (symbols (tail xs)) []
unfolding field
field_quoted [] h e = absurd (omega arith)
field_quoted (c ∷ cs) h e =
    let p : (eqb c 13 && begins 10 cs) ≡ false = grind (arith, nat_tests) in
    let q : eqb c 34 ≡ true = grind (arith, nat_tests) in
    rw (tail_is c cs, symbols_plain c cs p, q) refl

-- what is left of the bytes after the first, and of those after k more
pub drop_tail : (xs : List ℕ) (k : ℕ) → 0 < length xs → drop k (tail xs) ≡ drop (k + 1) xs
drop_tail [] k h = absurd (omega arith)
drop_tail (c ∷ cs) k h = rw (tail_is c cs, add-one) refl

pub length_tail : (xs : List ℕ) → 0 < length xs → length (tail xs) + 1 ≡ length xs
length_tail [] h = absurd (omega arith)
length_tail (c ∷ cs) h = rw (tail_is c cs) (omega arith)
