-- What a row's fields, taken one by one, come to.
use Rattle.std.proofs.Common.{◌≡◌, ℕ, ◌+◌, ◌-◌, ◌≤◌, min, false, cond, ◌&&◌, eqb, leb, List, [], ◌∷◌, length, get_or, set, ℤ, pos, is_some, Option, unwrap_or, sym, refl, ap, ◌∙◌, ap₂, arith}
use Rattle.std.proofs.Math.Bool.{and_assoc, and-true}
use Rattle.std.proofs.lemmas.Bool.Decides.{nat_tests}
use Rattle.sheet.specs.declared.row.Row.{Row}
use Rattle.sheet_text.specs.declared.line.Line.{Line}
use Rattle.sheet_text.specs.Fields.{content, number}
use Rattle.sheet_text.specs.Questions.{six, lettered, all_numbers, numbered, row_of}
use Rattle.sheet_text.specs.Rows.{blank, taken, gathered, row_in}
use Rattle.sheet_text.proofs.Contents.{letter_content, number_content}

-- a line past its first field, with one field more
abbrev further : Line → List ℕ → Line
further l f = record { fields = min l.fields 6 + 1; letter = l.letter; numeric = l.numeric && is_some (number f); values = cond (leb l.fields 5) (set l.values (l.fields - 1) (unwrap_or (number f) (pos 0))) l.values }

taken_further : (l : Line) (f : List ℕ) → 1 ≤ l.fields → taken l f ≡ further l f
taken_further l f h = let e : eqb l.fields 0 ≡ false = grind (arith, nat_tests) in rw e refl

-- past the first field: how many there are, the letter kept, and whether all are numbers
pub gathered_further : (l : Line) (fs : List (List ℕ)) → 1 ≤ l.fields → l.fields ≤ 7 → ((gathered l fs).fields ≡ min (l.fields + length fs) 7) × ((gathered l fs).letter ≡ l.letter) × ((gathered l fs).numeric ≡ (l.numeric && all_numbers fs))
gathered_further l [] h k = (omega arith, refl, sym (and-true l.numeric))
gathered_further l (f ∷ fs) h k =
    let t = taken_further l f h in
    let ih = gathered_further (further l f) fs (omega arith) (omega arith) in
    let n : number (content f) ≡ number f = number_content f in (
      ap (λ m. (gathered m fs).fields) t ∙ ih.0 ∙ omega arith,
      ap (λ m. (gathered m fs).letter) t ∙ ih.1,
      ap (λ m. (gathered m fs).numeric) t ∙ ih.2 ∙ and_assoc l.numeric (is_some (number f)) (all_numbers fs) ∙ ap (λ o. l.numeric && (is_some o && all_numbers fs)) (sym n),
    )

-- past the sixth field the numbers stay
gathered_full : (l : Line) (fs : List (List ℕ)) → 6 ≤ l.fields → l.fields ≤ 7 → (gathered l fs).values ≡ l.values
gathered_full l [] h k = refl
gathered_full l (f ∷ fs) h k =
    let t = taken_further l f (omega arith) in
    let e : leb l.fields 5 ≡ false = grind (arith, nat_tests) in
    ap (λ m. (gathered m fs).values) t ∙ gathered_full (further l f) fs (omega arith) (omega arith) ∙ ap (λ b. cond b (set l.values (l.fields - 1) (unwrap_or (number f) (pos 0))) l.values) e

-- whether a row has six fields
pub six_gathered : (fs : List (List ℕ)) → eqb (gathered blank fs).fields 6 ≡ six fs
six_gathered [] = refl
six_gathered (f ∷ fs) = let g = (gathered_further (taken blank f) fs (omega arith) (omega arith)).0 in grind (arith, nat_tests)

-- whether its first is a letter
pub lettered_gathered : (fs : List (List ℕ)) → is_some (gathered blank fs).letter ≡ lettered fs
lettered_gathered [] = refl
lettered_gathered (f ∷ fs) = ap is_some ((gathered_further (taken blank f) fs (omega arith) (omega arith)).1 ∙ sym (letter_content f))

-- whether its others are numbers
pub numbered_gathered : (fs : List (List ℕ)) → (gathered blank fs).numeric ≡ numbered fs
numbered_gathered [] = refl
numbered_gathered (f ∷ fs) = (gathered_further (taken blank f) fs (omega arith) (omega arith)).2

-- a row of its letter and its numbers
abbrev of_parts : Option ℕ → List ℤ → Row
of_parts l vs = record { letter = unwrap_or l 0; a = get_or vs 0 (pos 0); b = get_or vs 1 (pos 0); c = get_or vs 2 (pos 0); d = get_or vs 3 (pos 0); e = get_or vs 4 (pos 0) }

-- the row that the fields say
pub row_gathered : (fs : List (List ℕ)) → row_in (gathered blank fs) ≡ row_of fs
row_gathered [] = refl
row_gathered (f ∷ []) = simp letter_content
row_gathered (f ∷ g ∷ []) = simp (letter_content, number_content)
row_gathered (f ∷ g ∷ h ∷ []) = simp (letter_content, number_content)
row_gathered (f ∷ g ∷ h ∷ i ∷ []) = simp (letter_content, number_content)
row_gathered (f ∷ g ∷ h ∷ i ∷ j ∷ []) = simp (letter_content, number_content)
row_gathered (f ∷ g ∷ h ∷ i ∷ j ∷ k ∷ fs) =
    let six = gathered blank (f ∷ g ∷ h ∷ i ∷ j ∷ k ∷ []) in
    ap₂ of_parts (gathered_further six fs (omega arith) (omega arith)).1 (gathered_full six fs (omega arith) (omega arith))
    ∙ simp (letter_content, number_content)
