-- Rows that were written are read back.
use Rattle.std.proofs.Common.{◌≡◌, ℕ, ◌<◌, Bool, true, false, eqb, List, [], ◌∷◌, ◌++◌, map, length, drop, Some, sym, refl, ap, ◌∙◌, subst, append_assoc, append-nil, arith, length-append}
use Rattle.std.proofs.lemmas.Bool.Decides.{nat_tests}
use Rattle.std.specs.Fmt.{signed_decimal}
use Rattle.sheet_text.specs.declared.scan.Mark.{Mark}
use Rattle.sheet_text.specs.declared.scan.Mark.TheVariants.{Comma, RowEnd}
use Rattle.sheet_text.specs.Symbols.{Symbol, symbols}
use Rattle.sheet_text.specs.Grammar.{Rows, end, ◌then◌, front, field, bare, quoted, closed, rows}
use Rattle.sheet_text.specs.Lines.{ends_bare, mark, continued}
use Rattle.sheet_text.specs.Fields.{is_letter}
use Rattle.sheet_text.specs.Writing.{Written, field_text, joined, row_text, text, Writable, AllWritable}
use Rattle.sheet_text.proofs.Numerals.{tail_is}
use Rattle.sheet_text.proofs.Lines.{rows_some}
use Rattle.sheet_text.proofs.Scanning.{bare_byte, quoted_byte, quoted_mark}
use Rattle.sheet_text.proofs.Marks.{Closes, bare_closes, closed_closes, Marked, marked, field_bare, field_quoted}
use Rattle.sheet_text.proofs.Decimals.{Plain, plain_signed, some_signed}

-- a bare field takes plain bytes
bare_run : (bs cs f : List ℕ) → Plain bs → bare (symbols (bs ++ cs)) f ≡ bare (symbols cs) (f ++ bs)
bare_run [] cs f p = ap (bare (symbols cs)) (sym (append-nil f))
bare_run (b ∷ bs) cs f p =
    let n = p.0 in
    let e : ends_bare (b ∷ (bs ++ cs)) ≡ false = grind (arith, nat_tests) in
    bare_byte b (bs ++ cs) f e ∙ bare_run bs cs (f ++ b ∷ []) p.1 ∙ ap (bare (symbols cs)) (append_assoc f (b ∷ []) bs)

-- and so does a quoted one
quoted_run : (bs cs f : List ℕ) → Plain bs → quoted (symbols (bs ++ cs)) f ≡ quoted (symbols cs) (f ++ bs)
quoted_run [] cs f p = ap (quoted (symbols cs)) (sym (append-nil f))
quoted_run (b ∷ bs) cs f p =
    let n = p.0.0 in
    let e : eqb b 34 ≡ false = grind (arith, nat_tests) in
    quoted_byte b (bs ++ cs) f e ∙ quoted_run bs cs (f ++ b ∷ []) p.1 ∙ ap (quoted (symbols cs)) (append_assoc f (b ∷ []) bs)

module _ (cs : List ℕ) (m : Mark) (k : ℕ) (e : mark cs ≡ Some (m, k)) where
  -- what a mark makes of a field's end
  by_mark : (g : List Symbol → List ℕ → Rows) → Closes g → (f : List ℕ) → g (symbols cs) f ≡ continued f m (symbols (drop k cs))
  by_mark g closes f = (subst (Marked g closes f cs) e (marked g closes f cs)).0

  -- a field that was written, before a mark
  pub field_written : (q : Bool) (bs : List ℕ) → 0 < length bs → Plain bs → field (symbols (field_text q bs ++ cs)) ≡ continued bs m (symbols (drop k cs))
  field_written q [] some p = absurd (omega arith)
  field_written false (b ∷ bs) some p =
      field_bare (b ∷ (bs ++ cs)) (λ _ h. p.0.0 h) ∙ bare_run (b ∷ bs) cs [] p ∙ by_mark bare bare_closes (b ∷ bs)
  field_written true (b ∷ bs) some p =
      let inner = (b ∷ bs) ++ 34 ∷ cs in
      ap (λ l. field (symbols (34 ∷ l))) (append_assoc (b ∷ bs) (34 ∷ []) cs)
      ∙ field_quoted (34 ∷ inner) (omega arith) refl ∙ ap (λ l. quoted (symbols l) []) (tail_is 34 inner)
      ∙ quoted_run (b ∷ bs) (34 ∷ cs) [] p ∙ quoted_mark 34 cs (b ∷ bs) refl ∙ by_mark closed closed_closes (b ∷ bs)

-- fields to be written: which go between quotation marks, and their bytes
abbrev pub FieldsOut : Type 0
FieldsOut = List (Bool × List ℕ)

abbrev texts : FieldsOut → List (List ℕ)
texts ps = map (λ p. field_text p.0 p.1) ps

abbrev pub bytes : FieldsOut → List (List ℕ)
bytes ps = map (λ p. p.1) ps

abbrev AllPlain : FieldsOut → Type 0
AllPlain [] = Unit {0}
AllPlain (p ∷ ps) = (0 < length p.1) × Plain p.1 × AllPlain ps

-- a row that was written, before its end
row_written : (p : Bool × List ℕ) (ps : FieldsOut) → AllPlain (p ∷ ps) → (cs : List ℕ) (k : ℕ) → mark cs ≡ Some (RowEnd, k) → field (symbols (joined (texts (p ∷ ps)) ++ cs)) ≡ (bytes (p ∷ ps)) then rows (symbols (drop k cs))
row_written p [] good cs k e = field_written cs RowEnd k e p.0 p.1 good.0 good.1
row_written p (p' ∷ ps) good cs k e =
    let more = joined (texts (p' ∷ ps)) in
    ap (λ l. field (symbols l)) (append_assoc (field_text p.0 p.1) (44 ∷ more) cs)
    ∙ field_written (44 ∷ (more ++ cs)) Comma 1 refl p.0 p.1 good.0 good.1
    ∙ ap (front p.1) (row_written p' ps good.2 cs k e)

-- the fields of a row that was written: its numbers, and with its letter
abbrev numbers_out : Written → FieldsOut
numbers_out w =
    (w.quotes 1, signed_decimal w.row.a) ∷ (w.quotes 2, signed_decimal w.row.b) ∷ (w.quotes 3, signed_decimal w.row.c)
    ∷ (w.quotes 4, signed_decimal w.row.d) ∷ (w.quotes 5, signed_decimal w.row.e) ∷ []

abbrev pub out : Written → FieldsOut
out w = (w.quotes 0, w.row.letter ∷ []) ∷ numbers_out w

-- a letter is a plain byte
letter_plain : (c : ℕ) → is_letter c ≡ true → Plain (c ∷ [])
letter_plain c h = ((λ e. grind (arith, nat_tests), λ e. grind (arith, nat_tests), λ e. grind (arith, nat_tests)), tt)

out_plain : (w : Written) → Writable w.row → AllPlain (out w)
out_plain w g = (
  omega arith,
  letter_plain w.row.letter g.0,
  (
    some_signed w.row.a g.1,
    plain_signed w.row.a g.1,
    (
      some_signed w.row.b g.2,
      plain_signed w.row.b g.2,
      (
        some_signed w.row.c g.3,
        plain_signed w.row.c g.3,
        (
          some_signed w.row.d g.4,
          plain_signed w.row.d g.4,
          (some_signed w.row.e g.5, plain_signed w.row.e g.5, tt),
        ),
      ),
    ),
  ),
)

-- the rows that the text of these rows has
unfoldable pub rows_out : List Written → Rows
rows_out [] = end
rows_out (w ∷ ws) = bytes (out w) then rows_out ws

-- one row, its end, and the rest
rows_row : (w : Written) → Writable w.row → (cs : List ℕ) (k : ℕ) → mark cs ≡ Some (RowEnd, k) → rows (symbols (row_text w ++ cs)) ≡ (bytes (out w)) then rows (symbols (drop k cs))
rows_row w g cs k e =
    let first = field_text (w.quotes 0) (w.row.letter ∷ []) in
    let some : 0 < length (row_text w ++ cs) = omega (arith, length-append (row_text w) cs, length-append first (44 ∷ joined (texts (numbers_out w)))) in
    rows_some (row_text w ++ cs) some ∙ row_written (w.quotes 0, w.row.letter ∷ []) (numbers_out w) (out_plain w g) cs k e

pub rows_written : (ended : Bool) (ws : List Written) → AllWritable ws → rows (symbols (text ended ws)) ≡ rows_out ws
unfolding symbols text rows_out
rows_written ended [] g = refl
rows_written true (w ∷ []) g = rows_row w g.0 (13 ∷ 10 ∷ []) 2 refl
rows_written false (w ∷ []) g = rows_row w g.0 [] 0 refl
rows_written ended (w ∷ v ∷ ws) g =
    rows_row w g.0 (13 ∷ 10 ∷ text ended (v ∷ ws)) 2 refl ∙ ap (λ rs. bytes (out w) then rs) (rows_written ended (v ∷ ws) g.1)
