-- Rows written as text, and the law that reading them gives them back.
use Rattle.std.specs.Prelude.{◌≡◌, ℕ, ◌<◌, ◌≤◌, Bool, true, false, cond, List, [], ◌∷◌, ◌++◌, map, length, drop, ℤ, pos, negsuc, Ok}
use Rattle.std.specs.Fmt.{signed_decimal}
use Rattle.sheet.specs.declared.row.Row.{Row}
use Rattle.sheet_text.specs.Fields.{is_letter}
use Rattle.sheet_text.specs.Questions.{reading, table_after}

-- a row to be written, and which of its six fields go between quotation marks
pub record Written : Type 0 where
  pub row : Row
  pub quotes : ℕ → Bool

-- a field as text: between quotation marks, or bare
abbrev pub field_text : Bool → List ℕ → List ℕ
field_text true bs = 34 ∷ bs ++ 34 ∷ []
field_text false bs = bs

-- fields with commas between them
abbrev pub joined : List (List ℕ) → List ℕ
joined [] = []
joined (f ∷ []) = f
joined (f ∷ g ∷ fs) = f ++ 44 ∷ joined (g ∷ fs)

-- a row as text: its letter and its five numbers in decimal
abbrev pub row_text : Written → List ℕ
row_text w =
    joined (field_text (w.quotes 0) (w.row.letter ∷ [])
    ∷ field_text (w.quotes 1) (signed_decimal w.row.a)
    ∷ field_text (w.quotes 2) (signed_decimal w.row.b)
    ∷ field_text (w.quotes 3) (signed_decimal w.row.c)
    ∷ field_text (w.quotes 4) (signed_decimal w.row.d)
    ∷ field_text (w.quotes 5) (signed_decimal w.row.e)
    ∷ [])

-- rows as text, a line each; the last line's end may be left out
unfoldable pub text : Bool → List Written → List ℕ
text ended [] = []
text ended (w ∷ []) = row_text w ++ cond ended (13 ∷ 10 ∷ []) []
text ended (w ∷ v ∷ ws) = row_text w ++ 13 ∷ 10 ∷ text ended (v ∷ ws)

-- from -2^31 to 2^32 - 1
abbrev pub InRange : ℤ → Type 0
InRange (pos n) = n < 4294967296
InRange (negsuc n) = n < 2147483648

-- a row that can be written: a letter of a sheet, and numbers in range
abbrev pub Writable : Row → Type 0
Writable r = (is_letter r.letter ≡ true) × InRange r.a × InRange r.b × InRange r.c × InRange r.d × InRange r.e

-- each row can be written
abbrev pub AllWritable : List Written → Type 0
AllWritable [] = Unit {0}
AllWritable (w ∷ ws) = Writable w.row × AllWritable ws

-- Reading what was written gives the rows back, quoted or bare, with or without the last line's
-- end, and leaves the further places of the table as they were.
abbrev pub ReadsBack : Type 0
ReadsBack =
    (ended : Bool) (ws : List Written) (table : List Row)
    → AllWritable ws → length (text ended ws) ≤ 60000 → length ws ≤ length table
    → (reading (length table) (text ended ws) ≡ Ok (length ws))
    × (table_after table (text ended ws) ≡ map (λ w. w.row) ws ++ drop (length ws) table)
