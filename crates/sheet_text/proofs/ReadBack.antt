-- What was written answers every question, and fills the table with its rows.
use Rattle.std.proofs.Common.{◌≡◌, ℕ, suc, ◌≤◌, Bool, true, cond, leb, List, [], ◌∷◌, ◌++◌, map, length, drop, ℤ, Some, None, Ok, refl, ap, ◌∙◌, ap₂, arith}
use Rattle.std.proofs.lemmas.Bool.Decides.{nat_tests}
use Rattle.std.specs.Fmt.{signed_decimal}
use Rattle.sheet.specs.declared.row.Row.{Row}
use Rattle.sheet_text.specs.Symbols.{symbols}
use Rattle.sheet_text.specs.Grammar.{rows}
use Rattle.sheet_text.specs.Fields.{content, number}
use Rattle.sheet_text.specs.Questions.{six, lettered, numbered, further, wrong_row, first_no, count, judged, housed, reading, row_of, filled, if_granted}
use Rattle.sheet_text.specs.Writing.{Written, text, InRange, Writable, AllWritable, ReadsBack}
use Rattle.sheet_text.proofs.Contents.{number_content}
use Rattle.sheet_text.proofs.Decimals.{number_signed}
use Rattle.sheet_text.proofs.Written.{out, bytes, rows_out, rows_written}

-- a number in range is read from its field
field_number : (z : ℤ) → InRange z → number (content (signed_decimal z)) ≡ Some z
field_number z h = number_content (signed_decimal z) ∙ number_signed z h

-- the numbers of a row are numbers
row_numbered : (w : Written) → Writable w.row → numbered (bytes (out w)) ≡ true
row_numbered w g =
    simp (field_number w.row.a g.1, field_number w.row.b g.2, field_number w.row.c g.3, field_number w.row.d g.4, field_number w.row.e g.5)

-- its letter is a letter
row_lettered : (w : Written) → Writable w.row → lettered (bytes (out w)) ≡ true
row_lettered w g = rw g.0 refl

-- and its fields say the row
row_said : (w : Written) → Writable w.row → row_of (bytes (out w)) ≡ w.row
row_said w g =
    simp (g.0, field_number w.row.a g.1, field_number w.row.b g.2, field_number w.row.c g.3, field_number w.row.d g.4, field_number w.row.e g.5)

-- no row is misquoted
none_wrong : (ws : List Written) → wrong_row (rows_out ws) ≡ None
unfolding wrong_row rows_out
none_wrong [] = refl
none_wrong (w ∷ ws) = ap further (none_wrong ws)

-- what holds of each row written has no row that says no
none_no : (holds : List (List ℕ) → Bool) → ((w : Written) → Writable w.row → holds (bytes (out w)) ≡ true) → (ws : List Written) → AllWritable ws → first_no holds (rows_out ws) ≡ None
unfolding first_no rows_out
none_no holds each [] g = refl
none_no holds each (w ∷ ws) g =
    ap (λ b. cond b (further (first_no holds (rows_out ws))) (Some 1)) (each w g.0) ∙ ap further (none_no holds each ws g.1)

count_out : (ws : List Written) → count (rows_out ws) ≡ length ws
unfolding count rows_out
count_out [] = refl
count_out (w ∷ ws) = ap suc (count_out ws)

-- the verdict
judged_out : (ws : List Written) → AllWritable ws → judged (rows_out ws) ≡ Ok (length ws)
judged_out ws g =
    simp (none_wrong ws, none_no six (λ w h. refl) ws g, none_no lettered row_lettered ws g, none_no numbered row_numbered ws g, count_out ws)

-- the table
filled_out : (table : List Row) (ws : List Written) → AllWritable ws → length ws ≤ length table → filled table (rows_out ws) ≡ map (λ w. w.row) ws ++ drop (length ws) table
unfolding filled rows_out
filled_out table [] g h = refl
filled_out [] (w ∷ ws) g h = absurd (omega arith)
filled_out (t ∷ ts) (w ∷ ws) g h = ap₂ (λ r rs. r ∷ rs) (row_said w g.0) (filled_out ts ws g.1 (omega arith))

pub reads_back : ReadsBack
reads_back ended ws table g short room =
    let t = text ended ws in
    let few : leb (length t) 60000 ≡ true = grind (arith, nat_tests) in
    let fits : leb (length ws) (length table) ≡ true = grind (arith, nat_tests) in
    let read = rows_written ended ws g in
    let granted : reading (length table) t ≡ Ok (length ws) =
    rw few (ap (λ rs. housed (length table) (judged rs)) read ∙ ap (housed (length table)) (judged_out ws g) ∙ rw fits refl) in (
      granted,
      ap (λ r. if_granted r (filled table (rows (symbols t))) table) granted ∙ ap (filled table) read ∙ filled_out table ws g room,
    )
