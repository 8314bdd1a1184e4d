-- What is asked of a text, and what reading it answers.
use Rattle.std.specs.Prelude.{ℕ, suc, Bool, true, false, cond, ◌&&◌, List, [], ◌∷◌, length, ℤ, pos, is_some, Some, None, Ok, Err, Option, Result, ◌==◌, nat_le, slice_index_or}
use Rattle.std.specs.Option.{unwrap_or}
use Rattle.sheet.specs.declared.row.Row.{Row}
use Rattle.sheet_text.specs.declared.refusal.Question.{Question}
use Rattle.sheet_text.specs.declared.refusal.Question.TheVariants.{Length, Quoting, FieldCount, Letter, Number, Room}
use Rattle.sheet_text.specs.declared.refusal.Refusal.{Refusal}
use Rattle.sheet_text.specs.Symbols.{symbols}
use Rattle.sheet_text.specs.Grammar.{Rows, end, wrong, ◌then◌, rows}
use Rattle.sheet_text.specs.Fields.{content, letter, number}

-- the number by which a question is known
abbrev pub number_of : Question → ℕ
number_of Length = 10
number_of Quoting = 11
number_of FieldCount = 12
number_of Letter = 13
number_of Number = 14
number_of Room = 16

-- has the row six fields?
abbrev pub six : List (List ℕ) → Bool
six fs = length fs == 6

-- is the row's first field a letter?
abbrev pub lettered : List (List ℕ) → Bool
lettered [] = false
lettered (f ∷ fs) = is_some (letter (content f))

-- is each of these fields a number?
abbrev pub all_numbers : List (List ℕ) → Bool
all_numbers [] = true
all_numbers (f ∷ fs) = is_some (number (content f)) && all_numbers fs

-- is each field of the row but the first a number?
abbrev pub numbered : List (List ℕ) → Bool
numbered [] = true
numbered (f ∷ fs) = all_numbers fs

-- one row further on
abbrev pub further : Option ℕ → Option ℕ
further None = None
further (Some k) = Some (suc k)

-- the row, counted from 1, whose quoting is wrong
unfoldable pub wrong_row : Rows → Option ℕ
wrong_row end = None
wrong_row wrong = Some 1
wrong_row (fs then rs) = further (wrong_row rs)

-- the first row, counted from 1, of which something does not hold
unfoldable pub first_no : (List (List ℕ) → Bool) → Rows → Option ℕ
first_no holds end = None
first_no holds wrong = None
first_no holds (fs then rs) = cond (holds fs) (further (first_no holds rs)) (Some 1)

-- how many rows there are
unfoldable pub count : Rows → ℕ
count end = 0
count wrong = 0
count (fs then rs) = suc (count rs)

-- refuses where a question has a row that says no, and else goes on
abbrev pub ask : Question → Option ℕ → Result ℕ Refusal → Result ℕ Refusal
ask q None next = next
ask q (Some k) next = Err (record { question = q; row = k })

-- 11 to 14, each over all rows before the next, and then how many rows there are
abbrev pub judged : Rows → Result ℕ Refusal
judged rs =
    ask Quoting (wrong_row rs)
    (ask FieldCount (first_no six rs)
    (ask Letter (first_no lettered rs)
    (ask Number (first_no numbered rs)
    (Ok (count rs)))))

-- 16: does a table of so many places hold them all? The first row too many is named.
abbrev pub housed : ℕ → Result ℕ Refusal → Result ℕ Refusal
housed room (Ok n) = cond (nat_le n room) (Ok n) (Err (record { question = Room; row = suc room }))
housed room (Err r) = Err r

-- what reading a text into a table of so many places answers: 10, then the others
abbrev pub reading : ℕ → List ℕ → Result ℕ Refusal
reading room text =
    cond (nat_le (length text) 60000) (housed room (judged (rows (symbols text)))) (Err (record { question = Length; row = 1 }))

-- the number that field k says, 0 where it says none
abbrev pub number_at : List (List ℕ) → ℕ → ℤ
number_at fs k = unwrap_or (number (content (slice_index_or fs k []))) (pos 0)

-- the row that a row of fields says
abbrev pub row_of : List (List ℕ) → Row
row_of fs = record { letter = unwrap_or (letter (content (slice_index_or fs 0 []))) 0; a = number_at fs 1; b = number_at fs 2; c = number_at fs 3; d = number_at fs 4; e = number_at fs 5 }

-- a table with the rows written over its first places
unfoldable pub filled : List Row → Rows → List Row
filled table end = table
filled table wrong = table
filled [] (fs then rs) = []
filled (t ∷ ts) (fs then rs) = row_of fs ∷ filled ts rs

-- one of two tables: the first where the reading is granted, else the second
abbrev pub if_granted : Result ℕ Refusal → List Row → List Row → List Row
if_granted (Ok n) new old = new
if_granted (Err r) new old = old

-- the table after reading: filled where the reading is granted, and as it was where it is refused
abbrev pub table_after : List Row → List ℕ → List Row
table_after table text = if_granted (reading (length table) text) (filled table (rows (symbols text))) table
