-- What the reader makes of a row.
use Rattle.std.specs.Prelude.{◌≡◌, ℕ, ◌+◌, ◌-◌, ◌<◌, ◌≤◌, min, Bool, true, cond, ◌&&◌, List, [], ◌∷◌, length, drop, pos, is_some, Some, None, Ok, Err, Option, Result, ◌==◌, nat_le, slice_index_or, slice_set}
use Rattle.std.specs.Option.{unwrap_or}
use Rattle.sheet.specs.declared.row.Row.{Row}
use Rattle.sheet_text.specs.declared.line.Line.{Line}
use Rattle.sheet_text.specs.declared.read.Faults.{Faults}
use Rattle.sheet_text.specs.declared.refusal.Question.TheVariants.{FieldCount, Letter, Number}
use Rattle.sheet_text.specs.declared.refusal.Refusal.{Refusal}
use Rattle.sheet_text.specs.declared.reader.Reader.{Reader}
use Rattle.sheet_text.specs.declared.reader.Misquoted.{Misquoted}
use Rattle.sheet_text.specs.Symbols.{symbols}
use Rattle.sheet_text.specs.Grammar.{Rows, end, wrong, ◌then◌, field, rows}
use Rattle.sheet_text.specs.Fields.{letter, number}
use Rattle.sheet_text.specs.Questions.{ask}

-- a row of which no field has been read
abbrev pub blank : Line
blank = record { fields = 0; letter = None; numeric = true; values = pos 0 ∷ pos 0 ∷ pos 0 ∷ pos 0 ∷ pos 0 ∷ [] }

-- a row with one field more
abbrev pub taken : Line → List ℕ → Line
taken l f =
    cond (l.fields == 0)
    (record { fields = 1; letter = letter f; numeric = l.numeric; values = l.values })
    (record { fields = min l.fields 6 + 1; letter = l.letter; numeric = l.numeric && is_some (number f); values = cond (nat_le l.fields 5) (slice_set l.values (l.fields - 1) (unwrap_or (number f) (pos 0))) l.values })

-- a row with some fields more
abbrev pub gathered : Line → List (List ℕ) → Line
gathered l [] = l
gathered l (f ∷ fs) = gathered (taken l f) fs

-- the row that the fields say
abbrev pub row_in : Line → Row
row_in l = record { letter = unwrap_or l.letter 0; a = slice_index_or l.values 0 (pos 0); b = slice_index_or l.values 1 (pos 0); c = slice_index_or l.values 2 (pos 0); d = slice_index_or l.values 3 (pos 0); e = slice_index_or l.values 4 (pos 0) }

-- the rows that a reader has still to read
abbrev pub rows_from : Reader → Rows
rows_from r = rows (symbols (drop r.pos r.input.now))

-- what reading the next row gives, where some of its fields have been read
abbrev pub next_after : Line → Rows → Option (Result Line Misquoted)
next_after l end = None
next_after l wrong = Some (Err (record {}))
next_after l (fs then rs) = Some (Ok (gathered l fs))

-- what reading the next row gives
abbrev pub next : Rows → Option (Result Line Misquoted)
next rs = next_after blank rs

-- the rows after the next one
abbrev pub after : Rows → Rows
after end = end
after wrong = wrong
after (fs then rs) = rs

-- how many rows were read
abbrev pub rows_read : Option (Result Line Misquoted) → ℕ
rows_read None = 0
rows_read (Some (Err e)) = 0
rows_read (Some (Ok l)) = 1

-- what reading the fields of the row that begins at `start` comes to: the line, and the next row's place
abbrev pub RowRead : List ℕ → ℕ → Result (Line × ℕ) Misquoted → Type 0
RowRead text start (Err e) = next (field (symbols (drop start text))) ≡ Some (Err e)
RowRead text start (Ok p) =
    (start < p.1) × (p.1 ≤ length text)
    × (next (field (symbols (drop start text))) ≡ Some (Ok p.0))
    × (after (field (symbols (drop start text))) ≡ rows (symbols (drop p.1 text)))

-- the first row at fault: one that was noted before, else this one where something does not hold of it
abbrev pub noted : Option ℕ → Bool → ℕ → Option ℕ
noted (Some k) holds row = Some k
noted None holds row = cond holds None (Some row)

-- no row at fault
abbrev pub no_faults : Faults
no_faults = record { field_count = None; letter = None; number = None }

-- the first rows at fault, with one row more
abbrev pub faults_with : Faults → Line → ℕ → Faults
faults_with f l row = record { field_count = noted f.field_count (l.fields == 6) row; letter = noted f.letter (is_some l.letter) row; number = noted f.number l.numeric row }

-- the first question that a row was at fault in, else how many rows there are
abbrev pub faults_verdict : Faults → ℕ → Result ℕ Refusal
faults_verdict f n = ask FieldCount f.field_count (ask Letter f.letter (ask Number f.number (Ok n)))
