-- What the reader's own steps come to.
use Rattle.std.specs.Prelude.{◌≡◌, ℕ, ◌<◌, ◌≤◌, Bool, true, false, cond, ◌&&◌, ◌||◌, List, [], ◌∷◌, length, drop, Some, None, Option, MatchOption, ◌==◌}
use Rattle.sheet_text.specs.declared.field.Field.{Field}
use Rattle.sheet_text.specs.declared.field.Field.TheVariants.{Bare, Quoted}
use Rattle.sheet_text.specs.declared.scan.Mark.{Mark}
use Rattle.sheet_text.specs.declared.scan.Mark.TheVariants.{Comma, RowEnd}
use Rattle.sheet_text.specs.declared.scan.Step.{Step}
use Rattle.sheet_text.specs.Symbols.{Symbol, symbols}
use Rattle.sheet_text.specs.Grammar.{Rows, wrong, ◌then◌, front, field, rows}

-- the bytes begin with this one
abbrev pub begins : ℕ → List ℕ → Bool
begins b [] = false
begins b (c ∷ cs) = c == b

-- a bare field ends before these bytes
abbrev pub ends_bare : List ℕ → Bool
ends_bare [] = true
ends_bare (c ∷ cs) = c == 44 || (c == 34 || (c == 13 && begins 10 cs))

-- what ends a field, and how many bytes it is
abbrev pub mark : List ℕ → Option (Mark × ℕ)
mark [] = Some (RowEnd, 0)
mark (c ∷ cs) = cond (c == 44) (Some (Comma, 1)) (cond (c == 13 && begins 10 cs) (Some (RowEnd, 2)) None)

-- the row goes on after the mark
abbrev pub goes_on : Mark → Bool
goes_on Comma = true
goes_on RowEnd = false

-- the bytes of a field
abbrev pub raw : Field → List ℕ
raw (Bare b at) = b.now
raw (Quoted b at) = b.now

-- where a field begins in the input
abbrev pub place : Field → ℕ
place (Bare b at) = at
place (Quoted b at) = at

-- the rows from a field on, by what ends it and by the symbols after that
abbrev pub continued : List ℕ → Mark → List Symbol → Rows
continued f Comma ss = front f (field ss)
continued f RowEnd ss = (f ∷ []) then rows ss

-- a step over a field that began at the place `at`, where the grammar makes `meaning` of the text
pub record Stepped (text : List ℕ) (meaning : Rows) (at : ℕ) (s : Step) : Type 0 where
  pub within : s.size ≤ length text
  pub moves : 0 < length text → 0 < s.size
  pub falls : goes_on s.mark ≡ true → 0 < s.size
  pub located : place s.field ≡ at
  pub read : meaning ≡ continued (raw s.field) s.mark (symbols (drop s.size text))

-- such a step, or none where the quoting is wrong
abbrev pub Scanned : List ℕ → Rows → ℕ → Option Step → Type 0
Scanned text meaning at r = MatchOption r (meaning ≡ wrong) (Stepped text meaning at)
