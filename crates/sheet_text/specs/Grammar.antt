-- The grammar of a text: rows of fields, by recursion on its symbols.
use Rattle.std.specs.Prelude.{ℕ, List, [], ◌∷◌, ◌++◌}
use Rattle.sheet_text.specs.Symbols.{Symbol, quote, comma, newline, byte}

infixr 5 ◌then◌
-- A text's rows, each a list of fields, up to the text's end or up to the first row whose quoting
-- is wrong; of what follows such a row nothing is told. A field is given by its bytes, without
-- the quotation marks around it and with doubled ones inside it as they stand.
pub data Rows : Type 0 where
  end wrong : Rows
  ◌then◌ : List (List ℕ) → Rows → Rows

-- the rows with a field put before the first row's
abbrev pub front : List ℕ → Rows → Rows
front f end = end
front f wrong = wrong
front f (fs then rs) = (f ∷ fs) then rs

-- the rows where a row would begin: none where nothing follows
abbrev pub unless_done : List Symbol → Rows → Rows
unless_done [] rs = end
unless_done (s ∷ ss) rs = rs

unfoldable mutual
  -- where a field begins: a quotation mark opens a quoted field, anything else is a bare one
  pub field : List Symbol → Rows
  field [] = ([] ∷ []) then end
  field (quote ∷ ss) = quoted ss []
  field (comma ∷ ss) = front [] (field ss)
  field (newline ∷ ss) = ([] ∷ []) then unless_done ss (field ss)
  field (byte c ∷ ss) = bare ss (c ∷ [])

  -- inside a bare field with these bytes so far: no quotation mark may stand in it
  pub bare : List Symbol → List ℕ → Rows
  bare [] f = (f ∷ []) then end
  bare (quote ∷ ss) f = wrong
  bare (comma ∷ ss) f = front f (field ss)
  bare (newline ∷ ss) f = (f ∷ []) then unless_done ss (field ss)
  bare (byte c ∷ ss) f = bare ss (f ++ c ∷ [])

  -- between quotation marks: anything goes, and one that stays open is wrong
  pub quoted : List Symbol → List ℕ → Rows
  quoted [] f = wrong
  quoted (quote ∷ ss) f = closed ss f
  quoted (comma ∷ ss) f = quoted ss (f ++ 44 ∷ [])
  quoted (newline ∷ ss) f = quoted ss (f ++ 13 ∷ 10 ∷ [])
  quoted (byte c ∷ ss) f = quoted ss (f ++ c ∷ [])

  -- after a quotation mark inside a quoted field: a second one goes on with the field, else the
  -- field is over, and a comma, a line's end or the text's end has to follow
  pub closed : List Symbol → List ℕ → Rows
  closed [] f = (f ∷ []) then end
  closed (quote ∷ ss) f = quoted ss (f ++ 34 ∷ 34 ∷ [])
  closed (comma ∷ ss) f = front f (field ss)
  closed (newline ∷ ss) f = (f ∷ []) then unless_done ss (field ss)
  closed (byte c ∷ ss) f = wrong

-- the rows of a text, from where a row would begin
abbrev pub rows : List Symbol → Rows
rows ss = unless_done ss (field ss)
