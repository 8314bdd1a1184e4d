-- The bytes of a text, seen as symbols.
use Rattle.std.specs.Prelude.{ℕ, Bool, true, false, cond, ◌&&◌, List, [], ◌∷◌, ◌==◌}

-- A quotation mark, a comma, the end of a line (CR and LF together), or any other byte. A CR that
-- no LF follows, and an LF that follows no CR, are bytes like any other.
pub data Symbol : Type 0 where
  quote comma newline : Symbol
  byte : ℕ → Symbol

-- what one byte stands for
abbrev pub symbol : ℕ → Symbol
symbol c = cond (c == 34) quote (cond (c == 44) comma (byte c))

-- CR and LF
abbrev pub line_end : ℕ → ℕ → Bool
line_end c d = c == 13 && d == 10

-- the symbols of a text
unfoldable pub symbols : List ℕ → List Symbol
symbols [] = []
symbols (c ∷ []) = symbol c ∷ []
symbols (c ∷ d ∷ cs) = elim (line_end c d) [ true ↦ newline ∷ symbols cs | false ↦ symbol c ∷ symbols (d ∷ cs) ]
