-- How a row's fields follow the grammar.
use Rattle.std.proofs.Common.{◌≡◌, ℕ, ◌<◌, ◌≤◌, Bool, true, false, ◌&&◌, eqb, List, [], ◌∷◌, length, drop, Some, Err, refl, arith, length-drop}
use Rattle.std.proofs.lemmas.List.{drop_all}
use Rattle.sheet_text.specs.declared.line.Line.{Line}
use Rattle.sheet_text.specs.declared.reader.Misquoted.{Misquoted}
use Rattle.sheet_text.specs.Symbols.{symbols}
use Rattle.sheet_text.specs.Grammar.{Rows, end, wrong, ◌then◌, field, rows}
use Rattle.sheet_text.specs.Lines.{begins}
use Rattle.sheet_text.specs.Rows.{next_after}
use Rattle.sheet_text.proofs.Scanning.{symbols_plain, symbols_line_end}

-- rows whose first is misquoted are told no further
pub misquoted : (l : Line) (rs : Rows) (m : Misquoted) → next_after l rs ≡ Some (Err m) → rs ≡ wrong
misquoted l end m e = cc
misquoted l wrong m e = refl
misquoted l (fs then rs) m e = cc

-- where bytes follow, a row begins with a field
pub rows_some : (cs : List ℕ) → 0 < length cs → rows (symbols cs) ≡ field (symbols cs)
rows_some [] h = absurd (omega arith)
rows_some (c ∷ cs) h = go (eqb c 13 && begins 10 cs) refl
  where
    go : (l : Bool) → (eqb c 13 && begins 10 cs) ≡ l → rows (symbols (c ∷ cs)) ≡ field (symbols (c ∷ cs))
    go false l = rw (symbols_plain c cs l) refl
    go true l = rw (symbols_line_end c cs l) refl

-- so it does where a place is within the text
pub rows_at : (xs : List ℕ) (n : ℕ) → n < length xs → rows (symbols (drop n xs)) ≡ field (symbols (drop n xs))
rows_at xs n h = rows_some (drop n xs) (omega (arith, length-drop n xs))

-- where nothing follows, there is no row
pub rows_none : (xs : List ℕ) (n : ℕ) → length xs ≤ n → rows (symbols (drop n xs)) ≡ end
unfolding symbols
rows_none xs n h = rw (drop_all n xs h) refl
