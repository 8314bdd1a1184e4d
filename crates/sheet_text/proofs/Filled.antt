-- Filling a table place by place.
use Rattle.std.proofs.Common.{◌≡◌, ℕ, ◌+◌, ◌<◌, ◌≤◌, List, [], ◌∷◌, ◌++◌, length, take, drop, set, Some, Ok, sym, refl, ap, ◌∙◌, ap₂, append_assoc, append-nil, arith}
use Rattle.std.proofs.lemmas.List.{drop_more, drop_all, take_all, take-append-drop, take_more_set, drop-set-lt}
use Rattle.sheet.specs.declared.row.Row.{Row}
use Rattle.sheet_text.specs.declared.line.Line.{Line}
use Rattle.sheet_text.specs.Grammar.{Rows, end, wrong, ◌then◌}
use Rattle.sheet_text.specs.Questions.{row_of, filled}
use Rattle.sheet_text.specs.Rows.{blank, gathered, row_in, next, after}
use Rattle.sheet_text.proofs.Gathered.{row_gathered}

-- one place more
pub fill_row : (table : List Row) (i : ℕ) (rs : Rows) (l : Line) → i < length table → Some (Ok l) ≡ next rs → take (i + 1) (set table i (row_in l)) ++ filled (drop (i + 1) (set table i (row_in l))) (after rs) ≡ take i table ++ filled (drop i table) rs
unfolding filled
fill_row table i end l h e = cc
fill_row table i wrong l h e = cc
fill_row table i (fs then rs) l h e =
    let g : l ≡ gathered blank fs = cc in
    let r : row_in l ≡ row_of fs = ap row_in g ∙ row_gathered fs in
    let more = filled (drop (i + 1) table) rs in
    ap₂ (λ t d. t ++ filled d rs) (take_more_set table i (row_in l) h) (drop-set-lt (i + 1) table i (row_in l) (omega arith))
    ∙ append_assoc (take i table) (row_in l ∷ []) more
    ∙ ap (λ x. take i table ++ x ∷ more) r
    ∙ sym (ap (λ d. take i table ++ filled d (fs then rs)) (drop_more table i (row_in l) h))

-- where no row comes next, the other places stay
filled_stop : (table : List Row) (rs : Rows) → ((l : Line) → next rs ≡ Some (Ok l) → ⊥) → filled table rs ≡ table
unfolding filled
filled_stop table end no_more = refl
filled_stop table wrong no_more = refl
filled_stop table (fs then rs) no_more = absurd (no_more (gathered blank fs) refl)

pub fill_stop : (table : List Row) (i : ℕ) (rs : Rows) → ((l : Line) → next rs ≡ Some (Ok l) → ⊥) → take i table ++ filled (drop i table) rs ≡ table
fill_stop table i rs no_more = ap (λ t. take i table ++ t) (filled_stop (drop i table) rs no_more) ∙ take-append-drop i table

-- no place takes no row
filled_none : (rs : Rows) → filled [] rs ≡ []
unfolding filled
filled_none end = refl
filled_none wrong = refl
filled_none (fs then rs) = refl

pub fill_all : (table : List Row) (i : ℕ) (rs : Rows) → length table ≤ i → take i table ++ filled (drop i table) rs ≡ table
fill_all table i rs h =
    ap₂ (λ t d. t ++ filled d rs) (take_all i table h) (drop_all i table h) ∙ ap (λ l. table ++ l) (filled_none rs) ∙ append-nil table
