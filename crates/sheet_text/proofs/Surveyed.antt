-- One pass over the rows asks what the questions ask one after the other.
use Rattle.std.proofs.Common.{◌≡◌, ℕ, suc, ◌+◌, Bool, true, false, cond, List, Some, None, Ok, Err, Option, Result, sym, refl, ap, ◌∙◌, add-zero, zero-add, arith}
use Rattle.std.specs.Option.{option_or}
use Rattle.sheet_text.specs.declared.line.Line.{Line}
use Rattle.sheet_text.specs.declared.read.Faults.{Faults}
use Rattle.sheet_text.specs.declared.reader.Misquoted.{Misquoted}
use Rattle.sheet_text.specs.declared.refusal.Question.TheVariants.{Quoting, FieldCount, Letter, Number}
use Rattle.sheet_text.specs.declared.refusal.Refusal.{Refusal}
use Rattle.sheet_text.specs.Grammar.{Rows, end, wrong, ◌then◌}
use Rattle.sheet_text.specs.Questions.{six, lettered, numbered, further, wrong_row, first_no, count, ask, judged}
use Rattle.sheet_text.specs.Rows.{blank, gathered, next, after, noted, no_faults, faults_with, faults_verdict}
use Rattle.sheet_text.proofs.Gathered.{six_gathered, lettered_gathered, numbered_gathered}

-- a row counted on from n
abbrev on_from : ℕ → Option ℕ → Option ℕ
on_from n None = None
on_from n (Some k) = Some (n + k)

-- the verdict where n rows have been asked, with these faults, and these rows are still to come
abbrev pub judged_on : Faults → ℕ → Rows → Result ℕ Refusal
judged_on f n rs =
    ask Quoting (on_from n (wrong_row rs))
    (ask FieldCount (option_or f.field_count (on_from n (first_no six rs)))
    (ask Letter (option_or f.letter (on_from n (first_no lettered rs)))
    (ask Number (option_or f.number (on_from n (first_no numbered rs)))
    (Ok (n + count rs)))))

from_zero : (o : Option ℕ) → on_from 0 o ≡ o
from_zero None = refl
from_zero (Some k) = ap Some (zero-add k)

-- at the start
pub judged_start : (rs : Rows) → judged_on no_faults 0 rs ≡ judged rs
judged_start rs = simp (from_zero, zero-add)

on_further : (n : ℕ) (o : Option ℕ) → on_from n (further o) ≡ on_from (n + 1) o
on_further n None = refl
on_further n (Some k) = ap Some (omega arith)

-- one question about one row more
noted_on : (first : Option ℕ) (holds : Bool) (n : ℕ) (o : Option ℕ) → option_or first (on_from n (cond holds (further o) (Some 1))) ≡ option_or (noted first holds (n + 1)) (on_from (n + 1) o)
noted_on (Some k) holds n o = refl
noted_on None true n o = on_further n o
noted_on None false n o = refl

-- one row more
judged_row : (f : Faults) (n : ℕ) (fs : List (List ℕ)) (rs : Rows) → judged_on f n (fs then rs) ≡ judged_on (faults_with f (gathered blank fs) (n + 1)) (n + 1) rs
unfolding wrong_row first_no count
judged_row f n fs rs =
    let l = gathered blank fs in
    let c : n + suc (count rs) ≡ n + 1 + count rs = omega arith in
    let a = noted_on f.field_count (six fs) n (first_no six rs) ∙ ap (λ b. option_or (noted f.field_count b (n + 1)) (on_from (n + 1) (first_no six rs))) (sym (six_gathered fs)) in
    let b = noted_on f.letter (lettered fs) n (first_no lettered rs) ∙ ap (λ b. option_or (noted f.letter b (n + 1)) (on_from (n + 1) (first_no lettered rs))) (sym (lettered_gathered fs)) in
    let d = noted_on f.number (numbered fs) n (first_no numbered rs) ∙ ap (λ b. option_or (noted f.number b (n + 1)) (on_from (n + 1) (first_no numbered rs))) (sym (numbered_gathered fs)) in
    λ i. ask Quoting (on_further n (wrong_row rs) i) (ask FieldCount (a i) (ask Letter (b i) (ask Number (d i) (Ok (c i)))))

-- the reader's next row is asked
pub judged_next : (f : Faults) (n : ℕ) (rs : Rows) (l : Line) → Some (Ok l) ≡ next rs → judged_on f n rs ≡ judged_on (faults_with f l (n + 1)) (n + 1) (after rs)
judged_next f n end l e = cc
judged_next f n wrong l e = cc
judged_next f n (fs then rs) l e = let g : l ≡ gathered blank fs = cc in rw g (judged_row f n fs rs)

-- a row less is to come
pub count_next : (rs : Rows) (l : Line) → Some (Ok l) ≡ next rs → count rs ≡ suc (count (after rs))
unfolding count
count_next end l e = cc
count_next wrong l e = cc
count_next (fs then rs) l e = refl

or_else_none : (o : Option ℕ) → option_or o None ≡ o
or_else_none None = refl
or_else_none (Some k) = refl

-- no row is left
pub judged_end : (f : Faults) (n : ℕ) (rs : Rows) → None ≡ next rs → judged_on f n rs ≡ faults_verdict f n
unfolding wrong_row first_no count
judged_end f n end e = simp (or_else_none, add-zero)
judged_end f n wrong e = cc
judged_end f n (fs then rs) e = cc

-- the next row is misquoted
pub judged_wrong : (f : Faults) (n : ℕ) (rs : Rows) (m : Misquoted) → Some (Err m) ≡ next rs → judged_on f n rs ≡ Err (record { question = Quoting; row = n + 1 })
unfolding wrong_row
judged_wrong f n end m e = cc
judged_wrong f n wrong m e = refl
judged_wrong f n (fs then rs) m e = cc
