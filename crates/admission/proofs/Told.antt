-- The verdict on the nodes, from the first that breaks a rule.
use Rattle.std.proofs.Common.{◌≡◌, ℕ, Option, sym, ap, ◌∙◌}
use Rattle.sheet.specs.Asked.{first_no}
use Rattle.sheet.specs.Sheet.{Sheet}
use Rattle.admission.specs.Questions.{rules_kept}
use Rattle.admission.specs.Verdict.{told_rules, rules_verdict}

pub rules_told : (S : Sheet) (o : Option ℕ) (n : ℕ) → n ≡ S.nodes → o ≡ first_no (rules_kept S) 0 n → rules_verdict S ≡ told_rules S o
unfolding rules_verdict
rules_told S o n e h = ap (λ m. told_rules S (first_no (rules_kept S) 0 m)) (sym e) ∙ ap (told_rules S) (sym h)
