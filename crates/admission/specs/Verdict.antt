-- The verdict of admission: the first question that is answered no, and the row that it names.
use Rattle.std.specs.Prelude.{ℕ, ◌+◌, Bool, cond, Some, None, Ok, Option}
use Rattle.sheet.specs.declared.section.Section.{Section}
use Rattle.sheet.specs.declared.section.Section.TheVariants as section
use Rattle.sheet.specs.Asked.{first_no, Verdict, refuse, asked, ◌then◌}
use Rattle.sheet.specs.Sheet.{Sheet, first_row, rows_in}
use Rattle.typing.specs.Tests.{typed}
use Rattle.admission.specs.declared.question.Question.{Question}
use Rattle.admission.specs.declared.question.Question.TheVariants.{Labels, SiteOwner, SiteFlow, TypeRule, ControlRule, EntryRoot, EntryFlow}
use Rattle.admission.specs.Questions.{type_labels, site_label, node_labels, entry_label, site_owned, site_flows, rules_kept, entry_rooted, entry_flows}

-- the number of each question
abbrev pub number_of : Question → ℕ
number_of Labels = 31
number_of SiteOwner = 32
number_of SiteFlow = 33
number_of TypeRule = 34
number_of ControlRule = 35
number_of EntryRoot = 36
number_of EntryFlow = 37

-- question q, whose test is p, asked of each row of a section
abbrev pub over : Sheet → Question → Section → (ℕ → Bool) → Verdict Question
over S q s p = asked q (first_row S s) p (rows_in S s)

-- 31, of every row in rising order
abbrev pub labels_verdict : ℕ → Sheet → Verdict Question
labels_verdict n S =
    over S Labels section.Types (type_labels n S)
    then over S Labels section.Sites (site_label n S)
    then over S Labels section.Nodes (node_labels n S)
    then over S Labels section.Entries (entry_label n S)

-- the rule that a node breaks, by whether it keeps its type rule, which is asked first
abbrev pub broken : Bool → Question
broken t = cond t ControlRule TypeRule

-- the verdict on the nodes, from the first that breaks a rule
abbrev pub told_rules : Sheet → Option ℕ → Verdict Question
told_rules S None = Ok tt
told_rules S (Some i) = refuse (broken (typed S i)) (first_row S section.Nodes + i)

-- 34 and then 35 of a node, before the next node
unfoldable pub rules_verdict : Sheet → Verdict Question
rules_verdict S = told_rules S (first_no (rules_kept S) 0 S.nodes)

-- 32 and then 33, of the sites
abbrev pub sites_verdict : (ℕ → ℕ → Bool) → Sheet → Verdict Question
sites_verdict flows S = over S SiteOwner section.Sites (site_owned S) then over S SiteFlow section.Sites (site_flows flows S)

-- 36 and then 37, of the entries
abbrev pub entries_verdict : (ℕ → ℕ → Bool) → Sheet → Verdict Question
entries_verdict flows S = over S EntryRoot section.Entries (entry_rooted S) then over S EntryFlow section.Entries (entry_flows flows S)

-- the verdict on a shaped sheet under a policy of n labels
abbrev pub admission_verdict : ℕ → (ℕ → ℕ → Bool) → Sheet → Verdict Question
admission_verdict n flows S = labels_verdict n S then sites_verdict flows S then rules_verdict S then entries_verdict flows S
