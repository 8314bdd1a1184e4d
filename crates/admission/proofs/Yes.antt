-- The verdict is yes exactly when each question holds of each row.
use Rattle.std.proofs.Common.{◌≡◌, ℕ, Bool, true, Some, None, Option, sym, refl, ◌∙◌}
use Rattle.std.proofs.lemmas.Bool.{and_parts, and_from}
use Rattle.sheet.specs.declared.section.Section.TheVariants as section
use Rattle.sheet.specs.Asked.{none, first_no, Verdict, ◌then◌, passed}
use Rattle.sheet.specs.Sheet.{Sheet}
use Rattle.sheet.proofs.Asking.{every_means, every_from}
use Rattle.sheet.proofs.Verdicts.{then_parts, then_from, each_of, each_from}
use Rattle.sheet.specs.Asked.{Each}
use Rattle.typing.specs.Tests.{typed, controlled}
use Rattle.admission.specs.declared.question.Question.{Question}
use Rattle.admission.specs.declared.question.Question.TheVariants.{Labels, SiteOwner, SiteFlow, EntryRoot, EntryFlow}
use Rattle.admission.specs.Questions.{type_labels, site_label, node_labels, entry_label, site_owned, site_flows, rules_kept, entry_rooted, entry_flows}
use Rattle.admission.specs.Verdict.{over, labels_verdict, sites_verdict, told_rules, rules_verdict, entries_verdict}
use Rattle.admission.specs.Meaning.{IsAdmitted, Accepted, AdmittedExactly}

-- the nodes pass exactly when none breaks a rule
rules_are : (S : Sheet) (o : Option ℕ) → passed (told_rules S o) ≡ none o
rules_are S None = refl
rules_are S (Some i) = refl

rules_each : (S : Sheet) → passed (rules_verdict S) ≡ true → Each S.nodes (rules_kept S)
unfolding rules_verdict
rules_each S h = every_means (rules_kept S) S.nodes (sym (rules_are S (first_no (rules_kept S) 0 S.nodes)) ∙ h)

rules_from : (S : Sheet) → Each S.nodes (rules_kept S) → passed (rules_verdict S) ≡ true
unfolding rules_verdict
rules_from S h = rules_are S (first_no (rules_kept S) 0 S.nodes) ∙ every_from (rules_kept S) S.nodes h

module _ (n : ℕ) (flows : ℕ → ℕ → Bool) (S : Sheet) where
  -- the verdicts of the questions, in order; 31 is asked of each section
  abbrev v31_types : Verdict Question
  v31_types = over S Labels section.Types (type_labels n S)

  abbrev v31_sites : Verdict Question
  v31_sites = over S Labels section.Sites (site_label n S)

  abbrev v31_nodes : Verdict Question
  v31_nodes = over S Labels section.Nodes (node_labels n S)

  abbrev v31_entries : Verdict Question
  v31_entries = over S Labels section.Entries (entry_label n S)

  abbrev v32 : Verdict Question
  v32 = over S SiteOwner section.Sites (site_owned S)

  abbrev v33 : Verdict Question
  v33 = over S SiteFlow section.Sites (site_flows flows S)

  abbrev v36 : Verdict Question
  v36 = over S EntryRoot section.Entries (entry_rooted S)

  abbrev v37 : Verdict Question
  v37 = over S EntryFlow section.Entries (entry_flows flows S)

  -- from the verdict to each row, and back
  pub accepted : IsAdmitted n flows S → Accepted n flows S
  accepted h =
      let p = then_parts (labels_verdict n S) (sites_verdict flows S then (rules_verdict S then entries_verdict flows S)) h in
      let p0 = then_parts v31_types (v31_sites then (v31_nodes then v31_entries)) p.0 in
      let p1 = then_parts v31_sites (v31_nodes then v31_entries) p0.1 in
      let p2 = then_parts v31_nodes v31_entries p1.1 in
      let q = then_parts (sites_verdict flows S) (rules_verdict S then entries_verdict flows S) p.1 in
      let q0 = then_parts v32 v33 q.0 in
      let r = then_parts (rules_verdict S) (entries_verdict flows S) q.1 in
      let r0 = then_parts v36 v37 r.1 in
      record {
        types = each_of _ _ _ _ p0.0;
        sites = each_of _ _ _ _ p1.0;
        nodes = each_of _ _ _ _ p2.0;
        entries = each_of _ _ _ _ p2.1;
        owners = each_of _ _ _ _ q0.0;
        contents = each_of _ _ _ _ q0.1;
        type_rule = λ i l. (and_parts (typed S i) (controlled S i) (rules_each S r.0 i l)).0;
        control_rule = λ i l. (and_parts (typed S i) (controlled S i) (rules_each S r.0 i l)).1;
        roots = each_of _ _ _ _ r0.0;
        results = each_of _ _ _ _ r0.1;
      }

  pub admitted : Accepted n flows S → IsAdmitted n flows S
  admitted w =
      then_from (labels_verdict n S) _
      (then_from v31_types _ (each_from _ _ _ _ w.types)
      (then_from v31_sites _ (each_from _ _ _ _ w.sites)
      (then_from v31_nodes v31_entries (each_from _ _ _ _ w.nodes) (each_from _ _ _ _ w.entries))))
      (then_from (sites_verdict flows S) _
      (then_from v32 v33 (each_from _ _ _ _ w.owners) (each_from _ _ _ _ w.contents))
      (then_from (rules_verdict S) (entries_verdict flows S)
      (rules_from S (λ i l. and_from (typed S i) (controlled S i) (w.type_rule i l) (w.control_rule i l)))
      (then_from v36 v37 (each_from _ _ _ _ w.roots) (each_from _ _ _ _ w.results))))

pub exactly : AdmittedExactly
exactly n flows S = (accepted n flows S, admitted n flows S)
