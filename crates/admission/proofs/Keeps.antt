-- An admitted sheet keeps the rules.
use Rattle.std.proofs.Common.{List}
use Rattle.std.proofs.lemmas.Bool.{and_parts, ltb-true}
use Rattle.sheet.specs.declared.row.Row.{Row}
use Rattle.sheet.specs.Sheet.{Sheet, view}
use Rattle.shaping.specs.Meaning.{IsShaped}
use Rattle.typing.specs.Meaning.{NamesSites}
use Rattle.typing.proofs.Exactly.{number_is}
use Rattle.typing.proofs.Nodes.{rules_exactly_lem}
use Rattle.admission.specs.Meaning.{Accepted, WellShaped, AdmittedKeepsRules, Keeps, SomePolicyAdmits}
use Rattle.admission.proofs.Yes.{accepted}
use Rattle.admission.proofs.Members.{member_below, label_flows}
use Rattle.admission.proofs.Shape.{type_set, node_has_type, site_content, well_shaped}

-- what the rules want to know of sites
names_sites : (S : Sheet) → WellShaped S → NamesSites S
names_sites S w = record {
  references = λ i s l f h. w.references (S.node i).ty s (w.typed i l) f h;
  fresh = λ i l e. (w.fresh i l e).1;
  channel = λ i l e. (w.channel i l e).1;
}

pub keeps : AdmittedKeepsRules
keeps n flows rs ok h =
    let w : WellShaped (view rs) = well_shaped rs ok in
    let a : Accepted n flows (view rs) = accepted n flows (view rs) h in
    record {
      shape = w;
      type_below = λ t k l m. member_below n _ k (and_parts _ _ (a.types t l)).0 m;
      effect_below = λ t k l m. member_below n _ k (and_parts _ _ (a.types t l)).1 m;
      control_below = λ i k l m. member_below n _ k (a.nodes i l) m;
      site_below = λ s l. ltb-true _ _ (a.sites s l);
      entry_below = λ e l. ltb-true _ _ (a.entries e l);
      rules = λ i l.
          let r = rules_exactly_lem (view rs) (names_sites (view rs) w) i l in
          (r.0.0 (a.type_rule i l), r.1.0 (a.control_rule i l));
      owned = a.owners;
      held = λ s k l m. label_flows flows _ _ k (type_set rs ok _ (site_content rs ok s l)) (a.contents s l) m;
      number = λ e l. (number_is _).0 (and_parts _ _ (a.roots e l)).0;
      control = λ e l. (and_parts _ _ (a.roots e l)).1;
      result = λ e k l m. label_flows flows _ _ k (type_set rs ok _ (node_has_type rs ok _ (w.forest.rooted e l))) (a.results e l) m;
    }

-- an admitted sheet keeps the rules under the policy that admitted it
pub kept : (rs : List Row) → IsShaped rs → SomePolicyAdmits (view rs) → Keeps (view rs)
kept rs ok p = (p.0, p.1, p.2, keeps p.0 p.1 rs ok p.3)
