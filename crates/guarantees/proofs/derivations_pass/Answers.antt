use Rattle.sheet.specs.Sheet.{Sheet, view}
use Rattle.typing.specs.Meaning.{NamesSites}
use Rattle.typing.proofs.Nodes.{rules_exactly_lem}
use Rattle.admission.specs.Meaning.{WellShaped}
use Rattle.admission.proofs.Shape.{well_shaped}
use Rattle.guarantees.proofs.Derive.{derived_keeps}
use Rattle.guarantees.proofs.derivations_pass.Goals as goal

-- what the tests of the rules ask of sites
names_sites : (S : Sheet) → WellShaped S → NamesSites S
names_sites S w = record {
  references = λ i s l f h. w.references (S.node i).ty s (w.typed i l) f h;
  fresh = λ i l e. (w.fresh i l e).1;
  channel = λ i l e. (w.channel i l e).1;
}

pub returns : goal.returns
returns c rs h d i l =
    let w = well_shaped rs h in
    let k = derived_keeps (view rs) w.nesting w.forest d i l in
    let r = rules_exactly_lem (view rs) (names_sites (view rs) w) i l in
    (r.0.1 k.0, r.1.1 k.1)
