-- By computation: every definition is opened.
use Rattle.std.proofs.Common.{refl}
use Rattle.sheet.specs.Asked.{first_no, asked}
use Rattle.sheet.specs.Sets.{has, set_below, within}
use Rattle.sheet.specs.Sheet.{natural, count, view}
use Rattle.shaping.specs.Types.{nests}
use Rattle.shaping.specs.Nodes.{parts_begin}
use Rattle.shaping.specs.Entries.{apart_from_earlier, covered}
use Rattle.typing.specs.Fitting.{row_fits}
use Rattle.admission.specs.Verdict.{rules_verdict}
use Rattle.admission.proofs.guarantees.worked_sheets.Goals as goal

pub returns : goal.returns
unfolding first_no asked has set_below within natural count view nests parts_begin apart_from_earlier covered row_fits rules_verdict
returns c = record {
  a_shaped = refl;
  a_admitted = refl;
  b_shaped = refl;
  b_refused = refl;
  c_shaped = refl;
  c_refused = refl;
  d_refused = refl;
}
