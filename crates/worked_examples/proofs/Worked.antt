-- The examples, by computation: every definition is opened.
use Rattle.std.proofs.Common.{refl}
use Rattle.sheet.specs.Asked.{first_no, asked}
use Rattle.sheet.specs.Sets.{has, set_below, within}
use Rattle.sheet.specs.Sheet.{natural, count, view}
use Rattle.shaping.specs.Types.{nests}
use Rattle.shaping.specs.Nodes.{parts_begin}
use Rattle.shaping.specs.Entries.{apart_from_earlier, covered}
use Rattle.typing.specs.Fitting.{row_fits}
use Rattle.admission.specs.Verdict.{rules_verdict}
use Rattle.admission.specs.Worked.{WorkedSheets}
use Rattle.evaluation.specs.Evaluation.{eval}
use Rattle.evaluation.specs.Runs.{run}
use Rattle.evaluator.specs.Examples.{NumberApplied}
use Rattle.station.specs.Calls.{answer, after}
use Rattle.station.specs.Histories.{events}
use Rattle.worked_examples.specs.Examples.{Copied, CopiedShort}

-- the four sheets
pub sheets : WorkedSheets
unfolding first_no asked has set_below within natural count view nests parts_begin apart_from_earlier covered row_fits rules_verdict
sheets = record {
  a_shaped = refl;
  a_admitted = refl;
  b_shaped = refl;
  b_refused = refl;
  c_shaped = refl;
  c_refused = refl;
  d_refused = refl;
}

-- the two runs
pub copied : Copied
unfolding natural count view eval run answer after events
copied x y = refl

pub copied_short : CopiedShort
unfolding natural count view eval run answer after events
copied_short x y = refl

-- the trial
pub number_applied : NumberApplied
unfolding natural count view eval run
number_applied = refl
