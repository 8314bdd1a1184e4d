use Rattle.std.proofs.Common.{refl}
use Rattle.sheet.specs.Asked.{first_no, asked}
use Rattle.sheet.specs.Sheet.{natural, count, view}
use Rattle.sheet.specs.Sets.{set_below}
use Rattle.shaping.specs.Types.{nests}
use Rattle.shaping.specs.Nodes.{parts_begin}
use Rattle.shaping.specs.Entries.{apart_from_earlier, covered}
use Rattle.sheet_tests.proofs.worked_sheets.Goals as goal

pub returns : goal.returns
unfolding first_no asked natural count view set_below nests parts_begin apart_from_earlier covered
returns c = record { a = refl; eight = refl; nine = refl; none = refl }
