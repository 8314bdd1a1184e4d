use Rattle.std.proofs.Common.{◌≤◌, length, sym, ap, ◌∙◌, arith}
use Rattle.number.specs.Millimetre.{millimetre_kind}
use Rattle.sheet.specs.Asked.{passed}
use Rattle.sheet.specs.Sheet.{natural, count, view}
use Rattle.admission.specs.Worked.{worked, in_steps}
use Rattle.station.proofs.Line.{contract_line}
use Rattle.worked_examples.proofs.Worked.{sheets}
use Rattle.worked_examples.proofs.seat_0_does_not_sway_seat_2.Goals as goal

pub returns : goal.returns
unfolding natural count view
returns c area area' two two' calls calls' alike =
    let room : 2 ≤ length area = omega (arith, two) in
    (contract_line millimetre_kind 3 in_steps (worked 6 2) (ap passed sheets.a_shaped) (ap passed sheets.a_admitted)).0 2 (omega arith) area area' room (two ∙ sym two') calls calls' alike
