-- The contract line, of every sheet that is shaped and admitted under a relation, and what it comes to for one sheet.
use Rattle.std.proofs.Common.{List}
use mathlib.Core.Logic.{∥∥₁_elim}
use Rattle.number.specs.NumberKind.{NumberKind}
use Rattle.sheet.specs.declared.row.Row.{Row}
use Rattle.sheet.specs.Sheet.{view}
use Rattle.shaping.specs.Meaning.{IsShaped}
use Rattle.admission.specs.Meaning.{SomePolicyAdmits}
use Rattle.admission.proofs.Keeps.{keeps}
use Rattle.guarantees.specs.Promises.{Soundness}
use Rattle.guarantees.proofs.Admitted.{admitted_typed}
use Rattle.guarantees.proofs.Promised.{soundness, confinement, two_runs}
use Rattle.station.specs.Histories.{ContractLine}
use Rattle.station.specs.Promise.{Promise}
use Rattle.station.proofs.Sure.{assured}
use Rattle.station.proofs.Told.{noninterference}

-- no seat is swayed, and no run is stuck
pub contract_line : (M : NumberKind) → ContractLine M
contract_line M n flows rs shaped admitted =
    let t = admitted_typed n flows rs shaped admitted in (
      noninterference M (view rs) n flows (assured M (view rs) flows n (keeps n flows rs shaped admitted) (soundness M (view rs) t) (confinement M (view rs) t flows) (two_runs M (view rs) t flows)),
      soundness M (view rs) t,
    )

module _ (M : NumberKind) (rs : List Row) (shaped : IsShaped rs) where
  -- some relation admits the sheet, and so its runs are sound: a contradiction needs no name of the relation
  sound : ∥ SomePolicyAdmits (view rs) ∥₁ → Soundness M (view rs)
  sound some fuel e ns below long =
      record {
        not_stuck = λ stuck. ∥∥₁_elim some (λ x y. absurd x) (λ p. ((contract_line M p.0 p.1 rs shaped p.3).1 fuel e ns below long).not_stuck stuck);
        a_number = λ none. ∥∥₁_elim some (λ x y. absurd x) (λ p. ((contract_line M p.0 p.1 rs shaped p.3).1 fuel e ns below long).a_number none);
      }

  -- what a station over the sheet promises
  pub promised : ∥ SomePolicyAdmits (view rs) ∥₁ → Promise M (view rs)
  promised some = record { unswayed = λ n flows admitted. (contract_line M n flows rs shaped admitted).0; sound = sound some }
