-- What a station over one sheet promises.
use Rattle.std.specs.Prelude.{ℕ, Bool}
use Rattle.number.specs.NumberKind.{NumberKind}
use Rattle.sheet.specs.Sheet.{Sheet}
use Rattle.admission.specs.Meaning.{IsAdmitted}
use Rattle.guarantees.specs.Promises.{Soundness}
use Rattle.station.specs.Histories.{Noninterference}

-- No seat is swayed, under every relation that admits the sheet, and no run is stuck or ends in anything but a number, whatever the
-- channels hold.
pub record Promise (M : NumberKind) (S : Sheet) : Type 0 where
  pub unswayed : (n : ℕ) (flows : ℕ → ℕ → Bool) → IsAdmitted n flows S → Noninterference M S n flows
  pub sound : Soundness M S
