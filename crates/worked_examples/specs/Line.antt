-- The contract line for the worked sheet and its policy, in millimetres: of labels 0, 1 and 2, 0 may flow to 1 and 1 to 2, and nothing
-- else. Two pairs imply no third, so 0 may not flow to 2.
use Rattle.std.specs.Prelude.{◌≡◌, List, length, ℤ}
use Rattle.number.specs.Millimetre.{millimetre_kind}
use Rattle.admission.specs.Worked.{in_steps}
use Rattle.station.specs.Calls.{Call, opened}
use Rattle.station.specs.Histories.{Event, events, strike, Alike, ToldSame}
use Rattle.worked_examples.specs.Examples.{copying}

-- a history of calls from an opening over an area, without the calls of the seats that may not flow to seat 2: of the three seats, 0
abbrev pub without_seat_0 : List ℤ → List (Call ℤ) → List (Event ℤ)
without_seat_0 area calls = strike (λ a. in_steps a 2) (events millimetre_kind copying (opened copying millimetre_kind area) calls)

-- Take any two histories of calls. Leave out what seat 0 does. If what remains are the same calls in the same order, whose runs ended
-- alike, then seat 2 is told the same at each of its calls: whatever seat 0 posted, ran and read in either, or did not.
abbrev pub Seat0DoesNotSwaySeat2 : Type 0
Seat0DoesNotSwaySeat2 =
    (area area' : List ℤ) → length area ≡ 2 → length area' ≡ 2 → (calls calls' : List (Call ℤ))
    → Alike (without_seat_0 area calls) (without_seat_0 area' calls')
    → ToldSame 2 (without_seat_0 area calls) (without_seat_0 area' calls')
