-- Histories of calls, and what no history may show: the contract line.
use Rattle.std.specs.Prelude.{◌≡◌, ℕ, ◌<◌, ◌≤◌, Bool, cond, List, [], ◌∷◌, length, Some, None, Option}
use Rattle.number.specs.NumberKind.{NumberKind}
use Rattle.sheet.specs.Sheet.{Sheet, view}
use Rattle.evaluation.specs.Endings.{number_of}
use Rattle.sheet.specs.declared.row.Row.{Row}
use Rattle.shaping.specs.Meaning.{IsShaped}
use Rattle.admission.specs.Meaning.{IsAdmitted}
use Rattle.guarantees.specs.Promises.{Soundness}
use Rattle.station.specs.Calls.{Call, seat_of, Answer, refused, granted, told, ended, opened, answer, after}

-- a call and its answer
pub record Event (V : Type 0) : Type 0 where
  pub call : Call V
  pub answer : Answer V

module _ {V : Type 0} where
  -- the number of the ending that an answer tells, if it tells one
  abbrev pub ending_of : Answer V → Option ℕ
  ending_of (refused q) = None
  ending_of granted = None
  ending_of (told v) = None
  ending_of (ended r) = Some (number_of r.ending)

  -- an answer, step counts apart
  abbrev pub without_steps : Answer V → Answer V
  without_steps (refused q) = refused q
  without_steps granted = granted
  without_steps (told v) = told v
  without_steps (ended r) = ended (record { ending = r.ending; number = r.number; steps = 0 })

  -- the events that are left when those of the seats that are not kept are struck
  unfoldable pub strike : (ℕ → Bool) → List (Event V) → List (Event V)
  strike keep [] = []
  strike keep (e ∷ es) = cond (keep (seat_of e.call)) (e ∷ strike keep es) (strike keep es)

  -- equally many events, one by one of the same call (kind, seat, target, number, fuel, area lengths), and runs ended alike
  unfoldable pub Alike : List (Event V) → List (Event V) → Type 0
  Alike [] [] = Unit {0}
  Alike [] (e' ∷ es') = ⊥
  Alike (e ∷ es) [] = ⊥
  Alike (e ∷ es) (e' ∷ es') = (e.call ≡ e'.call) × (ending_of e.answer ≡ ending_of e'.answer) × Alike es es'

  -- seat b is told the same at each of its calls, step counts apart
  unfoldable pub ToldSame : ℕ → List (Event V) → List (Event V) → Type 0
  ToldSame b [] es' = Unit {0}
  ToldSame b (e ∷ es) [] = Unit {0}
  ToldSame b (e ∷ es) (e' ∷ es') = (seat_of e.call ≡ b → without_steps e.answer ≡ without_steps e'.answer) × ToldSame b es es'

module _ (M : NumberKind) (S : Sheet) where
  -- the events of a history of calls, from an area on
  unfoldable pub events : List M.Value → List (Call M.Value) → List (Event M.Value)
  events area [] = []
  events area (c ∷ cs) = record { call = c; answer = answer S M c area } ∷ events (after S M c area) cs

  -- No party's entry sways another's figure unless the policy pairs the two. For every seat b of the policy and every two histories
  -- from openings over areas of one length: strike the calls of the seats that may not flow to b; if what is left is alike, b is told
  -- the same in both.
  abbrev pub Noninterference : (n : ℕ) → (ℕ → ℕ → Bool) → Type 0
  Noninterference n flows =
      (b : ℕ) → b < n
      → (area area' : List M.Value) → S.sites ≤ length area → length area ≡ length area'
      → (calls calls' : List (Call M.Value))
      → let left = strike (λ a. flows a b) (events (opened S M area) calls) in
      let right = strike (λ a. flows a b) (events (opened S M area') calls') in
      Alike left right → ToldSame b left right

-- The contract line, of every sheet that is shaped and admitted under a relation of n labels: noninterference, and no run is stuck or
-- ends in anything but a number, whatever the channels hold.
abbrev pub ContractLine : NumberKind → Type 0
ContractLine M =
    (n : ℕ) (flows : ℕ → ℕ → Bool) (rs : List Row) → IsShaped rs → IsAdmitted n flows (view rs)
    → Noninterference M (view rs) n flows × Soundness M (view rs)
