-- What a seat may call, and what each call answers and leaves in the channel area.
use Rattle.std.specs.Prelude.{ℕ, Bool, cond, ◌&&◌, List, [], ◌∷◌, ◌++◌, length, take, drop, replicate, pos, Some, None, Option, ◌==◌, nat_le, nat_lt, slice_index_or, slice_set}
use Rattle.number.specs.NumberKind.{NumberKind}
use Rattle.sheet.specs.Sheet.{Sheet, is_channel as has_channel}
use Rattle.evaluation.specs.Runs.{Report, run, run_report, numbers_after}
use Rattle.station.specs.declared.question.Question.{Question}
use Rattle.station.specs.declared.question.Question.TheVariants.{ChannelArea, Target, Seat, Fuel, WorkAreas}

-- the number of each question
abbrev pub number_of : Question → ℕ
number_of ChannelArea = 41
number_of Target = 42
number_of Seat = 43
number_of Fuel = 44
number_of WorkAreas = 45

-- a call: a seat posts a number to a channel, reads a channel, or runs an entry with some fuel and three work areas, which are given
-- by their lengths: for pending nodes, for bindings and for cells. V is the type of a number's values.
pub data Call (V : Type 0) : Type 0 where
  post : (seat channel : ℕ) → V → Call V
  read : (seat channel : ℕ) → Call V
  run_entry : (seat entry fuel pending bindings cells : ℕ) → Call V

-- an answer: a question that is refused, a post that is granted, the number that was read, or what a run tells
pub data Answer (V : Type 0) : Type 0 where
  refused : Question → Answer V
  granted : Answer V
  told : V → Answer V
  ended : Report V → Answer V

-- the first question that is answered no
abbrev pub first_refused : List (Question × Bool) → Option Question
first_refused [] = None
first_refused (q ∷ qs) = cond q.1 (first_refused qs) (Some q.0)

module _ {V : Type 0} where
  -- whose call it is
  abbrev pub seat_of : Call V → ℕ
  seat_of (post seat c v) = seat
  seat_of (read seat c) = seat
  seat_of (run_entry seat e fuel p b c) = seat

module _ (S : Sheet) where
  -- there is a place for each site
  abbrev pub roomy : ℕ → Bool
  roomy len = nat_le S.sites len

  -- c is a channel: a site that is not a fresh one
  abbrev pub is_channel : ℕ → Bool
  is_channel c = nat_lt c S.sites && has_channel (S.site c).flag

  -- what is asked of a seat that posts to a channel or reads it, where the area has so many places
  abbrev pub channel_questions : (len seat c : ℕ) → List (Question × Bool)
  channel_questions len seat c = (ChannelArea, roomy len) ∷ (Target, is_channel c) ∷ (Seat, (seat == (S.site c).label)) ∷ []

  -- the fuel that a run may have
  abbrev pub fuel_allowed : ℕ → Bool
  fuel_allowed fuel = nat_le 1 fuel && nat_le fuel 1000000

  -- the work areas that a run needs
  abbrev pub areas_enough : (pending bindings cells : ℕ) → Bool
  areas_enough p b c = nat_le 1024 p && (nat_le 1024 b && nat_le 544 c)

  -- what is asked of a seat that runs an entry
  abbrev pub run_questions : (len seat e fuel pending bindings cells : ℕ) → List (Question × Bool)
  run_questions len seat e fuel p b c =
      (ChannelArea, roomy len) ∷ (Target, nat_lt e S.entries) ∷ (Seat, (seat == (S.entry e).label)) ∷ (Fuel, fuel_allowed fuel)
      ∷ (WorkAreas, areas_enough p b c) ∷ []

  module _ (M : NumberKind) where
    -- the number 0
    abbrev pub zero_number : M.Value
    zero_number = M.whole (pos 0)

    -- the area after opening: a zero for each site, and the extra places as they were
    abbrev pub opened : List M.Value → List M.Value
    opened area = replicate S.sites zero_number ++ drop S.sites area

    -- the area after a run: the places of the sites as the run leaves them, and the extra places as they were
    abbrev pub area_after_run : (fuel e : ℕ) → List M.Value → List M.Value
    area_after_run fuel e area =
        numbers_after (run M S fuel e (take S.sites area)) (take S.sites area) ++ drop S.sites area

    -- a call's answer, from the first question that is refused
    abbrev pub answer_by : Option Question → Call M.Value → List M.Value → Answer M.Value
    answer_by (Some q) call area = refused q
    answer_by None (post seat c v) area = granted
    answer_by None (read seat c) area = told (slice_index_or area c zero_number)
    answer_by None (run_entry seat e fuel p b c) area = ended (run_report M S fuel e (take S.sites area))

    -- the area after a call, from the first question that is refused
    abbrev pub after_by : Option Question → Call M.Value → List M.Value → List M.Value
    after_by (Some q) call area = area
    after_by None (post seat c v) area = slice_set area c v
    after_by None (read seat c) area = area
    after_by None (run_entry seat e fuel p b c) area = area_after_run fuel e area

    -- the first question of a call that is refused, where the area has so many places
    abbrev pub refusal_of : Call M.Value → ℕ → Option Question
    refusal_of (post seat c v) len = first_refused (channel_questions len seat c)
    refusal_of (read seat c) len = first_refused (channel_questions len seat c)
    refusal_of (run_entry seat e fuel p b c) len = first_refused (run_questions len seat e fuel p b c)

    -- a call's answer
    unfoldable pub answer : Call M.Value → List M.Value → Answer M.Value
    answer call area = answer_by (refusal_of call (length area)) call area

    -- the area after a call
    unfoldable pub after : Call M.Value → List M.Value → List M.Value
    after call area = after_by (refusal_of call (length area)) call area
