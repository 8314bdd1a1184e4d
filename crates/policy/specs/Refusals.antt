-- What the calls of policies are asked, in which order, and how a refusal is numbered.
use Rattle.std.specs.Prelude.{ℕ, Bool, true, cond, not, ◌&&◌, ◌||◌, Ok, Err, Result, ◌==◌, nat_le, nat_lt}
use Rattle.policy.specs.declared.Refusal.TheVariants.{LabelCount, ReflexivePair, RevocationsFull, UnknownLabel}
use Rattle.policy.specs.declared.Refusal.{Refusal}

-- the number of each refusal
abbrev pub number_of : Refusal → ℕ
number_of UnknownLabel = 51
number_of LabelCount = 52
number_of ReflexivePair = 53
number_of RevocationsFull = 54

-- the four questions in their order: is the number of labels 1 to 32, is each label below it, are a
-- revoked pair's labels different, is there a place for it? The first no is the refusal
abbrev pub verdict : Bool → Bool → Bool → Bool → Result (Unit {0}) Refusal
verdict counted known different placed =
    cond counted
    (cond known
    (cond different (cond placed (Ok tt) (Err RevocationsFull)) (Err ReflexivePair))
    (Err UnknownLabel))
    (Err LabelCount)

-- making a policy of n labels asks the first question
abbrev pub new_answer : ℕ → Result (Unit {0}) Refusal
new_answer n = verdict (nat_le 1 n && nat_le n 32) true true true

-- a change at one label, of n labels, asks the second
abbrev pub label_answer : ℕ → ℕ → Result (Unit {0}) Refusal
label_answer n a = verdict true (nat_lt a n) true true

-- allowing a pair asks the second of both labels
abbrev pub allow_answer : ℕ → ℕ → ℕ → Result (Unit {0}) Refusal
allow_answer n a b = verdict true (nat_lt a n && nat_lt b n) true true

-- revoking a pair asks the last three; a pair that is revoked already needs no place
abbrev pub revoke_answer : ℕ → ℕ → Bool → ℕ → ℕ → Result (Unit {0}) Refusal
revoke_answer n taken again a b = verdict true (nat_lt a n && nat_lt b n) (not (a == b)) (again || nat_lt taken 32)

-- an answer without the value that it may hold
abbrev pub outcome : {X : Type 0} → Result X Refusal → Result (Unit {0}) Refusal
outcome (Ok x) = Ok tt
outcome (Err e) = Err e
