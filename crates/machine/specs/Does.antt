-- What each function of the machine does, with numbers by their values: the step r that it answers, and what the stacks hold after.
use Rattle.std.specs.Prelude.{◌≡◌, ℕ, ◌<◌, List, length, Result}
use Rattle.stack.specs.declared.BoundedStack.{BoundedStack}
use Rattle.stack.specs.Live.{live, room}
use Rattle.number.specs.NumberKind.{NumberKind}
use Rattle.sheet.specs.Sheet.{Sheet}
use Rattle.machine.specs.declared.values.Value.{Value}
use Rattle.machine.specs.declared.values.Binding.{Binding}
use Rattle.machine.specs.declared.values.Cell.{Cell}
use Rattle.machine.specs.declared.values.Frame.{Frame}
use Rattle.machine.specs.declared.values.Next.{Next}
use Rattle.machine.specs.declared.values.Outcome.{Outcome}
use Rattle.evaluation.specs.declared.ending.Stop.{Stop}
use Rattle.machine.specs.Flat.{Limits, flat_eval}
use Rattle.machine.specs.Seen.{value, stage, next, frames, bindings, cells, machine, flat, outcome}
use Rattle.machine.specs.Steps.{at, starts, resumes, applies, creates, chooses, combines, reads, writes}

-- there is a place for another pending node
abbrev pub HasPlace : {T : Type 0} → BoundedStack T → Type 0
HasPlace s = length (live s) < room s

module _ {K : Type 0} (M : NumberKind) (n : K → M.Value) where
  -- node i takes a branch by its condition v. Here as below, a function that leaves a stack alone keeps whatever that stack holds.
  abbrev pub Chosen : Sheet → ℕ → ℕ → Value K → List (Frame K) → Result (Next K) Stop → List (Frame K) → Type 0
  Chosen S i k v fs r fs' =
      (bs : List (Binding M.Value)) (cs : List (Cell M.Value))
      → at (next n r) (frames n fs') bs cs ≡ chooses M S i k (value n v) (frames n fs) bs cs

  -- a new cell at the site of node i holds v
  abbrev pub Created : Sheet → ℕ → ℕ → Value K → List (Cell K) → Result (Next K) Stop → List (Cell K) → Type 0
  Created S room i v cs r cs' =
      (fs : List (Frame M.Value)) (bs : List (Binding M.Value))
      → at (next n r) fs bs (cells n cs') ≡ creates S room i (value n v) fs bs (cells n cs)

  -- node i reads through v
  abbrev pub ReadOut : ℕ → Value K → List (Cell K) → Result (Next K) Stop → Type 0
  ReadOut i v cs r =
      (fs : List (Frame M.Value)) (bs : List (Binding M.Value))
      → at (next n r) fs bs (cells n cs) ≡ reads i (value n v) fs bs (cells n cs)

  -- node i writes v through t
  abbrev pub Written : ℕ → Value K → Value K → List (Cell K) → Result (Next K) Stop → List (Cell K) → Type 0
  Written i t v cs r cs' =
      (fs : List (Frame M.Value)) (bs : List (Binding M.Value))
      → at (next n r) fs bs (cells n cs') ≡ writes i (value n t) (value n v) fs bs (cells n cs)

  -- node i applies f to v
  abbrev pub Applied : ℕ → ℕ → Value K → Value K → List (Frame K) → List (Binding K) → Result (Next K) Stop → List (Frame K) → List (Binding K) → Type 0
  Applied room i f v fs bs r fs' bs' =
      (cs : List (Cell M.Value))
      → at (next n r) (frames n fs') (bindings n bs') cs ≡ applies room i (value n f) (value n v) (frames n fs) (bindings n bs) cs

  -- node i makes a number of a and v
  abbrev pub Combined : Sheet → ℕ → Value K → Value K → Result (Next K) Stop → Type 0
  Combined S i a v r =
      (fs : List (Frame M.Value)) (bs : List (Binding M.Value)) (cs : List (Cell M.Value))
      → at (next n r) fs bs cs ≡ combines M S i (value n a) (value n v) fs bs cs

  -- node i is started in the environment at place k
  abbrev pub Started : Sheet → ℕ → ℕ → List (Frame K) → List (Binding K) → Result (Next K) Stop → List (Frame K) → Type 0
  Started S i k fs bs r fs' =
      (cs : List (Cell M.Value))
      → at (next n r) (frames n fs') (bindings n bs) cs ≡ starts M S (S.node i).kind i k (frames n fs) (bindings n bs) cs

  -- v comes back to the pending node f
  abbrev pub Resumed : Sheet → Limits → Frame K → Value K → List (Frame K) → List (Binding K) → List (Cell K) → Result (Next K) Stop → List (Frame K) → List (Binding K) → List (Cell K) → Type 0
  Resumed S L f v fs bs cs r fs' bs' cs' =
      machine n r fs' bs' cs' ≡ resumes M S L (stage n f.stage) f.node f.scope (value n v) (frames n fs) (bindings n bs) (cells n cs)

  -- the whole run: the flat evaluation, with d places for pending nodes
  abbrev pub Evaluated : Sheet → Limits → ℕ → ℕ → ℕ → List (Binding K) → List (Cell K) → Outcome K → List (Binding K) → List (Cell K) → Type 0
  Evaluated S L fuel d i bs cs r bs' cs' = outcome n r bs' cs' ≡ flat_eval M S L fuel d i 0 (flat n bs cs 0)
