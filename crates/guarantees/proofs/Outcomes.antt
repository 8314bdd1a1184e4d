-- What holds of an outcome: of a value and its state where it is done, and of two outcomes where both are.
use Rattle.std.proofs.Common.{◌≡◌, ℕ, Bool, true, false, subst}
use Rattle.evaluation.specs.declared.ending.Stop.{Stop}
use Rattle.evaluation.specs.declared.ending.Stop.TheVariants.{FuelSpent, PendingFull, BindingsFull, CellsFull, Stuck}
use Rattle.evaluation.specs.Values.{Value, State, Outcome, done, stopped, and_then, provided}

-- a run that stopped for this reason was not stuck
abbrev pub NotStuck : Stop → Type 0
NotStuck FuelSpent = Unit {0}
NotStuck PendingFull = Unit {0}
NotStuck BindingsFull = Unit {0}
NotStuck CellsFull = Unit {0}
NotStuck (Stuck i) = ⊥

-- what may hold of a done outcome
abbrev pub One : Type 0 → Type 1
One V = Value V → State V → Type 0

-- what may hold of two done outcomes
abbrev pub Two : Type 0 → Type 1
Two V = Value V → State V → Value V → State V → Type 0

module _ {V : Type 0} where
  -- Q holds if the outcome is done, and else it is not stuck
  abbrev pub Post : One V → Outcome V → Type 0
  Post Q (done v s) = Q v s
  Post Q (stopped e t) = NotStuck e

  -- Q holds if both outcomes are done
  abbrev pub Both : Two V → Outcome V → Outcome V → Type 0
  Both Q (done v s) (done v' s') = Q v s v' s'
  Both Q (done v s) (stopped e t) = Unit {0}
  Both Q (stopped e t) o = Unit {0}

  -- one outcome after another
  pub post_then : (R Q : One V) (o : Outcome V) (k : Value V → State V → Outcome V) →
      Post R o → ((v : Value V) (s : State V) → R v s → Post Q (k v s)) → Post Q (and_then o k)
  post_then R Q (done v s) k h f = f v s h
  post_then R Q (stopped e t) k h f = h

  -- what follows from what holds
  pub post_map : (R Q : One V) (o : Outcome V) → Post R o → ((v : Value V) (s : State V) → R v s → Q v s) → Post Q o
  post_map R Q (done v s) h f = f v s h
  post_map R Q (stopped e t) h f = h

  -- of either outcome, so of the one that is taken
  pub post_provided : (Q : One V) (b : Bool) (k : Unit {0} → Outcome V) (o : Outcome V) → Post Q (k tt) → Post Q o → Post Q (provided b k o)
  post_provided Q true k o h h' = h
  post_provided Q false k o h h' = h'

  -- nothing is asked where the second one stopped
  pub both_stop : (Q : Two V) (o : Outcome V) (e : Stop) (t : ℕ) → Both Q o (stopped e t)
  both_stop Q (done v s) e t = tt
  both_stop Q (stopped e' t') e t = tt

  -- two outcomes after another two
  pub both_then : (R Q : Two V) (o o' : Outcome V) (k k' : Value V → State V → Outcome V) → Both R o o' →
      ((v : Value V) (s : State V) (v' : Value V) (s' : State V) → R v s v' s' → Both Q (k v s) (k' v' s')) → Both Q (and_then o k) (and_then o' k')
  both_then R Q (done v s) (done v' s') k k' h f = f v s v' s' h
  both_then R Q (done v s) (stopped e t) k k' h f = both_stop Q (k v s) e t
  both_then R Q (stopped e t) o' k k' h f = tt

  -- what follows from what holds of each alone and of both
  pub both_with : (P P' : One V) (R Q : Two V) (o o' : Outcome V) → Post P o → Post P' o' → Both R o o' →
      ((v : Value V) (s : State V) (v' : Value V) (s' : State V) → P v s → P' v' s' → R v s v' s' → Q v s v' s') → Both Q o o'
  both_with P P' R Q (done v s) (done v' s') h h' r f = f v s v' s' h h' r
  both_with P P' R Q (done v s) (stopped e t) h h' r f = tt
  both_with P P' R Q (stopped e t) o' h h' r f = tt

  -- what follows from what holds of both
  pub both_map : (R Q : Two V) (o o' : Outcome V) → Both R o o' →
      ((v : Value V) (s : State V) (v' : Value V) (s' : State V) → R v s v' s' → Q v s v' s') → Both Q o o'
  both_map R Q (done v s) (done v' s') h f = f v s v' s' h
  both_map R Q (done v s) (stopped e t) h f = tt
  both_map R Q (stopped e t) o' h f = tt

  -- what follows from what holds of each alone
  pub both_of : (P P' : One V) (Q : Two V) (o o' : Outcome V) → Post P o → Post P' o' →
      ((v : Value V) (s : State V) (v' : Value V) (s' : State V) → P v s → P' v' s' → Q v s v' s') → Both Q o o'
  both_of P P' Q (done v s) (done v' s') h h' f = f v s v' s' h h'
  both_of P P' Q (done v s) (stopped e t) h h' f = tt
  both_of P P' Q (stopped e t) o' h h' f = tt

  -- where a test may stop either one
  pub both_provided : (Q : Two V) (b b' : Bool) (k k' : Unit {0} → Outcome V) (e : Stop) (t : ℕ) (e' : Stop) (t' : ℕ) →
      Both Q (k tt) (k' tt) → Both Q (provided b k (stopped e t)) (provided b' k' (stopped e' t'))
  both_provided Q true true k k' e t e' t' h = h
  both_provided Q true false k k' e t e' t' h = both_stop Q (k tt) e' t'
  both_provided Q false b' k k' e t e' t' h = tt

  -- where a test stops either one if it holds
  pub both_unless : (Q : Two V) (b b' : Bool) (e : Stop) (t : ℕ) (e' : Stop) (t' : ℕ) (o o' : Outcome V) →
      Both Q o o' → Both Q (provided b (λ _. stopped e t) o) (provided b' (λ _. stopped e' t') o')
  both_unless Q true b' e t e' t' o o' h = tt
  both_unless Q false true e t e' t' o o' h = both_stop Q o e' t'
  both_unless Q false false e t e' t' o o' h = h

  -- an outcome that is known to be done
  pub post_done : (Q : One V) (o : Outcome V) (v : Value V) (s : State V) → Post Q o → o ≡ done v s → Q v s
  post_done Q o v s h e = subst (Post Q) e h

  -- two outcomes that are known to be done
  pub both_done : (Q : Two V) (o o' : Outcome V) (v v' : Value V) (s s' : State V) → Both Q o o' → o ≡ done v s → o' ≡ done v' s' → Q v s v' s'
  both_done Q o o' v v' s s' h e e' = subst (λ (x : Outcome V). Both Q (done v s) x) e' (subst (λ (x : Outcome V). Both Q x o') e h)
