-- The areas that a run works in: how many places are enough, and what stays of the areas.
use Rattle.std.specs.Prelude.{◌≡◌, ℕ, ◌&&◌, Bool, length, nat_le, Result, Ok, Err}
use Rattle.evaluation.specs.Evaluation.{most_pending, most_bindings}
use Rattle.machine.specs.declared.areas.WorkAreas.{WorkAreas}

-- places for the cells of any sheet: 32 sites and 512 fresh cells
abbrev pub most_cells : ℕ
most_cells = 544

-- places for pending nodes, bindings and cells that are enough for every sheet
abbrev pub enough : (pending bound held : ℕ) → Bool
enough pending bound held = nat_le most_pending pending && (nat_le most_bindings bound && nat_le most_cells held)

-- each area is still its lender's, and as long as it was
pub record SameLoans {K : Type 0} (before after : WorkAreas K) : Type 0 where
  pub pending_lender : after.pending.ghost_name ≡ before.pending.ghost_name
  pub bound_lender : after.bound.ghost_name ≡ before.bound.ghost_name
  pub held_lender : after.held.ghost_name ≡ before.held.ghost_name
  pub pending_length : length after.pending.now ≡ length before.pending.now
  pub bound_length : length after.bound.now ≡ length before.bound.now
  pub held_length : length after.held.now ≡ length before.held.now

-- a refusal leaves the areas as they were
abbrev pub LeftAlone : {A E B : Type 0} → Result A E → B → B → Type 0
LeftAlone (Ok r) before after = Unit {0}
LeftAlone (Err q) before after = after ≡ before
