-- An admitted sheet is well-typed, so the promises hold of it, and of the parties whose labels it has.
use Rattle.std.proofs.Common.{◌≡◌, ℕ, Bool, true, List, subst}
use Rattle.number.specs.NumberKind.{NumberKind}
use Rattle.sheet.specs.declared.row.Row.{Row}
use Rattle.sheet.specs.Sheet.{view}
use Rattle.shaping.specs.Meaning.{IsShaped}
use Rattle.shaping.proofs.Exactly.{lawful}
use Rattle.admission.specs.Meaning.{IsAdmitted, Admissible}
use Rattle.admission.proofs.Keeps.{keeps}
use Rattle.guarantees.specs.Sheets.{TypedSheet, Visible}
use Rattle.guarantees.specs.Promises.{Parties}
use Rattle.guarantees.proofs.Promised.{confinement, two_runs}

-- by what shaping says of its nodes, and what admission says of it
pub admitted_typed : (n : ℕ) (flows : ℕ → ℕ → Bool) (rs : List Row) → IsShaped rs → IsAdmitted n flows (view rs) → TypedSheet (view rs)
admitted_typed n flows rs h a =
    let A : Admissible n flows (view rs) = keeps n flows rs h a in
    record { nodes = (lawful rs h).nodes; shape = A.shape; rules = A.rules; roots = A.number }

-- what the promises say of parties: a party may see its own channels and the results of its own entries, and an entry runs under its
-- own label
pub parties : (M : NumberKind) (n : ℕ) (flows : ℕ → ℕ → Bool) (rs : List Row) → IsShaped rs → IsAdmitted n flows (view rs) → Parties M flows (view rs)
unfolding Visible
parties M n flows rs h a b =
    let A : Admissible n flows (view rs) = keeps n flows rs h a in
    let ok : TypedSheet (view rs) = admitted_typed n flows rs h a in
    record {
      channels = λ fuel e s ns l q f c o.
          confinement M (view rs) ok flows b ((view rs).entry e).label fuel e ns l q (A.control e l) f s c
          (λ k t. subst (λ (x : ℕ). flows k x ≡ true) o (A.held s k c.0 t));
      figures = λ fuel fuel' e ns ns' l q q' o k t t'.
          (two_runs M (view rs) ok flows b fuel fuel' e ns ns' l q q' k t t').number (λ j z. subst (λ (x : ℕ). flows j x ≡ true) o (A.result e j l z));
    }
