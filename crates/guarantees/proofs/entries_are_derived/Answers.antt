use Rattle.guarantees.proofs.Admitted.{admitted_typed}
use Rattle.guarantees.proofs.Derive.{derive}
use Rattle.guarantees.proofs.entries_are_derived.Goals as goal

pub returns : goal.returns
returns c n flows rs h a e l =
    let ok = admitted_typed n flows rs h a in
    derive _ ok.shape.nesting ok.rules _ (ok.shape.forest.rooted e l)
