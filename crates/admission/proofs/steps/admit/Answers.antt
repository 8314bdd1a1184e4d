-- What an admitted sheet carries: that it is shaped, and that some policy, of which nothing else is kept, admits it.
use Rattle.admission.proofs.steps.admit.Goals as goal

pub invariant_of-result : goal.invariant_of-result
invariant_of-result g c =
    let p = c.args.policy.now in
    let law = g.met.P.Policy in
    record {
      admitted =
          ∣ (
            g.P.Policy.size p,
            g.P.Policy.flows p,
            record { counted = law.counted p; reflexive = law.reflexive p; sources = law.sources p; targets = law.targets p },
            c.requires,
          ) ∣₁;
    }
