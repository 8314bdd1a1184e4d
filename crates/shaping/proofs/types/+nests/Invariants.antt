use Rattle.shaping.proofs.types.+nests.Given as goal

abbrev pub decreases-nests : goal.decreases-nests
decreases-nests l = l.t
