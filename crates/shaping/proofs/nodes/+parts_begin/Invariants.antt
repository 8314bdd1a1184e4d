use Rattle.shaping.proofs.nodes.+parts_begin.Given as goal

abbrev pub decreases-parts_begin : goal.decreases-parts_begin
decreases-parts_begin l = l.n
