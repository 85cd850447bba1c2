use Rattle.happening_expressions.proofs.values.+value.Given as goal

abbrev pub decreases-value : goal.decreases-value
decreases-value l = l.depth
