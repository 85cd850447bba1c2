use Rattle.happening_expressions.proofs.ends.+expr_end.Given as goal

abbrev pub decreases-expr_end : goal.decreases-expr_end
decreases-expr_end l = l.depth
