use Rattle.happening_expressions.proofs.reads.+expr_reads.Given as goal

abbrev pub decreases-expr_reads : goal.decreases-expr_reads
decreases-expr_reads l = l.depth
