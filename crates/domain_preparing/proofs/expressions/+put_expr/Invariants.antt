use Rattle.domain_preparing.proofs.expressions.+put_expr.Given as goal

abbrev pub decreases-put_expr : goal.decreases-put_expr
decreases-put_expr l = l.depth
