use Rattle.happening_meetings.proofs.walks.+walk_expr.Given as goal

abbrev pub decreases-walk_expr : goal.decreases-walk_expr
decreases-walk_expr l = l.depth
