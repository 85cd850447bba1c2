use Rattle.happening_expressions.proofs.masks.+mask_of.Given as goal

abbrev pub decreases-mask_of : goal.decreases-mask_of
decreases-mask_of l = l.depth
