use Rattle.reduction.proofs.normalizing.+normalize_list.Given as goal

abbrev pub decreases-normalize_list : goal.decreases-normalize_list
decreases-normalize_list l = l.list
