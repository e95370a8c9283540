use Rattle.sbl_saving.proofs.system.first_of.Given as goal

abbrev pub decreases-loop-end : goal.decreases-loop-end
decreases-loop-end l = l.end
