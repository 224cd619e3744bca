use Rattle.es_evaluate.proofs.evaluate.+evaluate+fn-evaluate-inside.Given as goal

abbrev pub decreases-evaluate : goal.decreases-evaluate
decreases-evaluate l = l.limit

abbrev pub decreases-inside : goal.decreases-inside
decreases-inside l = l.left
