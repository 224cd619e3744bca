use Rattle.common_tests.proofs.duplicates.write_name_held.Goals as goal

pub duplicate_expression-requires-clause-taken : goal.duplicate_expression-requires-clause-taken
duplicate_expression-requires-clause-taken c = c.requires.taken _

pub returns-clause-taken : goal.returns-clause-taken
returns-clause-taken c = λ s. c.in_ok-first.ensures.taken s (c.requires.taken s)
