use Rattle.common_tests.proofs.duplicates.write_call_held.Goals as goal

pub duplicate_expression_twice-requires-clause-taken : goal.duplicate_expression_twice-requires-clause-taken
duplicate_expression_twice-requires-clause-taken c = c.requires.taken _

pub returns-clause-taken : goal.returns-clause-taken
returns-clause-taken c = λ s. c.in_ok-first.ensures.taken s (c.requires.taken s)
