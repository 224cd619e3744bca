use Rattle.common_tests.proofs.duplicates.write_this_copied.Goals as goal

pub duplicate_expression_multiple-requires-clause-taken : goal.duplicate_expression_multiple-requires-clause-taken
duplicate_expression_multiple-requires-clause-taken c = c.requires.taken _
