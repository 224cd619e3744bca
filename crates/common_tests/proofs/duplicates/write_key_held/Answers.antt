use Rattle.common_tests.proofs.duplicates.write_key_held.Goals as goal

pub create_computed_key_temp_var-requires-clause-taken : goal.create_computed_key_temp_var-requires-clause-taken
create_computed_key_temp_var-requires-clause-taken c = c.requires.taken _

pub returns-clause-taken : goal.returns-clause-taken
returns-clause-taken c = λ s. c.in_ok-first.ensures.taken s (c.requires.taken s)
