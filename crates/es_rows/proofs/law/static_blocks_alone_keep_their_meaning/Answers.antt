use Rattle.std.specs.Prelude.{refl}
use Rattle.es_rows.proofs.Computed.{lowered}
use Rattle.es_rows.proofs.law.static_blocks_alone_keep_their_meaning.Goals as goal

pub returns-clause-trailing_block : goal.returns-clause-trailing_block
returns-clause-trailing_block c = (refl, refl, lowered refl, refl)

pub returns-clause-awaited_at_top : goal.returns-clause-awaited_at_top
returns-clause-awaited_at_top c = (refl, refl, lowered refl, refl)

pub returns-clause-block_before_field : goal.returns-clause-block_before_field
returns-clause-block_before_field c = (refl, refl, lowered refl, refl)

pub returns-clause-block_behind_field : goal.returns-clause-block_behind_field
returns-clause-block_behind_field c = (refl, refl, lowered refl, refl)

pub returns-clause-trailing_block_of_named_expression : goal.returns-clause-trailing_block_of_named_expression
returns-clause-trailing_block_of_named_expression c = (refl, refl, lowered refl, refl)

pub returns-clause-block_before_named_function : goal.returns-clause-block_before_named_function
returns-clause-block_before_named_function c = (refl, refl, lowered refl, refl)

pub returns-clause-block_in_parameter : goal.returns-clause-block_in_parameter
returns-clause-block_in_parameter c = (refl, refl, lowered refl, refl)

pub returns-clause-closure_name_taken : goal.returns-clause-closure_name_taken
returns-clause-closure_name_taken c = (refl, refl, lowered refl, refl)

pub returns-clause-private_name_taken : goal.returns-clause-private_name_taken
returns-clause-private_name_taken c = (refl, refl, lowered refl, refl)

pub returns-clause-block_of_statements_alone : goal.returns-clause-block_of_statements_alone
returns-clause-block_of_statements_alone c = (refl, refl, lowered refl, refl)
