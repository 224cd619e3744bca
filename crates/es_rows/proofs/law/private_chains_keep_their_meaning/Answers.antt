use Rattle.std.specs.Prelude.{refl}
use Rattle.es_rows.proofs.Computed.{lowered}
use Rattle.es_rows.proofs.law.private_chains_keep_their_meaning.Goals as goal

pub returns-clause-delete_private_chain : goal.returns-clause-delete_private_chain
returns-clause-delete_private_chain c = (refl, refl, lowered refl, refl)

pub returns-clause-private_chain_call : goal.returns-clause-private_chain_call
returns-clause-private_chain_call c = (refl, refl, lowered refl, refl)

pub returns-clause-private_chain_call_no_document_all : goal.returns-clause-private_chain_call_no_document_all
returns-clause-private_chain_call_no_document_all c = (refl, refl, lowered refl, refl)

pub returns-clause-called_private_chain : goal.returns-clause-called_private_chain
returns-clause-called_private_chain c = (refl, refl, lowered refl, refl)

pub returns-clause-private_optional_call : goal.returns-clause-private_optional_call
returns-clause-private_optional_call c = (refl, refl, lowered refl, refl)

pub returns-clause-private_chain_kept : goal.returns-clause-private_chain_kept
returns-clause-private_chain_kept c = (refl, refl, lowered refl, refl)
