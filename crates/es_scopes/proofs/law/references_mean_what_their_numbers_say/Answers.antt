use Rattle.es_scopes.proofs.AgreementLemmas.{means-number}
use Rattle.es_scopes.proofs.law.references_mean_what_their_numbers_say.Goals as goal

pub returns : goal.returns
returns c = means-number
