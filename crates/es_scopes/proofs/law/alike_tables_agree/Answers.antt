use Rattle.es_scopes.proofs.AgreementLemmas.{agrees-alike}
use Rattle.es_scopes.proofs.law.alike_tables_agree.Goals as goal

pub returns : goal.returns
returns c = λ generated t before after alike. agrees-alike t before after alike generated
