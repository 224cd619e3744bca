use Rattle.es_ledger.proofs.Written.{written_back}
use Rattle.es_ledger.proofs.law.written_names_are_read.Goals as goal

pub returns : goal.returns
returns c = written_back
