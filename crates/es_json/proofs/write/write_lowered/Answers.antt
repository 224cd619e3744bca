use Rattle.es_json.proofs.Written.{lowered_float, lowered_back}
use Rattle.es_json.proofs.write.write_lowered.Goals as goal

pub returns-clause-no_float : goal.returns-clause-no_float
returns-clause-no_float c = lowered_float c.write_lowered.result _ _ _ _ c.write_lowered.ensures.value

pub returns-clause-reads_back : goal.returns-clause-reads_back
returns-clause-reads_back c = lowered_back c.write_lowered.result _ _ _ _ c.write_lowered.ensures.value c.write_lowered.ensures.kept
