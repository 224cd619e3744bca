use Rattle.es_json.proofs.Written.{written_no_float, written_back}
use Rattle.es_json.proofs.write.write_program.Goals as goal

pub returns-clause-no_float : goal.returns-clause-no_float
returns-clause-no_float c = written_no_float c.write.result _ c.write.ensures.value

pub returns-clause-reads_back : goal.returns-clause-reads_back
returns-clause-reads_back c = written_back c.write.result _ c.write.ensures.value c.write.ensures.kept
