use Rattle.es_iife.proofs.Called.{called_law}
use Rattle.es_iife.proofs.law.called_arrow_gives_its_value.Goals as goal

pub returns : goal.returns
returns c = called_law
