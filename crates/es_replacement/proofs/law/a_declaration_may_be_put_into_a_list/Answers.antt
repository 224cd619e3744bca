use Rattle.es_replacement.proofs.Declared.{declaration_law}
use Rattle.es_replacement.proofs.law.a_declaration_may_be_put_into_a_list.Goals as goal

pub returns : goal.returns
returns c = declaration_law
