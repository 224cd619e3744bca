use Rattle.es_codes.specs.CodeView.{code_of}
use Rattle.es_code_reading.specs.Contexts.{context_of}
use Rattle.es_code_new_literals.proofs.Literals.{no_single_property}
use Rattle.es_code_new_literals.proofs.property.single_property.Goals as goal

pub returns-in-None : goal.returns-in-None
returns-in-None c = no_single_property (context_of c.args.c.now) (code_of c.args.code) c.in-None.ensures
