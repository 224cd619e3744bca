use Rattle.std.proofs.Common.{ap}
use Rattle.es_codes.specs.CodeView.{code_of}
use Rattle.es_code_reading.specs.Contexts.{context_of}
use Rattle.es_code_new_literals.specs.Literals.{is_keyed_by}
use Rattle.es_code_new_literals.proofs.Literals.{no_single_property}
use Rattle.es_code_new_literals.proofs.property.is_keyed_by.Goals as goal

pub returns-in-None : goal.returns-in-None
returns-in-None c = ap (is_keyed_by (code_of c.args.key.now)) (no_single_property (context_of c.args.c.now) (code_of c.args.object.now) c.in-None.ensures)
