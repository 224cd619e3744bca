use Rattle.es_steps.proofs.Defining.{define_law}
use Rattle.es_steps.proofs.law.define_property_is_key_value_define.Goals as goal

pub returns : goal.returns
returns c = define_law
