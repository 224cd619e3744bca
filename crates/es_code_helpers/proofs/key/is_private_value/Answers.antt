use Rattle.std.proofs.Common.{sym}
use Rattle.es_code_helpers.proofs.KeyForms.{a_private_value}
use Rattle.es_code_helpers.proofs.key.is_private_value.Goals as goal

pub returns-in-PrivateValue : goal.returns-in-PrivateValue
returns-in-PrivateValue c = sym (a_private_value c.args.code.now c.in-PrivateValue.spelling c.in-PrivateValue.is)
