use Rattle.std.proofs.Common.{◌∙◌, sym}
use Rattle.es_code_reading.proofs.QuietForms.{quiet_name, quiet_private}
use Rattle.es_code_reading.proofs.quiet.is_quiet_key.Goals as goal

pub returns-in-Name : goal.returns-in-Name
returns-in-Name c = c.is_temporary.ensures ∙ sym (quiet_name c.args.code.now c.in-Name.node c.in-Name.spelling c.in-Name.kind c.in-Name.is)

pub returns-in-PrivateValue : goal.returns-in-PrivateValue
returns-in-PrivateValue c = sym (quiet_private c.args.code.now c.in-PrivateValue.spelling c.in-PrivateValue.is)
