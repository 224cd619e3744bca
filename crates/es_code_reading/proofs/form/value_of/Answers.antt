use Rattle.std.proofs.Common.{◌∙◌, sym, ap}
use Rattle.es_codes.specs.CodeView.{code_of}
use Rattle.es_codes.proofs.Forms.{value_is}
use Rattle.es_code_reading.specs.Letters.{value_in}
use Rattle.es_code_reading.proofs.FormCases.{not_value}
use Rattle.es_code_reading.proofs.form.value_of.Goals as goal

pub returns-in-Value : goal.returns-in-Value
returns-in-Value c = sym (ap (λ e. value_in (code_of e)) c.in-Value.is ∙ ap value_in (value_is c.in-Value.value))

pub returns-in_default : goal.returns-in_default
returns-in_default c = not_value c.args.code.now c.in_default.not-Value
