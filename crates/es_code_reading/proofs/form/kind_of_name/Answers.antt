use Rattle.std.proofs.Common.{◌∙◌, sym, ap}
use Rattle.es_codes.specs.CodeView.{code_of}
use Rattle.es_codes.proofs.Forms.{name_is}
use Rattle.es_code_reading.specs.Letters.{name_kind_in}
use Rattle.es_code_reading.proofs.FormCases.{not_name}
use Rattle.es_code_reading.proofs.form.kind_of_name.Goals as goal

pub returns-in-Name : goal.returns-in-Name
returns-in-Name c = sym (ap (λ e. name_kind_in (code_of e)) c.in-Name.is ∙ ap name_kind_in (name_is c.in-Name.node c.in-Name.spelling c.in-Name.kind))

pub returns-in_default : goal.returns-in_default
returns-in_default c = not_name c.args.code.now c.in_default.not-Name
