use Rattle.std.proofs.Common.{sym, ◌∙◌}
use Rattle.es_codes.specs.CodeView.{code_of, form_of}
use Rattle.es_definitions.proofs.Opened.{with_parameters}
use Rattle.es_definitions.proofs.body.closure_body.Goals as goal

pub returns-in-len1-up : goal.returns-in-len1-up
returns-in-len1-up c = c.no_rule.ensures ∙ sym (with_parameters (form_of c.args.form) c.args.parameters.now (code_of c.args.body.now) c.in-len1-up.len_at_least)
