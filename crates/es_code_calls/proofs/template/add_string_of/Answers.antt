use Rattle.std.proofs.Common.{sym, ap, ◌∙◌, List, ◌++◌, map}
use Rattle.std.proofs.lemmas.Result.{on_ok_weaker}
use Rattle.es_codes.specs.CodeView.{string_of}
use Rattle.es_steps.specs.Code as of
use Rattle.es_code_calls.proofs.Templates.{a_string, one_more}
use Rattle.es_code_calls.proofs.template.add_string_of.Goals as goal

pub returns-in-TemplateString : goal.returns-in-TemplateString
returns-in-TemplateString c = on_ok_weaker c.push.result (λ e. ap (map string_of) e ∙ one_more c.args.strings.now c.in-TemplateString.string ∙ ap (λ (ds : List of.TemplateString). map string_of c.args.strings.now ++ ds) (sym (a_string c.args.code c.in-TemplateString.string c.in-TemplateString.is))) c.push.ensures.ok
