use Rattle.std.proofs.Common.{sym, ◌∙◌}
use Rattle.es_codes.specs.CodeView.{codes_of}
use Rattle.es_code_reading.specs.Contexts.{context_of}
use Rattle.es_code_generated_calls.proofs.SuperForms.{not_one_list}
use Rattle.es_code_generated_calls.proofs.supers.super_called_by.Goals as goal

pub returns-else-arguments-eq1 : goal.returns-else-arguments-eq1
returns-else-arguments-eq1 c = c.no_rule.ensures ∙ sym (not_one_list (context_of c.args.c.now) c.args.node c.args.member (codes_of c.args.of_member.now) c.args.arguments.now c.if-arguments-eq1.false)
