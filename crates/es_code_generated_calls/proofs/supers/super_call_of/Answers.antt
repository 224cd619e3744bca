use Rattle.std.proofs.Common.{sym, ◌∙◌}
use Rattle.es_codes.specs.CodeView.{code_of}
use Rattle.es_code_reading.specs.Contexts.{context_of}
use Rattle.es_code_generated_calls.proofs.SuperForms.{not_four_of_super}
use Rattle.es_code_generated_calls.proofs.supers.super_call_of.Goals as goal

pub returns-else-of_member-eq4 : goal.returns-else-of_member-eq4
returns-else-of_member-eq4 c = c.no_rule.ensures ∙ sym (not_four_of_super (context_of c.args.c.now) c.args.node c.args.member c.args.of_member.now (code_of c.args.arguments.now) c.if-of_member-eq4.false)
