use Rattle.std.proofs.Common.{◌∙◌, sym}
use Rattle.es_codes.specs.CodeView.{code_of}
use Rattle.es_code_reading.specs.Contexts.{context_of}
use Rattle.es_code_generated_members.proofs.MemberForms.{on_super}
use Rattle.es_code_generated_members.proofs.member.member_on.Goals as goal

pub returns-in-Super : goal.returns-in-Super
returns-in-Super c = c.super_member_at.ensures ∙ sym (on_super (context_of c.args.c.now) c.args.access.node c.args.access.is_optional c.args.object (code_of c.args.access.key) c.in-Super.is)
