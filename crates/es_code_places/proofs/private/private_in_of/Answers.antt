use Rattle.std.proofs.Common.{sym, ◌∙◌}
use Rattle.std.proofs.lemmas.Result.{IfOk-weaker}
use Rattle.es_steps.specs.Expressions.{the_code}
use Rattle.es_code_members.specs.MembersView.{member_of}
use Rattle.es_code_reading.specs.Contexts.{context_of}
use Rattle.es_code_places.proofs.PrivateForms.{asked}
use Rattle.es_code_places.proofs.private.private_in_of.Goals as goal

pub returns-in-PrivateName : goal.returns-in-PrivateName
returns-in-PrivateName c = IfOk-weaker c.private_in.result _ _ (λ e h. h ∙ sym (asked (context_of c.args.c.now) c.args.node (the_code (member_of c.args.object.now)) c.args.key.now c.in-PrivateName.node c.in-PrivateName.spelling c.in-PrivateName.means c.in-PrivateName.is)) c.private_in.ensures
