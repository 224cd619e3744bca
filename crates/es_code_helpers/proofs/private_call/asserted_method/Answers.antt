use Rattle.std.proofs.Common.{sym, ◌∙◌}
use Rattle.std.proofs.lemmas.Result.{IfOk-weaker}
use Rattle.es_seen_names.specs.PrivateMembers.{private_member_of}
use Rattle.es_code_helpers.proofs.Asserted.{method_of}
use Rattle.es_code_helpers.proofs.private_call.asserted_method.Goals as goal

pub returns-in-len3 : goal.returns-in-len3
returns-in-len3 c = IfOk-weaker c.read_method.result _ _ (λ e h. h ∙ sym (method_of c.args.node (private_member_of c.args.member.now) c.args.arguments.now _ _ c.in-len3.len_at_least c.in-len3.len_below c.result-item.is c.result-item-then-arguments-lt4.is)) c.read_method.ensures
