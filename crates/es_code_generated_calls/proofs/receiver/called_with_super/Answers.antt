use Rattle.std.proofs.Common.{sym, ◌∙◌}
use Rattle.es_code_generated_calls.proofs.ReceiverForms.{on_super_call}
use Rattle.es_code_generated_calls.proofs.receiver.called_with_super.Goals as goal

pub returns-in-SuperCall : goal.returns-in-SuperCall
returns-in-SuperCall c = c.super_received.ensures ∙ sym (on_super_call c.args.node c.args.class c.args.name c.args.constructed c.in-SuperCall.node c.in-SuperCall.constructed c.in-SuperCall.behind c.in-SuperCall.arguments c.in-SuperCall.is)
