use Rattle.std.proofs.Common.{◌≡◌, ap, ◌∙◌, get_or, arith}
use Rattle.es_code_reading.specs.Contexts.{context_of}
use Rattle.es_code_generated_calls.proofs.MemberForms.{number_second}
use Rattle.es_code_generated_calls.specs.MemberCalls.{number_of}
use Rattle.es_code_generated_calls.proofs.member.number_of_second.Goals as goal

pub returns-in-len3 : goal.returns-in-len3
returns-in-len3 c =
    let key : c.key-item.result ≡ get_or c.args.arguments.now 1 c.key-item.result = cc in
    c.number_of.ensures
    ∙ ap number_of c.loose_key.ensures
    ∙ number_second (context_of c.args.c.now) c.args.arguments.now c.key-item.result (omega arith) (omega arith) key
