use Rattle.std.proofs.Common.{List, sym, ap, ◌∙◌}
use Rattle.std.proofs.lemmas.Result.{IfOk-weaker}
use Rattle.es_codes.specs.CodeView.{code_of, codes_of}
use Rattle.es_codes.specs.declared.code.Code.{Code}
use Rattle.es_steps.specs.Code as of
use Rattle.es_steps.specs.GeneratedForms.{left_of}
use Rattle.es_code_conditionals.proofs.EndForms.{asked_once, asked_twice}
use Rattle.es_code_conditionals.proofs.conditional.chain_behind.Goals as goal

pub returns-in-Logical : goal.returns-in-Logical
returns-in-Logical c = IfOk-weaker c.chain_behind_two.result _ _ (λ e h. h ∙ sym (asked_twice c.args.node (code_of c.args.rest) c.args.test c.in-Logical.node c.in-Logical.operator c.in-Logical.left c.in-Logical.right c.in-Logical.is)) c.chain_behind_two.ensures

pub returns-in_default : goal.returns-in_default
returns-in_default c =
    IfOk-weaker c.tested_chain.result _ _ (λ e h.
    h
    ∙ ap (λ o. of.chain c.args.node (of.tested o (codes_of c.new.result) (code_of c.args.rest))) c.left_of.ensures
    ∙ ap (λ (cs : List Code). of.chain c.args.node (of.tested (left_of (code_of c.args.test)) (codes_of cs) (code_of c.args.rest))) c.new.ensures
    ∙ sym (asked_once c.args.node (code_of c.args.rest) c.args.test c.in_default.not-Logical)) c.tested_chain.ensures
