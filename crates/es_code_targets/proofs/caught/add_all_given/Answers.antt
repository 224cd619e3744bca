use Rattle.std.proofs.Common.{◌≡◌, refl, sym, ap, ◌∙◌, ◌≤◌, ◌<◌, length, get_or, arith}
use Rattle.es_codes.specs.CodeView.{code_of, codes_of}
use Rattle.es_codes.specs.declared.code.Code.{Code}
use Rattle.es_steps.specs.Code.{and, done, joined}
use Rattle.es_steps.specs.Statements.{given_codes}
use Rattle.es_code_members.proofs.Moved.{ended}
use Rattle.es_code_targets.proofs.Taking.{given_step}
use Rattle.es_code_targets.proofs.caught.add_all_given.Goals as goal

pub loop-parameter-preserved : goal.loop-parameter-preserved
loop-parameter-preserved c =
    let here : c.loop-parameter.parameter-index < length c.loop-parameter.parameters = omega arith in
    let this : c.parameter-item.result ≡ get_or c.loop-parameter.parameters c.loop-parameter.parameter-index c.parameter-item.result = cc in
    given_step c.args.node c.loop-parameter.parameters c.loop-parameter.parameter-index c.parameter-item.result c.add_given.new.parameter (codes_of c.loop-parameter.to) (codes_of c.add_given.new.to) _ here this (c.in_ok-add_given.ensures ∙ ap (λ (z : Code). joined (codes_of c.loop-parameter.to) (given_codes c.args.node (and (code_of z) done))) (sym this)) c.loop-parameter.invariant

pub returns : goal.returns
returns c =
    let past : length c.loop-parameter.parameters ≤ c.loop-parameter.parameter-index = omega arith in
    ended (λ xs. given_codes c.args.node (codes_of xs)) refl c.loop-parameter.parameters c.loop-parameter.parameter-index _ _ past c.loop-parameter.invariant
