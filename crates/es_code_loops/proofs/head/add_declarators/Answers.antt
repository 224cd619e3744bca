use Rattle.std.proofs.Common.{◌≡◌, refl, sym, ap, ◌∙◌, ◌≤◌, ◌<◌, length, get_or, arith}
use Rattle.es_code_members.proofs.Moved.{ended}
use Rattle.es_codes.specs.CodeView.{code_of, codes_of}
use Rattle.es_codes.specs.declared.code.Code.{Code}
use Rattle.es_steps.specs.Code.{and, done, gives_to, joined}
use Rattle.es_steps.specs.Statements as spec
use Rattle.es_code_loops.proofs.HeadForms.{initialized_step, target_step}
use Rattle.es_code_loops.proofs.head.add_declarators.Goals as goal

pub loop-declarator-preserved : goal.loop-declarator-preserved
loop-declarator-preserved c =
    let here : c.loop-declarator.declarator-index < length c.loop-declarator.declarators = omega arith in
    let this : c.declarator-item.result ≡ get_or c.loop-declarator.declarators c.loop-declarator.declarator-index c.declarator-item.result = cc in (
      initialized_step c.loop-declarator.declarators c.loop-declarator.declarator-index c.declarator-item.result c.add_declarator.new.declarator (codes_of c.loop-declarator.initializers) (codes_of c.add_declarator.new.initializers) _ here this (c.in_ok-add_declarator.ensures.initializers ∙ ap (λ (z : Code). joined (codes_of c.loop-declarator.initializers) (spec.is_initialized (code_of z))) (sym this)) c.loop-declarator.invariant.0,
      target_step c.args.node c.loop-declarator.declarators c.loop-declarator.declarator-index c.declarator-item.result c.add_declarator.new.declarator (codes_of c.loop-declarator.targets) (codes_of c.add_declarator.new.targets) _ here this (c.in_ok-add_declarator.ensures.targets ∙ ap (λ (z : Code). joined (codes_of c.loop-declarator.targets) (and (gives_to c.args.node (spec.declared_target (code_of z))) done)) (sym this)) c.loop-declarator.invariant.1,
    )

pub returns-clause-initializers : goal.returns-clause-initializers
returns-clause-initializers c =
    let past : length c.loop-declarator.declarators ≤ c.loop-declarator.declarator-index = omega arith in
    ended (λ xs. spec.initialized_first (codes_of xs)) refl c.loop-declarator.declarators c.loop-declarator.declarator-index _ _ past c.loop-declarator.invariant.0

pub returns-clause-targets : goal.returns-clause-targets
returns-clause-targets c =
    let past : length c.loop-declarator.declarators ≤ c.loop-declarator.declarator-index = omega arith in
    ended (λ xs. spec.given_targets c.args.node (codes_of xs)) refl c.loop-declarator.declarators c.loop-declarator.declarator-index _ _ past c.loop-declarator.invariant.1
