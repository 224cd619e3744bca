use Rattle.std.proofs.Common.{◌≡◌, refl, sym, ap, ◌∙◌, ◌≤◌, ◌<◌, length, get_or, arith}
use Rattle.es_codes.specs.CodeView.{code_of, codes_of}
use Rattle.es_codes.specs.declared.code.Code.{Code}
use Rattle.es_steps.specs.Code.{and, done, joined}
use Rattle.es_steps.specs.Statements as spec
use Rattle.es_code_members.proofs.Moved.{ended}
use Rattle.es_code_declarations.proofs.LetForms.{let_step}
use Rattle.es_code_declarations.proofs.declaration.undefined_lets.Goals as goal

pub loop-declarator-preserved : goal.loop-declarator-preserved
loop-declarator-preserved c =
    let here : c.loop-declarator.declarator-index < length c.loop-declarator.declarators = omega arith in
    let this : c.declarator-item.result ≡ get_or c.loop-declarator.declarators c.loop-declarator.declarator-index c.declarator-item.result = cc in
    let_step c.loop-declarator.declarators c.loop-declarator.declarator-index c.declarator-item.result c.add_undefined_let.new.declarator (codes_of c.loop-declarator.all) (codes_of c.add_undefined_let.new.to) _ here this (c.in_ok-add_undefined_let.ensures ∙ ap (λ (z : Code). joined (codes_of c.loop-declarator.all) (spec.undefined_lets (and (code_of z) done))) (sym this)) c.loop-declarator.invariant

pub returns : goal.returns
returns c =
    let past : length c.loop-declarator.declarators ≤ c.loop-declarator.declarator-index = omega arith in
    ended (λ xs. spec.undefined_lets (codes_of xs)) refl c.loop-declarator.declarators c.loop-declarator.declarator-index _ _ past c.loop-declarator.invariant
