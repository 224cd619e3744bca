use Rattle.std.proofs.Common.{◌≡◌, refl, sym, ap, ◌∙◌, ◌≤◌, ◌<◌, length, get_or, arith}
use Rattle.es_codes.specs.CodeView.{codes_of}
use Rattle.es_steps.specs.Code.{joined}
use Rattle.es_steps.specs.Members as spec
use Rattle.es_code_members.specs.MembersView.{member_of, members_of}
use Rattle.es_code_members.specs.declared.member.Member.{Member}
use Rattle.es_code_members.proofs.Moved as moved
use Rattle.es_code_members.proofs.operands.add_operands.Goals as goal

pub loop-member-preserved : goal.loop-member-preserved
loop-member-preserved c =
    let here : c.loop-member.member-index < length c.loop-member.members = omega arith in
    let this : c.member-item.result ≡ get_or c.loop-member.members c.loop-member.member-index c.member-item.result = cc in
    moved.member_operands c.loop-member.members c.loop-member.member-index c.member-item.result c.add_operands_of.new.member (codes_of c.loop-member.operands) (codes_of c.add_operands_of.new.operands) _ here this (c.in_ok-add_operands_of.ensures ∙ ap (λ (z : Member). joined (codes_of c.loop-member.operands) (spec.operands_of (member_of z))) (sym this)) c.loop-member.invariant

pub returns : goal.returns
returns c =
    let past : length c.loop-member.members ≤ c.loop-member.member-index = omega arith in
    moved.ended (λ xs. spec.operands (members_of xs)) refl c.loop-member.members c.loop-member.member-index _ _ past c.loop-member.invariant
