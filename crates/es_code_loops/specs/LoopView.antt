-- The members of a loop over values, in code.
use Rattle.std.specs.Prelude.{ℕ, Option, Some, None}
use Rattle.es_base.specs.declared.kind.Kind.{Kind}
use Rattle.es_steps.specs.Code.{Code, operation, steps, joined, one}
use Rattle.es_steps.specs.Events.{OfKind}
use Rattle.es_steps.specs.Expressions.{the_code}
use Rattle.es_steps.specs.Members.{Members, end, more, at, from, details, codes_of}
use Rattle.es_steps.specs.Statements.{head_initializers, head_targets}
use Rattle.es_code_members.specs.MembersView.{member_of}
use Rattle.es_code_members.specs.declared.member.Member.{Member}
use Rattle.es_code_loops.specs.declared.loops.LoopMembers.{LoopMembers}

abbrev pub awaiting : Option Member → Members
awaiting None = end
awaiting (Some m) = more (member_of m) end

abbrev pub members_of_loop : LoopMembers → Members
members_of_loop p = more (member_of p.head) (more (member_of p.right) (more (member_of p.body) (awaiting p.is_await)))

abbrev pub loop_code : Kind → ℕ → Members → Code
loop_code kind m ps =
    let head : Code = the_code (at 0 ps) in
    operation m (OfKind kind (details (from 1 ps))) (joined (head_initializers head) (codes_of (at 1 ps))) (one (steps (joined (head_targets m head) (codes_of (at 2 ps)))))
