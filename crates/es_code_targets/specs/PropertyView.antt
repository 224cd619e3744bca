-- The members of a property, in code.
use Rattle.es_steps.specs.Members.{Members, end, more}
use Rattle.es_code_members.specs.MembersView.{member_of}
use Rattle.es_code_targets.specs.declared.pattern.PropertyMembers.{PropertyMembers}

abbrev pub members_of_property : PropertyMembers → Members
members_of_property p = more (member_of p.key) (more (member_of p.value) (more (member_of p.kind) (more (member_of p.is_method) (more (member_of p.is_shorthand) (more (member_of p.is_computed) end)))))
