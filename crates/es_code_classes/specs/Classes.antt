-- Which identifiers declare classes, and the members of a class in code.
use Rattle.std.specs.Prelude.{ℕ, Option, Some, None}
use Rattle.es_steps.specs.Context.{NameKind, Generated}
use Rattle.es_steps.specs.Members.{Members, end, more}
use Rattle.es_code_members.specs.MembersView.{member_of}
use Rattle.es_code_classes.specs.declared.class.ClassMembers.{ClassMembers}

-- the identifier b declares a class, unless it is a generated name
abbrev pub declared_as : ℕ → NameKind → Option ℕ
declared_as b (Generated g) = None
declared_as b kind = Some b

abbrev pub class_members : ClassMembers → Members
class_members ps = more (member_of ps.name) (more (member_of ps.heritage) (more (member_of ps.body) end))
