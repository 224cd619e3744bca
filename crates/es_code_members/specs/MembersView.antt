-- The members of a node with the codes of its children, in code.
use Rattle.std.specs.Prelude.{List, [], ◌∷◌, Option, Some, None}
use Rattle.es_codes.specs.CodeView.{code_of}
use Rattle.es_codes.specs.declared.code.Code.{Code}
use Rattle.es_steps.specs.Members as spec
use Rattle.es_code_members.specs.declared.member.Member.{Member}
use Rattle.es_code_members.specs.declared.member.Member.TheVariants as member

abbrev pub item_of : Option Code → spec.Member
item_of (Some c) = spec.code (code_of c)
item_of None = spec.absent

abbrev pub items_in : List (Option Code) → spec.Members
items_in [] = spec.end
items_in (c ∷ cs) = spec.more (item_of c) (items_in cs)

abbrev pub member_of : Member → spec.Member
member_of (member.Code c) = spec.code (code_of c)
member_of member.Absent = spec.absent
member_of (member.List cs) = spec.list (items_in cs)
member_of (member.String s) = spec.string s
member_of member.NoString = spec.no_string
member_of (member.Boolean b) = spec.boolean b
member_of (member.Literal v) = spec.literal v

abbrev pub members_of : List Member → spec.Members
members_of [] = spec.end
members_of (p ∷ ps) = spec.more (member_of p) (members_of ps)
