-- Members and items that were read, in front of others; and members from the i-th on.
use Rattle.std.specs.Prelude.{ℕ, suc, List, [], ◌∷◌, Option}
use Rattle.es_base.specs.Tree as tree
use Rattle.es_base.specs.Tree.{Parts}
use Rattle.es_codes.specs.declared.code.Code.{Code}
use Rattle.es_steps.specs.Context.{Context}
use Rattle.es_steps.specs.Members as spec
use Rattle.es_steps.specs.Reading.{read_part}
use Rattle.es_code_members.specs.MembersView.{item_of, member_of}
use Rattle.es_code_members.specs.declared.member.Member.{Member}

abbrev pub members_onto : List Member → spec.Members → spec.Members
members_onto [] ms = ms
members_onto (p ∷ ps) ms = spec.more (member_of p) (members_onto ps ms)

abbrev pub items_onto : List (Option Code) → spec.Members → spec.Members
items_onto [] ms = ms
items_onto (c ∷ cs) ms = spec.more (item_of c) (items_onto cs ms)

-- the members that these parts are, from the i-th on
abbrev pub read_from : (ℕ → Context) → ℕ → Parts → spec.Members
read_from c i tree.end = spec.end
read_from c i (tree.more p ps) = spec.more (read_part (c i) p) (read_from c (suc i) ps)
