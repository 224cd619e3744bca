-- The names that are bound at a node, and at one member of those behind the i-th.
use Rattle.std.proofs.Common.{◌≡◌, refl, ap, ◌∙◌, ℕ, ◌+◌, ◌<◌, List, [], ◌++◌, map, length, drop, get_or, cond, true, false}
use Rattle.std.proofs.lemmas.List.{at_drop_more}
use Rattle.es_base.specs.Table.{field_of, members_of}
use Rattle.es_base.specs.Tree.{Tree, Part, Parts, Node, more}
use Rattle.es_base.specs.declared.table.Member.{Member}
use Rattle.es_base.specs.declared.table.Place.{Place}
use Rattle.es_base.specs.declared.table.Sort.{Sort}
use Rattle.es_node.specs.View.{kind_of, number_in, parts_in}
use Rattle.es_steps.specs.Scopes.{no_class, is_binding_identifier, binds, declaration, bound_names, bound_members, bound_part}

-- what a list of members has past its end
abbrev pub any_member : Member
any_member = record { name = record { ref_ptr = (0, 0); now = [] }; sort = Sort.Child Place.Program }

bound_node : (t : Tree) → bound_names no_class t ≡ cond (is_binding_identifier (kind_of t)) (declaration no_class (number_in t) (parts_in t)) (bound_members no_class (members_of (kind_of t)) (parts_in t))
bound_node (Node kind m span semantic_id ps) = refl

pub bound_here : (t : Tree) → is_binding_identifier (kind_of t) ≡ true → bound_names no_class t ≡ declaration no_class (number_in t) (parts_in t)
bound_here t e = bound_node t ∙ ap (λ b. cond b (declaration no_class (number_in t) (parts_in t)) (bound_members no_class (members_of (kind_of t)) (parts_in t))) e

pub bound_below : (t : Tree) → is_binding_identifier (kind_of t) ≡ false → bound_names no_class t ≡ bound_members no_class (members_of (kind_of t)) (parts_in t)
bound_below t e = bound_node t ∙ ap (λ b. cond b (declaration no_class (number_in t) (parts_in t)) (bound_members no_class (members_of (kind_of t)) (parts_in t))) e

pub next_member : (ms : List Member) (i : ℕ) (m : Member) (p : Part) (ps : Parts) → i < length ms
    → bound_members no_class (map field_of (drop i ms)) (more p ps) ≡ cond (binds (get_or ms i m).sort) (bound_part no_class p) [] ++ bound_members no_class (map field_of (drop (i + 1) ms)) ps
next_member ms i m p ps below = at_drop_more (λ (xs : List Member). bound_members no_class (map field_of xs) (more p ps)) ms i m below
