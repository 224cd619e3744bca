-- What a part of a node declares, and what is known there.
use Rattle.std.specs.Prelude.{◌≡◌, ℕ, ◌++◌}
use Rattle.es_base.specs.Tree.{Tree}
use Rattle.es_code_reading.specs.Contexts.{Seen, context_of, context_with, where_seen}
use Rattle.es_code_reading.specs.declared.context.Context.{Context}
use Rattle.es_node.specs.View.{kind_of, number_in, parts_in}
use Rattle.es_seen_names.specs.Declarations.{declarations}
use Rattle.es_seen_names.specs.PrivateMembers.{private_members_of}
use Rattle.es_steps.specs.Context as spec
use Rattle.es_steps.specs.PrivateNames.{seen_members}
use Rattle.es_steps.specs.References.{names_around}
use Rattle.es_steps.specs.Scopes.{names_at}
use Rattle.es_code_contexts.specs.declared.inside.Inside.{Inside}

pub record IsInside (s : Inside) (c : Context) (t : Tree) (i : ℕ) : Type 0 where
  pub names : declarations s.names.list.items ≡ spec.inner_name (kind_of t) (number_in t) (parts_in t) i ++ names_at c.around.is_body (kind_of t) (number_in t) (parts_in t) i
  pub members : private_members_of s.members.items ≡ seen_members (kind_of t) (number_in t) (parts_in t) i
  pub names_around : declarations s.names_around.list.items ≡ names_around c.around.is_body (kind_of t) (number_in t) (parts_in t) i
  pub around : (seen : Seen) → context_with c.terms.now seen s.around ≡ where_seen seen (spec.inside (context_of c) (kind_of t) (number_in t) (parts_in t) i)
