-- What is written in a source, as code looks it up.
use Rattle.std.specs.Prelude.{ℕ, List, Bool, cond, not, ◌&&◌, ◌||◌}
use Rattle.es_base.specs.Tree.{Tree, Parts, Node}
use Rattle.es_base.specs.declared.kind.Kind.{Kind}
use Rattle.es_steps.specs.KeptNodes.{stands_equal}
use Rattle.es_steps.specs.Parts.{at, string_of}
use Rattle.es_steps.specs.References.{has_number}
use Rattle.es_steps.specs.SameTrees.{same_kind, same_parts}
use Rattle.es_lowered.specs.Texts.{begins_with, has_name, is_literal_among, is_not_copied, is_plain}

abbrev pub is_character_of : ℕ → Tree → Bool
is_character_of c (Node kind n span semantic_id ps) = has_name kind && has_number c (string_of (at 0 ps))

abbrev pub is_beginning_of : ℕ → Tree → Bool
is_beginning_of c (Node kind n span semantic_id ps) = has_name kind && begins_with c (string_of (at 0 ps))

abbrev pub is_copy_of : Kind → Parts → Tree → Bool
is_copy_of kind qs (Node k n span semantic_id ps) = same_kind kind k && same_parts qs ps

abbrev pub is_written_literal : Bool → List Tree → Tree → Bool
is_written_literal is_new ps (Node kind n span semantic_id qs) = cond is_new (is_plain (at 0 qs) || (is_literal_among qs ps && not (is_not_copied (at 0 qs)))) (stands_equal (Node kind n span semantic_id qs) ps)
