-- Strings of nodes.
use Rattle.std.proofs.Common.{◌≡◌, refl, []}
use Rattle.std.specs.Str.{chars}
use Rattle.std.proofs.lemmas.Str.{chars-nil}
use Rattle.es_base.specs.Tree.{Tree, Node, child}
use Rattle.es_node.specs.View.{parts_in}
use Rattle.es_steps.specs.Context.{name_in}
use Rattle.es_steps.specs.Parts.{at, string_of}

pub no_characters : chars [] ≡ []
no_characters = chars-nil

pub named_node : (t : Tree) → name_in (child t) ≡ string_of (at 0 (parts_in t))
named_node (Node kind m span semantic_id ps) = refl
