-- Strings of nodes.
use Rattle.std.proofs.Common.{◌≡◌, refl, []}
use Rattle.std.specs.Str.{chars}
use Rattle.std.proofs.lemmas.Str.{chars-nil}
use Rattle.es_base.specs.Tree.{Tree, Node, child}
use Rattle.es_node.specs.View.{parts_in}
use Rattle.es_steps.specs.Parts.{at, string_of}
use Rattle.es_steps.specs.Printable.{name_of_part}

pub name_in : (t : Tree) → name_of_part (child t) ≡ string_of (at 0 (parts_in t))
name_in (Node kind m span semantic_id ps) = refl

pub no_string_chars : chars [] ≡ []
no_string_chars = chars-nil
