-- Strings that are no directives.
use Rattle.std.specs.Prelude.{Bool, true, false}
use Rattle.es_base.specs.Tree.{Tree, Node, end, more, literal}
use Rattle.es_base.specs.declared.kind.Kind.{Kind}
use Rattle.es_base.specs.declared.literal.LiteralValue.{LiteralValue}
use Rattle.es_base.specs.declared.literal.LiteralValue.TheVariants as literal_value

abbrev pub is_string_value : LiteralValue → Bool
is_string_value (literal_value.String s raw) = true
is_string_value v = false

abbrev pub is_string : Tree → Bool
is_string (Node Kind.Literal m span semantic_id (more (literal v) end)) = is_string_value v
is_string t = false
