-- Values of fields, as code tests them.
use Rattle.std.specs.Prelude.{Bool, false, bytes_eq, codes}
use Rattle.es_base.specs.Tree.{Tree, Node, end, more, literal}
use Rattle.es_base.specs.declared.kind.Kind.{Kind}
use Rattle.es_base.specs.declared.literal.LiteralValue.TheVariants as literal_value

-- `0`
abbrev pub is_zero : Tree → Bool
is_zero (Node Kind.Literal k span semantic_id (more (literal (literal_value.Number raw)) end)) = bytes_eq raw (codes "0")
is_zero t = false
