-- Copies of expressions that are written again: they have no numbers.
use Rattle.es_base.specs.Numbered.{unnumbered}
use Rattle.es_base.specs.Tree.{Tree, Part, Parts, Node, end, more, child, list}
use Rattle.es_base.specs.declared.kind.Kind.{Kind}

abbrev pub without_number : Tree → Tree
without_number (Node kind m span id ps) = Node kind unnumbered span id ps

abbrev pub item_without_number : Part → Part
item_without_number (child t) = child (without_number t)
item_without_number p = p

abbrev pub items_without_number : Parts → Parts
items_without_number end = end
items_without_number (more p ps) = more (item_without_number p) (items_without_number ps)

-- neither the node has a number, nor a string of a template
abbrev pub copy_of : Tree → Tree
copy_of (Node Kind.TemplateLiteral m span id (more (list quasis) rest)) = Node Kind.TemplateLiteral unnumbered span id (more (list (items_without_number quasis)) rest)
copy_of e = without_number e
