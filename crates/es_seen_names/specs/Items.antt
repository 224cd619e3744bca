-- The items of a list in code.
use Rattle.es_base.specs.Tree.{Parts, end, nullable_trees, trees}
use Rattle.es_seen_names.specs.declared.parts.Items.{Items}

abbrev pub items_of : Items → Parts
items_of Items.None = end
items_of (Items.Nodes nodes) = trees nodes.now
items_of (Items.Holes nodes) = nullable_trees nodes.now
