-- What stands at a member where no node does.
use Rattle.es_base.specs.Tree as tree
use Rattle.es_base.specs.Tree.{Part}
use Rattle.es_steps.specs.Members.{Member, absent, string, no_string, boolean, literal}

abbrev pub leaf_of : Part → Member
leaf_of (tree.string s) = string s
leaf_of tree.no_string = no_string
leaf_of (tree.boolean b) = boolean b
leaf_of (tree.literal v) = literal v
leaf_of p = absent
