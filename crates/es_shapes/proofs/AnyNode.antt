-- Whether a node passes a test, part by part.
use Rattle.std.proofs.Common.{◌≡◌, refl, Bool, not, ◌&&◌, ◌||◌}
use Rattle.std.specs.List.{list_any}
use Rattle.std.proofs.lemmas.List.Folds.{list_any-append}
use Rattle.es_base.specs.Preorder.{preorder, preorder_of, preorder_of_part}
use Rattle.es_base.specs.Tree.{Tree, Part, Parts, Node, more}
use Rattle.es_base.specs.declared.kind.Kind.{Kind}
use Rattle.es_node.specs.View.{kind_of, parts_in}
use Rattle.es_steps.specs.NameScopes.{is_any_function, holds, holds_in}

pub preorder_node : (test : Tree → Bool) (t : Tree) → list_any test (preorder t) ≡ (test t || list_any test (preorder_of (parts_in t)))
preorder_node test (Node kind m span semantic_id ps) = refl

pub any_more : (test : Tree → Bool) (p : Part) (ps : Parts) → list_any test (preorder_of (more p ps)) ≡ (list_any test (preorder_of_part p) || list_any test (preorder_of ps))
any_more test p ps = list_any-append test (preorder_of_part p) (preorder_of ps)

pub holds_node : (test : Kind → Parts → Bool) (t : Tree) → holds test t ≡ (test (kind_of t) (parts_in t) || (not (is_any_function (kind_of t)) && holds_in test (parts_in t)))
holds_node test (Node kind m span semantic_id ps) = refl
