-- Which node stands for which, node by node.
use Rattle.std.specs.Prelude.{List, [], ◌∷◌, Bool, false, not, ◌&&◌, ◌||◌, nat_eq}
use Rattle.es_base.specs.Tree.{Tree, Parts}
use Rattle.es_base.specs.declared.kind.Kind.{Kind}
use Rattle.es_lowered.specs.Carriers.{assigns_super, carries, is_made, keeps_form, may_question, no_odd_form, odd_form}
use Rattle.es_node.specs.View.{kind_of, number_in, parts_in}

-- whether a lowering makes such a node
abbrev pub is_made_so : Kind → Parts → Bool
is_made_so kind qs = (is_made kind && not (assigns_super kind qs)) && (keeps_form no_odd_form (odd_form kind qs) && may_question kind qs)

-- whether the second, of the source, may become the first
abbrev pub carries_node : Tree → Tree → Bool
carries_node q p = carries (kind_of p) (parts_in p) (kind_of q) (parts_in q)

abbrev pub is_carried_among : Tree → List Tree → Bool
is_carried_among q [] = false
is_carried_among q (p ∷ ps) = (nat_eq (number_in q) (number_in p) && carries_node q p) || is_carried_among q ps
