-- What stands as a program is a program.
use Rattle.std.proofs.Common.{◌≡◌, refl, true, false, Bool, ◌&&◌}
use Rattle.es_base.specs.Conforms.{conforms}
use Rattle.es_base.specs.Table.{stands_in}
use Rattle.es_base.specs.Tree.{Tree, Node}
use Rattle.es_base.specs.declared.kind.Kind.{Kind}
use Rattle.es_base.specs.declared.table.Place.{Place}
use Rattle.es_node.specs.View.{kind_of}

stands : (kind : Kind) → stands_in Place.Program kind ≡ true → kind ≡ Kind.Program
stands Kind.Program h = refl
stands kind h = absurd (cc)

first_of : (a b : Bool) → (a && b) ≡ true → a ≡ true
first_of true b h = refl
first_of false b h = h

pub kind_of_program : (t : Tree) → conforms Place.Program t ≡ true → kind_of t ≡ Kind.Program
kind_of_program (Node kind id span semantic_id ps) h = stands kind (first_of (stands_in Place.Program kind) _ h)
