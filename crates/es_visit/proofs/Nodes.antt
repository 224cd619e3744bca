-- What is entered at a node, from its hooks and its parts.
use Rattle.std.specs.Prelude.{◌≡◌, List, Bool, true}
use Rattle.es_base.specs.Tree.{Tree, Parts, Node}
use Rattle.es_base.specs.declared.kind.Kind.{Kind}
use Rattle.es_node.specs.View.{kind_of, parts_in}
use Rattle.es_visit.specs.Reading.{Hook, Entry, chosen, hooks_of, entered, reading, reading_below}
use Rattle.es_visit.specs.Roles.{is_computed}
use Rattle.es_visit.specs.declared.roles.Role.{Role}

pub node_read : {S : Type 0} (leads : S → List Entry → S → Type 0) (goes : Hook → Tree → Bool) (role : Role) (t : Tree) (k k2 : Kind) (computed b : Bool) (ps : Parts) (s m : S) (rest : List Entry) (e : S)
    → k ≡ kind_of t → k2 ≡ kind_of t → computed ≡ is_computed k2 ps → parts_in t ≡ ps → b ≡ true
    → ((below rest : List Entry) (end : S) → leads m (chosen b below rest) end → leads s (entered goes (hooks_of role (kind_of t)) t below rest) end)
    → leads m (reading_below goes k computed 0 ps rest) e → leads s (reading goes role t rest) e
node_read leads goes role (Node kind id span semantic_id parts) k k2 computed b ps s m rest e ik ik2 ic ip ib enter below =
    let moved : leads m (reading_below goes kind (is_computed kind parts) 0 parts rest) e = rw (ik, ic, ik2, ← ip) at below in
    enter (reading_below goes kind (is_computed kind parts) 0 parts rest) rest e (rw ib moved)
