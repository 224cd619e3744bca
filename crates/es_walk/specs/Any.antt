-- Where nothing is asked of nodes, all is settled.
use Rattle.std.specs.Prelude.{List, [], ◌∷◌}
use Rattle.es_base.specs.Tree.{Tree, Part, Parts, Node, end, more, child, absent, list, string, no_string, boolean, literal}
use Rattle.es_base.specs.declared.operator.VariableDeclarationKind.{VariableDeclarationKind}
use Rattle.es_ctx.specs.Stores.{declared}
use Rattle.es_ctx.specs.declared.stores.OpenList.{OpenList}
use Rattle.es_ctx.specs.declared.stores.Slot.{Slot}
use Rattle.es_walk.specs.Laws.{AllSettled, ItemSettled, ItemsSettled, PartSettled, PartsSettled}
use Rattle.es_walk.specs.SettledStores.{KeptSettled, ListSettled, ListsSettled, SlotsSettled}

-- of a node nothing is asked
abbrev pub Any : Tree → Type 0
Any t = Unit {0}

-- what holds of each node holds of a tree and all below it
module _ (settled : Tree → Type 0) (law : (t : Tree) → settled t) where
  mutual
    pub all_settled : (t : Tree) → AllSettled settled t
    all_settled (Node k i sp si ps) = (law (Node k i sp si ps), parts-settled ps)

    parts-settled : (ps : Parts) → PartsSettled settled ps
    parts-settled end = tt {0}
    parts-settled (more p ps) = (part-settled p, parts-settled ps)

    part-settled : (p : Part) → PartSettled settled p
    part-settled (child t) = all_settled t
    part-settled absent = tt {0}
    part-settled (list all) = items-settled all
    part-settled (string s) = tt {0}
    part-settled no_string = tt {0}
    part-settled (boolean b) = tt {0}
    part-settled (literal v) = tt {0}

    items-settled : (ps : Parts) → ItemsSettled settled ps
    items-settled end = tt {0}
    items-settled (more p ps) = (item-settled p, items-settled ps)

    item-settled : (p : Part) → ItemSettled settled p
    item-settled (child t) = all_settled t
    item-settled absent = tt {0}
    item-settled (list all) = tt {0}
    item-settled (string s) = tt {0}
    item-settled no_string = tt {0}
    item-settled (boolean b) = tt {0}
    item-settled (literal v) = tt {0}

pub any_settled : (t : Tree) → AllSettled Any t
any_settled = all_settled Any (λ t. tt {0})

kept : (ts : List Tree) → KeptSettled Any ts
kept [] = tt {0}
kept (t ∷ ts) = (any_settled t, kept ts)

slots : (ss : List Slot) → SlotsSettled Any ss
slots [] = tt {0}
slots (s ∷ ss) = (kept s.before, kept s.after, slots ss)

one_list : (l : OpenList) → ListSettled Any l
one_list l = (kept (declared VariableDeclarationKind.Var l.vars), kept (declared VariableDeclarationKind.Let l.lets), slots l.slots)

pub lists_settled : (ls : List OpenList) → ListsSettled Any ls
lists_settled [] = tt {0}
lists_settled (l ∷ ls) = (one_list l, lists_settled ls)
