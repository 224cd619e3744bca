-- `for (var a = e in o) s` evaluates e once, in front of the loop, though e stands in its head (ECMA-262, B.3.5): a generated name that
-- is given a value in e is read in e alone. (Our own.)
use Rattle.std.specs.Prelude.{ℕ, List, [], ◌∷◌, Bool, true, not, ◌&&◌, ◌||◌, bytes_eq}
use Rattle.es_base.specs.Preorder.{preorder_of_part}
use Rattle.es_base.specs.Tree.{Tree, Part, Parts, Node, more, child, absent}
use Rattle.es_base.specs.declared.kind.Kind.{Kind}
use Rattle.es_base.specs.declared.ledger.LedgerEntry.{LedgerEntry}
use Rattle.es_lowered.specs.ClassNames.{numbers_of}
use Rattle.es_steps.specs.Context.{is_generated}
use Rattle.es_steps.specs.Parts.{at, items}
use Rattle.es_steps.specs.References.{Reference, has_number}
use Rattle.es_steps.specs.Values.{String}

-- `a = e`: e
abbrev pub first_value : Parts → Part
first_value (more (child (Node Kind.VariableDeclarator m span semantic_id ps)) rest) = at 1 ps
first_value ps = absent

-- `for (var a = e in o) s`: e
abbrev pub head_value : Kind → Parts → Part
head_value Kind.ForInStatement (more (child (Node Kind.VariableDeclaration m span semantic_id ps)) rest) = first_value (items (at 1 ps))
head_value kind ps = absent

-- all are the references of the lowered program, inside the numbers of such a value
module _ (ledger : List LedgerEntry) (inside : List ℕ) (all : List Reference) where
  abbrev pub stands_inside : String → List Reference → Bool
  stands_inside s [] = true
  stands_inside s (r ∷ rs) = (not (bytes_eq s r.spelling) || has_number r.number inside) && stands_inside s rs

  abbrev pub given_inside : List Reference → Bool
  given_inside [] = true
  given_inside (r ∷ rs) = (not (r.writes && (is_generated r.spelling ledger && has_number r.number inside)) || stands_inside r.spelling all) && given_inside rs

abbrev pub head_values_stay : List LedgerEntry → List Reference → List Tree → Bool
head_values_stay ledger all [] = true
head_values_stay ledger all (Node kind m span semantic_id ps ∷ ts) = given_inside ledger (numbers_of (preorder_of_part (head_value kind ps))) all all && head_values_stay ledger all ts
