-- Heads of loops with a value, and the generated names that are given values in it.
use Rattle.std.specs.Prelude.{ℕ, List, [], ◌∷◌, ◌++◌, map, Bool, true, cond, not, ◌&&◌, ◌||◌}
use Rattle.std.specs.Str.{chars}
use Rattle.std.proofs.Common.{Bor}
use Rattle.es_base.specs.Conforms.{is_among}
use Rattle.es_base.specs.Preorder.{preorder_of_part}
use Rattle.es_base.specs.Tree.{Tree, Part, Node, absent}
use Rattle.es_base.specs.declared.kind.Kind.{Kind}
use Rattle.es_base.specs.declared.ledger.LedgerEntry.{LedgerEntry}
use Rattle.es_lowered.specs.ClassNames.{numbers_of}
use Rattle.es_lowered.specs.HeadValues.{first_value, given_inside, head_value}
use Rattle.es_steps.specs.Context.{is_generated}
use Rattle.es_steps.specs.Parts.{at, items}
use Rattle.es_steps.specs.References.{Reference, has_number}
use Rattle.es_steps.specs.Values.{String}

-- names in code
abbrev pub spelled : List (Bor (List ℕ)) → List String
spelled ss = map (λ s. chars s.now) ss

-- `a = e`: e
abbrev pub value_of : Tree → Part
value_of (Node Kind.VariableDeclarator m span semantic_id ps) = at 1 ps
value_of t = absent

-- `var a = e`: e
abbrev pub declared_value : Tree → Part
declared_value (Node Kind.VariableDeclaration m span semantic_id ps) = first_value (items (at 1 ps))
declared_value t = absent

abbrev pub head_stays : List LedgerEntry → List Reference → Tree → Bool
head_stays ledger all (Node kind m span semantic_id ps) = given_inside ledger (numbers_of (preorder_of_part (head_value kind ps))) all all

-- the generated names that are given a value by one of these references, among those inside
abbrev pub is_given : List LedgerEntry → List ℕ → Reference → Bool
is_given ledger inside r = r.writes && (is_generated r.spelling ledger && has_number r.number inside)

abbrev pub names_given : List LedgerEntry → List ℕ → List Reference → List String
names_given ledger inside [] = []
names_given ledger inside (r ∷ rs) = cond (is_given ledger inside r) (r.spelling ∷ []) [] ++ names_given ledger inside rs

-- whether the references to these names stand inside
abbrev pub stay_inside : List String → List ℕ → List Reference → Bool
stay_inside ss inside [] = true
stay_inside ss inside (r ∷ rs) = (not (is_among r.spelling ss) || has_number r.number inside) && stay_inside ss inside rs
