-- Functions that their class alone calls, node by node.
use Rattle.std.specs.Prelude.{ℕ, List, [], ◌∷◌, map, Bool}
use Rattle.std.specs.List.{list_any}
use Rattle.es_base.specs.Conforms.{is_among}
use Rattle.es_base.specs.Preorder.{number_of}
use Rattle.es_base.specs.Tree.{Tree, Part, Node, child}
use Rattle.es_base.specs.declared.kind.Kind.{Kind}
use Rattle.es_base.specs.declared.ledger.LedgerEntry.{LedgerEntry}
use Rattle.es_grouped.specs.Groups.{having}
use Rattle.es_lowered.specs.Definitions.{spelling}
use Rattle.es_lowered.specs.Timely.{Mark, method_name, needed_names, super_function, with_class, with_super}
use Rattle.es_steps.specs.Context.{generated_as}
use Rattle.es_steps.specs.Parts.{at}
use Rattle.es_steps.specs.PrivateNames.{PrivateMember}
use Rattle.es_steps.specs.Values.{String}
use Rattle.es_owed_timely.specs.declared.functions.SuperFunction.{SuperFunction}

abbrev pub method_in : List LedgerEntry → ℕ → String → List (ℕ × String)
method_in ledger m s = method_name m s (generated_as s ledger)

-- the function of a private method that a node declares
abbrev pub method_of : List LedgerEntry → Tree → List (ℕ × String)
method_of ledger (Node Kind.FunctionDeclaration m span semantic_id ps) = method_in ledger m (spelling (at 0 ps))
method_of ledger t = []

abbrev pub super_function_of : SuperFunction → ℕ × ℕ
super_function_of x = (x.node, x.class)

abbrev pub super_functions_of : List SuperFunction → List (ℕ × ℕ)
super_functions_of xs = map super_function_of xs

abbrev pub super_at : ℕ → Part → List (ℕ × ℕ)
super_at n (child t) = (number_of t, n) ∷ []
super_at n p = []

abbrev pub super_in : List LedgerEntry → Part → Part → List (ℕ × ℕ)
super_in ledger target p = super_function (generated_as (spelling target) ledger) p

-- the function for `super(..)` that a node gives to a generated name
abbrev pub super_of : List LedgerEntry → Tree → List (ℕ × ℕ)
super_of ledger (Node Kind.VariableDeclarator m span semantic_id ps) = super_in ledger (at 0 ps) (at 1 ps)
super_of ledger (Node Kind.AssignmentExpression m span semantic_id ps) = super_in ledger (at 1 ps) (at 2 ps)
super_of ledger t = []

-- whether name s has to be given in front of class n
abbrev pub needs : List PrivateMember → List LedgerEntry → String → ℕ → Bool
needs members ledger s n = is_among s (needed_names n members ledger)

-- whether the class of one of these functions that has this number passes
abbrev pub given_in : List (ℕ × ℕ) → (ℕ → Bool) → ℕ × Bool → Bool
given_in fs test g = list_any test (having g.0 fs)

-- marks as they count where such functions are called by their classes alone
abbrev pub called_marks : List LedgerEntry → List PrivateMember → List (ℕ × String) → List (ℕ × ℕ) → List Mark → List Mark → List Mark
called_marks ledger members methods supers all ms = map (λ m. with_super ledger members supers (with_class methods all m)) ms
