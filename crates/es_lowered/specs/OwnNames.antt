-- The own names of classes: those that a lowering may give, and those that it may not take. (Our own.)
use Rattle.std.specs.Prelude.{ℕ, List, [], ◌∷◌, ◌++◌, Bool, true, false, cond, not, ◌&&◌, ◌||◌, nat_eq}
use Rattle.es_base.specs.Conforms.{is_among}
use Rattle.es_base.specs.Preorder.{number_of, preorder, preorder_of_part}
use Rattle.es_base.specs.Tree.{Tree, Node, end, more, child, absent}
use Rattle.es_base.specs.declared.kind.Kind.{Kind}
use Rattle.es_base.specs.declared.ledger.LedgerEntry.{LedgerEntry}
use Rattle.es_lowered.specs.ClassNames.{MovedFunction, numbers_of, any_among, moved_functions, outside_class, reaching}
use Rattle.es_steps.specs.Parts.{at, string_of}
use Rattle.es_steps.specs.References.{Reference, resolve, has_number}
use Rattle.es_steps.specs.Values.{String, Referent, Bound}

abbrev pub is_bound_among : List ℕ → Referent → Bool
is_bound_among bs (Bound b) = has_number b bs
is_bound_among bs r = false

-- the references to these identifiers
abbrev pub references_to : List ℕ → List Reference → List ℕ
references_to bs [] = []
references_to bs (r ∷ rs) = cond (is_bound_among bs r.to) (r.number ∷ []) [] ++ references_to bs rs

-- ---- own names that are new

-- the identifier that is the own name of class expression n, where p declares a class n of that name
abbrev pub class_name_at : ℕ → Tree → List String
class_name_at n (Node Kind.ClassDeclaration m span semantic_id (more (child (Node kind b bspan b_semantic_id bs)) ps)) = cond (nat_eq n m) (string_of (at 0 bs) ∷ []) []
class_name_at n t = []

abbrev pub declares_class : ℕ → String → List Tree → Bool
declares_class n s [] = false
declares_class n s (t ∷ ts) = is_among s (class_name_at n t) || declares_class n s ts

-- or an own name that nothing refers to: what a class is named is no step
abbrev pub are_none : List ℕ → Bool
are_none [] = true
are_none (n ∷ ns) = false

abbrev pub own_name_number : Tree → List Reference → Tree → List ℕ
own_name_number p references (Node Kind.ClassExpression n span semantic_id (more (child (Node kind b bspan b_semantic_id bs)) ps)) = cond (declares_class n (string_of (at 0 bs)) (preorder p) || are_none (references_to (b ∷ []) references)) (b ∷ []) []
own_name_number p references t = []

abbrev pub own_name_numbers : Tree → List Reference → List Tree → List ℕ
own_name_numbers p references [] = []
own_name_numbers p references (t ∷ ts) = own_name_number p references t ++ own_name_numbers p references ts

-- ---- a class expression that was a declaration, without its name

-- the identifier of class declaration n
abbrev pub identifier_at : ℕ → Tree → List ℕ
identifier_at n (Node Kind.ClassDeclaration m span semantic_id (more (child (Node kind b bspan b_semantic_id bs)) ps)) = cond (nat_eq n m) (b ∷ []) []
identifier_at n t = []

abbrev pub identifiers_at : ℕ → List Tree → List ℕ
identifiers_at n [] = []
identifiers_at n (t ∷ ts) = identifier_at n t ++ identifiers_at n ts

abbrev pub any_stands : List ℕ → List Tree → Bool
any_stands ns [] = false
any_stands ns (t ∷ ts) = has_number (number_of t) ns || any_stands ns ts

-- such a class reads the name around it, which is given a value behind the class and what runs with it
abbrev pub loses_name : List Tree → List Reference → Tree → Bool
loses_name ps references (Node Kind.ClassExpression n span semantic_id (more absent (more heritage (more body rest)))) = any_stands (references_to (identifiers_at n ps) references) (preorder_of_part body)
loses_name ps references t = false

abbrev pub none_loses_name : List Tree → List Reference → List Tree → Bool
none_loses_name ps references [] = true
none_loses_name ps references (t ∷ ts) = not (loses_name ps references t) && none_loses_name ps references ts

-- ---- nor does what a `let` of a declared class is initialized with read that `let`, which is not there yet

abbrev pub class_identifier : Tree → List ℕ
class_identifier (Node Kind.ClassDeclaration m span semantic_id (more (child (Node kind b bspan b_semantic_id bs)) ps)) = b ∷ []
class_identifier t = []

abbrev pub class_identifiers : List Tree → List ℕ
class_identifiers [] = []
class_identifiers (t ∷ ts) = class_identifier t ++ class_identifiers ts

-- whether declarator m declares identifier b
abbrev pub declares_by : ℕ → ℕ → Tree → Bool
declares_by m b (Node Kind.VariableDeclarator n span semantic_id (more (child (Node kind k kspan k_semantic_id ks)) rest)) = nat_eq m n && nat_eq b k
declares_by m b t = false

abbrev pub any_declares : ℕ → ℕ → List Tree → Bool
any_declares m b [] = false
any_declares m b (t ∷ ts) = declares_by m b t || any_declares m b ts

-- ps are the nodes of the source, where no such declarator is; what is read by functions of generated names that are called there,
-- which do not hold the declarator, counts
module _ (ledger : List LedgerEntry) (fs : List MovedFunction) (ps qs : List Tree) (references : List Reference) where
  abbrev pub reads_itself : Tree → Bool
  reads_itself (Node Kind.VariableDeclarator m span semantic_id (more (child (Node kind b bspan b_semantic_id bs)) (more e end))) =
      not (any_declares m b ps) && (has_number b (class_identifiers ps) && any_among (numbers_of (preorder_of_part e)) (reaching ledger (outside_class (m ∷ []) fs) references qs (references_to (b ∷ []) references)))
  reads_itself t = false

  abbrev pub none_reads_itself : List Tree → Bool
  none_reads_itself [] = true
  none_reads_itself (t ∷ ts) = not (reads_itself t) && none_reads_itself ts

abbrev pub own_names_stay : List LedgerEntry → Tree → Tree → Bool
own_names_stay ledger p q = none_loses_name (preorder p) (resolve q) (preorder q) && none_reads_itself ledger (moved_functions ledger (preorder q)) (preorder p) (preorder q) (resolve q) (preorder q)
