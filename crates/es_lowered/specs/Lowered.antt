-- What a lowered program owes, whatever it means: its numbers, that nothing is left to lower, and what its new names
-- are. (Our own. p is the source, q what it was lowered to, `first` the number of the first new node.)
use Rattle.std.specs.Prelude.{◌≡◌, ℕ, List, [], ◌∷◌, ◌++◌, Bool, true, false, cond, not, ◌&&◌, ◌||◌, bytes_eq, nat_eq, codes, is_some}
use Rattle.es_base.specs.Carried.{stripped}
use Rattle.es_base.specs.Numbered.{IsNumbered, is_new}
use Rattle.es_base.specs.Preorder.{preorder, preorder_of_part, number_of}
use Rattle.es_base.specs.Tree.{Tree, Part, Parts, Node, end, more, child, list, string}
use Rattle.es_base.specs.declared.kind.Kind.{Kind}
use Rattle.es_base.specs.declared.ledger.GeneratedKind.{GeneratedKind}
use Rattle.es_base.specs.declared.ledger.LedgerEntry.{LedgerEntry}
use Rattle.es_steps.specs.Context.{is_generated}
use Rattle.es_lowered.specs.Carriers.{numbers_carried}
use Rattle.es_lowered.specs.ClassNames.{class_numbers, numbers_of, without}
use Rattle.es_lowered.specs.Definitions.{spelling, field_part, names_class, class_identifiers, definitions_stand, all_temporaries, all_different, elements_kept}
use Rattle.es_steps.specs.GeneratedForms.{if_member, is_instance_field, is_static_field, is_function_member}
use Rattle.es_lowered.specs.KeptKeys.{keys_that_stay}
use Rattle.es_lowered.specs.HelperCalls.{is_helper_callee, helper_calls_fit}
use Rattle.es_lowered.specs.KeptReferences.{references_stay}
use Rattle.es_steps.specs.KeptNodes.{statement_list, is_function_declaration, is_underscored, nodes_kept, classes_kept, statements_kept, lists_kept, homes_kept}
use Rattle.es_steps.specs.LoweredClasses.{has_lowered_class, is_private_key, nothing_left}
use Rattle.es_steps.specs.Options.{lowers_fields}
use Rattle.es_lowered.specs.OwnNames.{own_name_numbers, own_names_stay}
use Rattle.es_steps.specs.Parts.{at, items, string_of, is_present}
use Rattle.es_steps.specs.Printable.{stays_printable}
use Rattle.es_steps.specs.PrivateNames.{PrivateMember, private_members, member_at, is_a_field}
use Rattle.es_steps.specs.References.{Reference, resolve, has_number}
use Rattle.es_steps.specs.Scopes.{is_binding_identifier}
use Rattle.es_steps.specs.Strict.{none_becomes_strict}
use Rattle.es_lowered.specs.Temporaries.{class_before, nodes_of_class, temporaries_steady}
use Rattle.es_lowered.specs.Texts.{texts_stay}
use Rattle.es_lowered.specs.Timely.{names_timely}
use Rattle.es_steps.specs.Values.{String, Referent, Bound}
use Rattle.es_steps.specs.declared.options.Options.{Options}

-- ---- a program with nothing to lower comes back unchanged
abbrev pub IsUnchanged : Options → List LedgerEntry → Tree → Tree → Type 0
IsUnchanged o ledger p q = has_lowered_class o p ≡ false → (stripped q ≡ stripped p) × (ledger ≡ [])

-- ---- each generated name begins with `_`, and has one declaration, which is new, and all its references mean it

-- the declaring identifiers of this spelling
abbrev pub declaring_number : String → Tree → List ℕ
declaring_number s (Node kind b span semantic_id ps) = cond (is_binding_identifier kind && bytes_eq s (string_of (at 0 ps))) (b ∷ []) []

abbrev pub declaring_numbers : String → List Tree → List ℕ
declaring_numbers s [] = []
declaring_numbers s (t ∷ ts) = declaring_number s t ++ declaring_numbers s ts

abbrev pub is_bound_to : ℕ → Referent → Bool
is_bound_to b (Bound k) = nat_eq b k
is_bound_to b r = false

-- all references of this spelling mean this declaration
abbrev pub all_mean : String → ℕ → List Reference → Bool
all_mean s b [] = true
all_mean s b (r ∷ rs) = (not (bytes_eq s r.spelling) || is_bound_to b r.to) && all_mean s b rs

abbrev pub is_one_new : ℕ → String → Tree → List ℕ → Bool
is_one_new first s q (b ∷ []) = is_new first b && all_mean s b (resolve q)
is_one_new first s q bs = false

-- the private identifiers of this spelling that are keys in the body of class n
abbrev pub private_key : ℕ → String → Part → List ℕ
private_key first s (child (Node kind m span semantic_id (more (child (Node Kind.PrivateIdentifier d dspan d_semantic_id ds)) ps))) = cond (bytes_eq s (string_of (at 0 ds))) (d ∷ []) []
private_key first s p = []

abbrev pub private_keys : ℕ → String → Parts → List ℕ
private_keys first s end = []
private_keys first s (more p ps) = private_key first s p ++ private_keys first s ps

abbrev pub keys_of_body : ℕ → String → Part → List ℕ
keys_of_body first s (child (Node Kind.ClassBody m span semantic_id ps)) = private_keys first s (items (at 0 ps))
keys_of_body first s p = []

abbrev pub keys_of_class : ℕ → ℕ → String → Tree → List ℕ
keys_of_class first n s (Node kind m span semantic_id ps) = cond (nat_eq n m) (keys_of_body first s (at 2 ps)) []

abbrev pub keys_in : ℕ → ℕ → String → List Tree → List ℕ
keys_in first n s [] = []
keys_in first n s (t ∷ ts) = keys_of_class first n s t ++ keys_in first n s ts

abbrev pub is_one : ℕ → List ℕ → Bool
is_one first (d ∷ []) = is_new first d
is_one first ds = false

-- a private name is declared in the body of its class, each other name in a scope
abbrev pub declared_by_kind : ℕ → Tree → String → GeneratedKind → Bool
declared_by_kind first q s (GeneratedKind.Private n) = is_one first (keys_in first n.0 s (preorder q))
declared_by_kind first q s kind = is_one_new first s q (declaring_numbers s (preorder q))

-- private names of two classes may be spelled alike, and as other names; all else is named once
abbrev pub same_space : GeneratedKind → GeneratedKind → Bool
same_space (GeneratedKind.Private n) (GeneratedKind.Private k) = nat_eq n.0 k.0
same_space (GeneratedKind.Private n) g = false
same_space g (GeneratedKind.Private n) = false
same_space g h = true

abbrev pub is_named_again : LedgerEntry → List LedgerEntry → Bool
is_named_again e [] = false
is_named_again e (x ∷ xs) = (same_space e.kind x.kind && bytes_eq e.name x.name) || is_named_again e xs

-- one name for a member, and one for the brand of a class
abbrev pub same_subject : GeneratedKind → GeneratedKind → Bool
same_subject (GeneratedKind.WeakMap d) (GeneratedKind.WeakMap k) = nat_eq d.0 k.0
same_subject (GeneratedKind.StaticField d) (GeneratedKind.StaticField k) = nat_eq d.0 k.0
same_subject (GeneratedKind.Brand n) (GeneratedKind.Brand k) = nat_eq n.0 k.0
same_subject (GeneratedKind.Method d) (GeneratedKind.Method k) = nat_eq d.0 k.0
same_subject (GeneratedKind.LooseKey d) (GeneratedKind.LooseKey k) = nat_eq d.0 k.0
same_subject g h = false

abbrev pub has_another_name : GeneratedKind → List LedgerEntry → Bool
has_another_name g [] = false
has_another_name g (x ∷ xs) = same_subject g x.kind || has_another_name g xs

abbrev pub names_declared : ℕ → List LedgerEntry → Tree → Bool
names_declared first [] q = true
names_declared first (e ∷ es) q = (is_underscored e.name && not (is_named_again e es || has_another_name e.kind es)) && (declared_by_kind first q e.name e.kind && names_declared first es q)

-- ---- each new declaration is accounted for

-- a declaring identifier is old, or its name was generated, or it is such an own name
abbrev pub is_accounted : ℕ → List LedgerEntry → List ℕ → Tree → Bool
is_accounted first ledger own (Node kind b span semantic_id ps) = not (is_binding_identifier kind && is_new first b) || (is_generated (string_of (at 0 ps)) ledger || has_number b own)

-- a new declaration, and one with a new declarator, is a `var` or a `let`
abbrev pub has_new_declarator : ℕ → Parts → Bool
has_new_declarator first end = false
has_new_declarator first (more (child t) ps) = is_new first (number_of t) || has_new_declarator first ps
has_new_declarator first (more p ps) = has_new_declarator first ps

abbrev pub is_new_const : ℕ → Tree → Bool
is_new_const first (Node Kind.VariableDeclaration m span semantic_id ps) = (is_new first m || has_new_declarator first (items (at 1 ps))) && bytes_eq (string_of (at 0 ps)) (codes "const")
is_new_const first t = false

abbrev pub all_accounted : ℕ → List LedgerEntry → List ℕ → List Tree → Bool
all_accounted first ledger own [] = true
all_accounted first ledger own (t ∷ ts) = not (is_new_const first t) && (is_accounted first ledger own t && all_accounted first ledger own ts)

abbrev pub declarations_accounted : ℕ → List LedgerEntry → Tree → Tree → Bool
declarations_accounted first ledger p q = all_accounted first ledger (own_name_numbers p (resolve q) (preorder q)) (preorder q)

-- ---- each generated name that is initialized has its one initialization, of the form of its kind, in its place

-- what gives a name a value: an assignment, a declarator with an initializer, a declaration of a function or a class
abbrev pub spelled_as : String → Part → Bool
spelled_as s p = bytes_eq s (spelling p)

abbrev pub is_new_of : String → Part → Bool
is_new_of s (child (Node Kind.NewExpression m span semantic_id (more (child (Node Kind.IdentifierReference b bspan b_semantic_id (more (string t) end))) (more (list end) end)))) = bytes_eq s t
is_new_of s p = false

abbrev pub is_key_call : ℕ → Part → Bool
is_key_call first (child (Node Kind.CallExpression m span semantic_id (more f (more (list (more s end)) rest)))) = is_helper_callee first (codes "classPrivateFieldLooseKey") f
is_key_call first p = false

abbrev pub is_function_part : Part → Bool
is_function_part (child (Node Kind.FunctionExpression m span semantic_id ps)) = true
is_function_part (child (Node Kind.ArrowFunctionExpression m span semantic_id ps)) = true
is_function_part p = false

-- an assignment that is the first statement behind a class declaration: its number, and that of the class
abbrev pub class_number_in : Part → List ℕ
class_number_in (child (Node Kind.ClassDeclaration n span semantic_id ps)) = n ∷ []
class_number_in (child (Node Kind.ExportNamedDeclaration m span semantic_id (more (child (Node Kind.ClassDeclaration n nspan n_semantic_id ps)) rest))) = n ∷ []
class_number_in (child (Node Kind.ExportDefaultDeclaration m span semantic_id (more (child (Node Kind.ClassDeclaration n nspan n_semantic_id ps)) rest))) = n ∷ []
class_number_in p = []

abbrev pub assignment_number : Part → List ℕ
assignment_number (child (Node Kind.ExpressionStatement m span semantic_id (more (child (Node Kind.AssignmentExpression k kspan k_semantic_id ps)) directive))) = k ∷ []
assignment_number p = []

abbrev pub paired : List ℕ → List ℕ → List (ℕ × ℕ)
paired (k ∷ ks) (n ∷ ns) = (k, n) ∷ []
paired ks ns = []

abbrev pub pairs_behind : Parts → List (ℕ × ℕ)
pairs_behind end = []
pairs_behind (more p end) = []
pairs_behind (more p (more r rest)) = paired (assignment_number r) (class_number_in p) ++ pairs_behind (more r rest)

abbrev pub all_behind : List Tree → List (ℕ × ℕ)
all_behind [] = []
all_behind (Node kind m span semantic_id ps ∷ ts) = pairs_behind (statement_list kind ps) ++ all_behind ts

abbrev pub has_pair : ℕ → ℕ → List (ℕ × ℕ) → Bool
has_pair m n [] = false
has_pair m n (p ∷ ps) = (nat_eq m p.0 && nat_eq n p.1) || has_pair m n ps

-- a class temporary is given the class itself, or, as the first thing behind it, a name of it
abbrev pub is_class_itself : ℕ → Part → Bool
is_class_itself n (child (Node Kind.ClassExpression m span semantic_id ps)) = nat_eq n m
is_class_itself n p = false

abbrev pub is_class_kind : ℕ → GeneratedKind → Bool
is_class_kind n (GeneratedKind.ClassTemp k) = nat_eq n k.0
is_class_kind n g = false

abbrev pub is_method_kind : GeneratedKind → Bool
is_method_kind (GeneratedKind.Method d) = true
is_method_kind g = false

module _ (first : ℕ) (ledger : List LedgerEntry) (q : Tree) where
  abbrev pub is_class_value : ℕ → ℕ → Part → Bool
  is_class_value m n p = is_class_itself n p || (names_class n ledger (resolve q) (class_identifiers first n (preorder q)) p && has_pair m n (all_behind (preorder q)))

  -- whether a value is of the form that a name of this kind is given
  abbrev pub is_initial : ℕ → GeneratedKind → Part → Bool
  is_initial m (GeneratedKind.WeakMap d) p = is_new_of (codes "WeakMap") p
  is_initial m (GeneratedKind.StaticField d) p = is_present (field_part p)
  is_initial m (GeneratedKind.Brand n) p = is_new_of (codes "WeakSet") p
  is_initial m (GeneratedKind.Method d) p = is_function_part p
  is_initial m (GeneratedKind.LooseKey d) p = is_key_call first p
  is_initial m (GeneratedKind.SuperFn n) p = is_function_part p
  is_initial m (GeneratedKind.ClassTemp n) p = is_class_value m n.0 p
  is_initial m GeneratedKind.Closure p = is_function_part p
  is_initial m g p = true

  -- the initializations of a name of this kind that a node is: its number, and whether the form is right
  abbrev pub initialization_at : String → GeneratedKind → Kind → ℕ → Parts → List (ℕ × Bool)
  initialization_at s g Kind.AssignmentExpression m ps = cond (spelled_as s (at 1 ps)) ((m, is_initial m g (at 2 ps)) ∷ []) []
  initialization_at s g Kind.VariableDeclarator m ps = cond (spelled_as s (at 0 ps) && is_present (at 1 ps)) ((m, is_initial m g (at 1 ps)) ∷ []) []
  initialization_at s g Kind.FunctionDeclaration m ps = cond (spelled_as s (at 0 ps)) ((m, is_method_kind g) ∷ []) []
  initialization_at s g Kind.ClassDeclaration m ps = cond (spelled_as s (at 0 ps)) ((m, is_class_kind m g) ∷ []) []
  initialization_at s g Kind.ClassExpression m ps = cond (spelled_as s (at 0 ps)) ((m, is_class_kind m g) ∷ []) []
  -- the own name of a function is constant
  initialization_at s g Kind.FunctionExpression m ps = cond (spelled_as s (at 0 ps)) ((m, false) ∷ []) []
  initialization_at s g kind m ps = []

  abbrev pub initializations : String → GeneratedKind → List Tree → List (ℕ × Bool)
  initializations s g [] = []
  initializations s g (Node kind m span semantic_id ps ∷ ts) = initialization_at s g kind m ps ++ initializations s g ts

-- which of two numbers comes first in preorder
abbrev pub comes_before : ℕ → ℕ → List Tree → Bool
comes_before m n [] = false
comes_before m n (t ∷ ts) = cond (nat_eq m (number_of t)) true (cond (nat_eq n (number_of t)) false (comes_before m n ts))

abbrev pub is_declared_function : ℕ → List Tree → Bool
is_declared_function m [] = false
is_declared_function m (t ∷ ts) = (nat_eq m (number_of t) && is_function_declaration t) || is_declared_function m ts

abbrev pub all_before : ℕ → List ℕ → List Tree → Bool
all_before m [] qs = true
all_before m (n ∷ ns) qs = comes_before m n qs && all_before m ns qs

abbrev pub needs_none : GeneratedKind → Bool
needs_none GeneratedKind.Temp = true
needs_none GeneratedKind.Param = true
needs_none GeneratedKind.Args = true
needs_none (GeneratedKind.Private n) = true
needs_none kind = false

-- what a name belongs to is a member, or a class with private methods of its instances, of the source
abbrev pub has_branded : ℕ → List PrivateMember → Bool
has_branded n [] = false
has_branded n (x ∷ xs) = (nat_eq n x.class && (is_function_member x && not x.is_static)) || has_branded n xs

abbrev pub belongs : List PrivateMember → GeneratedKind → Bool
belongs members (GeneratedKind.WeakMap d) = is_some (if_member is_instance_field (member_at d.0 members))
belongs members (GeneratedKind.StaticField d) = is_some (if_member is_static_field (member_at d.0 members))
belongs members (GeneratedKind.Brand n) = has_branded n.0 members
belongs members (GeneratedKind.Method d) = is_some (if_member is_function_member (member_at d.0 members))
belongs members (GeneratedKind.LooseKey d) = is_some (if_member (λ x. is_a_field x.kind) (member_at d.0 members))
belongs members g = true

-- what stands in the functions of private methods, which run behind the class
abbrev pub private_numbers : List Tree → List ℕ
private_numbers [] = []
private_numbers (Node Kind.MethodDefinition m span semantic_id ps ∷ ts) = cond (is_private_key (at 0 ps)) (numbers_of (preorder_of_part (at 1 ps))) [] ++ private_numbers ts
private_numbers (t ∷ ts) = private_numbers ts

-- classes with those that stand in them, whose methods may use what these need; ps are the nodes of the source
abbrev pub with_inner : List Tree → List ℕ → List ℕ
with_inner ps [] = []
with_inner ps (n ∷ ns) = n ∷ (without (private_numbers (nodes_of_class n ps)) (class_numbers (nodes_of_class n ps)) ++ with_inner ps ns)

abbrev pub is_one_initialization : GeneratedKind → Tree → Tree → List (ℕ × Bool) → Bool
is_one_initialization g p q (i ∷ []) = i.1 && (is_declared_function i.0 (preorder q) || all_before i.0 (with_inner (preorder p) (class_before g (private_members p))) (preorder q))
is_one_initialization g p q is = false

-- a temporary is given a value by one assignment alone
abbrev pub is_temp : GeneratedKind → Bool
is_temp GeneratedKind.Temp = true
is_temp g = false

abbrev pub is_at_most_one : List (ℕ × Bool) → Bool
is_at_most_one [] = true
is_at_most_one (i ∷ []) = true
is_at_most_one is = false

abbrev pub initialization_stands : GeneratedKind → Tree → Tree → List (ℕ × Bool) → Bool
initialization_stands g p q is = (needs_none g && (not (is_temp g) || is_at_most_one is)) || (belongs (private_members p) g && is_one_initialization g p q is)

abbrev pub initializations_stand : ℕ → List LedgerEntry → Tree → Tree → List LedgerEntry → Bool
initializations_stand first ledger p q [] = true
initializations_stand first ledger p q (e ∷ es) = initialization_stands e.kind p q (initializations first ledger q e.name e.kind (preorder q)) && initializations_stand first ledger p q es

-- the temporaries of keys are given before their class
abbrev pub any_before : List (ℕ × Bool) → ℕ → List Tree → Bool
any_before [] n qs = false
any_before (i ∷ is) n qs = comes_before i.0 n qs || any_before is n qs

abbrev pub keys_before : ℕ → List LedgerEntry → Tree → List (String × ℕ) → Bool
keys_before first ledger q [] = true
keys_before first ledger q (p ∷ ps) = any_before (initializations first ledger q p.0 GeneratedKind.Temp (preorder q)) p.1 (preorder q) && keys_before first ledger q ps

abbrev pub keys_stand : ℕ → Options → List LedgerEntry → List PrivateMember → Tree → List (String × ℕ) → Bool
keys_stand first o ledger members q keys = not (lowers_fields o) || (all_different keys && keys_before first ledger q keys)

-- ---- the clauses

-- what a lowered program owes but for its numbers
pub record MeetsClauses (first : ℕ) (o : Options) (ledger : List LedgerEntry) (p q : Tree) : Type 0 where
  pub left : nothing_left o q ≡ true
  pub declared : names_declared first ledger q ≡ true
  pub accounted : declarations_accounted first ledger p q ≡ true
  pub names : own_names_stay ledger p q ≡ true
  pub references : references_stay first o ledger p q ≡ true
  pub strict : none_becomes_strict first p q ≡ true
  pub texts : texts_stay first p q ≡ true
  pub initialized : initializations_stand first ledger p q ledger ≡ true
  pub timely : names_timely first ledger (private_members p) q ≡ true
  pub temporaries : temporaries_steady first ledger (private_members p) q ≡ true
  pub keys : keys_stand first o ledger (private_members p) q (all_temporaries first o ledger (private_members p) q (preorder q)) ≡ true
  pub carriers : numbers_carried first p q ≡ true
  pub nodes : nodes_kept p q ≡ true
  pub classes : classes_kept first p q ≡ true
  pub statements : statements_kept o p q ≡ true
  pub lists : lists_kept o p q ≡ true
  pub homes : homes_kept first o p q ≡ true
  pub definitions : definitions_stand first o ledger (private_members p) p q ≡ true
  pub elements : elements_kept o (preorder p) (preorder q) ≡ true
  pub calls : helper_calls_fit first ledger (keys_that_stay first ledger p q) q ≡ true
  pub printable : stays_printable p q ≡ true

-- what a lowered program owes
pub record IsLowered (first : ℕ) (o : Options) (ledger : List LedgerEntry) (p q : Tree) : Type 0 where
  pub numbered : IsNumbered first q
  pub clauses : MeetsClauses first o ledger p q
