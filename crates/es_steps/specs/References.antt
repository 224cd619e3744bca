-- Resolution: what each reference of a tree refers to, and which bindings are written. (ECMA-262, 9.1: environment
-- records; a reference means the nearest scope that holds its spelling.)
use Rattle.std.specs.Prelude.{ℕ, suc, List, [], ◌∷◌, ◌++◌, map, Bool, true, false, cond, ◌||◌, ◌&&◌, nat_eq, bytes_eq, codes, Option, Some, None}
use Rattle.es_base.specs.Tree.{Tree, Part, Parts, Node, end, more, child, list}
use Rattle.es_base.specs.Table.{Field, members_of}
use Rattle.es_base.specs.Conforms.{is_target_place, is_among}
use Rattle.es_base.specs.Preorder.{preorder}
use Rattle.es_base.specs.declared.kind.Kind.{Kind}
use Rattle.es_base.specs.declared.table.Sort.{Sort}
use Rattle.es_steps.specs.Parts.{at, items, string_of}
use Rattle.es_steps.specs.Scopes.{Declaration, no_class, bound_part, names_at, is_body_part, is_declaring, scope_form, scope_names, var_part}
use Rattle.es_steps.specs.Values.{String, Referent, Bound, Free}

-- the first of this spelling: of the nearest scope, and there of the first declaring identifier
abbrev pub declared : String → List Declaration → Option Declaration
declared s [] = None
declared s (d ∷ ds) = cond (bytes_eq s d.spelling) (Some d) (declared s ds)

abbrev pub referent : String → Option Declaration → Referent
referent s None = Free s
referent s (Some d) = Bound d.number

-- a reference that stands where something is assigned to writes
pub record Reference : Type 0 where
  pub number : ℕ
  pub spelling : String
  pub to : Referent
  pub writes : Bool

abbrev pub is_target : Sort → Bool
is_target (Sort.Child place) = is_target_place place
is_target (Sort.Nullable place) = is_target_place place
is_target (Sort.List place) = is_target_place place
is_target (Sort.NonEmptyList place) = is_target_place place
is_target (Sort.ListWithHoles place) = is_target_place place
is_target sort = false

abbrev pub is_reference : Kind → Bool
is_reference Kind.IdentifierReference = true
is_reference kind = false

abbrev pub reference : List Declaration → Bool → ℕ → String → List Reference
reference names target m s = record { number = m; spelling = s; to = referent s (declared s names); writes = target } ∷ []

-- the references of a tree in preorder, where these names are seen: whether it stands where something is assigned to,
-- and whether it is the body of a function
abbrev mutual
  pub references : List Declaration → Bool → Bool → Tree → List Reference
  references names target is_body (Node kind m span semantic_id ps) = cond (is_reference kind) (reference names target m (string_of (at 0 ps))) (references_in (λ i. names_at is_body kind m ps i ++ names) (is_body_part kind) (members_of kind) ps)

  pub references_in : (ℕ → List Declaration) → (ℕ → Bool) → List Field → Parts → List Reference
  references_in names bodies fs end = []
  references_in names bodies [] (more p ps) = []
  references_in names bodies (f ∷ fs) (more p ps) = part_references (names 0) (is_target f.sort) (bodies 0) p ++ references_in (λ i. names (suc i)) (λ i. bodies (suc i)) fs ps

  pub part_references : List Declaration → Bool → Bool → Part → List Reference
  part_references names target is_body (child t) = references names target is_body t
  part_references names target is_body (list ps) = item_references names target ps
  part_references names target is_body p = []

  pub item_references : List Declaration → Bool → Parts → List Reference
  item_references names target end = []
  item_references names target (more p ps) = part_references names target false p ++ item_references names target ps

abbrev pub resolve : Tree → List Reference
resolve t = references [] false false t

-- ---- written names

abbrev pub has_number : ℕ → List ℕ → Bool
has_number n [] = false
has_number n (k ∷ ks) = nat_eq n k || has_number n ks

abbrev pub numbers_of : List Declaration → List ℕ
numbers_of ds = map (λ d. d.number) ds

abbrev pub if_bound : Bool → Referent → List ℕ
if_bound true (Bound b) = b ∷ []
if_bound writes r = []

abbrev pub is_free : String → Referent → Bool
is_free s (Free spelling) = bytes_eq s spelling
is_free s (Bound b) = false

abbrev pub assigned : List Reference → List ℕ
assigned [] = []
assigned (r ∷ rs) = if_bound r.writes r.to ++ assigned rs

abbrev pub is_declared : String → List Declaration → Bool
is_declared s [] = false
is_declared s (d ∷ ds) = bytes_eq s d.spelling || is_declared s ds

-- those that more than one identifier declares
abbrev pub repeated : List Declaration → List ℕ
repeated [] = []
repeated (d ∷ ds) = cond (is_declared d.spelling ds) (d.number ∷ []) [] ++ repeated ds

abbrev pub is_for_each : Kind → Bool
is_for_each Kind.ForInStatement = true
is_for_each Kind.ForOfStatement = true
is_for_each kind = false

-- what a node by itself makes written: names that its scope holds twice, and the `var` in the head of a for-in or for-of
abbrev pub written_by : Tree → List ℕ
written_by (Node kind m span semantic_id ps) = repeated (scope_names (scope_form kind) m ps) ++ cond (is_for_each kind) (numbers_of (var_part (at 0 ps))) []

abbrev pub written_by_all : List Tree → List ℕ
written_by_all [] = []
written_by_all (t ∷ ts) = written_by t ++ written_by_all ts

-- the numbers of the bindings that are written anywhere in a program
abbrev pub written : Tree → List ℕ
written t = assigned (resolve t) ++ written_by_all (preorder t)

-- ---- names that change without a reference or a scope that says so

-- a `var` in a catch of the name that the catch declares gives its value to that name (B.3.4)
abbrev pub caught_again : Tree → List ℕ
caught_again (Node Kind.CatchClause m span semantic_id ps) = repeated (bound_part no_class (at 0 ps) ++ var_part (at 1 ps))
caught_again t = []

abbrev pub caught_again_in : List Tree → List ℕ
caught_again_in [] = []
caught_again_in (t ∷ ts) = caught_again t ++ caught_again_in ts

-- what the name of a function in a block, in a case or in a branch of an `if` means around is given the function, too (B.3.2)
abbrev pub bound_spelling : Part → List String
bound_spelling (child (Node Kind.BindingIdentifier b span semantic_id ps)) = string_of (at 0 ps) ∷ []
bound_spelling p = []

abbrev pub function_name : Part → List String
function_name (child (Node Kind.FunctionDeclaration m span semantic_id ps)) = bound_spelling (at 0 ps)
function_name (child (Node Kind.LabeledStatement m span semantic_id (more label (more s end)))) = function_name s
function_name (child (Node Kind.IfStatement m span semantic_id (more test (more s (more other end))))) = function_name s ++ function_name other
function_name p = []

abbrev pub function_names : Parts → List String
function_names end = []
function_names (more p ps) = function_name p ++ function_names ps

abbrev pub case_functions : Parts → List String
case_functions end = []
case_functions (more (child (Node kind m span semantic_id ps)) rest) = function_names (items (at 1 ps)) ++ case_functions rest
case_functions (more p rest) = case_functions rest

abbrev pub inner_functions : Bool → Kind → Parts → List String
inner_functions false Kind.BlockStatement ps = function_names (items (at 0 ps))
inner_functions is_body Kind.SwitchStatement ps = case_functions (items (at 1 ps))
inner_functions is_body Kind.IfStatement ps = function_name (at 1 ps) ++ function_name (at 2 ps)
inner_functions is_body kind ps = []

abbrev pub meant : List Declaration → List String → List ℕ
meant names [] = []
meant names (s ∷ ss) = if_bound true (referent s (declared s names)) ++ meant names ss

-- the `var` of such a function passes a name that is caught (B.3.4)
abbrev pub catches_a_name : Kind → Parts → Bool
catches_a_name Kind.CatchClause ps = is_declaring (at 0 ps)
catches_a_name kind ps = false

abbrev pub names_around : Bool → Kind → ℕ → Parts → ℕ → List Declaration
names_around is_body kind m ps i = cond (catches_a_name kind ps) [] (names_at is_body kind m ps i)

-- what a `var` is hoisted to: a function, an arrow or a static block
abbrev pub takes_vars : Kind → Bool
takes_vars Kind.FunctionDeclaration = true
takes_vars Kind.FunctionExpression = true
takes_vars Kind.ArrowFunctionExpression = true
takes_vars Kind.StaticBlock = true
takes_vars kind = false

-- of the names around, those that are caught in the function, the arrow or the static block around are passed alone
abbrev pub uncaught_at : List Declaration → List Declaration → Bool → Kind → ℕ → Parts → ℕ → List Declaration
uncaught_at names uncaught is_body kind m ps i = names_around is_body kind m ps i ++ cond (takes_vars kind) names uncaught

abbrev mutual
  pub given_around : List Declaration → List Declaration → Bool → Tree → List ℕ
  given_around names uncaught is_body (Node kind m span semantic_id ps) = meant uncaught (inner_functions is_body kind ps) ++ given_in (λ i. names_at is_body kind m ps i ++ names) (uncaught_at names uncaught is_body kind m ps) (is_body_part kind) ps

  pub given_in : (ℕ → List Declaration) → (ℕ → List Declaration) → (ℕ → Bool) → Parts → List ℕ
  given_in names uncaught bodies end = []
  given_in names uncaught bodies (more p ps) = given_at (names 0) (uncaught 0) (bodies 0) p ++ given_in (λ i. names (suc i)) (λ i. uncaught (suc i)) (λ i. bodies (suc i)) ps

  pub given_at : List Declaration → List Declaration → Bool → Part → List ℕ
  given_at names uncaught is_body (child t) = given_around names uncaught is_body t
  given_at names uncaught is_body (list ps) = given_of names uncaught ps
  given_at names uncaught is_body p = []

  pub given_of : List Declaration → List Declaration → Parts → List ℕ
  given_of names uncaught end = []
  given_of names uncaught (more p ps) = given_at names uncaught false p ++ given_of names uncaught ps

-- an identifier `arguments` that is declared: each function inside has another one (10.2.11)
abbrev pub named_arguments : List Declaration → List ℕ
named_arguments [] = []
named_arguments (d ∷ ds) = cond (bytes_eq (codes "arguments") d.spelling) (d.number ∷ []) [] ++ named_arguments ds

-- the names that a node declares which change by themselves: those of imports, since what such a name holds changes without a
-- write here (9.1.1.5), and `arguments`
abbrev pub changing_by : Tree → List ℕ
changing_by (Node Kind.ImportDeclaration m span semantic_id ps) = numbers_of (bound_part no_class (at 0 ps))
changing_by (Node Kind.VariableDeclarator m span semantic_id ps) = named_arguments (bound_part no_class (at 0 ps))
changing_by (Node Kind.FunctionDeclaration m span semantic_id ps) = named_arguments (bound_part no_class (at 0 ps) ++ bound_part no_class (at 1 ps))
changing_by (Node Kind.FunctionExpression m span semantic_id ps) = named_arguments (bound_part no_class (at 0 ps) ++ bound_part no_class (at 1 ps))
changing_by (Node Kind.ArrowFunctionExpression m span semantic_id ps) = named_arguments (bound_part no_class (at 0 ps))
changing_by (Node Kind.CatchClause m span semantic_id ps) = named_arguments (bound_part no_class (at 0 ps))
changing_by t = []

abbrev pub changing_in : List Tree → List ℕ
changing_in [] = []
changing_in (t ∷ ts) = changing_by t ++ changing_in ts

abbrev pub changed_otherwise : Tree → List ℕ
changed_otherwise t = changing_in (preorder t) ++ (caught_again_in (preorder t) ++ given_around [] [] false t)

-- the bindings that are written anywhere, and those that change without
abbrev pub varying : Tree → List ℕ
varying t = written t ++ changed_otherwise t

-- whether a function in a block gives a name of this spelling a value
abbrev pub gives_inside : String → List Tree → Bool
gives_inside s [] = false
gives_inside s (Node kind m span semantic_id ps ∷ ts) = is_among s (inner_functions false kind ps) || gives_inside s ts

-- whether a free name of this spelling is written
abbrev pub writes_free : String → List Reference → Bool
writes_free s [] = false
writes_free s (r ∷ rs) = (r.writes && is_free s r.to) || writes_free s rs

abbrev pub changes_free : String → Tree → Bool
changes_free s t = writes_free s (resolve t) || gives_inside s (preorder t)
