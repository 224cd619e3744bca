-- What is known at a place of a tree: which names are seen there, what `this` is, which class stands around.
-- (ECMA-262, 9.1, 9.2 and 9.4: environments, private environments, execution contexts. What new nodes and generated
-- names are is our own.)
use Rattle.std.specs.Prelude.{ℕ, List, [], ◌∷◌, ◌++◌, Bool, true, false, cond, ◌||◌, ◌&&◌, codes, bytes_eq, nat_eq, Option, Some, None, is_some}
use Rattle.es_base.specs.Numbered.{is_new}
use Rattle.es_base.specs.Tree.{Tree, Part, Parts, Node, end, more, child, list}
use Rattle.es_base.specs.declared.kind.Kind.{Kind}
use Rattle.es_base.specs.declared.ledger.GeneratedKind.{GeneratedKind}
use Rattle.es_base.specs.declared.ledger.LedgerEntry.{LedgerEntry}
use Rattle.es_steps.specs.Parts.{at, items, block_items, string_of, is_true, is_present}
use Rattle.es_steps.specs.PrivateNames.{PrivateMember, seen_members}
use Rattle.es_steps.specs.References.{declared, has_number, uncaught_at}
use Rattle.es_steps.specs.Scopes.{ClassName, no_class, declares, own_name, let_names, Declaration, bound_part, names_at, is_body_part, class_in}
use Rattle.es_steps.specs.Values.{String, Value, Undefined, ClassOf, ThisOf, ArgumentsOf, NewTargetOf, Referent, Bound, Free, Home, OfClass, OfPrototype, OfObject}
use Rattle.es_steps.specs.declared.options.Options.{Options}

-- What a name is: a binding that does not vary, one that does or a free name, the class n by a name that b declares, a
-- generated name, or that of the function of a static private method d of class n.
pub data NameKind : Type 0 where
  Fixed : (b : ℕ) → NameKind
  Changing : (r : Referent) → NameKind
  MeansClass : (n b : ℕ) → NameKind
  Generated : (g : GeneratedKind) → NameKind
  StaticMethod : (d n : ℕ) → NameKind

-- What a function is that stands as a part of a node.
pub data FunctionRole : Type 0 where
  a_function : FunctionRole
  constructor_of : (n : ℕ) → FunctionRole
  -- a method, getter or setter
  method_on : (home : Home) → FunctionRole
  -- what a generated name of a `super` function of class n is assigned
  super_function_of : (n : ℕ) → FunctionRole

pub record Context : Type 0 where
  -- the number of the first node that is new
  pub first_new : ℕ
  pub ledger : List LedgerEntry
  pub options : Options
  -- the private members of the source
  pub members : List PrivateMember
  -- the class expressions of the source whose heritage or keys read their name, with their identifiers
  pub named : List (ℕ × ℕ)
  -- the bindings that are written anywhere or change otherwise in the program, and whether a free `arguments` is written
  pub varying : List ℕ
  pub writes_arguments : Bool
  -- the names and the private members that are seen, the nearest first
  pub names : List Declaration
  pub privates : List PrivateMember
  -- of the function around that is no arrow, or of the field, static block or program
  pub this : Value
  pub new_target : Value
  pub arguments : Value
  pub home : Option Home
  -- the class with a heritage whose constructor it is, and which of its `super(..)` runs the initializers: the one of this
  -- number, or all
  pub constructs : Option ℕ
  pub initializing : Option ℕ
  -- whether the nearest function or arrow is new, and the name of its rest parameter
  pub in_new_function : Bool
  pub rest_name : String
  -- the nearest class whose body is around, and whether it has a heritage
  pub class : ℕ
  pub has_heritage : Bool
  -- the object expression around, and what a function here is
  pub object : ℕ
  pub role : FunctionRole
  -- the class that a `let` around names, and the identifier
  pub let_class : Option (ℕ × ℕ)
  -- whether a block here is the body of a function
  pub is_body : Bool
  -- those of `names` that no catch in the function around declares as a name, and what of them is seen around the block, the cases or the `if` that
  -- a function which is declared here stands in (B.3.2, B.3.4)
  pub uncaught : List Declaration
  pub around : Option (List Declaration)

abbrev pub new_here : Context → ℕ → Bool
new_here c m = is_new c.first_new m

-- ---- names

-- the first entry of the ledger with this spelling; a private name is no spelling of an identifier
abbrev pub is_private_entry : GeneratedKind → Bool
is_private_entry (GeneratedKind.Private n) = true
is_private_entry g = false

abbrev pub generated_as : String → List LedgerEntry → Option GeneratedKind
generated_as s [] = None
generated_as s (e ∷ es) = cond (is_private_entry e.kind) (generated_as s es) (cond (bytes_eq s e.name) (Some e.kind) (generated_as s es))

-- whether an identifier of this spelling was generated
abbrev pub is_generated : String → List LedgerEntry → Bool
is_generated s ledger = is_some (generated_as s ledger)

-- whether a private name of this spelling was generated for class n
abbrev pub is_private_for : ℕ → GeneratedKind → Bool
is_private_for n (GeneratedKind.Private k) = nat_eq n k.0
is_private_for n g = false

abbrev pub is_generated_private : String → ℕ → List LedgerEntry → Bool
is_generated_private s n [] = false
is_generated_private s n (e ∷ es) = (is_private_for n e.kind && bytes_eq s e.name) || is_generated_private s n es

abbrev pub unless_varying : List ℕ → ℕ → NameKind → NameKind
unless_varying varying b kind = cond (has_number b varying) (Changing (Bound b)) kind

-- a `let` names a class where it is new
abbrev pub declared_kind : ℕ → List ℕ → ℕ → ClassName → NameKind
declared_kind first varying b no_class = unless_varying varying b (Fixed b)
declared_kind first varying b (declares n) = unless_varying varying b (MeansClass n b)
declared_kind first varying b (own_name n) = MeansClass n b
declared_kind first varying b (let_names m n) = unless_varying varying b (cond (is_new first m) (MeansClass n b) (Fixed b))

abbrev pub found_kind : ℕ → List ℕ → String → Option Declaration → NameKind
found_kind first varying s None = Changing (Free s)
found_kind first varying s (Some d) = declared_kind first varying d.number d.class_name

abbrev pub generated_or : Option GeneratedKind → NameKind → NameKind
generated_or (Some g) kind = Generated g
generated_or None kind = kind

abbrev pub name_kind : Context → String → NameKind
name_kind c s = generated_or (generated_as s c.ledger) (found_kind c.first_new c.varying s (declared s c.names))

-- ---- which `super(..)` of a constructor runs the initializers

abbrev pub is_function : Kind → Bool
is_function Kind.FunctionDeclaration = true
is_function Kind.FunctionExpression = true
is_function kind = false

abbrev pub is_super_call : Kind → Parts → Bool
is_super_call Kind.CallExpression (more (child (Node Kind.Super m span semantic_id ps)) rest) = true
is_super_call kind ps = false

-- whether a `super(..)` stands in a tree, outside functions that are no arrows
abbrev mutual
  pub holds_super : Tree → Bool
  holds_super (Node kind m span semantic_id ps) = is_super_call kind ps || (cond (is_function kind) false (parts_hold_super ps))

  pub part_holds_super : Part → Bool
  part_holds_super (child t) = holds_super t
  part_holds_super (list ps) = parts_hold_super ps
  part_holds_super p = false

  pub parts_hold_super : Parts → Bool
  parts_hold_super end = false
  parts_hold_super (more p ps) = part_holds_super p || parts_hold_super ps

abbrev pub super_statement : Part → Option ℕ
super_statement (child (Node Kind.ExpressionStatement m span semantic_id (more (child (Node Kind.CallExpression k kspan k_semantic_id (more (child (Node Kind.Super s sspan s_semantic_id ss)) (more arguments rest)))) directive))) = cond (part_holds_super arguments) None (Some k)
super_statement p = None

-- the number of the first statement that is a `super(..)` call, if nothing before it and no argument of it holds one
abbrev pub first_super : Parts → Option ℕ
first_super end = None
first_super (more p ps) = cond (part_holds_super p) (super_statement p) (first_super ps)

-- of the parts of the constructor's function
abbrev pub initializing_call : Parts → Option ℕ
initializing_call ps = cond (part_holds_super (at 1 ps)) None (first_super (block_items (at 2 ps)))

-- ---- inside a node

pub data Frame : Type 0 where
  function_frame : Frame
  arrow_frame : Frame
  class_frame : Frame
  field_frame : Frame
  method_frame : Frame
  static_block_frame : Frame
  object_frame : Frame
  property_frame : Frame
  assignment_frame : Frame
  declarator_frame : Frame
  same_frame : Frame

abbrev pub frame_of : Kind → Frame
frame_of Kind.FunctionDeclaration = function_frame
frame_of Kind.FunctionExpression = function_frame
frame_of Kind.ArrowFunctionExpression = arrow_frame
frame_of Kind.ClassDeclaration = class_frame
frame_of Kind.ClassExpression = class_frame
frame_of Kind.PropertyDefinition = field_frame
frame_of Kind.MethodDefinition = method_frame
frame_of Kind.StaticBlock = static_block_frame
frame_of Kind.ObjectExpression = object_frame
frame_of Kind.Property = property_frame
frame_of Kind.AssignmentExpression = assignment_frame
frame_of Kind.VariableDeclarator = declarator_frame
frame_of kind = same_frame

abbrev pub name_in : Part → String
name_in (child (Node kind m span semantic_id ps)) = string_of (at 0 ps)
name_in p = []

-- the name of the rest among parameters
abbrev pub rest_among : Parts → String
rest_among end = []
rest_among (more (child (Node Kind.RestElement m span semantic_id ps)) rest) = name_in (at 0 ps)
rest_among (more p rest) = rest_among rest

-- in a function f that is no arrow: `this` in a constructor and in what stands for `super(..)` is the class's
abbrev pub in_function : FunctionRole → ℕ → Parts → Context → Context
in_function a_function f ps c = record c { this = ThisOf f; new_target = NewTargetOf f; arguments = ArgumentsOf f; home = None; constructs = None; in_new_function = new_here c f; rest_name = rest_among (items (at 1 ps)) }
in_function (constructor_of n) f ps c = record c { this = ThisOf n; new_target = NewTargetOf n; arguments = ArgumentsOf n; home = Some (OfPrototype n); constructs = cond c.has_heritage (Some n) None; initializing = initializing_call ps; in_new_function = new_here c f; rest_name = rest_among (items (at 1 ps)) }
in_function (method_on home) f ps c = record c { this = ThisOf f; new_target = NewTargetOf f; arguments = ArgumentsOf f; home = Some home; constructs = None; in_new_function = new_here c f; rest_name = rest_among (items (at 1 ps)) }
in_function (super_function_of n) f ps c = record c { this = ThisOf n; new_target = Undefined; arguments = ArgumentsOf f; home = None; constructs = None; in_new_function = new_here c f; rest_name = rest_among (items (at 1 ps)) }

-- in the value of a field or in a static block, where `new.target` is undefined, and no `await` or `yield` of the code around
-- can stand (15.7.1): as in a new function
abbrev pub in_element : Bool → Context → Context
in_element is_static c = record c { this = cond is_static (ClassOf c.class) (ThisOf c.class); new_target = Undefined; arguments = ArgumentsOf c.class; home = Some (cond is_static (OfClass c.class) (OfPrototype c.class)); constructs = None; in_new_function = true }

abbrev pub is_constructor : String → Bool
is_constructor s = bytes_eq s (codes "constructor")

-- the function of a method: its kind, and whether it is static
abbrev pub method_role : String → Bool → ℕ → FunctionRole
method_role kind is_static n = cond (is_constructor kind) (constructor_of n) (method_on (cond is_static (OfClass n) (OfPrototype n)))

-- the function of a property: its kind, and whether it is a method
abbrev pub property_role : String → Bool → ℕ → FunctionRole
property_role kind is_method m = cond (is_method || (bytes_eq kind (codes "get") || bytes_eq kind (codes "set"))) (method_on (OfObject m)) a_function

-- what a name is assigned to says of the function on the right side
abbrev pub role_of_generated : Option GeneratedKind → FunctionRole
role_of_generated (Some (GeneratedKind.SuperFn n)) = super_function_of n.0
role_of_generated g = a_function

-- the class in the initializer of a new declarator, and the identifier that it declares, unless that is a generated name
abbrev pub let_class_of : Option GeneratedKind → Option ℕ → Part → Option (ℕ × ℕ)
let_class_of None (Some n) (child (Node Kind.BindingIdentifier b span semantic_id ps)) = Some (n, b)
let_class_of g n p = None

abbrev pub framed : Frame → ℕ → Parts → ℕ → Context → Context
framed function_frame m ps i c = in_function c.role m ps c
framed arrow_frame m ps i c = record c { in_new_function = new_here c m; rest_name = rest_among (items (at 0 ps)) }
framed class_frame m ps i c = cond (nat_eq i 2) (record c { class = m; has_heritage = is_present (at 1 ps) }) c
framed field_frame m ps i c = cond (nat_eq i 1) (in_element (is_true (at 3 ps)) c) c
framed method_frame m ps i c = c
framed static_block_frame m ps i c = in_element true c
framed object_frame m ps i c = record c { object = m }
framed property_frame m ps i c = c
framed assignment_frame m ps i c = c
framed declarator_frame m ps i c = cond (new_here c m) (record c { let_class = let_class_of (generated_as (name_in (at 0 ps)) c.ledger) (class_in (at 1 ps)) (at 0 ps) }) c
framed same_frame m ps i c = c

-- what a function is that stands as the i-th part
abbrev pub role_in : Frame → Parts → ℕ → Context → FunctionRole
role_in method_frame ps i c = cond (nat_eq i 1) (method_role (string_of (at 2 ps)) (is_true (at 4 ps)) c.class) a_function
role_in property_frame ps i c = cond (nat_eq i 1) (property_role (string_of (at 2 ps)) (is_true (at 3 ps)) c.object) a_function
role_in assignment_frame ps i c = cond (nat_eq i 2) (role_of_generated (generated_as (name_in (at 1 ps)) c.ledger)) a_function
role_in declarator_frame ps i c = cond (nat_eq i 1) (role_of_generated (generated_as (name_in (at 0 ps)) c.ledger)) a_function
role_in frame ps i c = a_function

-- inside a class declaration its name means the class, also where it is written (15.7.14)
abbrev pub inner_name : Kind → ℕ → Parts → ℕ → List Declaration
inner_name Kind.ClassDeclaration m ps i = cond (nat_eq i 0) [] (bound_part (own_name m) (at 0 ps))
inner_name kind m ps i = []

abbrev pub if_around : Option (List Declaration) → List Declaration → List Declaration
if_around (Some around) names = around
if_around None names = names

abbrev pub around_inside : Context → Kind → Option (List Declaration)
around_inside c Kind.BlockStatement = cond c.is_body None (Some c.uncaught)
around_inside c Kind.SwitchStatement = Some c.uncaught
around_inside c Kind.SwitchCase = c.around
around_inside c Kind.LabeledStatement = c.around
around_inside c Kind.IfStatement = Some (if_around c.around c.uncaught)
around_inside c kind = None

-- the context of the i-th part of a node
abbrev pub inside : Context → Kind → ℕ → Parts → ℕ → Context
inside c kind m ps i = record (framed (frame_of kind) m ps i c) { names = inner_name kind m ps i ++ names_at c.is_body kind m ps i ++ c.names; privates = seen_members kind m ps i ++ c.privates; role = role_in (frame_of kind) ps i c; is_body = is_body_part kind i; uncaught = uncaught_at c.names c.uncaught c.is_body kind m ps i; around = around_inside c kind }
