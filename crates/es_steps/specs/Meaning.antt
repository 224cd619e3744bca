-- What a program means: its list of events, what its functions and classes do, and what it declares, imports and exports.
-- (Our own; what each part comes from is said in docs/MEANING.md.)
use Rattle.std.specs.Prelude.{ℕ, zero, suc, List, [], ◌∷◌, ◌++◌, Bool, true, false, cond, nat_le, nat_eq, bytes_eq, codes, Option, Some, None}
use Rattle.es_base.specs.Numbered.{is_new}
use Rattle.es_base.specs.Preorder.{preorder, number_of, nodes}
use Rattle.es_base.specs.Tree.{Tree, Part, Parts, Node, end, more, child, absent, list, string}
use Rattle.es_base.specs.declared.kind.Kind.{Kind}
use Rattle.es_base.specs.declared.ledger.GeneratedKind.{GeneratedKind}
use Rattle.es_base.specs.declared.ledger.LedgerEntry.{LedgerEntry}
use Rattle.es_steps.specs.Branches.{around_branches}
use Rattle.es_steps.specs.ClassHeads.{named_classes}
use Rattle.es_steps.specs.Code.{Code, Opened, private_method, give_function, function}
use Rattle.es_steps.specs.Context.{Context, a_function, generated_as, inside}
use Rattle.es_steps.specs.Entries.{Entry, Entries, Listed, listed, after_run, entries}
use Rattle.es_steps.specs.Evaluation.{Environment, Evaluation, Run, ev}
use Rattle.es_steps.specs.Modules.{ModuleLink, Export, Exported, links_in, exports_in}
use Rattle.es_steps.specs.Opening.{gather, definitions, opening}
use Rattle.es_steps.specs.Parts.{at, items, string_of}
use Rattle.es_steps.specs.PrivateNames.{PrivateMember, PrivateKind, a_field, private_members}
use Rattle.es_steps.specs.Reading.{read}
use Rattle.es_steps.specs.References.{varying, changes_free}
use Rattle.es_steps.specs.Repeated.{all_places}
use Rattle.es_steps.specs.Shared.{shared}
use Rattle.es_steps.specs.Scopes.{Declaration, is_binding_identifier, class_in, body_names}
use Rattle.es_steps.specs.Values.{String, Undefined, ThisOf, NewTargetOf}
use Rattle.es_steps.specs.declared.options.Options.{Options}

-- ---- what declaring identifiers declare

pub data DeclarationKind : Type 0 where
  Variable : (word : String) → DeclarationKind
  FunctionName : DeclarationKind
  ParameterName : DeclarationKind
  CaughtName : DeclarationKind
  ImportName : DeclarationKind
  ClassDeclared : DeclarationKind
  -- the same of a name spelled `arguments`, which a function may have by itself (ECMA-262, 10.2.11)
  ArgumentsName : (d : DeclarationKind) → DeclarationKind

-- a new declarator with a class in its initializer declares that class
abbrev pub declarator_kind : Bool → Option ℕ → DeclarationKind → DeclarationKind
declarator_kind true (Some n) d = ClassDeclared
declarator_kind new n d = d

-- what the identifiers in the i-th part declare, by the kind of the node
abbrev pub declares_at : ℕ → Kind → ℕ → Parts → DeclarationKind → ℕ → DeclarationKind
declares_at first Kind.VariableDeclaration m ps d i = Variable (string_of (at 0 ps))
declares_at first Kind.VariableDeclarator m ps d zero = declarator_kind (is_new first m) (class_in (at 1 ps)) d
declares_at first Kind.FunctionDeclaration m ps d zero = FunctionName
declares_at first Kind.FunctionExpression m ps d zero = FunctionName
declares_at first Kind.FunctionDeclaration m ps d i = ParameterName
declares_at first Kind.FunctionExpression m ps d i = ParameterName
declares_at first Kind.ArrowFunctionExpression m ps d i = ParameterName
declares_at first Kind.CatchClause m ps d i = CaughtName
declares_at first Kind.ImportDeclaration m ps d i = ImportName
declares_at first Kind.ClassDeclaration m ps d i = ClassDeclared
declares_at first Kind.ClassExpression m ps d i = ClassDeclared
declares_at first kind m ps d i = d

abbrev pub declared_as : String → DeclarationKind → DeclarationKind
declared_as s d = cond (bytes_eq s (codes "arguments")) (ArgumentsName d) d

-- the declaring identifiers in preorder, each with what it declares
module _ (first : ℕ) where
  abbrev mutual
    pub declaring : DeclarationKind → Tree → List (ℕ × DeclarationKind)
    declaring d (Node kind m span semantic_id ps) = cond (is_binding_identifier kind) ((m, declared_as (string_of (at 0 ps)) d) ∷ []) (declaring_parts (declares_at first kind m ps d) ps)

    pub declaring_parts : (ℕ → DeclarationKind) → Parts → List (ℕ × DeclarationKind)
    declaring_parts d end = []
    declaring_parts d (more p ps) = declaring_part (d 0) p ++ declaring_parts (λ i. d (suc i)) ps

    pub declaring_part : DeclarationKind → Part → List (ℕ × DeclarationKind)
    declaring_part d (child t) = declaring d t
    declaring_part d (list ps) = declaring_items d ps
    declaring_part d p = []

    pub declaring_items : DeclarationKind → Parts → List (ℕ × DeclarationKind)
    declaring_items d end = []
    declaring_items d (more p ps) = declaring_part d p ++ declaring_items d ps

abbrev pub names_class : DeclarationKind → Bool
names_class ClassDeclared = true
names_class (ArgumentsName d) = names_class d
names_class d = false

-- those that are not new and name no class
abbrev pub old_bindings : ℕ → List (ℕ × DeclarationKind) → List (ℕ × DeclarationKind)
old_bindings first [] = []
old_bindings first (d ∷ ds) = cond (is_new first d.0) (old_bindings first ds) (cond (names_class d.1) (old_bindings first ds) (d ∷ old_bindings first ds))

-- ---- function declarations: the declaring identifier and the function, generated names aside

abbrev pub unless_generated : Option GeneratedKind → ℕ × ℕ → List (ℕ × ℕ)
unless_generated (Some g) p = []
unless_generated None p = p ∷ []

abbrev pub declared_function : List LedgerEntry → Tree → List (ℕ × ℕ)
declared_function ledger (Node Kind.FunctionDeclaration f span semantic_id (more (child (Node Kind.BindingIdentifier b s i (more (string x) end))) ps)) = unless_generated (generated_as x ledger) (b, f)
declared_function ledger (Node Kind.ExportDefaultDeclaration m span semantic_id (more (child (Node Kind.FunctionDeclaration f fspan f_semantic_id (more absent ps))) rest)) = (m, f) ∷ []
declared_function ledger t = []

abbrev pub declared_functions : List LedgerEntry → List Tree → List (ℕ × ℕ)
declared_functions ledger [] = []
declared_functions ledger (t ∷ ts) = declared_function ledger t ++ declared_functions ledger ts

-- ---- private members: a field, or the function of a method, getter or setter

pub data MemberEntry : Type 0 where
  IsField : (n : ℕ) (is_static : Bool) → MemberEntry
  FunctionIs : (n : ℕ) (is_static : Bool) (kind : PrivateKind) (f : ℕ) → MemberEntry

abbrev pub function_of : ℕ → Code → List (ℕ × ℕ)
function_of d (function f form own_name ps body) = (d, f) ∷ []
function_of d c = []

abbrev pub private_function_by : Code → List (ℕ × ℕ)
private_function_by (private_method is_static d f) = function_of d f
private_function_by (give_function m s (GeneratedKind.Method d) f) = function_of d.0 f
private_function_by c = []

abbrev pub private_functions : Code → List (ℕ × ℕ)
private_functions c = gather private_function_by c

abbrev pub function_at : ℕ → Bool → PrivateKind → ℕ → List (ℕ × ℕ) → Option MemberEntry
function_at n is_static kind d [] = None
function_at n is_static kind d (p ∷ ps) = cond (nat_eq d p.0) (Some (FunctionIs n is_static kind p.1)) (function_at n is_static kind d ps)

abbrev pub member_entry : ℕ → Bool → PrivateKind → ℕ → List (ℕ × ℕ) → Option MemberEntry
member_entry n is_static a_field d functions = Some (IsField n is_static)
member_entry n is_static kind d functions = function_at n is_static kind d functions

abbrev pub with_member : ℕ → Option MemberEntry → Option (List (ℕ × MemberEntry)) → Option (List (ℕ × MemberEntry))
with_member d (Some e) (Some es) = Some ((d, e) ∷ es)
with_member d e es = None

abbrev pub member_entries : List (ℕ × ℕ) → List PrivateMember → Option (List (ℕ × MemberEntry))
member_entries functions [] = Some []
member_entries functions (x ∷ xs) = with_member x.number (member_entry x.class x.is_static x.kind x.number functions) (member_entries functions xs)

-- ---- the names that a script gives to other scripts: those of its own scope (ECMA-262, 16.1.7)

abbrev pub old_names : ℕ → List Declaration → List (ℕ × String)
old_names first [] = []
old_names first (d ∷ ds) = cond (is_new first d.number) (old_names first ds) ((d.number, d.spelling) ∷ old_names first ds)

abbrev pub globals : ℕ → Tree → List (ℕ × String)
globals first (Node kind m span semantic_id ps) = cond (bytes_eq (string_of (at 0 ps)) (codes "script")) (old_names first (body_names (items (at 1 ps)))) []

-- ---- by number

abbrev pub inserted : {A : Type 0} → ℕ × A → List (ℕ × A) → List (ℕ × A)
inserted p [] = p ∷ []
inserted p (q ∷ qs) = cond (nat_le p.0 q.0) (p ∷ q ∷ qs) (q ∷ inserted p qs)

abbrev pub by_number : {A : Type 0} → List (ℕ × A) → List (ℕ × A)
by_number [] = []
by_number (p ∷ ps) = inserted p (by_number ps)

-- ---- the meaning

abbrev pub with_entry : ℕ → Option Entry → Option (List (ℕ × Entry)) → Option (List (ℕ × Entry))
with_entry n (Some e) (Some es) = Some ((n, e) ∷ es)
with_entry n e es = None

-- entries that are all there
abbrev pub whole : Entries → Option (List (ℕ × Entry))
whole [] = Some []
whole (p ∷ ps) = with_entry p.0 p.1 (whole ps)

abbrev pub with_export : String → Option Exported → Option (List (String × Exported)) → Option (List (String × Exported))
with_export s (Some x) (Some xs) = Some ((s, x) ∷ xs)
with_export s x xs = None

abbrev pub all_exports : List Export → Option (List (String × Exported))
all_exports [] = Some []
all_exports (x ∷ xs) = with_export x.name x.means (all_exports xs)

pub record Meaning : Type 0 where
  pub source_type : String
  pub program : Listed
  -- of functions and classes, by number
  pub entries : List (ℕ × Entry)
  pub members : List (ℕ × MemberEntry)
  pub functions : List (ℕ × ℕ)
  pub bindings : List (ℕ × DeclarationKind)
  pub globals : List (ℕ × String)
  -- declaring identifiers of one binding
  pub shared : List (ℕ × ℕ)
  -- where functions, classes, declaring identifiers and declarations that a `for` begins with stand
  pub places : List (ℕ × ℕ)
  -- the names around the functions that are branches of an `if`
  pub branches : List (ℕ × ℕ)
  pub links : List ModuleLink
  pub exports : List (String × Exported)

-- what a tree is read under: the number of the first new node, the options, the generated names, the private members of
-- the source, its class expressions whose heritage or keys read their name, and the classes whose parameters come before their
-- fields
pub record Terms : Type 0 where
  pub first_new : ℕ
  pub options : Options
  pub ledger : List LedgerEntry
  pub members : List PrivateMember
  pub named : List (ℕ × ℕ)
  pub late : List ℕ

abbrev pub start : Terms → Tree → Context
start o t = record {
  first_new = o.first_new;
  ledger = o.ledger;
  options = o.options;
  members = o.members;
  named = o.named;
  varying = varying t;
  writes_arguments = changes_free (codes "arguments") t;
  names = [];
  privates = [];
  this = ThisOf (number_of t);
  new_target = NewTargetOf (number_of t);
  arguments = Undefined;
  home = None;
  constructs = None;
  initializing = None;
  in_new_function = false;
  rest_name = [];
  class = number_of t;
  has_heritage = false;
  object = number_of t;
  role = a_function;
  let_class = None;
  is_body = false;
  uncaught = [];
  around = None;
}

abbrev pub source_type_of : Tree → String
source_type_of (Node kind m span semantic_id ps) = string_of (at 0 ps)

abbrev pub body_of : Tree → Parts
body_of (Node kind m span semantic_id ps) = items (at 1 ps)

-- what is seen in the body of a program
abbrev pub in_body : Context → Tree → Context
in_body c (Node kind m span semantic_id ps) = inside c kind m ps 1

abbrev pub second_numbers : List (ℕ × ℕ) → List ℕ
second_numbers [] = []
second_numbers (p ∷ ps) = p.1 ∷ second_numbers ps

-- d are the private members with their functions
abbrev pub with_all : Terms → Tree → List (ℕ × ℕ) → Option Listed → Option (List (ℕ × Entry)) → Option (List (ℕ × MemberEntry)) → Option (List (String × Exported)) → Option Meaning
with_all o t d (Some l) (Some es) (Some ms) (Some xs) = Some (record {
  source_type = source_type_of t;
  program = l;
  entries = by_number es;
  members = by_number ms;
  functions = by_number (declared_functions o.ledger (preorder t));
  bindings = by_number (old_bindings o.first_new (declaring o.first_new ClassDeclared t));
  globals = by_number (globals o.first_new t);
  shared = by_number (shared false t);
  places = by_number (all_places o.first_new o.ledger (second_numbers d) t);
  branches = by_number (around_branches [] t);
  links = links_in (body_of t);
  exports = xs;
})
with_all o t d l es ms xs = None

-- the meaning of a code; env is the environment at its end
abbrev pub means_by : (Opened → Evaluation) → Terms → Tree → Code → Option Meaning
means_by opens o t c =
    let run : Option Run = ev opens c [] in
    let env : Environment = after_run [] run in
    with_all o t (private_functions c) (listed run) (whole (entries opens o.first_new o.late [] c)) (member_entries (private_functions c) o.members) (all_exports (exports_in (in_body (start o t) t) env (body_of t)))

abbrev pub means_of : Terms → Tree → Code → Option Meaning
means_of o t c = means_by (opening (definitions c)) o t c

-- the meaning of a program; none where a form in it has no rule
abbrev pub means : Terms → Tree → Option Meaning
means o t = means_of o t (read (start o t) t)

-- a source program has no new node and no generated name
abbrev pub source_terms : Options → Tree → Terms
source_terms options t = record { first_new = nodes t; options = options; ledger = []; members = private_members t; named = named_classes t; late = [] }

abbrev pub source_means : Options → Tree → Option Meaning
source_means options t = means (source_terms options t) t

-- the meaning of what the source p was lowered to, with these generated names
abbrev pub lowered_terms : Options → List LedgerEntry → Tree → Terms
lowered_terms options ledger p = record { first_new = nodes p; options = options; ledger = ledger; members = private_members p; named = named_classes p; late = [] }

abbrev pub lowered_means : Options → List LedgerEntry → Tree → Tree → Option Meaning
lowered_means options ledger p q = means (lowered_terms options ledger p) q

abbrev pub has_meaning : Option Meaning → Bool
has_meaning None = false
has_meaning (Some m) = true
