-- What a module imports and exports. (ECMA-262, 16.2. Directly exported names are known by what they mean, since other
-- modules see the binding and not a value.)
use Rattle.std.specs.Prelude.{ℕ, List, [], ◌∷◌, ◌++◌, Bool, true, false, cond, codes, Option, Some, None}
use Rattle.es_base.specs.Tree.{Part, Parts, Node, end, more, child, absent, literal}
use Rattle.es_base.specs.declared.kind.Kind.{Kind}
use Rattle.es_base.specs.declared.ledger.GeneratedKind.{GeneratedKind}
use Rattle.es_base.specs.declared.literal.LiteralValue.TheVariants as literal_value
use Rattle.es_steps.specs.Context.{Context, NameKind, Fixed, Changing, MeansClass, Generated, StaticMethod, name_kind}
use Rattle.es_steps.specs.Evaluation.{Environment, found, default_key}
use Rattle.es_steps.specs.Parts.{at, items, string_of}
use Rattle.es_steps.specs.Scopes.{Declaration, lexical_part, var_part}
use Rattle.es_steps.specs.Values.{String, Value, ClassOf, Referent, Bound, Free}

-- ---- imports and exports from another module, in order

pub data Specifier : Type 0 where
  -- a name of the other module, and the identifier or the name that it has here
  Imported : (name : String) (b : ℕ) → Specifier
  ImportedDefault : (b : ℕ) → Specifier
  ImportedNamespace : (b : ℕ) → Specifier
  Reexported : (name as_name : String) → Specifier
  ReexportedAll : (as_name : Option String) → Specifier

pub record ModuleLink : Type 0 where
  pub number : ℕ
  pub source : String
  pub specifiers : List Specifier

-- the name that an identifier or a string spells
abbrev pub module_name : Part → String
module_name (child (Node Kind.Literal m span semantic_id (more (literal (literal_value.String s raw)) end))) = s
module_name (child (Node kind m span semantic_id ps)) = string_of (at 0 ps)
module_name p = []

-- with the number of an identifier that is imported
abbrev pub importing : (ℕ → Specifier) → Part → List Specifier
importing specifier (child (Node kind b span semantic_id ps)) = specifier b ∷ []
importing specifier p = []

abbrev pub specifier_of : Part → List Specifier
specifier_of (child (Node Kind.ImportSpecifier m span semantic_id ps)) = importing (Imported (module_name (at 0 ps))) (at 1 ps)
specifier_of (child (Node Kind.ImportDefaultSpecifier m span semantic_id ps)) = importing ImportedDefault (at 0 ps)
specifier_of (child (Node Kind.ImportNamespaceSpecifier m span semantic_id ps)) = importing ImportedNamespace (at 0 ps)
specifier_of (child (Node Kind.ExportSpecifier m span semantic_id ps)) = Reexported (module_name (at 0 ps)) (module_name (at 1 ps)) ∷ []
specifier_of p = []

abbrev pub specifiers_of : Parts → List Specifier
specifiers_of end = []
specifiers_of (more p ps) = specifier_of p ++ specifiers_of ps

abbrev pub nullable_name : Part → Option String
nullable_name absent = None
nullable_name p = Some (module_name p)

abbrev pub link : ℕ → Part → List Specifier → List ModuleLink
link m source specifiers = record { number = m; source = module_name source; specifiers = specifiers } ∷ []

abbrev pub export_link : ℕ → Part → Part → List ModuleLink
export_link m (child t) specifiers = link m (child t) (specifiers_of (items specifiers))
export_link m p specifiers = []

abbrev pub link_of : Part → List ModuleLink
link_of (child (Node Kind.ImportDeclaration m span semantic_id ps)) = link m (at 1 ps) (specifiers_of (items (at 0 ps)))
link_of (child (Node Kind.ExportNamedDeclaration m span semantic_id ps)) = export_link m (at 2 ps) (at 1 ps)
link_of (child (Node Kind.ExportAllDeclaration m span semantic_id ps)) = link m (at 1 ps) (ReexportedAll (nullable_name (at 0 ps)) ∷ [])
link_of p = []

abbrev pub links_in : Parts → List ModuleLink
links_in end = []
links_in (more p ps) = link_of p ++ links_in ps

-- ---- exported names of its own, and what they mean

pub data Exported : Type 0 where
  ExportedClass : (n : ℕ) → Exported
  ExportedBinding : (b : ℕ) → Exported
  -- a name that nothing declares
  ExportedFree : (spelling : String) → Exported
  ExportedValue : (v : Value) → Exported

pub record Export : Type 0 where
  pub name : String
  -- none where the name means nothing that can be exported
  pub means : Option Exported

abbrev pub exported_referent : Referent → Option Exported
exported_referent (Bound b) = Some (ExportedBinding b)
exported_referent (Free s) = Some (ExportedFree s)

abbrev pub exported_as : NameKind → Option Exported
exported_as (Fixed b) = Some (ExportedBinding b)
exported_as (Changing r) = exported_referent r
exported_as (MeansClass n b) = Some (ExportedClass n)
exported_as (Generated (GeneratedKind.ClassTemp n)) = Some (ExportedClass n.0)
exported_as (Generated g) = None
exported_as (StaticMethod d n) = None

abbrev pub exported_value : Option Value → Option Exported
exported_value None = None
exported_value (Some (ClassOf n)) = Some (ExportedClass n)
exported_value (Some v) = Some (ExportedValue v)

-- the names that a declaration exports
abbrev pub declared_exports : Context → List Declaration → List Export
declared_exports c [] = []
declared_exports c (d ∷ ds) = record { name = d.spelling; means = exported_as (name_kind c d.spelling) } ∷ declared_exports c ds

abbrev pub specifier_export : Context → Part → List Export
specifier_export c (child (Node Kind.ExportSpecifier m span semantic_id ps)) = record { name = module_name (at 1 ps); means = exported_as (name_kind c (module_name (at 0 ps))) } ∷ []
specifier_export c p = []

abbrev pub specifier_exports : Context → Parts → List Export
specifier_exports c end = []
specifier_exports c (more p ps) = specifier_export c p ++ specifier_exports c ps

-- an export without a source
abbrev pub local_exports : Context → Part → Part → Part → List Export
local_exports c declaration specifiers absent = declared_exports c (lexical_part declaration ++ var_part declaration) ++ specifier_exports c (items specifiers)
local_exports c declaration specifiers source = []

abbrev pub default_export : Option Exported → List Export
default_export means = record { name = codes "default"; means = means } ∷ []

abbrev pub is_named_declaration : Kind → Part → Bool
is_named_declaration Kind.FunctionDeclaration (child t) = true
is_named_declaration Kind.ClassDeclaration (child t) = true
is_named_declaration kind p = false

-- a declaration with a name exports its binding; else it is the value that the program gave
abbrev pub default_exports : Context → Environment → Part → List Export
default_exports c env (child (Node kind m span semantic_id ps)) = default_export (cond (is_named_declaration kind (at 0 ps)) (exported_as (name_kind c (module_name (at 0 ps)))) (exported_value (found default_key env)))
default_exports c env p = default_export None

abbrev pub exports_of : Context → Environment → Part → List Export
exports_of c env (child (Node Kind.ExportNamedDeclaration m span semantic_id ps)) = local_exports c (at 0 ps) (at 1 ps) (at 2 ps)
exports_of c env (child (Node Kind.ExportDefaultDeclaration m span semantic_id ps)) = default_exports c env (at 0 ps)
exports_of c env p = []

-- of the statements of a program; env is the environment at its end
abbrev pub exports_in : Context → Environment → Parts → List Export
exports_in c env end = []
exports_in c env (more p ps) = exports_of c env p ++ exports_in c env ps
