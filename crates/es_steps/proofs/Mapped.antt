-- Trees, codes and meanings with other numbers, and without spans and semantic ids: each number m becomes `f m`.
use Rattle.std.specs.Prelude.{◌≡◌, ℕ, List, map, true, nat_eq, Option, Some, None}
use Rattle.es_base.specs.Numbered.{is_new, is_old}
use Rattle.es_base.specs.Tree as tree
use Rattle.es_base.specs.Tree.{Tree, Part, Parts, Node}
use Rattle.es_base.specs.declared.ids.NodeId.{NodeId}
use Rattle.es_base.specs.declared.ledger.GeneratedKind.{GeneratedKind}
use Rattle.es_base.specs.declared.ledger.LedgerEntry.{LedgerEntry}
use Rattle.es_steps.specs.Code.{Code, Codes, Target, Callee, Opened, InitializersOf, BodyOf, CalledBodyOf, nothing, no_rule, value, spelled, private_name, binding, rest, name, super, member, private_member, super_member, private_in, assign, compound, logical, logical_assign, update, call, tag, construct, super_call, super_call_with_all, sequence, template_string, template, operation, piece, chain, short, tested, pattern, takes, steps, gives_to, export_default, function, new_function, new_return, class_code, field, private_field, method, private_method, constructor, static_block, generated_element, from_call, from_member, key_of, helper, helper_call, throw, define, private_initialize, add_brand, bound, setter, private_value, call_arrow, call_closure, initializers, give_function, give_class, to_name, to_member, to_private, to_super, to_setter, to_pattern, to_default, no_target, plain, on_member, on_private, on_super, with_receiver, checked, on_chain, behind_test, done, and}
use Rattle.es_steps.specs.Context.{Context, NameKind, Fixed, Changing, MeansClass, Generated, StaticMethod, FunctionRole, a_function, constructor_of, method_on, super_function_of}
use Rattle.es_steps.specs.Entries.{Parameter, Identifier, RestIdentifier, Pattern, Method, Listed, Entry, FunctionEntry, ClassEntry, Entries}
use Rattle.es_steps.specs.Evaluation.{Environment, Run}
use Rattle.es_steps.specs.Events.{Event, ReadName, SetName, Get, Set, Define, Call, Construct, Operate, Update, PrivateGet, PrivateSet, PrivateInitialize, PrivateIn, AddBrand, SuperGet, SuperSet, SuperCall, SuperCallWithAll, EnterBody, InitializeClass, Throw, Short, Held, Events, none, then}
use Rattle.es_steps.specs.Meaning.{Meaning, DeclarationKind, MemberEntry, IsField, FunctionIs, Terms}
use Rattle.es_steps.specs.Members.{Member, Members, code, absent, list, string, no_string, boolean, literal, end, more}
use Rattle.es_steps.specs.Modules.{Specifier, Imported, ImportedDefault, ImportedNamespace, Reexported, ReexportedAll, ModuleLink, Export, Exported, ExportedClass, ExportedBinding, ExportedFree, ExportedValue}
use Rattle.es_steps.specs.Opening.{Definition, of_class, of_name, of_called}
use Rattle.es_steps.specs.PrivateNames.{PrivateMember, PrivateReference}
use Rattle.es_steps.specs.References.{Reference}
use Rattle.es_steps.specs.Scopes.{ClassName, no_class, declares, own_name, let_names, Declaration}
use Rattle.es_steps.specs.Values.{String, Value, ConstantOf, Undefined, BindingOf, FunctionOf, ClassOf, ThisOf, ArgumentsOf, NewTargetOf, ResultOf, FormerOf, KeyOf, Referent, Bound, Free, Home, OfClass, OfPrototype, OfObject, PrivateTest, HasField, HasBrand, IsClass}

abbrev pub mapped_option : {A B : Type 0} → (A → B) → Option A → Option B
mapped_option f None = None
mapped_option f (Some a) = Some (f a)

-- numbers that are different stay different, new ones new, and old ones themselves
pub record Renames (first : ℕ) (f : ℕ → ℕ) : Type 0 where
  pub apart : (a b : ℕ) → nat_eq (f a) (f b) ≡ nat_eq a b
  pub new : (a : ℕ) → is_new first (f a) ≡ is_new first a
  pub old : (a : ℕ) → is_old first a ≡ true → f a ≡ a

module _ (f : ℕ → ℕ) where
  -- ---- trees

  abbrev mutual
    pub mapped : Tree → Tree
    mapped (Node kind m span semantic_id ps) = Node kind (f m) None None (mapped_parts ps)

    pub mapped_part : Part → Part
    mapped_part (tree.child t) = tree.child (mapped t)
    mapped_part tree.absent = tree.absent
    mapped_part (tree.list ps) = tree.list (mapped_parts ps)
    mapped_part (tree.string s) = tree.string s
    mapped_part tree.no_string = tree.no_string
    mapped_part (tree.boolean b) = tree.boolean b
    mapped_part (tree.literal v) = tree.literal v

    pub mapped_parts : Parts → Parts
    mapped_parts tree.end = tree.end
    mapped_parts (tree.more p ps) = tree.more (mapped_part p) (mapped_parts ps)

  -- ---- names

  abbrev pub mapped_class_name : ClassName → ClassName
  mapped_class_name no_class = no_class
  mapped_class_name (declares n) = declares (f n)
  mapped_class_name (own_name n) = own_name (f n)
  mapped_class_name (let_names m n) = let_names (f m) (f n)

  abbrev pub mapped_declaration : Declaration → Declaration
  mapped_declaration d = record { spelling = d.spelling; number = f d.number; class_name = mapped_class_name d.class_name }

  abbrev pub mapped_declarations : List Declaration → List Declaration
  mapped_declarations ds = map mapped_declaration ds

  abbrev pub mapped_referent : Referent → Referent
  mapped_referent (Bound b) = Bound (f b)
  mapped_referent (Free s) = Free s

  abbrev pub mapped_reference : Reference → Reference
  mapped_reference r = record { number = f r.number; spelling = r.spelling; to = mapped_referent r.to; writes = r.writes }

  abbrev mapped_id : NodeId → NodeId
  mapped_id n = record { 0 = f n.0 }

  abbrev pub mapped_generated : GeneratedKind → GeneratedKind
  mapped_generated GeneratedKind.Temp = GeneratedKind.Temp
  mapped_generated GeneratedKind.Param = GeneratedKind.Param
  mapped_generated (GeneratedKind.ClassTemp n) = GeneratedKind.ClassTemp (mapped_id n)
  mapped_generated (GeneratedKind.WeakMap d) = GeneratedKind.WeakMap (mapped_id d)
  mapped_generated (GeneratedKind.StaticField d) = GeneratedKind.StaticField (mapped_id d)
  mapped_generated (GeneratedKind.Brand n) = GeneratedKind.Brand (mapped_id n)
  mapped_generated (GeneratedKind.Method d) = GeneratedKind.Method (mapped_id d)
  mapped_generated (GeneratedKind.LooseKey d) = GeneratedKind.LooseKey (mapped_id d)
  mapped_generated (GeneratedKind.SuperFn n) = GeneratedKind.SuperFn (mapped_id n)
  mapped_generated GeneratedKind.Args = GeneratedKind.Args
  mapped_generated GeneratedKind.Closure = GeneratedKind.Closure
  mapped_generated (GeneratedKind.Private n) = GeneratedKind.Private (mapped_id n)

  abbrev pub mapped_ledger_entry : LedgerEntry → LedgerEntry
  mapped_ledger_entry e = record { name = e.name; kind = mapped_generated e.kind }

  abbrev pub mapped_ledger : List LedgerEntry → List LedgerEntry
  mapped_ledger es = map mapped_ledger_entry es

  abbrev pub mapped_name_kind : NameKind → NameKind
  mapped_name_kind (Fixed b) = Fixed (f b)
  mapped_name_kind (Changing r) = Changing (mapped_referent r)
  mapped_name_kind (MeansClass n b) = MeansClass (f n) (f b)
  mapped_name_kind (Generated g) = Generated (mapped_generated g)
  mapped_name_kind (StaticMethod d n) = StaticMethod (f d) (f n)

  abbrev pub mapped_private : PrivateMember → PrivateMember
  mapped_private x = record { number = f x.number; spelling = x.spelling; class = f x.class; is_static = x.is_static; kind = x.kind }

  abbrev pub mapped_privates : List PrivateMember → List PrivateMember
  mapped_privates xs = map mapped_private xs

  abbrev pub mapped_private_reference : PrivateReference → PrivateReference
  mapped_private_reference r = record { class = f r.class; is_static = r.is_static; is_field = r.is_field; reads = mapped_option f r.reads; writes = mapped_option f r.writes }

  -- ---- values, events

  abbrev pub mapped_value : Value → Value
  mapped_value (ConstantOf c) = ConstantOf c
  mapped_value Undefined = Undefined
  mapped_value (BindingOf b) = BindingOf (f b)
  mapped_value (FunctionOf g) = FunctionOf (f g)
  mapped_value (ClassOf n) = ClassOf (f n)
  mapped_value (ThisOf k) = ThisOf (f k)
  mapped_value (ArgumentsOf k) = ArgumentsOf (f k)
  mapped_value (NewTargetOf k) = NewTargetOf (f k)
  mapped_value (ResultOf m) = ResultOf (f m)
  mapped_value (FormerOf m) = FormerOf (f m)
  mapped_value (KeyOf v) = KeyOf (mapped_value v)

  abbrev pub mapped_values : List Value → List Value
  mapped_values vs = map mapped_value vs

  abbrev pub mapped_nullable : Option Value → Option Value
  mapped_nullable v = mapped_option mapped_value v

  abbrev pub mapped_home : Home → Home
  mapped_home (OfClass n) = OfClass (f n)
  mapped_home (OfPrototype n) = OfPrototype (f n)
  mapped_home (OfObject m) = OfObject (f m)

  abbrev pub mapped_test : PrivateTest → PrivateTest
  mapped_test (HasField d) = HasField (f d)
  mapped_test (HasBrand n) = HasBrand (f n)
  mapped_test (IsClass n) = IsClass (f n)

  abbrev mutual
    pub mapped_event : Event → Event
    mapped_event (ReadName m r) = ReadName (f m) (mapped_referent r)
    mapped_event (SetName r v) = SetName (mapped_referent r) (mapped_value v)
    mapped_event (Get m o k) = Get (f m) (mapped_value o) (mapped_value k)
    mapped_event (Set o k v) = Set (mapped_value o) (mapped_value k) (mapped_value v)
    mapped_event (Define o k v) = Define (mapped_value o) (mapped_value k) (mapped_value v)
    mapped_event (Call m callee receiver vs) = Call (f m) (mapped_value callee) (mapped_nullable receiver) (mapped_values vs)
    mapped_event (Construct m callee vs) = Construct (f m) (mapped_value callee) (mapped_values vs)
    mapped_event (Operate m op vs) = Operate (f m) op (mapped_values vs)
    mapped_event (Update m operator old) = Update (f m) operator (mapped_value old)
    mapped_event (PrivateGet m d o) = PrivateGet (f m) (f d) (mapped_value o)
    mapped_event (PrivateSet d o v) = PrivateSet (f d) (mapped_value o) (mapped_value v)
    mapped_event (PrivateInitialize d o v) = PrivateInitialize (f d) (mapped_value o) (mapped_value v)
    mapped_event (PrivateIn m test o) = PrivateIn (f m) (mapped_test test) (mapped_value o)
    mapped_event (AddBrand n o) = AddBrand (f n) (mapped_value o)
    mapped_event (SuperGet m home k this) = SuperGet (f m) (mapped_home home) (mapped_value k) (mapped_value this)
    mapped_event (SuperSet home k v this) = SuperSet (mapped_home home) (mapped_value k) (mapped_value v) (mapped_value this)
    mapped_event (SuperCall m n vs) = SuperCall (f m) (f n) (mapped_values vs)
    mapped_event (SuperCallWithAll n) = SuperCallWithAll (f n)
    mapped_event EnterBody = EnterBody
    mapped_event (InitializeClass n) = InitializeClass (f n)
    mapped_event Throw = Throw
    mapped_event (Short v) = Short (mapped_value v)
    mapped_event (Held m place test l v) = Held (f m) place (mapped_nullable test) (mapped_events l) (mapped_value v)

    pub mapped_events : Events → Events
    mapped_events none = none
    mapped_events (then e es) = then (mapped_event e) (mapped_events es)

  abbrev pub mapped_given : String × Value → String × Value
  mapped_given p = (p.0, mapped_value p.1)

  abbrev pub mapped_environment : Environment → Environment
  mapped_environment env = map mapped_given env

  abbrev pub mapped_run : Run → Run
  mapped_run r = record { events = mapped_events r.events; value = mapped_value r.value; after = mapped_environment r.after }

  abbrev pub mapped_runs : Option Run → Option Run
  mapped_runs r = mapped_option mapped_run r

  -- ---- contexts, codes

  abbrev pub mapped_role : FunctionRole → FunctionRole
  mapped_role a_function = a_function
  mapped_role (constructor_of n) = constructor_of (f n)
  mapped_role (method_on home) = method_on (mapped_home home)
  mapped_role (super_function_of n) = super_function_of (f n)

  abbrev pub mapped_pair : ℕ × ℕ → ℕ × ℕ
  mapped_pair p = (f p.0, f p.1)

  abbrev pub mapped_context : Context → Context
  mapped_context c = record {
    first_new = c.first_new;
    ledger = mapped_ledger c.ledger;
    options = c.options;
    members = mapped_privates c.members;
    named = map mapped_pair c.named;
    varying = map f c.varying;
    writes_arguments = c.writes_arguments;
    names = mapped_declarations c.names;
    privates = mapped_privates c.privates;
    this = mapped_value c.this;
    new_target = mapped_value c.new_target;
    arguments = mapped_value c.arguments;
    home = mapped_option mapped_home c.home;
    constructs = mapped_option f c.constructs;
    initializing = mapped_option f c.initializing;
    in_new_function = c.in_new_function;
    rest_name = c.rest_name;
    class = f c.class;
    has_heritage = c.has_heritage;
    object = f c.object;
    role = mapped_role c.role;
    let_class = mapped_option mapped_pair c.let_class;
    is_body = c.is_body;
    uncaught = mapped_declarations c.uncaught;
    around = mapped_option mapped_declarations c.around;
  }

  abbrev pub mapped_opened : Opened → Opened
  mapped_opened (InitializersOf n) = InitializersOf (f n)
  mapped_opened (BodyOf s) = BodyOf s
  mapped_opened (CalledBodyOf s) = CalledBodyOf s

  abbrev mutual
    pub mapped_code : Code → Code
    mapped_code nothing = nothing
    mapped_code no_rule = no_rule
    mapped_code (value v) = value (mapped_value v)
    mapped_code (spelled s) = spelled s
    mapped_code (private_name d s r) = private_name (f d) s (mapped_option mapped_private_reference r)
    mapped_code (binding b s kind) = binding (f b) s (mapped_name_kind kind)
    mapped_code (rest to) = rest (mapped_target to)
    mapped_code (name m s kind) = name (f m) s (mapped_name_kind kind)
    mapped_code super = super
    mapped_code (member m o k) = member (f m) (mapped_code o) (mapped_code k)
    mapped_code (private_member m r o) = private_member (f m) (mapped_private_reference r) (mapped_code o)
    mapped_code (super_member m home k this) = super_member (f m) (mapped_home home) (mapped_code k) (mapped_value this)
    mapped_code (private_in m test o) = private_in (f m) (mapped_test test) (mapped_code o)
    mapped_code (assign to e) = assign (mapped_target to) (mapped_code e)
    mapped_code (compound m op to e) = compound (f m) op (mapped_target to) (mapped_code e)
    mapped_code (logical m op l r) = logical (f m) op (mapped_code l) (mapped_code r)
    mapped_code (logical_assign m op to e) = logical_assign (f m) op (mapped_target to) (mapped_code e)
    mapped_code (update m op prefix to) = update (f m) op prefix (mapped_target to)
    mapped_code (call m g es) = call (f m) (mapped_callee g) (mapped_codes es)
    mapped_code (tag m g ts es) = tag (f m) (mapped_callee g) ts (mapped_codes es)
    mapped_code (construct m g es) = construct (f m) (mapped_code g) (mapped_codes es)
    mapped_code (super_call m n o es) = super_call (f m) (f n) (mapped_option mapped_opened o) (mapped_codes es)
    mapped_code (super_call_with_all n) = super_call_with_all (f n)
    mapped_code (sequence es) = sequence (mapped_codes es)
    mapped_code (template_string t) = template_string t
    mapped_code (template m ts es) = template (f m) ts (mapped_codes es)
    mapped_code (operation m op es parts) = operation (f m) op (mapped_codes es) (mapped_codes parts)
    mapped_code (piece ds es) = piece ds (mapped_codes es)
    mapped_code (chain m e) = chain (f m) (mapped_code e)
    mapped_code (short e) = short (mapped_code e)
    mapped_code (tested o again e) = tested (mapped_code o) (mapped_codes again) (mapped_code e)
    mapped_code (pattern m to) = pattern (f m) (mapped_target to)
    mapped_code (takes m ds k to) = takes (f m) ds (mapped_codes k) (mapped_target to)
    mapped_code (steps es) = steps (mapped_codes es)
    mapped_code (gives_to m to) = gives_to (f m) (mapped_target to)
    mapped_code (export_default e) = export_default (mapped_code e)
    mapped_code (function g form own ps body) = function (f g) form (mapped_option f own) (mapped_codes ps) (mapped_code body)
    mapped_code (new_function g form ps body) = new_function (f g) form (mapped_codes ps) (mapped_code body)
    mapped_code (new_return es) = new_return (mapped_codes es)
    mapped_code (class_code n declared h es) = class_code (f n) (mapped_option f declared) (mapped_codes h) (mapped_codes es)
    mapped_code (field is_static form k e) = field is_static form (mapped_code k) (mapped_code e)
    mapped_code (private_field is_static d e) = private_field is_static (f d) (mapped_code e)
    mapped_code (method is_static kind k g) = method is_static kind (mapped_code k) (mapped_code g)
    mapped_code (private_method is_static d g) = private_method is_static (f d) (mapped_code g)
    mapped_code (constructor g) = constructor (mapped_code g)
    mapped_code (static_block es) = static_block (mapped_codes es)
    mapped_code (generated_element s e) = generated_element s (mapped_code e)
    mapped_code (from_call e) = from_call (mapped_code e)
    mapped_code (from_member e) = from_member (mapped_code e)
    mapped_code (key_of e) = key_of (mapped_code e)
    mapped_code (helper h) = helper h
    mapped_code (helper_call m h es) = helper_call (f m) h (mapped_codes es)
    mapped_code throw = throw
    mapped_code (define m o k e) = define (f m) (mapped_value o) (mapped_code k) (mapped_code e)
    mapped_code (private_initialize m d o e) = private_initialize (f m) (f d) (mapped_value o) (mapped_code e)
    mapped_code (add_brand m n o) = add_brand (f m) (f n) (mapped_value o)
    mapped_code (bound g o) = bound (mapped_code g) (mapped_code o)
    mapped_code (setter m d o) = setter (f m) (f d) (mapped_code o)
    mapped_code (private_value s) = private_value s
    mapped_code (call_arrow ss body es) = call_arrow ss (mapped_code body) (mapped_codes es)
    mapped_code (call_closure s es) = call_closure s (mapped_codes es)
    mapped_code (initializers n) = initializers (f n)
    mapped_code (give_function m s g e) = give_function (f m) s (mapped_generated g) (mapped_code e)
    mapped_code (give_class n e) = give_class (f n) (mapped_code e)

    pub mapped_target : Target → Target
    mapped_target (to_name m s kind) = to_name (f m) s (mapped_name_kind kind)
    mapped_target (to_member m o k) = to_member (f m) (mapped_code o) (mapped_code k)
    mapped_target (to_private m r o) = to_private (f m) (mapped_private_reference r) (mapped_code o)
    mapped_target (to_super m home k this) = to_super (f m) (mapped_home home) (mapped_code k) (mapped_value this)
    mapped_target (to_setter m d o) = to_setter (f m) (f d) (mapped_code o)
    mapped_target (to_pattern m kind cs) = to_pattern (f m) kind (mapped_codes cs)
    mapped_target (to_default m to e) = to_default (f m) (mapped_target to) (mapped_code e)
    mapped_target no_target = no_target

    pub mapped_callee : Callee → Callee
    mapped_callee (plain e) = plain (mapped_code e)
    mapped_callee (on_member m o k) = on_member (f m) (mapped_code o) (mapped_code k)
    mapped_callee (on_private m r o) = on_private (f m) (mapped_private_reference r) (mapped_code o)
    mapped_callee (on_super m home k this) = on_super (f m) (mapped_home home) (mapped_code k) (mapped_value this)
    mapped_callee (with_receiver g o) = with_receiver (mapped_code g) (mapped_code o)
    mapped_callee (checked g) = checked (mapped_callee g)
    mapped_callee (on_chain m g) = on_chain (f m) (mapped_callee g)
    mapped_callee (behind_test o again g) = behind_test (mapped_code o) (mapped_codes again) (mapped_callee g)

    pub mapped_codes : Codes → Codes
    mapped_codes done = done
    mapped_codes (and e es) = and (mapped_code e) (mapped_codes es)

  abbrev mutual
    pub mapped_member : Member → Member
    mapped_member (code c) = code (mapped_code c)
    mapped_member absent = absent
    mapped_member (list ps) = list (mapped_members ps)
    mapped_member (string s) = string s
    mapped_member no_string = no_string
    mapped_member (boolean b) = boolean b
    mapped_member (literal v) = literal v

    pub mapped_members : Members → Members
    mapped_members end = end
    mapped_members (more p ps) = more (mapped_member p) (mapped_members ps)

  abbrev pub mapped_definition : Definition → Definition
  mapped_definition (of_class n es) = of_class (f n) (mapped_codes es)
  mapped_definition (of_name s c) = of_name s (mapped_code c)
  mapped_definition (of_called s c) = of_called s (mapped_code c)

  -- ---- meanings

  abbrev pub mapped_listed : Listed → Listed
  mapped_listed l = record { events = mapped_events l.events; value = mapped_value l.value }

  abbrev pub mapped_parameter : Parameter → Parameter
  mapped_parameter (Identifier b) = Identifier (f b)
  mapped_parameter (RestIdentifier b) = RestIdentifier (f b)
  mapped_parameter Pattern = Pattern

  abbrev pub mapped_parameters : List Parameter → List Parameter
  mapped_parameters ps = map mapped_parameter ps

  abbrev pub mapped_method : Method → Method
  mapped_method m = record { is_static = m.is_static; kind = m.kind; key = mapped_value m.key; function = f m.function }

  abbrev pub mapped_methods : List Method → List Method
  mapped_methods ms = map mapped_method ms

  abbrev pub mapped_entry : Entry → Entry
  mapped_entry (FunctionEntry form own ps body) = FunctionEntry form (mapped_option f own) (mapped_parameters ps) (mapped_listed body)
  mapped_entry (ClassEntry declared h ms form ps construction) = ClassEntry (mapped_option f declared) (mapped_nullable h) (mapped_methods ms) form (mapped_parameters ps) (mapped_listed construction)

  abbrev pub mapped_nullable_entry : ℕ × Option Entry → ℕ × Option Entry
  mapped_nullable_entry p = (f p.0, mapped_option mapped_entry p.1)

  abbrev pub mapped_entries : Entries → Entries
  mapped_entries es = map mapped_nullable_entry es

  abbrev pub mapped_numbered_entry : ℕ × Entry → ℕ × Entry
  mapped_numbered_entry p = (f p.0, mapped_entry p.1)

  abbrev pub mapped_member_entry : MemberEntry → MemberEntry
  mapped_member_entry (IsField n is_static) = IsField (f n) is_static
  mapped_member_entry (FunctionIs n is_static kind g) = FunctionIs (f n) is_static kind (f g)

  abbrev pub mapped_numbered_member : ℕ × MemberEntry → ℕ × MemberEntry
  mapped_numbered_member p = (f p.0, mapped_member_entry p.1)

  abbrev pub mapped_binding : ℕ × DeclarationKind → ℕ × DeclarationKind
  mapped_binding p = (f p.0, p.1)

  abbrev pub mapped_name : ℕ × String → ℕ × String
  mapped_name p = (f p.0, p.1)

  abbrev pub mapped_specifier : Specifier → Specifier
  mapped_specifier (Imported s b) = Imported s (f b)
  mapped_specifier (ImportedDefault b) = ImportedDefault (f b)
  mapped_specifier (ImportedNamespace b) = ImportedNamespace (f b)
  mapped_specifier (Reexported s t) = Reexported s t
  mapped_specifier (ReexportedAll s) = ReexportedAll s

  abbrev pub mapped_link : ModuleLink → ModuleLink
  mapped_link l = record { number = f l.number; source = l.source; specifiers = map mapped_specifier l.specifiers }

  abbrev pub mapped_exported : Exported → Exported
  mapped_exported (ExportedClass n) = ExportedClass (f n)
  mapped_exported (ExportedBinding b) = ExportedBinding (f b)
  mapped_exported (ExportedFree s) = ExportedFree s
  mapped_exported (ExportedValue v) = ExportedValue (mapped_value v)

  abbrev pub mapped_export : Export → Export
  mapped_export x = record { name = x.name; means = mapped_option mapped_exported x.means }

  abbrev pub mapped_named_export : String × Exported → String × Exported
  mapped_named_export p = (p.0, mapped_exported p.1)

  abbrev pub mapped_meaning : Meaning → Meaning
  mapped_meaning m = record {
    source_type = m.source_type;
    program = mapped_listed m.program;
    entries = map mapped_numbered_entry m.entries;
    members = map mapped_numbered_member m.members;
    functions = map mapped_pair m.functions;
    bindings = map mapped_binding m.bindings;
    globals = map mapped_name m.globals;
    shared = map mapped_pair m.shared;
    places = map mapped_pair m.places;
    branches = map mapped_pair m.branches;
    links = map mapped_link m.links;
    exports = map mapped_named_export m.exports;
  }

  abbrev pub mapped_terms : Terms → Terms
  mapped_terms o = record { first_new = o.first_new; options = o.options; ledger = mapped_ledger o.ledger; members = mapped_privates o.members; named = map mapped_pair o.named; late = map f o.late }
