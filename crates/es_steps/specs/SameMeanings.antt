-- Whether two meanings are one: what a checker of pairs of programs computes. (Our own.)
use Rattle.std.specs.Prelude.{ℕ, List, [], ◌∷◌, Bool, true, false, ◌&&◌, bytes_eq, nat_eq, Option, Some, None}
use Rattle.es_steps.specs.Code.{FunctionForm}
use Rattle.es_steps.specs.Entries.{Parameter, Identifier, RestIdentifier, Pattern, Method, Listed, Entry, FunctionEntry, ClassEntry}
use Rattle.es_steps.specs.Events.{Detail, Operand, Empty, Spelled, Flag, Key, Opens, Closes, Prototype, Index, Rest, Operation, OfKind, Delete, Take, Place, RightOf, Default, Part, Event, ReadName, SetName, Get, Set, Define, Call, Construct, Operate, Update, PrivateGet, PrivateSet, PrivateInitialize, PrivateIn, AddBrand, SuperGet, SuperSet, SuperCall, SuperCallWithAll, EnterBody, InitializeClass, Throw, Short, Held, Events, none, then}
use Rattle.es_steps.specs.Meaning.{Meaning, DeclarationKind, Variable, FunctionName, ParameterName, CaughtName, ImportName, ClassDeclared, ArgumentsName, MemberEntry, IsField, FunctionIs}
use Rattle.es_steps.specs.Modules.{Specifier, Imported, ImportedDefault, ImportedNamespace, Reexported, ReexportedAll, ModuleLink, Exported, ExportedClass, ExportedBinding, ExportedFree, ExportedValue}
use Rattle.es_steps.specs.PrivateNames.{PrivateKind, a_field, a_method, a_getter, a_setter}
use Rattle.es_steps.specs.SameTrees.{same_kind}
use Rattle.es_steps.specs.SameValues.{same_boolean, same_nullable_string, same_constant, same_value}
use Rattle.es_steps.specs.Values.{String, Referent, Bound, Free, Home, OfClass, OfPrototype, OfObject, PrivateTest, HasField, HasBrand, IsClass}

abbrev pub same_list : {A : Type 0} → (A → A → Bool) → List A → List A → Bool
same_list same [] [] = true
same_list same (x ∷ xs) (y ∷ ys) = same x y && same_list same xs ys
same_list same xs ys = false

abbrev pub same_option : {A : Type 0} → (A → A → Bool) → Option A → Option A → Bool
same_option same None None = true
same_option same (Some x) (Some y) = same x y
same_option same x y = false

-- ---- events

abbrev pub same_detail : Detail → Detail → Bool
same_detail Operand Operand = true
same_detail Empty Empty = true
same_detail (Spelled s) (Spelled t) = bytes_eq s t
same_detail (Flag b) (Flag c) = same_boolean b c
same_detail (Key k) (Key l) = same_constant k l
same_detail Opens Opens = true
same_detail Closes Closes = true
same_detail Prototype Prototype = true
same_detail (Index i) (Index j) = nat_eq i j
same_detail Rest Rest = true
same_detail d e = false

abbrev pub same_operation : Operation → Operation → Bool
same_operation (OfKind k ds) (OfKind l es) = same_kind k l && same_list same_detail ds es
same_operation Delete Delete = true
same_operation (Take ds) (Take es) = same_list same_detail ds es
same_operation a b = false

abbrev pub same_place : Place → Place → Bool
same_place (RightOf s) (RightOf t) = bytes_eq s t
same_place Default Default = true
same_place (Part i) (Part j) = nat_eq i j
same_place p q = false

abbrev pub same_referent : Referent → Referent → Bool
same_referent (Bound b) (Bound c) = nat_eq b c
same_referent (Free s) (Free t) = bytes_eq s t
same_referent r s = false

abbrev pub same_home : Home → Home → Bool
same_home (OfClass n) (OfClass k) = nat_eq n k
same_home (OfPrototype n) (OfPrototype k) = nat_eq n k
same_home (OfObject n) (OfObject k) = nat_eq n k
same_home h g = false

abbrev pub same_test : PrivateTest → PrivateTest → Bool
same_test (HasField d) (HasField e) = nat_eq d e
same_test (HasBrand n) (HasBrand k) = nat_eq n k
same_test (IsClass n) (IsClass k) = nat_eq n k
same_test t u = false

abbrev mutual
  pub same_event : Event → Event → Bool
  same_event (ReadName m r) (ReadName k s) = nat_eq m k && same_referent r s
  same_event (SetName r v) (SetName s w) = same_referent r s && same_value v w
  same_event (Get m o k) (Get n p l) = nat_eq m n && (same_value o p && same_value k l)
  same_event (Set o k v) (Set p l w) = same_value o p && (same_value k l && same_value v w)
  same_event (Define o k v) (Define p l w) = same_value o p && (same_value k l && same_value v w)
  same_event (Call m f r vs) (Call n g s ws) = nat_eq m n && (same_value f g && (same_option same_value r s && same_list same_value vs ws))
  same_event (Construct m f vs) (Construct n g ws) = nat_eq m n && (same_value f g && same_list same_value vs ws)
  same_event (Operate m a vs) (Operate n b ws) = nat_eq m n && (same_operation a b && same_list same_value vs ws)
  same_event (Update m s v) (Update n t w) = nat_eq m n && (bytes_eq s t && same_value v w)
  same_event (PrivateGet m d o) (PrivateGet n e p) = nat_eq m n && (nat_eq d e && same_value o p)
  same_event (PrivateSet d o v) (PrivateSet e p w) = nat_eq d e && (same_value o p && same_value v w)
  same_event (PrivateInitialize d o v) (PrivateInitialize e p w) = nat_eq d e && (same_value o p && same_value v w)
  same_event (PrivateIn m t o) (PrivateIn n u p) = nat_eq m n && (same_test t u && same_value o p)
  same_event (AddBrand n o) (AddBrand k p) = nat_eq n k && same_value o p
  same_event (SuperGet m h k v) (SuperGet n g l w) = nat_eq m n && (same_home h g && (same_value k l && same_value v w))
  same_event (SuperSet h k v x) (SuperSet g l w y) = same_home h g && (same_value k l && (same_value v w && same_value x y))
  same_event (SuperCall m n vs) (SuperCall k l ws) = nat_eq m k && (nat_eq n l && same_list same_value vs ws)
  same_event (SuperCallWithAll n) (SuperCallWithAll k) = nat_eq n k
  same_event EnterBody EnterBody = true
  same_event (InitializeClass n) (InitializeClass k) = nat_eq n k
  same_event Throw Throw = true
  same_event (Short v) (Short w) = same_value v w
  same_event (Held m p t l v) (Held n q u k w) = nat_eq m n && (same_place p q && (same_option same_value t u && (same_events l k && same_value v w)))
  same_event e f = false

  pub same_events : Events → Events → Bool
  same_events none none = true
  same_events (then e es) (then f fs) = same_event e f && same_events es fs
  same_events es fs = false

-- ---- entries

abbrev pub same_listed : Listed → Listed → Bool
same_listed l k = same_events l.events k.events && same_value l.value k.value

abbrev pub same_form : FunctionForm → FunctionForm → Bool
same_form f g = same_boolean f.is_arrow g.is_arrow && (same_boolean f.is_async g.is_async && same_boolean f.is_generator g.is_generator)

abbrev pub same_parameter : Parameter → Parameter → Bool
same_parameter (Identifier b) (Identifier c) = nat_eq b c
same_parameter (RestIdentifier b) (RestIdentifier c) = nat_eq b c
same_parameter Pattern Pattern = true
same_parameter p q = false

abbrev pub same_method : Method → Method → Bool
same_method a b = same_boolean a.is_static b.is_static && (bytes_eq a.kind b.kind && (same_value a.key b.key && nat_eq a.function b.function))

abbrev pub same_entry : Entry → Entry → Bool
same_entry (FunctionEntry f a ps l) (FunctionEntry g b qs k) = same_form f g && (same_option nat_eq a b && (same_list same_parameter ps qs && same_listed l k))
same_entry (ClassEntry a h ms f ps l) (ClassEntry b g ns e qs k) = same_option nat_eq a b && (same_option same_value h g && (same_list same_method ms ns && (same_form f e && (same_list same_parameter ps qs && same_listed l k))))
same_entry x y = false

abbrev pub same_numbered : {A : Type 0} → (A → A → Bool) → ℕ × A → ℕ × A → Bool
same_numbered same p q = nat_eq p.0 q.0 && same p.1 q.1

abbrev pub same_private_kind : PrivateKind → PrivateKind → Bool
same_private_kind a_field a_field = true
same_private_kind a_method a_method = true
same_private_kind a_getter a_getter = true
same_private_kind a_setter a_setter = true
same_private_kind kind other = false

abbrev pub same_member : MemberEntry → MemberEntry → Bool
same_member (IsField n b) (IsField m c) = nat_eq n m && same_boolean b c
same_member (FunctionIs n b kind f) (FunctionIs m c other g) = nat_eq n m && same_boolean b c && (same_private_kind kind other && nat_eq f g)
same_member x y = false

abbrev pub same_declaration : DeclarationKind → DeclarationKind → Bool
same_declaration (Variable s) (Variable t) = bytes_eq s t
same_declaration FunctionName FunctionName = true
same_declaration ParameterName ParameterName = true
same_declaration CaughtName CaughtName = true
same_declaration ImportName ImportName = true
same_declaration ClassDeclared ClassDeclared = true
same_declaration (ArgumentsName d) (ArgumentsName e) = same_declaration d e
same_declaration d e = false

-- ---- modules

abbrev pub same_specifier : Specifier → Specifier → Bool
same_specifier (Imported s b) (Imported t c) = bytes_eq s t && nat_eq b c
same_specifier (ImportedDefault b) (ImportedDefault c) = nat_eq b c
same_specifier (ImportedNamespace b) (ImportedNamespace c) = nat_eq b c
same_specifier (Reexported s x) (Reexported t y) = bytes_eq s t && bytes_eq x y
same_specifier (ReexportedAll s) (ReexportedAll t) = same_nullable_string s t
same_specifier x y = false

abbrev pub same_link : ModuleLink → ModuleLink → Bool
same_link a b = nat_eq a.number b.number && (bytes_eq a.source b.source && same_list same_specifier a.specifiers b.specifiers)

abbrev pub same_exported : Exported → Exported → Bool
same_exported (ExportedClass n) (ExportedClass k) = nat_eq n k
same_exported (ExportedBinding b) (ExportedBinding c) = nat_eq b c
same_exported (ExportedFree s) (ExportedFree t) = bytes_eq s t
same_exported (ExportedValue v) (ExportedValue w) = same_value v w
same_exported x y = false

abbrev pub same_export : String × Exported → String × Exported → Bool
same_export p q = bytes_eq p.0 q.0 && same_exported p.1 q.1

-- ---- meanings

abbrev pub same_meaning : Meaning → Meaning → Bool
same_meaning a b =
    bytes_eq a.source_type b.source_type && (same_listed a.program b.program && (same_list (same_numbered same_entry) a.entries b.entries && (same_list (same_numbered same_member) a.members b.members
    && (same_list (same_numbered nat_eq) a.functions b.functions && (same_list (same_numbered same_declaration) a.bindings b.bindings && (same_list (same_numbered bytes_eq) a.globals b.globals && (same_list (same_numbered nat_eq) a.shared b.shared && (same_list (same_numbered nat_eq) a.places b.places && (same_list (same_numbered nat_eq) a.branches b.branches && (same_list same_link a.links b.links && same_list same_export a.exports b.exports))))))))))

abbrev pub same_meanings : Option Meaning → Option Meaning → Bool
same_meanings a b = same_option same_meaning a b
