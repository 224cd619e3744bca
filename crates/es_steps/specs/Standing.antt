-- Which numbers of nodes stand in a meaning, and in what a tree is read under (our own).
use Rattle.std.specs.Prelude.{ℕ, List, [], ◌∷◌, ◌++◌, Bool, true, ◌&&◌, Option, Some, None}
use Rattle.es_base.specs.Numbered.{is_old}
use Rattle.es_base.specs.declared.ledger.GeneratedKind.{GeneratedKind}
use Rattle.es_base.specs.declared.ledger.LedgerEntry.{LedgerEntry}
use Rattle.es_steps.specs.Entries.{Parameter, Identifier, RestIdentifier, Pattern, Method, Listed, Entry, FunctionEntry, ClassEntry}
use Rattle.es_steps.specs.Events.{Event, ReadName, SetName, Get, Set, Define, Call, Construct, Operate, Update, PrivateGet, PrivateSet, PrivateInitialize, PrivateIn, AddBrand, SuperGet, SuperSet, SuperCall, SuperCallWithAll, EnterBody, InitializeClass, Throw, Short, Held, Events, none, then}
use Rattle.es_steps.specs.Meaning.{Meaning, Terms, DeclarationKind, MemberEntry, IsField, FunctionIs}
use Rattle.es_steps.specs.Modules.{Specifier, Imported, ImportedDefault, ImportedNamespace, Reexported, ReexportedAll, ModuleLink, Exported, ExportedClass, ExportedBinding, ExportedFree, ExportedValue}
use Rattle.es_steps.specs.PrivateNames.{PrivateMember}
use Rattle.es_steps.specs.Values.{String, Value, ConstantOf, Undefined, BindingOf, FunctionOf, ClassOf, ThisOf, ArgumentsOf, NewTargetOf, ResultOf, FormerOf, KeyOf, Referent, Bound, Free, Home, OfClass, OfPrototype, OfObject, PrivateTest, HasField, HasBrand, IsClass}

abbrev pub value_numbers : Value → List ℕ
value_numbers (ConstantOf c) = []
value_numbers Undefined = []
value_numbers (BindingOf b) = b ∷ []
value_numbers (FunctionOf f) = f ∷ []
value_numbers (ClassOf n) = n ∷ []
value_numbers (ThisOf k) = k ∷ []
value_numbers (ArgumentsOf k) = k ∷ []
value_numbers (NewTargetOf k) = k ∷ []
value_numbers (ResultOf m) = m ∷ []
value_numbers (FormerOf m) = m ∷ []
value_numbers (KeyOf v) = value_numbers v

abbrev pub values_numbers : List Value → List ℕ
values_numbers [] = []
values_numbers (v ∷ vs) = value_numbers v ++ values_numbers vs

abbrev pub nullable_value_numbers : Option Value → List ℕ
nullable_value_numbers None = []
nullable_value_numbers (Some v) = value_numbers v

abbrev pub referent_numbers : Referent → List ℕ
referent_numbers (Bound b) = b ∷ []
referent_numbers (Free s) = []

abbrev pub home_numbers : Home → List ℕ
home_numbers (OfClass n) = n ∷ []
home_numbers (OfPrototype n) = n ∷ []
home_numbers (OfObject m) = m ∷ []

abbrev pub test_numbers : PrivateTest → List ℕ
test_numbers (HasField d) = d ∷ []
test_numbers (HasBrand n) = n ∷ []
test_numbers (IsClass n) = n ∷ []

abbrev mutual
  pub event_numbers : Event → List ℕ
  event_numbers (ReadName m r) = m ∷ referent_numbers r
  event_numbers (SetName r v) = referent_numbers r ++ value_numbers v
  event_numbers (Get m o k) = m ∷ value_numbers o ++ value_numbers k
  event_numbers (Set o k v) = value_numbers o ++ value_numbers k ++ value_numbers v
  event_numbers (Define o k v) = value_numbers o ++ value_numbers k ++ value_numbers v
  event_numbers (Call m f receiver vs) = m ∷ value_numbers f ++ nullable_value_numbers receiver ++ values_numbers vs
  event_numbers (Construct m f vs) = m ∷ value_numbers f ++ values_numbers vs
  event_numbers (Operate m operation vs) = m ∷ values_numbers vs
  event_numbers (Update m operator old) = m ∷ value_numbers old
  event_numbers (PrivateGet m d o) = m ∷ d ∷ value_numbers o
  event_numbers (PrivateSet d o v) = d ∷ value_numbers o ++ value_numbers v
  event_numbers (PrivateInitialize d o v) = d ∷ value_numbers o ++ value_numbers v
  event_numbers (PrivateIn m test o) = m ∷ test_numbers test ++ value_numbers o
  event_numbers (AddBrand n o) = n ∷ value_numbers o
  event_numbers (SuperGet m home k this) = m ∷ home_numbers home ++ value_numbers k ++ value_numbers this
  event_numbers (SuperSet home k v this) = home_numbers home ++ value_numbers k ++ value_numbers v ++ value_numbers this
  event_numbers (SuperCall m n vs) = m ∷ n ∷ values_numbers vs
  event_numbers (SuperCallWithAll n) = n ∷ []
  event_numbers EnterBody = []
  event_numbers (InitializeClass n) = n ∷ []
  event_numbers Throw = []
  event_numbers (Short v) = value_numbers v
  event_numbers (Held m place test l v) = m ∷ nullable_value_numbers test ++ events_numbers l ++ value_numbers v

  pub events_numbers : Events → List ℕ
  events_numbers none = []
  events_numbers (then e es) = event_numbers e ++ events_numbers es

abbrev pub listed_numbers : Listed → List ℕ
listed_numbers l = events_numbers l.events ++ value_numbers l.value

abbrev pub parameter_numbers : Parameter → List ℕ
parameter_numbers (Identifier b) = b ∷ []
parameter_numbers (RestIdentifier b) = b ∷ []
parameter_numbers Pattern = []

abbrev pub nullable_number : Option ℕ → List ℕ
nullable_number None = []
nullable_number (Some n) = n ∷ []

-- of all in a list
abbrev pub all_numbers : {A : Type 0} → (A → List ℕ) → List A → List ℕ
all_numbers of [] = []
all_numbers of (a ∷ rest) = of a ++ all_numbers of rest

abbrev pub method_numbers : Method → List ℕ
method_numbers m = m.function ∷ value_numbers m.key

abbrev pub entry_numbers : Entry → List ℕ
entry_numbers (FunctionEntry form own_name ps body) = nullable_number own_name ++ all_numbers parameter_numbers ps ++ listed_numbers body
entry_numbers (ClassEntry declared h ms form ps construction) = nullable_number declared ++ nullable_value_numbers h ++ all_numbers method_numbers ms ++ all_numbers parameter_numbers ps ++ listed_numbers construction

abbrev pub numbered_entry_numbers : ℕ × Entry → List ℕ
numbered_entry_numbers p = p.0 ∷ entry_numbers p.1

abbrev pub member_numbers : MemberEntry → List ℕ
member_numbers (IsField n is_static) = n ∷ []
member_numbers (FunctionIs n is_static kind f) = n ∷ f ∷ []

abbrev pub numbered_member_numbers : ℕ × MemberEntry → List ℕ
numbered_member_numbers p = p.0 ∷ member_numbers p.1

abbrev pub pair_numbers : ℕ × ℕ → List ℕ
pair_numbers p = p.0 ∷ p.1 ∷ []

abbrev pub binding_numbers : ℕ × DeclarationKind → List ℕ
binding_numbers b = b.0 ∷ []

abbrev pub name_numbers : ℕ × String → List ℕ
name_numbers p = p.0 ∷ []

abbrev pub specifier_numbers : Specifier → List ℕ
specifier_numbers (Imported s b) = b ∷ []
specifier_numbers (ImportedDefault b) = b ∷ []
specifier_numbers (ImportedNamespace b) = b ∷ []
specifier_numbers (Reexported s t) = []
specifier_numbers (ReexportedAll s) = []

abbrev pub link_numbers : ModuleLink → List ℕ
link_numbers l = l.number ∷ all_numbers specifier_numbers l.specifiers

abbrev pub exported_numbers : Exported → List ℕ
exported_numbers (ExportedClass n) = n ∷ []
exported_numbers (ExportedBinding b) = b ∷ []
exported_numbers (ExportedFree s) = []
exported_numbers (ExportedValue v) = value_numbers v

abbrev pub named_export_numbers : String × Exported → List ℕ
named_export_numbers x = exported_numbers x.1

-- all numbers that stand in a meaning
abbrev pub meaning_numbers : Meaning → List ℕ
meaning_numbers m =
    listed_numbers m.program ++ all_numbers numbered_entry_numbers m.entries ++ all_numbers numbered_member_numbers m.members ++ all_numbers pair_numbers m.functions
    ++ all_numbers binding_numbers m.bindings ++ all_numbers name_numbers m.globals ++ all_numbers pair_numbers m.shared ++ all_numbers pair_numbers m.places ++ all_numbers pair_numbers m.branches ++ all_numbers link_numbers m.links ++ all_numbers named_export_numbers m.exports

-- ---- what a tree is read under

abbrev pub generated_numbers : GeneratedKind → List ℕ
generated_numbers GeneratedKind.Temp = []
generated_numbers GeneratedKind.Param = []
generated_numbers (GeneratedKind.ClassTemp n) = n.0 ∷ []
generated_numbers (GeneratedKind.WeakMap d) = d.0 ∷ []
generated_numbers (GeneratedKind.StaticField d) = d.0 ∷ []
generated_numbers (GeneratedKind.Brand n) = n.0 ∷ []
generated_numbers (GeneratedKind.Method d) = d.0 ∷ []
generated_numbers (GeneratedKind.LooseKey d) = d.0 ∷ []
generated_numbers (GeneratedKind.SuperFn n) = n.0 ∷ []
generated_numbers GeneratedKind.Args = []
generated_numbers GeneratedKind.Closure = []
generated_numbers (GeneratedKind.Private n) = n.0 ∷ []

abbrev pub ledger_numbers : LedgerEntry → List ℕ
ledger_numbers e = generated_numbers e.kind

abbrev pub private_numbers : PrivateMember → List ℕ
private_numbers x = x.number ∷ x.class ∷ []

abbrev pub terms_numbers : Terms → List ℕ
terms_numbers o = all_numbers ledger_numbers o.ledger ++ all_numbers private_numbers o.members ++ all_numbers pair_numbers o.named ++ o.late

-- all of these numbers pass the test
abbrev pub all_pass : (ℕ → Bool) → List ℕ → Bool
all_pass test [] = true
all_pass test (n ∷ ns) = test n && all_pass test ns

-- none of these numbers is that of a new node
abbrev pub all_old : ℕ → List ℕ → Bool
all_old first ns = all_pass (is_old first) ns
