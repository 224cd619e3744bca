-- Two meanings that are one are found to be one, so meanings that are found to differ do.
use Rattle.std.specs.Prelude.{◌≡◌, refl, ℕ, List, [], ◌∷◌, Bool, true, false, ◌&&◌, bytes_eq, nat_eq, Option, Some, None}
use Rattle.std.proofs.Common.{ap, sym, ◌∙◌, rules}
use Rattle.std.proofs.lemmas.Bool.{and_from, true≢false}
use Rattle.es_steps.specs.Code.{FunctionForm}
use Rattle.es_steps.specs.Entries.{Parameter, Identifier, RestIdentifier, Pattern, Method, Listed, Entry, FunctionEntry, ClassEntry}
use Rattle.es_steps.specs.Events.{Detail, Operand, Empty, Spelled, Flag, Key, Opens, Closes, Prototype, Index, Rest, Operation, OfKind, Delete, Take, Place, RightOf, Default, Part, Event, ReadName, SetName, Get, Set, Define, Call, Construct, Operate, Update, PrivateGet, PrivateSet, PrivateInitialize, PrivateIn, AddBrand, SuperGet, SuperSet, SuperCall, SuperCallWithAll, EnterBody, InitializeClass, Throw, Short, Held, Events, none, then}
use Rattle.es_steps.specs.Meaning.{Meaning, DeclarationKind, Variable, FunctionName, ParameterName, CaughtName, ImportName, ClassDeclared, ArgumentsName, MemberEntry, IsField, FunctionIs}
use Rattle.es_steps.specs.Modules.{Specifier, Imported, ImportedDefault, ImportedNamespace, Reexported, ReexportedAll, ModuleLink, Exported, ExportedClass, ExportedBinding, ExportedFree, ExportedValue}
use Rattle.es_steps.specs.SameMeanings.{same_list, same_option, same_detail, same_operation, same_place, same_referent, same_home, same_test, same_event, same_events, same_listed, same_form, same_parameter, same_method, same_entry, same_numbered, same_private_kind, same_member, same_declaration, same_specifier, same_link, same_exported, same_export, same_meaning, same_meanings}
use Rattle.es_steps.specs.PrivateNames.{PrivateKind, a_field, a_method, a_getter, a_setter}
use Rattle.es_steps.specs.SameTrees.{kind_number}
use Rattle.es_steps.specs.SameValues.{same_boolean, same_nullable_string, same_constant, same_value}
use Rattle.es_steps.specs.Values.{String, Constant, StringOf, NumberOf, BigIntOf, BooleanOf, Null, RawTemplate, TagString, Value, ConstantOf, Undefined, BindingOf, FunctionOf, ClassOf, ThisOf, ArgumentsOf, NewTargetOf, ResultOf, FormerOf, KeyOf, Referent, Bound, Free, Home, OfClass, OfPrototype, OfObject, PrivateTest, HasField, HasBrand, IsClass}

both : {a b : Bool} → a ≡ true → b ≡ true → a && b ≡ true
both {a = a} {b = b} p q = and_from a b p q

pub number-same : (n : ℕ) → nat_eq n n ≡ true
number-same n = search rules

pub string-same : (s : String) → bytes_eq s s ≡ true
string-same s = search rules

boolean-same : (b : Bool) → same_boolean b b ≡ true
boolean-same true = refl
boolean-same false = refl

list-same : {A : Type 0} (same : A → A → Bool) → ((x : A) → same x x ≡ true) → (xs : List A) → same_list same xs xs ≡ true
list-same same each [] = refl
list-same same each (x ∷ xs) = both (each x) (list-same same each xs)

option-same : {A : Type 0} (same : A → A → Bool) → ((x : A) → same x x ≡ true) → (x : Option A) → same_option same x x ≡ true
option-same same each None = refl
option-same same each (Some x) = each x

nullable_string-same : (x : Option String) → same_nullable_string x x ≡ true
nullable_string-same None = refl
nullable_string-same (Some s) = string-same s

constant-same : (x : Constant) → same_constant x x ≡ true
constant-same (StringOf s) = string-same s
constant-same (NumberOf s) = string-same s
constant-same (BigIntOf s) = string-same s
constant-same (BooleanOf b) = boolean-same b
constant-same Null = refl
constant-same (RawTemplate s) = string-same s
constant-same (TagString r c) = both (string-same r) (nullable_string-same c)

pub value-same : (x : Value) → same_value x x ≡ true
value-same (ConstantOf c) = constant-same c
value-same Undefined = refl
value-same (BindingOf n) = number-same n
value-same (FunctionOf n) = number-same n
value-same (ClassOf n) = number-same n
value-same (ThisOf n) = number-same n
value-same (ArgumentsOf n) = number-same n
value-same (NewTargetOf n) = number-same n
value-same (ResultOf n) = number-same n
value-same (FormerOf n) = number-same n
value-same (KeyOf v) = value-same v

detail-same : (x : Detail) → same_detail x x ≡ true
detail-same Operand = refl
detail-same Empty = refl
detail-same (Spelled s) = string-same s
detail-same (Flag b) = boolean-same b
detail-same (Key k) = constant-same k
detail-same Opens = refl
detail-same Closes = refl
detail-same Prototype = refl
detail-same (Index i) = number-same i
detail-same Rest = refl

operation-same : (x : Operation) → same_operation x x ≡ true
operation-same (OfKind k ds) = both (number-same (kind_number k)) (list-same same_detail detail-same ds)
operation-same Delete = refl
operation-same (Take ds) = list-same same_detail detail-same ds

place-same : (x : Place) → same_place x x ≡ true
place-same (RightOf s) = string-same s
place-same Default = refl
place-same (Part i) = number-same i

referent-same : (x : Referent) → same_referent x x ≡ true
referent-same (Bound b) = number-same b
referent-same (Free s) = string-same s

home-same : (x : Home) → same_home x x ≡ true
home-same (OfClass n) = number-same n
home-same (OfPrototype n) = number-same n
home-same (OfObject n) = number-same n

test-same : (x : PrivateTest) → same_test x x ≡ true
test-same (HasField n) = number-same n
test-same (HasBrand n) = number-same n
test-same (IsClass n) = number-same n

values-same : (vs : List Value) → same_list same_value vs vs ≡ true
values-same vs = list-same same_value value-same vs

nullable-same : (v : Option Value) → same_option same_value v v ≡ true
nullable-same v = option-same same_value value-same v

mutual
  event-same : (x : Event) → same_event x x ≡ true
  event-same (ReadName m r) = both (number-same m) (referent-same r)
  event-same (SetName r v) = both (referent-same r) (value-same v)
  event-same (Get m o k) = both (number-same m) (both (value-same o) (value-same k))
  event-same (Set o k v) = both (value-same o) (both (value-same k) (value-same v))
  event-same (Define o k v) = both (value-same o) (both (value-same k) (value-same v))
  event-same (Call m f r vs) = both (number-same m) (both (value-same f) (both (nullable-same r) (values-same vs)))
  event-same (Construct m f vs) = both (number-same m) (both (value-same f) (values-same vs))
  event-same (Operate m a vs) = both (number-same m) (both (operation-same a) (values-same vs))
  event-same (Update m s v) = both (number-same m) (both (string-same s) (value-same v))
  event-same (PrivateGet m d o) = both (number-same m) (both (number-same d) (value-same o))
  event-same (PrivateSet d o v) = both (number-same d) (both (value-same o) (value-same v))
  event-same (PrivateInitialize d o v) = both (number-same d) (both (value-same o) (value-same v))
  event-same (PrivateIn m t o) = both (number-same m) (both (test-same t) (value-same o))
  event-same (AddBrand n o) = both (number-same n) (value-same o)
  event-same (SuperGet m h k v) = both (number-same m) (both (home-same h) (both (value-same k) (value-same v)))
  event-same (SuperSet h k v w) = both (home-same h) (both (value-same k) (both (value-same v) (value-same w)))
  event-same (SuperCall m n vs) = both (number-same m) (both (number-same n) (values-same vs))
  event-same (SuperCallWithAll n) = number-same n
  event-same EnterBody = refl
  event-same (InitializeClass n) = number-same n
  event-same Throw = refl
  event-same (Short v) = value-same v
  event-same (Held m p t l v) = both (number-same m) (both (place-same p) (both (nullable-same t) (both (events-same l) (value-same v))))

  events-same : (x : Events) → same_events x x ≡ true
  events-same none = refl
  events-same (then e es) = both (event-same e) (events-same es)

listed-same : (l : Listed) → same_listed l l ≡ true
listed-same l = both (events-same l.events) (value-same l.value)

form-same : (f : FunctionForm) → same_form f f ≡ true
form-same f = both (boolean-same f.is_arrow) (both (boolean-same f.is_async) (boolean-same f.is_generator))

parameter-same : (p : Parameter) → same_parameter p p ≡ true
parameter-same (Identifier b) = number-same b
parameter-same (RestIdentifier b) = number-same b
parameter-same Pattern = refl

method-same : (m : Method) → same_method m m ≡ true
method-same m = both (boolean-same m.is_static) (both (string-same m.kind) (both (value-same m.key) (number-same m.function)))

entry-same : (e : Entry) → same_entry e e ≡ true
entry-same (FunctionEntry f a ps l) = both (form-same f) (both (option-same nat_eq number-same a) (both (list-same same_parameter parameter-same ps) (listed-same l)))
entry-same (ClassEntry a h ms f ps l) = both (option-same nat_eq number-same a) (both (nullable-same h) (both (list-same same_method method-same ms) (both (form-same f) (both (list-same same_parameter parameter-same ps) (listed-same l)))))

numbered-same : {A : Type 0} (same : A → A → Bool) → ((x : A) → same x x ≡ true) → (p : ℕ × A) → same_numbered same p p ≡ true
numbered-same same each p = both (number-same p.0) (each p.1)

numbered_list-same : {A : Type 0} (same : A → A → Bool) → ((x : A) → same x x ≡ true) → (ps : List (ℕ × A)) → same_list (same_numbered same) ps ps ≡ true
numbered_list-same same each ps = list-same (same_numbered same) (numbered-same same each) ps

private_kind-same : (x : PrivateKind) → same_private_kind x x ≡ true
private_kind-same a_field = refl
private_kind-same a_method = refl
private_kind-same a_getter = refl
private_kind-same a_setter = refl

member-same : (e : MemberEntry) → same_member e e ≡ true
member-same (IsField n b) = both (number-same n) (boolean-same b)
member-same (FunctionIs n b kind f) = both (both (number-same n) (boolean-same b)) (both (private_kind-same kind) (number-same f))

declaration-same : (d : DeclarationKind) → same_declaration d d ≡ true
declaration-same (Variable s) = string-same s
declaration-same FunctionName = refl
declaration-same ParameterName = refl
declaration-same CaughtName = refl
declaration-same ImportName = refl
declaration-same ClassDeclared = refl
declaration-same (ArgumentsName d) = declaration-same d

specifier-same : (x : Specifier) → same_specifier x x ≡ true
specifier-same (Imported s b) = both (string-same s) (number-same b)
specifier-same (ImportedDefault b) = number-same b
specifier-same (ImportedNamespace b) = number-same b
specifier-same (Reexported s t) = both (string-same s) (string-same t)
specifier-same (ReexportedAll s) = nullable_string-same s

link-same : (l : ModuleLink) → same_link l l ≡ true
link-same l = both (number-same l.number) (both (string-same l.source) (list-same same_specifier specifier-same l.specifiers))

exported-same : (x : Exported) → same_exported x x ≡ true
exported-same (ExportedClass n) = number-same n
exported-same (ExportedBinding b) = number-same b
exported-same (ExportedFree s) = string-same s
exported-same (ExportedValue v) = value-same v

export-same : (p : String × Exported) → same_export p p ≡ true
export-same p = both (string-same p.0) (exported-same p.1)

pub meaning-same : (m : Meaning) → same_meaning m m ≡ true
meaning-same m =
    both (string-same m.source_type) (both (listed-same m.program) (both (numbered_list-same same_entry entry-same m.entries) (both (numbered_list-same same_member member-same m.members)
    (both (numbered_list-same nat_eq number-same m.functions) (both (numbered_list-same same_declaration declaration-same m.bindings) (both (numbered_list-same bytes_eq string-same m.globals) (both (numbered_list-same nat_eq number-same m.shared) (both (numbered_list-same nat_eq number-same m.places) (both (numbered_list-same nat_eq number-same m.branches) (both (list-same same_link link-same m.links) (list-same same_export export-same m.exports)))))))))))

-- meanings that are found to differ are not equal
pub differ : (a b : Option Meaning) → same_meanings a b ≡ false → a ≡ b → ⊥
differ a b found e = true≢false (sym (option-same same_meaning meaning-same a) ∙ ap (same_meanings a) e ∙ found)
