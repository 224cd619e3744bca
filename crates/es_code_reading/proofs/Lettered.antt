-- A letter is told by what a name is.
use Rattle.std.proofs.Common.{◌≡◌, refl, sym, ap, ◌∙◌, Option, Some, None}
use Rattle.es_base.specs.declared.ledger.GeneratedKind.{GeneratedKind}
use Rattle.es_steps.specs.Code.{Code, name}
use Rattle.es_steps.specs.Context.{Context, NameKind, Generated, MeansClass, StaticMethod}
use Rattle.es_steps.specs.GeneratedForms.{weak_map, static_field, loose_key, private_function, class_named}
use Rattle.es_code_reading.specs.Letters.{name_kind_in, weak_map_of, static_field_of, loose_key_of, private_function_of, class_named_of}

abbrev by_kind : {A : Type 0} → (NameKind → Option A) → Option NameKind → Option A
by_kind f None = None
by_kind f (Some kind) = f kind

weak_map_is : (c : Context) (e : Code) → weak_map c e ≡ by_kind (weak_map_of c) (name_kind_in e)
weak_map_is c (name m s (Generated (GeneratedKind.WeakMap d))) = refl
weak_map_is c (name m s kind) = refl
weak_map_is c e = refl

pub weak_map_named : (c : Context) (e : Code) (kind : NameKind) → Some kind ≡ name_kind_in e → weak_map_of c kind ≡ weak_map c e
weak_map_named c e kind is = ap (by_kind (weak_map_of c)) is ∙ sym (weak_map_is c e)

pub weak_map_unnamed : (c : Context) (e : Code) → None ≡ name_kind_in e → None ≡ weak_map c e
weak_map_unnamed c e is = ap (by_kind (weak_map_of c)) is ∙ sym (weak_map_is c e)

static_field_is : (c : Context) (e : Code) → static_field c e ≡ by_kind (static_field_of c) (name_kind_in e)
static_field_is c (name m s (Generated (GeneratedKind.StaticField d))) = refl
static_field_is c (name m s kind) = refl
static_field_is c e = refl

pub static_field_named : (c : Context) (e : Code) (kind : NameKind) → Some kind ≡ name_kind_in e → static_field_of c kind ≡ static_field c e
static_field_named c e kind is = ap (by_kind (static_field_of c)) is ∙ sym (static_field_is c e)

pub static_field_unnamed : (c : Context) (e : Code) → None ≡ name_kind_in e → None ≡ static_field c e
static_field_unnamed c e is = ap (by_kind (static_field_of c)) is ∙ sym (static_field_is c e)

loose_key_is : (c : Context) (e : Code) → loose_key c e ≡ by_kind (loose_key_of c) (name_kind_in e)
loose_key_is c (name m s (Generated (GeneratedKind.LooseKey d))) = refl
loose_key_is c (name m s kind) = refl
loose_key_is c e = refl

pub loose_key_named : (c : Context) (e : Code) (kind : NameKind) → Some kind ≡ name_kind_in e → loose_key_of c kind ≡ loose_key c e
loose_key_named c e kind is = ap (by_kind (loose_key_of c)) is ∙ sym (loose_key_is c e)

pub loose_key_unnamed : (c : Context) (e : Code) → None ≡ name_kind_in e → None ≡ loose_key c e
loose_key_unnamed c e is = ap (by_kind (loose_key_of c)) is ∙ sym (loose_key_is c e)

private_function_is : (c : Context) (e : Code) → private_function c e ≡ by_kind (private_function_of c) (name_kind_in e)
private_function_is c (name m s (Generated (GeneratedKind.Method d))) = refl
private_function_is c (name m s (StaticMethod d n)) = refl
private_function_is c (name m s kind) = refl
private_function_is c e = refl

pub private_function_named : (c : Context) (e : Code) (kind : NameKind) → Some kind ≡ name_kind_in e → private_function_of c kind ≡ private_function c e
private_function_named c e kind is = ap (by_kind (private_function_of c)) is ∙ sym (private_function_is c e)

pub private_function_unnamed : (c : Context) (e : Code) → None ≡ name_kind_in e → None ≡ private_function c e
private_function_unnamed c e is = ap (by_kind (private_function_of c)) is ∙ sym (private_function_is c e)

class_named_is : (e : Code) → class_named e ≡ by_kind class_named_of (name_kind_in e)
class_named_is (name m s (MeansClass n b)) = refl
class_named_is (name m s (Generated (GeneratedKind.ClassTemp n))) = refl
class_named_is (name m s kind) = refl
class_named_is e = refl

pub class_named_named : (e : Code) (kind : NameKind) → Some kind ≡ name_kind_in e → class_named_of kind ≡ class_named e
class_named_named e kind is = ap (by_kind class_named_of) is ∙ sym (class_named_is e)

pub class_named_unnamed : (e : Code) → None ≡ name_kind_in e → None ≡ class_named e
class_named_unnamed e is = ap (by_kind class_named_of) is ∙ sym (class_named_is e)
