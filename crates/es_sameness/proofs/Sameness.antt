-- What the tests of a meaning find the same is one.
use Rattle.std.proofs.Common.{◌≡◌, refl, sym, ap, ap₂, ◌∙◌, ℕ, List, [], ◌∷◌, Bool, true, false, Option, Some, None, arith}
use Rattle.std.specs.Prelude.{◌&&◌, ◌↔◌, IsTrue, bytes_eq, nat_eq}
use Rattle.std.proofs.lemmas.Bool.{and_parts}
use Rattle.std.proofs.lemmas.Bool.Decides.{nat_tests}
use Rattle.std.proofs.lemmas.Slice.Eq.{bytes_eq-Decides}
use Rattle.es_steps.specs.Code.{FunctionForm}
use Rattle.es_steps.specs.Entries.{Parameter, Identifier, RestIdentifier, Pattern, Method}
use Rattle.es_steps.specs.Meaning.{DeclarationKind, Variable, FunctionName, ParameterName, CaughtName, ImportName, ClassDeclared, ArgumentsName, MemberEntry, IsField, FunctionIs}
use Rattle.es_steps.specs.Modules.{Specifier, Imported, ImportedDefault, ImportedNamespace, Reexported, ReexportedAll, ModuleLink, Exported, ExportedClass, ExportedBinding, ExportedFree, ExportedValue}
use Rattle.es_steps.specs.PrivateNames.{PrivateKind, a_field, a_method, a_getter, a_setter}
use Rattle.es_steps.specs.SameMeanings.{same_list, same_option, same_form, same_parameter, same_method, same_numbered, same_private_kind, same_member, same_declaration, same_specifier, same_link, same_exported, same_export}
use Rattle.es_steps.specs.SameValues.{same_boolean, same_nullable_string, same_constant, same_value}
use Rattle.es_steps.specs.Values.{String, Constant, StringOf, NumberOf, BigIntOf, BooleanOf, Null, RawTemplate, TagString, Value, ConstantOf, Undefined, BindingOf, FunctionOf, ClassOf, ThisOf, ArgumentsOf, NewTargetOf, ResultOf, FormerOf, KeyOf}

pub one_number : (n k : ℕ) → nat_eq n k ≡ true → n ≡ k
one_number n k h = grind (arith, nat_tests, h)

pub one_string : (s t : String) → bytes_eq s t ≡ true → s ≡ t
one_string s t h = (bytes_eq-Decides s t).0 h

pub one_boolean : (a b : Bool) → same_boolean a b ≡ true → a ≡ b
one_boolean true true h = refl
one_boolean true false h = cc
one_boolean false true h = cc
one_boolean false false h = refl

-- ---- lists, what may be absent, and what has a number

pub one_list : {A : Type 0} (same : A → A → Bool) → ((x y : A) → same x y ≡ true → x ≡ y) → (xs ys : List A) → same_list same xs ys ≡ true → xs ≡ ys
one_list same one [] [] h = refl
one_list same one [] (y ∷ ys) h = cc
one_list same one (x ∷ xs) [] h = cc
one_list {A} same one (x ∷ xs) (y ∷ ys) h = let e = and_parts (same x y) (same_list same xs ys) h in ap₂ (λ (z : A) (zs : List A). z ∷ zs) (one x y e.0) (one_list same one xs ys e.1)

pub one_option : {A : Type 0} (same : A → A → Bool) → ((x y : A) → same x y ≡ true → x ≡ y) → (x y : Option A) → same_option same x y ≡ true → x ≡ y
one_option same one None None h = refl
one_option same one None (Some y) h = cc
one_option same one (Some x) None h = cc
one_option {A} same one (Some x) (Some y) h = ap (λ (z : A). Some z) (one x y h)

pub one_numbered : {A : Type 0} (same : A → A → Bool) → ((x y : A) → same x y ≡ true → x ≡ y) → (p q : ℕ × A) → same_numbered same p q ≡ true → p ≡ q
one_numbered {A} same one (n, x) (k, y) h = let e = and_parts (nat_eq n k) (same x y) h in ap₂ (λ (m : ℕ) (z : A). (m, z)) (one_number n k e.0) (one x y e.1)

-- ---- values

one_nullable : (s t : Option String) → same_nullable_string s t ≡ true → s ≡ t
one_nullable None None h = refl
one_nullable None (Some t) h = cc
one_nullable (Some s) None h = cc
one_nullable (Some s) (Some t) h = ap (λ (x : String). Some x) (one_string s t h)

pub one_constant : (x y : Constant) → same_constant x y ≡ true → x ≡ y
one_constant (StringOf s) (StringOf s') h = ap StringOf (one_string s s' h)
one_constant (StringOf s) (NumberOf s') h = cc
one_constant (StringOf s) (BigIntOf s') h = cc
one_constant (StringOf s) (BooleanOf b') h = cc
one_constant (StringOf s) Null h = cc
one_constant (StringOf s) (RawTemplate s') h = cc
one_constant (StringOf s) (TagString r' s') h = cc
one_constant (NumberOf s) (StringOf s') h = cc
one_constant (NumberOf s) (NumberOf s') h = ap NumberOf (one_string s s' h)
one_constant (NumberOf s) (BigIntOf s') h = cc
one_constant (NumberOf s) (BooleanOf b') h = cc
one_constant (NumberOf s) Null h = cc
one_constant (NumberOf s) (RawTemplate s') h = cc
one_constant (NumberOf s) (TagString r' s') h = cc
one_constant (BigIntOf s) (StringOf s') h = cc
one_constant (BigIntOf s) (NumberOf s') h = cc
one_constant (BigIntOf s) (BigIntOf s') h = ap BigIntOf (one_string s s' h)
one_constant (BigIntOf s) (BooleanOf b') h = cc
one_constant (BigIntOf s) Null h = cc
one_constant (BigIntOf s) (RawTemplate s') h = cc
one_constant (BigIntOf s) (TagString r' s') h = cc
one_constant (BooleanOf b) (StringOf s') h = cc
one_constant (BooleanOf b) (NumberOf s') h = cc
one_constant (BooleanOf b) (BigIntOf s') h = cc
one_constant (BooleanOf b) (BooleanOf b') h = ap BooleanOf (one_boolean b b' h)
one_constant (BooleanOf b) Null h = cc
one_constant (BooleanOf b) (RawTemplate s') h = cc
one_constant (BooleanOf b) (TagString r' s') h = cc
one_constant Null (StringOf s') h = cc
one_constant Null (NumberOf s') h = cc
one_constant Null (BigIntOf s') h = cc
one_constant Null (BooleanOf b') h = cc
one_constant Null Null h = refl
one_constant Null (RawTemplate s') h = cc
one_constant Null (TagString r' s') h = cc
one_constant (RawTemplate s) (StringOf s') h = cc
one_constant (RawTemplate s) (NumberOf s') h = cc
one_constant (RawTemplate s) (BigIntOf s') h = cc
one_constant (RawTemplate s) (BooleanOf b') h = cc
one_constant (RawTemplate s) Null h = cc
one_constant (RawTemplate s) (RawTemplate s') h = ap RawTemplate (one_string s s' h)
one_constant (RawTemplate s) (TagString r' s') h = cc
one_constant (TagString r s) (StringOf s') h = cc
one_constant (TagString r s) (NumberOf s') h = cc
one_constant (TagString r s) (BigIntOf s') h = cc
one_constant (TagString r s) (BooleanOf b') h = cc
one_constant (TagString r s) Null h = cc
one_constant (TagString r s) (RawTemplate s') h = cc
one_constant (TagString r s) (TagString r' s') h = let e = and_parts _ _ h in ap₂ TagString (one_string r r' e.0) (one_nullable s s' e.1)

pub one_value : (x y : Value) → same_value x y ≡ true → x ≡ y
one_value (ConstantOf c) (ConstantOf c') h = ap ConstantOf (one_constant c c' h)
one_value (ConstantOf c) Undefined h = cc
one_value (ConstantOf c) (BindingOf n') h = cc
one_value (ConstantOf c) (FunctionOf n') h = cc
one_value (ConstantOf c) (ClassOf n') h = cc
one_value (ConstantOf c) (ThisOf n') h = cc
one_value (ConstantOf c) (ArgumentsOf n') h = cc
one_value (ConstantOf c) (NewTargetOf n') h = cc
one_value (ConstantOf c) (ResultOf n') h = cc
one_value (ConstantOf c) (FormerOf n') h = cc
one_value (ConstantOf c) (KeyOf v') h = cc
one_value Undefined (ConstantOf c') h = cc
one_value Undefined Undefined h = refl
one_value Undefined (BindingOf n') h = cc
one_value Undefined (FunctionOf n') h = cc
one_value Undefined (ClassOf n') h = cc
one_value Undefined (ThisOf n') h = cc
one_value Undefined (ArgumentsOf n') h = cc
one_value Undefined (NewTargetOf n') h = cc
one_value Undefined (ResultOf n') h = cc
one_value Undefined (FormerOf n') h = cc
one_value Undefined (KeyOf v') h = cc
one_value (BindingOf n) (ConstantOf c') h = cc
one_value (BindingOf n) Undefined h = cc
one_value (BindingOf n) (BindingOf n') h = ap BindingOf (one_number n n' h)
one_value (BindingOf n) (FunctionOf n') h = cc
one_value (BindingOf n) (ClassOf n') h = cc
one_value (BindingOf n) (ThisOf n') h = cc
one_value (BindingOf n) (ArgumentsOf n') h = cc
one_value (BindingOf n) (NewTargetOf n') h = cc
one_value (BindingOf n) (ResultOf n') h = cc
one_value (BindingOf n) (FormerOf n') h = cc
one_value (BindingOf n) (KeyOf v') h = cc
one_value (FunctionOf n) (ConstantOf c') h = cc
one_value (FunctionOf n) Undefined h = cc
one_value (FunctionOf n) (BindingOf n') h = cc
one_value (FunctionOf n) (FunctionOf n') h = ap FunctionOf (one_number n n' h)
one_value (FunctionOf n) (ClassOf n') h = cc
one_value (FunctionOf n) (ThisOf n') h = cc
one_value (FunctionOf n) (ArgumentsOf n') h = cc
one_value (FunctionOf n) (NewTargetOf n') h = cc
one_value (FunctionOf n) (ResultOf n') h = cc
one_value (FunctionOf n) (FormerOf n') h = cc
one_value (FunctionOf n) (KeyOf v') h = cc
one_value (ClassOf n) (ConstantOf c') h = cc
one_value (ClassOf n) Undefined h = cc
one_value (ClassOf n) (BindingOf n') h = cc
one_value (ClassOf n) (FunctionOf n') h = cc
one_value (ClassOf n) (ClassOf n') h = ap ClassOf (one_number n n' h)
one_value (ClassOf n) (ThisOf n') h = cc
one_value (ClassOf n) (ArgumentsOf n') h = cc
one_value (ClassOf n) (NewTargetOf n') h = cc
one_value (ClassOf n) (ResultOf n') h = cc
one_value (ClassOf n) (FormerOf n') h = cc
one_value (ClassOf n) (KeyOf v') h = cc
one_value (ThisOf n) (ConstantOf c') h = cc
one_value (ThisOf n) Undefined h = cc
one_value (ThisOf n) (BindingOf n') h = cc
one_value (ThisOf n) (FunctionOf n') h = cc
one_value (ThisOf n) (ClassOf n') h = cc
one_value (ThisOf n) (ThisOf n') h = ap ThisOf (one_number n n' h)
one_value (ThisOf n) (ArgumentsOf n') h = cc
one_value (ThisOf n) (NewTargetOf n') h = cc
one_value (ThisOf n) (ResultOf n') h = cc
one_value (ThisOf n) (FormerOf n') h = cc
one_value (ThisOf n) (KeyOf v') h = cc
one_value (ArgumentsOf n) (ConstantOf c') h = cc
one_value (ArgumentsOf n) Undefined h = cc
one_value (ArgumentsOf n) (BindingOf n') h = cc
one_value (ArgumentsOf n) (FunctionOf n') h = cc
one_value (ArgumentsOf n) (ClassOf n') h = cc
one_value (ArgumentsOf n) (ThisOf n') h = cc
one_value (ArgumentsOf n) (ArgumentsOf n') h = ap ArgumentsOf (one_number n n' h)
one_value (ArgumentsOf n) (NewTargetOf n') h = cc
one_value (ArgumentsOf n) (ResultOf n') h = cc
one_value (ArgumentsOf n) (FormerOf n') h = cc
one_value (ArgumentsOf n) (KeyOf v') h = cc
one_value (NewTargetOf n) (ConstantOf c') h = cc
one_value (NewTargetOf n) Undefined h = cc
one_value (NewTargetOf n) (BindingOf n') h = cc
one_value (NewTargetOf n) (FunctionOf n') h = cc
one_value (NewTargetOf n) (ClassOf n') h = cc
one_value (NewTargetOf n) (ThisOf n') h = cc
one_value (NewTargetOf n) (ArgumentsOf n') h = cc
one_value (NewTargetOf n) (NewTargetOf n') h = ap NewTargetOf (one_number n n' h)
one_value (NewTargetOf n) (ResultOf n') h = cc
one_value (NewTargetOf n) (FormerOf n') h = cc
one_value (NewTargetOf n) (KeyOf v') h = cc
one_value (ResultOf n) (ConstantOf c') h = cc
one_value (ResultOf n) Undefined h = cc
one_value (ResultOf n) (BindingOf n') h = cc
one_value (ResultOf n) (FunctionOf n') h = cc
one_value (ResultOf n) (ClassOf n') h = cc
one_value (ResultOf n) (ThisOf n') h = cc
one_value (ResultOf n) (ArgumentsOf n') h = cc
one_value (ResultOf n) (NewTargetOf n') h = cc
one_value (ResultOf n) (ResultOf n') h = ap ResultOf (one_number n n' h)
one_value (ResultOf n) (FormerOf n') h = cc
one_value (ResultOf n) (KeyOf v') h = cc
one_value (FormerOf n) (ConstantOf c') h = cc
one_value (FormerOf n) Undefined h = cc
one_value (FormerOf n) (BindingOf n') h = cc
one_value (FormerOf n) (FunctionOf n') h = cc
one_value (FormerOf n) (ClassOf n') h = cc
one_value (FormerOf n) (ThisOf n') h = cc
one_value (FormerOf n) (ArgumentsOf n') h = cc
one_value (FormerOf n) (NewTargetOf n') h = cc
one_value (FormerOf n) (ResultOf n') h = cc
one_value (FormerOf n) (FormerOf n') h = ap FormerOf (one_number n n' h)
one_value (FormerOf n) (KeyOf v') h = cc
one_value (KeyOf v) (ConstantOf c') h = cc
one_value (KeyOf v) Undefined h = cc
one_value (KeyOf v) (BindingOf n') h = cc
one_value (KeyOf v) (FunctionOf n') h = cc
one_value (KeyOf v) (ClassOf n') h = cc
one_value (KeyOf v) (ThisOf n') h = cc
one_value (KeyOf v) (ArgumentsOf n') h = cc
one_value (KeyOf v) (NewTargetOf n') h = cc
one_value (KeyOf v) (ResultOf n') h = cc
one_value (KeyOf v) (FormerOf n') h = cc
one_value (KeyOf v) (KeyOf v') h = ap KeyOf (one_value v v' h)

-- ---- functions and classes

pub one_form : (f g : FunctionForm) → same_form f g ≡ true → f ≡ g
one_form f g h =
    let a = and_parts (same_boolean f.is_arrow g.is_arrow) _ h in
    let b = and_parts (same_boolean f.is_async g.is_async) _ a.1 in
    ap₂ (λ (x : Bool) (y : Bool). record { is_arrow = x; is_async = y; is_generator = f.is_generator }) (one_boolean _ _ a.0) (one_boolean _ _ b.0)
    ∙ ap (λ (z : Bool). record { is_arrow = g.is_arrow; is_async = g.is_async; is_generator = z }) (one_boolean _ _ b.1)

pub one_parameter : (x y : Parameter) → same_parameter x y ≡ true → x ≡ y
one_parameter (Identifier b) (Identifier b') h = ap Identifier (one_number b b' h)
one_parameter (Identifier b) (RestIdentifier b') h = cc
one_parameter (Identifier b) Pattern h = cc
one_parameter (RestIdentifier b) (Identifier b') h = cc
one_parameter (RestIdentifier b) (RestIdentifier b') h = ap RestIdentifier (one_number b b' h)
one_parameter (RestIdentifier b) Pattern h = cc
one_parameter Pattern (Identifier b') h = cc
one_parameter Pattern (RestIdentifier b') h = cc
one_parameter Pattern Pattern h = refl

pub one_method : (a b : Method) → same_method a b ≡ true → a ≡ b
one_method a b h =
    let p = and_parts (same_boolean a.is_static b.is_static) _ h in
    let q = and_parts (bytes_eq a.kind b.kind) _ p.1 in
    let r = and_parts (same_value a.key b.key) _ q.1 in
    ap₂ (λ (x : Bool) (y : String). record { is_static = x; kind = y; key = a.key; function = a.function }) (one_boolean _ _ p.0) (one_string _ _ q.0)
    ∙ ap₂ (λ (x : Value) (y : ℕ). record { is_static = b.is_static; kind = b.kind; key = x; function = y }) (one_value _ _ r.0) (one_number _ _ r.1)

pub one_private_kind : (x y : PrivateKind) → same_private_kind x y ≡ true → x ≡ y
one_private_kind a_field a_field h = refl
one_private_kind a_field a_method h = cc
one_private_kind a_field a_getter h = cc
one_private_kind a_field a_setter h = cc
one_private_kind a_method a_field h = cc
one_private_kind a_method a_method h = refl
one_private_kind a_method a_getter h = cc
one_private_kind a_method a_setter h = cc
one_private_kind a_getter a_field h = cc
one_private_kind a_getter a_method h = cc
one_private_kind a_getter a_getter h = refl
one_private_kind a_getter a_setter h = cc
one_private_kind a_setter a_field h = cc
one_private_kind a_setter a_method h = cc
one_private_kind a_setter a_getter h = cc
one_private_kind a_setter a_setter h = refl

pub one_member : (x y : MemberEntry) → same_member x y ≡ true → x ≡ y
one_member (IsField n b) (IsField m c) h = let e = and_parts (nat_eq n m) (same_boolean b c) h in ap₂ IsField (one_number n m e.0) (one_boolean b c e.1)
one_member (IsField n b) (FunctionIs m c other g) h = cc
one_member (FunctionIs n b kind f) (IsField m c) h = cc
one_member (FunctionIs n b kind f) (FunctionIs m c other g) h =
    let p = and_parts (nat_eq n m && same_boolean b c) (same_private_kind kind other && nat_eq f g) h in
    let q = and_parts (nat_eq n m) (same_boolean b c) p.0 in
    let r = and_parts (same_private_kind kind other) (nat_eq f g) p.1 in
    ap₂ (λ (x : ℕ) (y : Bool). FunctionIs x y kind f) (one_number n m q.0) (one_boolean b c q.1) ∙ ap₂ (λ (x : PrivateKind) (y : ℕ). FunctionIs m c x y) (one_private_kind kind other r.0) (one_number f g r.1)

-- ---- declarations and modules

pub one_declaration : (x y : DeclarationKind) → same_declaration x y ≡ true → x ≡ y
one_declaration (Variable s) (Variable s') h = ap Variable (one_string s s' h)
one_declaration (Variable s) FunctionName h = cc
one_declaration (Variable s) ParameterName h = cc
one_declaration (Variable s) CaughtName h = cc
one_declaration (Variable s) ImportName h = cc
one_declaration (Variable s) ClassDeclared h = cc
one_declaration (Variable s) (ArgumentsName d') h = cc
one_declaration FunctionName (Variable s') h = cc
one_declaration FunctionName FunctionName h = refl
one_declaration FunctionName ParameterName h = cc
one_declaration FunctionName CaughtName h = cc
one_declaration FunctionName ImportName h = cc
one_declaration FunctionName ClassDeclared h = cc
one_declaration FunctionName (ArgumentsName d') h = cc
one_declaration ParameterName (Variable s') h = cc
one_declaration ParameterName FunctionName h = cc
one_declaration ParameterName ParameterName h = refl
one_declaration ParameterName CaughtName h = cc
one_declaration ParameterName ImportName h = cc
one_declaration ParameterName ClassDeclared h = cc
one_declaration ParameterName (ArgumentsName d') h = cc
one_declaration CaughtName (Variable s') h = cc
one_declaration CaughtName FunctionName h = cc
one_declaration CaughtName ParameterName h = cc
one_declaration CaughtName CaughtName h = refl
one_declaration CaughtName ImportName h = cc
one_declaration CaughtName ClassDeclared h = cc
one_declaration CaughtName (ArgumentsName d') h = cc
one_declaration ImportName (Variable s') h = cc
one_declaration ImportName FunctionName h = cc
one_declaration ImportName ParameterName h = cc
one_declaration ImportName CaughtName h = cc
one_declaration ImportName ImportName h = refl
one_declaration ImportName ClassDeclared h = cc
one_declaration ImportName (ArgumentsName d') h = cc
one_declaration ClassDeclared (Variable s') h = cc
one_declaration ClassDeclared FunctionName h = cc
one_declaration ClassDeclared ParameterName h = cc
one_declaration ClassDeclared CaughtName h = cc
one_declaration ClassDeclared ImportName h = cc
one_declaration ClassDeclared ClassDeclared h = refl
one_declaration ClassDeclared (ArgumentsName d') h = cc
one_declaration (ArgumentsName d) (Variable s') h = cc
one_declaration (ArgumentsName d) FunctionName h = cc
one_declaration (ArgumentsName d) ParameterName h = cc
one_declaration (ArgumentsName d) CaughtName h = cc
one_declaration (ArgumentsName d) ImportName h = cc
one_declaration (ArgumentsName d) ClassDeclared h = cc
one_declaration (ArgumentsName d) (ArgumentsName d') h = ap ArgumentsName (one_declaration d d' h)

pub one_specifier : (x y : Specifier) → same_specifier x y ≡ true → x ≡ y
one_specifier (Imported s b) (Imported s' b') h = let e = and_parts _ _ h in ap₂ Imported (one_string s s' e.0) (one_number b b' e.1)
one_specifier (Imported s b) (ImportedDefault b') h = cc
one_specifier (Imported s b) (ImportedNamespace b') h = cc
one_specifier (Imported s b) (Reexported s' t') h = cc
one_specifier (Imported s b) (ReexportedAll s') h = cc
one_specifier (ImportedDefault b) (Imported s' b') h = cc
one_specifier (ImportedDefault b) (ImportedDefault b') h = ap ImportedDefault (one_number b b' h)
one_specifier (ImportedDefault b) (ImportedNamespace b') h = cc
one_specifier (ImportedDefault b) (Reexported s' t') h = cc
one_specifier (ImportedDefault b) (ReexportedAll s') h = cc
one_specifier (ImportedNamespace b) (Imported s' b') h = cc
one_specifier (ImportedNamespace b) (ImportedDefault b') h = cc
one_specifier (ImportedNamespace b) (ImportedNamespace b') h = ap ImportedNamespace (one_number b b' h)
one_specifier (ImportedNamespace b) (Reexported s' t') h = cc
one_specifier (ImportedNamespace b) (ReexportedAll s') h = cc
one_specifier (Reexported s t) (Imported s' b') h = cc
one_specifier (Reexported s t) (ImportedDefault b') h = cc
one_specifier (Reexported s t) (ImportedNamespace b') h = cc
one_specifier (Reexported s t) (Reexported s' t') h = let e = and_parts _ _ h in ap₂ Reexported (one_string s s' e.0) (one_string t t' e.1)
one_specifier (Reexported s t) (ReexportedAll s') h = cc
one_specifier (ReexportedAll s) (Imported s' b') h = cc
one_specifier (ReexportedAll s) (ImportedDefault b') h = cc
one_specifier (ReexportedAll s) (ImportedNamespace b') h = cc
one_specifier (ReexportedAll s) (Reexported s' t') h = cc
one_specifier (ReexportedAll s) (ReexportedAll s') h = ap ReexportedAll (one_nullable s s' h)

pub one_link : (a b : ModuleLink) → same_link a b ≡ true → a ≡ b
one_link a b h =
    let p = and_parts (nat_eq a.number b.number) _ h in
    let q = and_parts (bytes_eq a.source b.source) _ p.1 in
    ap₂ (λ (x : ℕ) (y : String). record { number = x; source = y; specifiers = a.specifiers }) (one_number _ _ p.0) (one_string _ _ q.0)
    ∙ ap (λ (x : List Specifier). record { number = b.number; source = b.source; specifiers = x }) (one_list same_specifier one_specifier _ _ q.1)

pub one_exported : (x y : Exported) → same_exported x y ≡ true → x ≡ y
one_exported (ExportedClass n) (ExportedClass n') h = ap ExportedClass (one_number n n' h)
one_exported (ExportedClass n) (ExportedBinding b') h = cc
one_exported (ExportedClass n) (ExportedFree s') h = cc
one_exported (ExportedClass n) (ExportedValue v') h = cc
one_exported (ExportedBinding b) (ExportedClass n') h = cc
one_exported (ExportedBinding b) (ExportedBinding b') h = ap ExportedBinding (one_number b b' h)
one_exported (ExportedBinding b) (ExportedFree s') h = cc
one_exported (ExportedBinding b) (ExportedValue v') h = cc
one_exported (ExportedFree s) (ExportedClass n') h = cc
one_exported (ExportedFree s) (ExportedBinding b') h = cc
one_exported (ExportedFree s) (ExportedFree s') h = ap ExportedFree (one_string s s' h)
one_exported (ExportedFree s) (ExportedValue v') h = cc
one_exported (ExportedValue v) (ExportedClass n') h = cc
one_exported (ExportedValue v) (ExportedBinding b') h = cc
one_exported (ExportedValue v) (ExportedFree s') h = cc
one_exported (ExportedValue v) (ExportedValue v') h = ap ExportedValue (one_value v v' h)

pub one_export : (p q : String × Exported) → same_export p q ≡ true → p ≡ q
one_export (s, x) (t, y) h = let e = and_parts (bytes_eq s t) (same_exported x y) h in ap₂ (λ (r : String) (z : Exported). (r, z)) (one_string s t e.0) (one_exported x y e.1)

-- ---- and what is one is found the same

both_true : (a b : Bool) → a ≡ true → b ≡ true → (a && b) ≡ true
both_true true b h k = k
both_true false b h k = cc

number_same : (n : ℕ) → nat_eq n n ≡ true
number_same n = grind (arith, nat_tests)

string_same : (s : String) → bytes_eq s s ≡ true
string_same s = (bytes_eq-Decides s s).1 refl

boolean_same : (b : Bool) → same_boolean b b ≡ true
boolean_same true = refl
boolean_same false = refl

nullable_same : (s : Option String) → same_nullable_string s s ≡ true
nullable_same None = refl
nullable_same (Some s) = string_same s

constant_same : (c : Constant) → same_constant c c ≡ true
constant_same (StringOf s) = string_same s
constant_same (NumberOf s) = string_same s
constant_same (BigIntOf s) = string_same s
constant_same (BooleanOf b) = boolean_same b
constant_same Null = refl
constant_same (RawTemplate s) = string_same s
constant_same (TagString r s) = both_true _ _ (string_same r) (nullable_same s)

value_same : (v : Value) → same_value v v ≡ true
value_same (ConstantOf c) = constant_same c
value_same Undefined = refl
value_same (BindingOf n) = number_same n
value_same (FunctionOf n) = number_same n
value_same (ClassOf n) = number_same n
value_same (ThisOf n) = number_same n
value_same (ArgumentsOf n) = number_same n
value_same (NewTargetOf n) = number_same n
value_same (ResultOf n) = number_same n
value_same (FormerOf n) = number_same n
value_same (KeyOf v) = value_same v

list_same : {A : Type 0} (same : A → A → Bool) → ((x : A) → same x x ≡ true) → (xs : List A) → same_list same xs xs ≡ true
list_same same each [] = refl
list_same same each (x ∷ xs) = both_true _ _ (each x) (list_same same each xs)

form_same : (f : FunctionForm) → same_form f f ≡ true
form_same f = both_true _ _ (boolean_same f.is_arrow) (both_true _ _ (boolean_same f.is_async) (boolean_same f.is_generator))

parameter_same : (p : Parameter) → same_parameter p p ≡ true
parameter_same (Identifier b) = number_same b
parameter_same (RestIdentifier b) = number_same b
parameter_same Pattern = refl

method_same : (m : Method) → same_method m m ≡ true
method_same m = both_true _ _ (boolean_same m.is_static) (both_true _ _ (string_same m.kind) (both_true _ _ (value_same m.key) (number_same m.function)))

pub form_decides : (f g : FunctionForm) → IsTrue (same_form f g) ↔ (f ≡ g)
form_decides f g = (one_form f g, λ e. ap (same_form f) (sym e) ∙ form_same f)

pub parameters_decide : (ps qs : List Parameter) → IsTrue (same_list same_parameter ps qs) ↔ (ps ≡ qs)
parameters_decide ps qs = (one_list same_parameter one_parameter ps qs, λ e. ap (same_list same_parameter ps) (sym e) ∙ list_same same_parameter parameter_same ps)

pub methods_decide : (ms ns : List Method) → IsTrue (same_list same_method ms ns) ↔ (ms ≡ ns)
methods_decide ms ns = (one_list same_method one_method ms ns, λ e. ap (same_list same_method ms) (sym e) ∙ list_same same_method method_same ms)

-- ---- the lists of a meaning that no evaluation makes

pub member_decides : (x y : MemberEntry) → IsTrue (same_member x y) ↔ (x ≡ y)
member_decides x y = (one_member x y, λ e. ap (same_member x) (sym e) ∙ member_same x)
  where
    kind_same : (k : PrivateKind) → same_private_kind k k ≡ true
    kind_same a_field = refl
    kind_same a_method = refl
    kind_same a_getter = refl
    kind_same a_setter = refl

    member_same : (m : MemberEntry) → same_member m m ≡ true
    member_same (IsField n b) = both_true _ _ (number_same n) (boolean_same b)
    member_same (FunctionIs n b kind f) = both_true _ _ (both_true _ _ (number_same n) (boolean_same b)) (both_true _ _ (kind_same kind) (number_same f))

numbered_same : {A : Type 0} (same : A → A → Bool) → ((x : A) → same x x ≡ true) → (p : ℕ × A) → same_numbered same p p ≡ true
numbered_same same each (n, x) = both_true _ _ (number_same n) (each x)

numbered_decide : {A : Type 0} (same : A → A → Bool) → ((x y : A) → same x y ≡ true → x ≡ y) → ((x : A) → same x x ≡ true) → (ps qs : List (ℕ × A)) → IsTrue (same_list (same_numbered same) ps qs) ↔ (ps ≡ qs)
numbered_decide same one each ps qs = (
  one_list (same_numbered same) (one_numbered same one) ps qs,
  (λ e. ap (same_list (same_numbered same) ps) (sym e) ∙ list_same (same_numbered same) (numbered_same same each) ps),
)

pub numbers_decide : (ps qs : List (ℕ × ℕ)) → IsTrue (same_list (same_numbered nat_eq) ps qs) ↔ (ps ≡ qs)
numbers_decide = numbered_decide nat_eq one_number number_same

pub names_decide : (ps qs : List (ℕ × String)) → IsTrue (same_list (same_numbered bytes_eq) ps qs) ↔ (ps ≡ qs)
names_decide = numbered_decide bytes_eq one_string string_same

declaration_same : (d : DeclarationKind) → same_declaration d d ≡ true
declaration_same (Variable s) = string_same s
declaration_same FunctionName = refl
declaration_same ParameterName = refl
declaration_same CaughtName = refl
declaration_same ImportName = refl
declaration_same ClassDeclared = refl
declaration_same (ArgumentsName d) = declaration_same d

pub declarations_decide : (ps qs : List (ℕ × DeclarationKind)) → IsTrue (same_list (same_numbered same_declaration) ps qs) ↔ (ps ≡ qs)
declarations_decide = numbered_decide same_declaration one_declaration declaration_same

specifier_same : (x : Specifier) → same_specifier x x ≡ true
specifier_same (Imported s b) = both_true _ _ (string_same s) (number_same b)
specifier_same (ImportedDefault b) = number_same b
specifier_same (ImportedNamespace b) = number_same b
specifier_same (Reexported s x) = both_true _ _ (string_same s) (string_same x)
specifier_same (ReexportedAll s) = nullable_same s

link_same : (l : ModuleLink) → same_link l l ≡ true
link_same l = both_true _ _ (number_same l.number) (both_true _ _ (string_same l.source) (list_same same_specifier specifier_same l.specifiers))

pub links_decide : (ls ks : List ModuleLink) → IsTrue (same_list same_link ls ks) ↔ (ls ≡ ks)
links_decide ls ks = (one_list same_link one_link ls ks, λ e. ap (same_list same_link ls) (sym e) ∙ list_same same_link link_same ls)

exported_same : (x : Exported) → same_exported x x ≡ true
exported_same (ExportedClass n) = number_same n
exported_same (ExportedBinding b) = number_same b
exported_same (ExportedFree s) = string_same s
exported_same (ExportedValue v) = value_same v

export_same : (p : String × Exported) → same_export p p ≡ true
export_same (s, x) = both_true _ _ (string_same s) (exported_same x)

pub exports_decide : (xs ys : List (String × Exported)) → IsTrue (same_list same_export xs ys) ↔ (xs ≡ ys)
exports_decide xs ys = (one_list same_export one_export xs ys, λ e. ap (same_list same_export xs) (sym e) ∙ list_same same_export export_same xs)
