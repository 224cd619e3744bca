-- Exports, node by node.
use Rattle.std.proofs.Common.{◌≡◌, refl, sym, ap, ◌∙◌, ℕ, List, [], ◌∷◌, ◌++◌, true, false, cond, ◌&&◌, Option, Some, None}
use Rattle.std.specs.Prelude.{bytes_eq, is_some}
use Rattle.es_base.specs.Tree.{Tree, Part, Parts, Node, end, more, child}
use Rattle.es_base.specs.declared.kind.Kind.{Kind}
use Rattle.es_binding_faults.specs.Named.{plain}
use Rattle.es_codes.specs.Keyed.{is_key}
use Rattle.es_node.specs.View.{kind_of, parts_in}
use Rattle.es_steps.specs.Context.{Context, name_kind}
use Rattle.es_steps.specs.Evaluation.{Environment, default_key, found}
use Rattle.es_steps.specs.Meaning.{all_exports, body_of, with_export}
use Rattle.es_steps.specs.Modules as spec
use Rattle.es_steps.specs.Modules.{ExportedClass, ExportedValue, declared_exports, exported_as, exported_value, exports_in, is_named_declaration, module_name, specifier_export}
use Rattle.es_steps.specs.Parts.{at, items}
use Rattle.es_steps.specs.SameMeanings.{same_export, same_exported, same_list}
use Rattle.es_steps.specs.Scopes.{Declaration}
use Rattle.es_steps.specs.Values.{String, Value, ClassOf}
use Rattle.es_exports.specs.Exports.{class_in, default_by, default_means, export_of, exports_by, same_meaning, same_meant}

pub body_node : (t : Tree) → body_of t ≡ items (at 1 (parts_in t))
body_node (Node kind m span semantic_id ps) = refl

-- ---- values

pub class_value : (v : Value) (n : ℕ) → Some n ≡ class_in v → exported_value (Some v) ≡ Some (ExportedClass n)
class_value (ClassOf k) n e = cc
class_value v n e = absurd (cc)

pub other_value : (v : Value) → None ≡ class_in v → exported_value (Some v) ≡ Some (ExportedValue v)
other_value (ClassOf k) e = absurd (cc)
other_value v e = refl

pub key_class : (v : Value) → is_key v ≡ true → class_in v ≡ None
key_class (ClassOf k) e = absurd (cc)
key_class v e = refl

-- ---- statements

pub no_export : (c : Context) (o : Option Value) (t : Tree) → (kind_of t ≡ Kind.ExportNamedDeclaration → ⊥) → (kind_of t ≡ Kind.ExportDefaultDeclaration → ⊥) → export_of c o (child t) ≡ []
no_export c o (Node Kind.ExportNamedDeclaration m span semantic_id ps) a b = absurd (a refl)
no_export c o (Node Kind.ExportDefaultDeclaration m span semantic_id ps) a b = absurd (b refl)
no_export c o (Node kind m span semantic_id ps) a b = refl

pub no_specifier : (c : Context) (t : Tree) → (kind_of t ≡ Kind.ExportSpecifier → ⊥) → specifier_export c (child t) ≡ []
no_specifier c (Node Kind.ExportSpecifier m span semantic_id ps) other = absurd (other refl)
no_specifier c (Node kind m span semantic_id ps) other = refl

pub unnamed : (kind : Kind) (p : Part) → (kind ≡ Kind.FunctionDeclaration → ⊥) → (kind ≡ Kind.ClassDeclaration → ⊥) → is_named_declaration kind p ≡ false
unnamed Kind.FunctionDeclaration p a b = absurd (a refl)
unnamed Kind.ClassDeclaration p a b = absurd (b refl)
unnamed kind p a b = refl

pub default_named : (c : Context) (o : Option Value) (t u : Tree) → is_named_declaration (kind_of t) (at 0 (parts_in t)) ≡ true → at 0 (parts_in t) ≡ child u → default_means c o t ≡ exported_as (name_kind c (module_name (child u)))
default_named c o (Node kind m span semantic_id ps) u is there = ap (λ b. cond b (exported_as (name_kind c (module_name (at 0 ps)))) (exported_value o)) is ∙ ap (λ p. exported_as (name_kind c (module_name p))) there

pub default_unnamed : (c : Context) (o : Option Value) (t : Tree) → is_named_declaration (kind_of t) (at 0 (parts_in t)) ≡ false → default_means c o t ≡ exported_value o
default_unnamed c o (Node kind m span semantic_id ps) is = ap (λ b. cond b (exported_as (name_kind c (module_name (at 0 ps)))) (exported_value o)) is

plain-exports : (c : Context) (ds : List Declaration) → declared_exports c (plain ds) ≡ declared_exports c ds
plain-exports c [] = refl
plain-exports c (d ∷ ds) = ap (λ (xs : List spec.Export). record { name = d.spelling; means = exported_as (name_kind c d.spelling) } ∷ xs) (plain-exports c ds)

exports-append : (c : Context) (ds es : List Declaration) → declared_exports c (ds ++ es) ≡ declared_exports c ds ++ declared_exports c es
exports-append c [] es = refl
exports-append c (d ∷ ds) es = ap (λ (xs : List spec.Export). record { name = d.spelling; means = exported_as (name_kind c d.spelling) } ∷ xs) (exports-append c ds es)

pub declared_plain : (c : Context) (ds es : List Declaration) → declared_exports c (plain ds ++ plain es) ≡ declared_exports c (ds ++ es)
declared_plain c ds es =
    exports-append c (plain ds) (plain es)
    ∙ ap (λ xs. xs ++ declared_exports c (plain es)) (plain-exports c ds)
    ∙ ap (λ xs. declared_exports c ds ++ xs) (plain-exports c es)
    ∙ sym (exports-append c ds es)

pub export_means : (xs : List spec.Export) (name : String) (m n : Option spec.Exported) → m ≡ n → xs ++ record { name = name; means = m } ∷ [] ≡ xs ++ record { name = name; means = n } ∷ []
export_means xs name m n e = ap (λ (x : Option spec.Exported). xs ++ record { name = name; means = x } ∷ []) e

-- ---- the environment gives the value of the default export

default-found : (c : Context) (env : Environment) (p : Part) → default_by c (found default_key env) p ≡ spec.default_exports c env p
default-found c env (child (Node kind m span semantic_id ps)) = refl
default-found c env p = refl

export-found : (c : Context) (env : Environment) (p : Part) → export_of c (found default_key env) p ≡ spec.exports_of c env p
export-found c env (child (Node Kind.ExportNamedDeclaration m span semantic_id ps)) = refl
export-found c env (child (Node Kind.ExportDefaultDeclaration m span semantic_id ps)) = default-found c env (at 0 ps)
export-found c env p = refl

pub exports_found : (c : Context) (env : Environment) (ps : Parts) → exports_by c (found default_key env) ps ≡ exports_in c env ps
exports_found c env end = refl
exports_found c env (more p ps) = ap (λ xs. xs ++ exports_by c (found default_key env) ps) (export-found c env p) ∙ ap (λ xs. spec.exports_of c env p ++ xs) (exports_found c env ps)

-- ---- comparison

abbrev Meant : Type 0
Meant = List (String × spec.Exported)

-- the first of names that all mean something
split : (s : String) (m : Option spec.Exported) (o : Option Meant) (xs : Meant) → with_export s m o ≡ Some xs → (x : spec.Exported) × (zs : Meant) × (m ≡ Some x) × (o ≡ Some zs) × ((s, x) ∷ zs ≡ xs)
split s (Some x) (Some zs) xs e = (x, zs, refl, refl, cc)
split s (Some x) None xs e = absurd (cc)
split s None (Some zs) xs e = absurd (cc)
split s None None xs e = absurd (cc)

some_same : {A : Type 0} {a b : A} → Some a ≡ Some b → a ≡ b
some_same e = cc

pub exports_same : (ls rs : List spec.Export) (xs ys : Meant) → all_exports ls ≡ Some xs → all_exports rs ≡ Some ys → same_list same_meant ls rs ≡ same_list same_export xs ys
exports_same [] [] xs ys e f = ap (λ zs. same_list same_export zs []) (some_same e) ∙ ap (λ zs. same_list same_export xs zs) (some_same f)
exports_same [] (r ∷ rs) xs ys e f =
    let b = split r.name r.means (all_exports rs) ys f in
    ap (λ zs. same_list same_export zs ((r.name, b.0) ∷ b.1)) (some_same e) ∙ ap (λ zs. same_list same_export xs zs) b.4
exports_same (l ∷ ls) [] xs ys e f =
    let a = split l.name l.means (all_exports ls) xs e in
    ap (λ zs. same_list same_export ((l.name, a.0) ∷ a.1) zs) (some_same f) ∙ ap (λ zs. same_list same_export zs ys) a.4
exports_same (l ∷ ls) (r ∷ rs) xs ys e f =
    let a = split l.name l.means (all_exports ls) xs e in
    let b = split r.name r.means (all_exports rs) ys f in
    ap (λ m. (bytes_eq l.name r.name && same_meaning m r.means) && same_list same_meant ls rs) a.2
    ∙ ap (λ m. (bytes_eq l.name r.name && same_meaning (Some a.0) m) && same_list same_meant ls rs) b.2
    ∙ ap (λ t. (bytes_eq l.name r.name && same_exported a.0 b.0) && t) (exports_same ls rs a.1 b.1 a.3 b.3)
    ∙ ap (λ zs. same_list same_export zs ((r.name, b.0) ∷ b.1)) a.4
    ∙ ap (λ zs. same_list same_export xs zs) b.4

-- whether all mean something, one by one
pub whole_more : (x : spec.Export) (xs : List spec.Export) → is_some (all_exports (x ∷ xs)) ≡ (is_some x.means && is_some (all_exports xs))
whole_more x xs = here x.means (all_exports xs)
  where
    here : (m : Option spec.Exported) (o : Option Meant) → is_some (with_export x.name m o) ≡ (is_some m && is_some o)
    here (Some y) (Some ys) = refl
    here (Some y) None = refl
    here None (Some ys) = refl
    here None None = refl
