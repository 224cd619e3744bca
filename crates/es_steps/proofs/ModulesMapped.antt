-- Imports and exports follow a change of numbers.
use Rattle.std.specs.Prelude.{◌≡◌, ℕ, List, [], ◌∷◌, ◌++◌, map, Bool, true, false, cond, Option, Some, None}
use Rattle.std.proofs.Common.{refl, ap, ◌∙◌}
use Rattle.es_base.specs.Tree.{Part, Parts, Node, end, more, child, absent, literal}
use Rattle.es_base.specs.declared.kind.Kind.{Kind}
use Rattle.es_base.specs.declared.ledger.GeneratedKind.{GeneratedKind}
use Rattle.es_base.specs.declared.literal.LiteralValue.TheVariants as literal_value
use Rattle.es_steps.specs.Context.{Context, NameKind, Fixed, Changing, MeansClass, Generated, StaticMethod, name_kind}
use Rattle.es_steps.specs.Evaluation.{Environment, found, default_key}
use Rattle.es_steps.specs.Modules.{Specifier, Imported, ImportedDefault, ImportedNamespace, Exported, module_name, importing, specifier_of, specifiers_of, nullable_name, export_link, link_of, links_in, exported_referent, exported_as, exported_value, declared_exports, specifier_export, specifier_exports, local_exports, default_export, is_named_declaration, default_exports, exports_of, exports_in}
use Rattle.es_steps.specs.Parts.{at, items}
use Rattle.es_steps.specs.Scopes.{Declaration, lexical_part, var_part}
use Rattle.es_steps.specs.Values.{String, Value, ClassOf, Referent, Bound, Free}
use Rattle.es_steps.proofs.ContextMapped.{name_kind-mapped}
use Rattle.es_steps.proofs.EvaluationMapped.{found-mapped}
use Rattle.es_steps.proofs.Mapped.{Renames, mapped_part, mapped_parts, mapped_option, mapped_context, mapped_environment, mapped_declaration, mapped_declarations, mapped_referent, mapped_name_kind, mapped_nullable, mapped_specifier, mapped_link, mapped_exported, mapped_export}
use Rattle.es_steps.proofs.PartsMapped.{append-mapped, at-mapped, items-mapped, string_at-mapped}
use Rattle.es_steps.proofs.ScopesMapped.{lexical_part-mapped, var_part-mapped}

module _ (f : ℕ → ℕ) where
  -- ---- links

  module_name-mapped : (p : Part) → module_name (mapped_part f p) ≡ module_name p
  module_name-mapped (child (Node Kind.Literal m span semantic_id (more (literal (literal_value.String s raw)) end))) = refl
  module_name-mapped (child (Node kind m span semantic_id ps)) = string_at-mapped f 0 ps
  module_name-mapped p = refl

  module_name_at-mapped : (i : ℕ) (ps : Parts) → module_name (at i (mapped_parts f ps)) ≡ module_name (at i ps)
  module_name_at-mapped i ps = ap module_name (at-mapped f i ps) ∙ module_name-mapped (at i ps)

  importing-mapped : (specifier : ℕ → Specifier) → ((b : ℕ) → mapped_specifier f (specifier b) ≡ specifier (f b)) → (p : Part) → importing specifier (mapped_part f p) ≡ map (mapped_specifier f) (importing specifier p)
  importing-mapped specifier same (child (Node kind b span semantic_id ps)) = rw (same b) refl
  importing-mapped specifier same p = refl

  specifier_of-mapped : (p : Part) → specifier_of (mapped_part f p) ≡ map (mapped_specifier f) (specifier_of p)
  specifier_of-mapped (child (Node Kind.ImportSpecifier m span semantic_id ps)) = rw (module_name_at-mapped 0 ps, at-mapped f 1 ps) (importing-mapped (Imported (module_name (at 0 ps))) (λ b. refl) (at 1 ps))
  specifier_of-mapped (child (Node Kind.ImportDefaultSpecifier m span semantic_id ps)) = rw (at-mapped f 0 ps) (importing-mapped ImportedDefault (λ b. refl) (at 0 ps))
  specifier_of-mapped (child (Node Kind.ImportNamespaceSpecifier m span semantic_id ps)) = rw (at-mapped f 0 ps) (importing-mapped ImportedNamespace (λ b. refl) (at 0 ps))
  specifier_of-mapped (child (Node Kind.ExportSpecifier m span semantic_id ps)) = rw (module_name_at-mapped 0 ps, module_name_at-mapped 1 ps) refl
  specifier_of-mapped p = refl

  specifiers_of-mapped : (ps : Parts) → specifiers_of (mapped_parts f ps) ≡ map (mapped_specifier f) (specifiers_of ps)
  specifiers_of-mapped end = refl
  specifiers_of-mapped (more p ps) = append-mapped (mapped_specifier f) _ _ (specifier_of-mapped p) (specifiers_of-mapped ps)

  specifiers_at-mapped : (i : ℕ) (ps : Parts) → specifiers_of (items (at i (mapped_parts f ps))) ≡ map (mapped_specifier f) (specifiers_of (items (at i ps)))
  specifiers_at-mapped i ps = ap specifiers_of (ap items (at-mapped f i ps) ∙ items-mapped f (at i ps)) ∙ specifiers_of-mapped (items (at i ps))

  nullable_name-mapped : (p : Part) → nullable_name (mapped_part f p) ≡ nullable_name p
  nullable_name-mapped absent = refl
  nullable_name-mapped (child t) = ap Some (module_name-mapped (child t))
  nullable_name-mapped p = refl

  export_link-mapped : (m : ℕ) (p q : Part) → export_link (f m) (mapped_part f p) (mapped_part f q) ≡ map (mapped_link f) (export_link m p q)
  export_link-mapped m (child t) q = rw (module_name-mapped (child t), items-mapped f q, specifiers_of-mapped (items q)) refl
  export_link-mapped m p q = refl

  link_of-mapped : (p : Part) → link_of (mapped_part f p) ≡ map (mapped_link f) (link_of p)
  link_of-mapped (child (Node Kind.ImportDeclaration m span semantic_id ps)) = rw (module_name_at-mapped 1 ps, specifiers_at-mapped 0 ps) refl
  link_of-mapped (child (Node Kind.ExportNamedDeclaration m span semantic_id ps)) = rw (at-mapped f 2 ps, at-mapped f 1 ps) (export_link-mapped m (at 2 ps) (at 1 ps))
  link_of-mapped (child (Node Kind.ExportAllDeclaration m span semantic_id ps)) = rw (module_name_at-mapped 1 ps, at-mapped f 0 ps, nullable_name-mapped (at 0 ps)) refl
  link_of-mapped p = refl

  -- ---- exports

  exported_referent-mapped : (to : Referent) → exported_referent (mapped_referent f to) ≡ mapped_option (mapped_exported f) (exported_referent to)
  exported_referent-mapped (Bound b) = refl
  exported_referent-mapped (Free s) = refl

  exported_as-mapped : (k : NameKind) → exported_as (mapped_name_kind f k) ≡ mapped_option (mapped_exported f) (exported_as k)
  exported_as-mapped (Fixed b) = refl
  exported_as-mapped (Changing to) = exported_referent-mapped to
  exported_as-mapped (MeansClass n b) = refl
  exported_as-mapped (Generated (GeneratedKind.ClassTemp n)) = refl
  exported_as-mapped (Generated g) = refl
  exported_as-mapped (StaticMethod d n) = refl

  exported_value-mapped : (v : Option Value) → exported_value (mapped_nullable f v) ≡ mapped_option (mapped_exported f) (exported_value v)
  exported_value-mapped None = refl
  exported_value-mapped (Some (ClassOf n)) = refl
  exported_value-mapped (Some v) = refl

  is_named_declaration-mapped : (kind : Kind) (p : Part) → is_named_declaration kind (mapped_part f p) ≡ is_named_declaration kind p
  is_named_declaration-mapped Kind.FunctionDeclaration (child t) = refl
  is_named_declaration-mapped Kind.ClassDeclaration (child t) = refl
  is_named_declaration-mapped kind p = refl

  default_means-mapped : (b : Bool) (x y : Option Exported) {u v : Option Exported} → u ≡ mapped_option (mapped_exported f) x → v ≡ mapped_option (mapped_exported f) y → default_export (cond b u v) ≡ map (mapped_export f) (default_export (cond b x y))
  default_means-mapped true x y p q = ap default_export p
  default_means-mapped false x y p q = ap default_export q

module _ {first : ℕ} {f : ℕ → ℕ} (r : Renames first f) where
  pub links_in-mapped : (ps : Parts) → links_in (mapped_parts f ps) ≡ map (mapped_link f) (links_in ps)
  links_in-mapped end = refl
  links_in-mapped (more p ps) = append-mapped (mapped_link f) _ _ (link_of-mapped f p) (links_in-mapped ps)

  module _ (c : Context) (e : c.first_new ≡ first) where
    exported_name-mapped : (s : String) → exported_as (name_kind (mapped_context f c) s) ≡ mapped_option (mapped_exported f) (exported_as (name_kind c s))
    exported_name-mapped s = ap exported_as (name_kind-mapped r c e s) ∙ exported_as-mapped f (name_kind c s)

    declared_exports-mapped : (ds : List Declaration) → declared_exports (mapped_context f c) (mapped_declarations f ds) ≡ map (mapped_export f) (declared_exports c ds)
    declared_exports-mapped [] = refl
    declared_exports-mapped (d ∷ ds) = rw (exported_name-mapped d.spelling, declared_exports-mapped ds) refl

    specifier_export-mapped : (p : Part) → specifier_export (mapped_context f c) (mapped_part f p) ≡ map (mapped_export f) (specifier_export c p)
    specifier_export-mapped (child (Node Kind.ExportSpecifier m span semantic_id ps)) = rw (module_name_at-mapped f 0 ps, module_name_at-mapped f 1 ps, exported_name-mapped (module_name (at 0 ps))) refl
    specifier_export-mapped p = refl

    specifier_exports-mapped : (ps : Parts) → specifier_exports (mapped_context f c) (mapped_parts f ps) ≡ map (mapped_export f) (specifier_exports c ps)
    specifier_exports-mapped end = refl
    specifier_exports-mapped (more p ps) = append-mapped (mapped_export f) _ _ (specifier_export-mapped p) (specifier_exports-mapped ps)

    local_exports-mapped : (p q x : Part) → local_exports (mapped_context f c) (mapped_part f p) (mapped_part f q) (mapped_part f x) ≡ map (mapped_export f) (local_exports c p q x)
    local_exports-mapped p q absent =
        append-mapped (mapped_export f) _ _
        (ap (declared_exports (mapped_context f c)) (append-mapped (mapped_declaration f) _ _ (lexical_part-mapped f p) (var_part-mapped f p)) ∙ declared_exports-mapped (lexical_part p ++ var_part p))
        (ap (specifier_exports (mapped_context f c)) (items-mapped f q) ∙ specifier_exports-mapped (items q))
    local_exports-mapped p q x = refl

    default_exports-mapped : (env : Environment) (p : Part) → default_exports (mapped_context f c) (mapped_environment f env) (mapped_part f p) ≡ map (mapped_export f) (default_exports c env p)
    default_exports-mapped env (child (Node kind m span semantic_id ps)) =
        rw (at-mapped f 0 ps, is_named_declaration-mapped f kind (at 0 ps), module_name-mapped f (at 0 ps))
        (default_means-mapped f (is_named_declaration kind (at 0 ps)) (exported_as (name_kind c (module_name (at 0 ps)))) (exported_value (found default_key env)) (exported_name-mapped (module_name (at 0 ps))) (ap exported_value (found-mapped f default_key env) ∙ exported_value-mapped f (found default_key env)))
    default_exports-mapped env p = refl

    exports_of-mapped : (env : Environment) (p : Part) → exports_of (mapped_context f c) (mapped_environment f env) (mapped_part f p) ≡ map (mapped_export f) (exports_of c env p)
    exports_of-mapped env (child (Node Kind.ExportNamedDeclaration m span semantic_id ps)) = rw (at-mapped f 0 ps, at-mapped f 1 ps, at-mapped f 2 ps) (local_exports-mapped (at 0 ps) (at 1 ps) (at 2 ps))
    exports_of-mapped env (child (Node Kind.ExportDefaultDeclaration m span semantic_id ps)) = rw (at-mapped f 0 ps) (default_exports-mapped env (at 0 ps))
    exports_of-mapped env p = refl

    pub exports_in-mapped : (env : Environment) (ps : Parts) → exports_in (mapped_context f c) (mapped_environment f env) (mapped_parts f ps) ≡ map (mapped_export f) (exports_in c env ps)
    exports_in-mapped env end = refl
    exports_in-mapped env (more p ps) = append-mapped (mapped_export f) _ _ (exports_of-mapped env p) (exports_in-mapped env ps)
