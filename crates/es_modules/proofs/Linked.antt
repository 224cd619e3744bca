-- Imports and exports, node by node.
use Rattle.std.proofs.Common.{◌≡◌, refl, ℕ, [], ◌∷◌, Option}
use Rattle.es_base.specs.Tree.{Tree, Parts, Node, more, child}
use Rattle.es_base.specs.declared.kind.Kind.{Kind}
use Rattle.es_node.specs.View.{kind_of, number_in, parts_in}
use Rattle.es_steps.specs.Meaning.{body_of}
use Rattle.es_steps.specs.Modules.{Imported, ImportedDefault, ImportedNamespace, link_of, module_name, specifier_of}
use Rattle.es_steps.specs.Parts.{at, items}

pub body_node : (t : Tree) → body_of t ≡ items (at 1 (parts_in t))
body_node (Node kind m span semantic_id ps) = refl

pub no_link : (t : Tree) → (kind_of t ≡ Kind.ImportDeclaration → ⊥) → (kind_of t ≡ Kind.ExportNamedDeclaration → ⊥) → (kind_of t ≡ Kind.ExportAllDeclaration → ⊥) → link_of (child t) ≡ []
no_link (Node Kind.ImportDeclaration m span semantic_id ps) a b c = absurd (a refl)
no_link (Node Kind.ExportNamedDeclaration m span semantic_id ps) a b c = absurd (b refl)
no_link (Node Kind.ExportAllDeclaration m span semantic_id ps) a b c = absurd (c refl)
no_link (Node kind m span semantic_id ps) a b c = refl

pub imported : (m : ℕ) (span : Option (ℕ × ℕ)) (semantic_id : Option ℕ) (s t : Tree) (ps : Parts) → specifier_of (child (Node Kind.ImportSpecifier m span semantic_id (more (child s) (more (child t) ps)))) ≡ Imported (module_name (child s)) (number_in t) ∷ []
imported m span semantic_id s (Node kind b bspan b_semantic_id bs) ps = refl

pub imported_default : (m : ℕ) (span : Option (ℕ × ℕ)) (semantic_id : Option ℕ) (t : Tree) (ps : Parts) → specifier_of (child (Node Kind.ImportDefaultSpecifier m span semantic_id (more (child t) ps))) ≡ ImportedDefault (number_in t) ∷ []
imported_default m span semantic_id (Node kind b bspan b_semantic_id bs) ps = refl

pub imported_namespace : (m : ℕ) (span : Option (ℕ × ℕ)) (semantic_id : Option ℕ) (t : Tree) (ps : Parts) → specifier_of (child (Node Kind.ImportNamespaceSpecifier m span semantic_id (more (child t) ps))) ≡ ImportedNamespace (number_in t) ∷ []
imported_namespace m span semantic_id (Node kind b bspan b_semantic_id bs) ps = refl

pub no_specifier : (t : Tree) → (kind_of t ≡ Kind.ImportSpecifier → ⊥) → (kind_of t ≡ Kind.ImportDefaultSpecifier → ⊥) → (kind_of t ≡ Kind.ImportNamespaceSpecifier → ⊥) → (kind_of t ≡ Kind.ExportSpecifier → ⊥) → specifier_of (child t) ≡ []
no_specifier (Node Kind.ImportSpecifier m span semantic_id ps) a b c d = absurd (a refl)
no_specifier (Node Kind.ImportDefaultSpecifier m span semantic_id ps) a b c d = absurd (b refl)
no_specifier (Node Kind.ImportNamespaceSpecifier m span semantic_id ps) a b c d = absurd (c refl)
no_specifier (Node Kind.ExportSpecifier m span semantic_id ps) a b c d = absurd (d refl)
no_specifier (Node kind m span semantic_id ps) a b c d = refl
