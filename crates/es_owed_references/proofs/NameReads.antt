-- Reads of the names of classes, by the kind of a node.
use Rattle.std.proofs.Common.{◌≡◌, refl, ap, ◌∙◌, ℕ, List, [], ◌∷◌, Bool, true, false, cond, ◌&&◌, ◌||◌, Option}
use Rattle.std.specs.Prelude.{nat_eq}
use Rattle.es_base.specs.Preorder.{number_of, preorder_of_part}
use Rattle.es_base.specs.Tree.{Tree, Part, Parts, Node, end, more, child, absent}
use Rattle.es_base.specs.declared.kind.Kind.{Kind}
use Rattle.es_base.specs.declared.ledger.LedgerEntry.{LedgerEntry}
use Rattle.es_node.specs.View.{kind_of}
use Rattle.es_lowered.specs.ClassNames.{MovedFunction}
use Rattle.es_lowered.specs.OwnNames.{any_stands, class_identifier, declares_by, identifier_at, identifiers_at, loses_name, reads_itself, references_to}
use Rattle.es_owed_references.specs.OwnNameReads.{reads_by}
use Rattle.es_steps.specs.References.{Reference, has_number}

-- ---- nodes of some numbers

pub same_stand : (ns ks : List ℕ) (ts : List Tree) → ((n : ℕ) → has_number n ns ≡ has_number n ks) → any_stands ns ts ≡ any_stands ks ts
same_stand ns ks [] same = refl
same_stand ns ks (t ∷ ts) same = ap (λ b. b || any_stands ns ts) (same (number_of t)) ∙ ap (λ b. has_number (number_of t) ks || b) (same_stand ns ks ts same)

-- an identifier that no class declares
pub undeclared : (a has c : Bool) → has ≡ false → (a && (has && c)) ≡ false
undeclared true has c none = ap (λ b. b && c) none
undeclared false has c none = refl

-- ---- a class expression without a name

pub keeps_name : (ps : List Tree) (rs : List Reference) (t : Tree) → (kind_of t ≡ Kind.ClassExpression → ⊥) → loses_name ps rs t ≡ false
keeps_name ps rs (Node Kind.ClassExpression n span semantic_id parts) other = absurd (other refl)
keeps_name ps rs (Node kind n span semantic_id parts) other = refl

pub named_class : (ps : List Tree) (rs : List Reference) (n : ℕ) (span : Option (ℕ × ℕ)) (semantic_id : Option ℕ) (t : Tree) (parts : Parts) → loses_name ps rs (Node Kind.ClassExpression n span semantic_id (more (child t) parts)) ≡ false
named_class ps rs n span semantic_id t parts = refl

pub unnamed_class : (ps : List Tree) (rs : List Reference) (n : ℕ) (span : Option (ℕ × ℕ)) (semantic_id : Option ℕ) (heritage : Part) (body : Tree) → loses_name ps rs (Node Kind.ClassExpression n span semantic_id (more absent (more heritage (more (child body) end)))) ≡ any_stands (references_to (identifiers_at n ps) rs) (preorder_of_part (child body))
unnamed_class ps rs n span semantic_id heritage body = refl

pub no_identifier_at : (n : ℕ) (t : Tree) → (kind_of t ≡ Kind.ClassDeclaration → ⊥) → identifier_at n t ≡ []
no_identifier_at n (Node Kind.ClassDeclaration m span semantic_id ps) other = absurd (other refl)
no_identifier_at n (Node kind m span semantic_id ps) other = refl

pub unnamed_at : (n m : ℕ) (span : Option (ℕ × ℕ)) (semantic_id : Option ℕ) (ps : Parts) → identifier_at n (Node Kind.ClassDeclaration m span semantic_id (more absent ps)) ≡ []
unnamed_at n m span semantic_id ps = refl

pub identifier_node_at : (n m : ℕ) (span : Option (ℕ × ℕ)) (semantic_id : Option ℕ) (t : Tree) (ps : Parts) → identifier_at n (Node Kind.ClassDeclaration m span semantic_id (more (child t) ps)) ≡ cond (nat_eq n m) (number_of t ∷ []) []
identifier_node_at n m span semantic_id (Node kind b bspan b_semantic_id bs) ps = refl

-- ---- the identifiers of declared classes

pub no_class_identifier : (t : Tree) → (kind_of t ≡ Kind.ClassDeclaration → ⊥) → class_identifier t ≡ []
no_class_identifier (Node Kind.ClassDeclaration m span semantic_id ps) other = absurd (other refl)
no_class_identifier (Node kind m span semantic_id ps) other = refl

pub unnamed_class_identifier : (m : ℕ) (span : Option (ℕ × ℕ)) (semantic_id : Option ℕ) (ps : Parts) → class_identifier (Node Kind.ClassDeclaration m span semantic_id (more absent ps)) ≡ []
unnamed_class_identifier m span semantic_id ps = refl

pub class_identifier_node : (m : ℕ) (span : Option (ℕ × ℕ)) (semantic_id : Option ℕ) (t : Tree) (ps : Parts) → class_identifier (Node Kind.ClassDeclaration m span semantic_id (more (child t) ps)) ≡ (number_of t ∷ [])
class_identifier_node m span semantic_id (Node kind b bspan b_semantic_id bs) ps = refl

-- ---- declarators

module _ (ledger : List LedgerEntry) (fs : List MovedFunction) (ps qs : List Tree) (rs : List Reference) where
  pub no_declarator : (t : Tree) → (kind_of t ≡ Kind.VariableDeclarator → ⊥) → reads_itself ledger fs ps qs rs t ≡ false
  no_declarator (Node Kind.VariableDeclarator m span semantic_id parts) other = absurd (other refl)
  no_declarator (Node kind m span semantic_id parts) other = refl

  pub declarator_node : (m : ℕ) (span : Option (ℕ × ℕ)) (semantic_id : Option ℕ) (t : Tree) (e : Part) → reads_itself ledger fs ps qs rs (Node Kind.VariableDeclarator m span semantic_id (more (child t) (more e end))) ≡ reads_by ledger fs ps qs rs m t e
  declarator_node m span semantic_id (Node kind b bspan b_semantic_id bs) e = refl

pub declares_nothing : (m b : ℕ) (t : Tree) → (kind_of t ≡ Kind.VariableDeclarator → ⊥) → declares_by m b t ≡ false
declares_nothing m b (Node Kind.VariableDeclarator n span semantic_id ps) other = absurd (other refl)
declares_nothing m b (Node kind n span semantic_id ps) other = refl

pub declares_node : (m b n : ℕ) (span : Option (ℕ × ℕ)) (semantic_id : Option ℕ) (t : Tree) (ps : Parts) → declares_by m b (Node Kind.VariableDeclarator n span semantic_id (more (child t) ps)) ≡ (nat_eq m n && nat_eq b (number_of t))
declares_node m b n span semantic_id (Node kind k kspan k_semantic_id ks) ps = refl
