-- Declaring identifiers, node by node.
use Rattle.std.proofs.Common.{◌≡◌, refl, sym, ap, ◌∙◌, arith, ℕ, suc, ◌+◌, List, ◌++◌, cond, []}
use Rattle.std.specs.Prelude.{◌∷◌, Bool, false}
use Rattle.es_base.specs.Tree.{Tree, Parts, Node, end, more}
use Rattle.es_base.specs.declared.kind.Kind.{Kind}
use Rattle.es_node.specs.View.{kind_of, number_in, parts_in}
use Rattle.es_steps.specs.Meaning.{DeclarationKind, declared_as, declares_at, declaring, declaring_part, declaring_parts}
use Rattle.es_steps.specs.Parts.{at, string_of}
use Rattle.es_steps.specs.Scopes.{is_binding_identifier}
use Rattle.es_declarations.specs.Declaring.{declares_within, declaring_from}

from_place : (first : ℕ) (d f : ℕ → DeclarationKind) (i : ℕ) (ps : Parts) → ((k : ℕ) → f k ≡ d (i + k)) → declaring_parts first f ps ≡ declaring_from first d i ps
from_place first d f i end same = refl
from_place first d f i (more p ps) same =
    ap (λ (x : DeclarationKind). declaring_part first x p ++ declaring_parts first (λ k. f (suc k)) ps) (same 0 ∙ ap d (at_once i))
    ∙ ap (λ (xs : List (ℕ × DeclarationKind)). declaring_part first (d i) p ++ xs) (from_place first d (λ k. f (suc k)) (i + 1) ps (λ k. same (suc k) ∙ ap d (one_on i k)))
  where
    at_once : (i : ℕ) → i + 0 ≡ i
    at_once i = omega arith

    one_on : (i k : ℕ) → i + suc k ≡ (i + 1) + k
    one_on i k = omega arith

from_zero : (k : ℕ) → k ≡ 0 + k
from_zero k = omega arith

declaring_node : (first : ℕ) (d : DeclarationKind) (t : Tree) → declaring first d t ≡ cond (is_binding_identifier (kind_of t)) ((number_in t, declared_as (string_of (at 0 (parts_in t))) d) ∷ []) (declaring_from first (declares_within first t d) 0 (parts_in t))
declaring_node first d (Node kind m span semantic_id ps) =
    ap (λ (xs : List (ℕ × DeclarationKind)). cond (is_binding_identifier kind) ((m, declared_as (string_of (at 0 ps)) d) ∷ []) xs) (from_place first (declares_at first kind m ps d) (declares_at first kind m ps d) 0 ps (λ k. ap (declares_at first kind m ps d) (from_zero k)))

pub declaring_inside : (first : ℕ) (d : DeclarationKind) (t : Tree) (is_identifier : Bool) → is_identifier ≡ is_binding_identifier (kind_of t) → is_identifier ≡ false → declaring first d t ≡ declaring_from first (declares_within first t d) 0 (parts_in t)
declaring_inside first d t is_identifier is other =
    declaring_node first d t ∙ ap (λ b. cond b ((number_in t, declared_as (string_of (at 0 (parts_in t))) d) ∷ []) (declaring_from first (declares_within first t d) 0 (parts_in t))) (sym is ∙ other)

pub within_node : (first : ℕ) (t : Tree) (d : DeclarationKind) (i : ℕ) → declares_within first t d i ≡ declares_at first (kind_of t) (number_in t) (parts_in t) d i
within_node first (Node kind m span semantic_id ps) d i = refl

pub as_around : (first : ℕ) (kind : Kind) (m : ℕ) (ps : Parts) (d : DeclarationKind) (i : ℕ) → (kind ≡ Kind.VariableDeclaration → ⊥) → (kind ≡ Kind.VariableDeclarator → ⊥) → (kind ≡ Kind.FunctionDeclaration → ⊥) → (kind ≡ Kind.FunctionExpression → ⊥) → (kind ≡ Kind.ArrowFunctionExpression → ⊥) → (kind ≡ Kind.CatchClause → ⊥) → (kind ≡ Kind.ImportDeclaration → ⊥) → (kind ≡ Kind.ClassDeclaration → ⊥) → (kind ≡ Kind.ClassExpression → ⊥) → declares_at first kind m ps d i ≡ d
as_around first Kind.VariableDeclaration m ps d i a b c e f g h j k = absurd (a refl)
as_around first Kind.VariableDeclarator m ps d i a b c e f g h j k = absurd (b refl)
as_around first Kind.FunctionDeclaration m ps d i a b c e f g h j k = absurd (c refl)
as_around first Kind.FunctionExpression m ps d i a b c e f g h j k = absurd (e refl)
as_around first Kind.ArrowFunctionExpression m ps d i a b c e f g h j k = absurd (f refl)
as_around first Kind.CatchClause m ps d i a b c e f g h j k = absurd (g refl)
as_around first Kind.ImportDeclaration m ps d i a b c e f g h j k = absurd (h refl)
as_around first Kind.ClassDeclaration m ps d i a b c e f g h j k = absurd (j refl)
as_around first Kind.ClassExpression m ps d i a b c e f g h j k = absurd (k refl)
as_around first kind m ps d i a b c e f g h j k = refl
