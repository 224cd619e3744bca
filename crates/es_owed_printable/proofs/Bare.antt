-- Strings that are no directives, node by node.
use Rattle.std.proofs.Common.{◌≡◌, refl, ap, ◌∙◌, ℕ, List, [], ◌∷◌, false, ◌&&◌}
use Rattle.es_base.specs.Tree.{Tree, Parts, Node, end, child}
use Rattle.es_base.specs.declared.kind.Kind.{Kind}
use Rattle.es_node.specs.View.{kind_of}
use Rattle.es_steps.specs.Printable.{all_among, is_bare_string, prologue}
use Rattle.es_steps.specs.References.{has_number}
use Rattle.es_owed_printable.specs.Bare.{is_string}

pub no_prologue : (kind : Kind) (ps : Parts) → (kind ≡ Kind.Program → ⊥) → (kind ≡ Kind.FunctionDeclaration → ⊥) → (kind ≡ Kind.FunctionExpression → ⊥) → (kind ≡ Kind.ArrowFunctionExpression → ⊥) → prologue kind ps ≡ end
no_prologue Kind.Program ps a b c d = absurd (a refl)
no_prologue Kind.FunctionDeclaration ps a b c d = absurd (b refl)
no_prologue Kind.FunctionExpression ps a b c d = absurd (c refl)
no_prologue Kind.ArrowFunctionExpression ps a b c d = absurd (d refl)
no_prologue kind ps a b c d = refl

pub no_statement : (t : Tree) → (kind_of t ≡ Kind.ExpressionStatement → ⊥) → is_bare_string (child t) ≡ false
no_statement (Node Kind.ExpressionStatement m span semantic_id ps) other = absurd (other refl)
no_statement (Node kind m span semantic_id ps) other = refl

pub no_literal : (t : Tree) → (kind_of t ≡ Kind.Literal → ⊥) → is_string t ≡ false
no_literal (Node Kind.Literal m span semantic_id ps) other = absurd (other refl)
no_literal (Node kind m span semantic_id ps) other = refl

-- a set of the numbers is as good as their list
pub among_same : (ns ks ls : List ℕ) → ((n : ℕ) → has_number n ks ≡ has_number n ls) → all_among ns ks ≡ all_among ns ls
among_same [] ks ls same = refl
among_same (n ∷ ns) ks ls same = ap (λ b. b && all_among ns ks) (same n) ∙ ap (λ b. has_number n ls && b) (among_same ns ks ls same)
