-- What gives names their values, by the kind of a node.
use Rattle.std.proofs.Common.{◌≡◌, refl, ap, ◌∙◌, ℕ, List, [], ◌∷◌, ◌++◌, false, cond, ◌&&◌}
use Rattle.std.proofs.Math.Bool.{and-true, and-false}
use Rattle.std.specs.Prelude.{nat_eq}
use Rattle.es_base.specs.Tree.{Tree, Parts, Node, child, absent}
use Rattle.es_base.specs.declared.kind.Kind.{Kind}
use Rattle.es_base.specs.declared.ledger.GeneratedKind.{GeneratedKind}
use Rattle.es_base.specs.declared.ledger.LedgerEntry.{LedgerEntry}
use Rattle.es_node.specs.View.{kind_of, number_in, parts_in}
use Rattle.es_lowered.specs.Lowered.{initialization_at, initializations, is_class_itself, is_class_kind, is_initial, is_method_kind, spelled_as}
use Rattle.es_steps.specs.Parts.{at, is_present}
use Rattle.es_steps.specs.Values.{String}

pub more_initializations : (first : ℕ) (ledger : List LedgerEntry) (q : Tree) (s : String) (g : GeneratedKind) (t : Tree) (ts : List Tree) → initializations first ledger q s g (t ∷ ts) ≡ initialization_at first ledger q s g (kind_of t) (number_in t) (parts_in t) ++ initializations first ledger q s g ts
more_initializations first ledger q s g (Node kind m span semantic_id ps) ts = refl

pub by_assignment : (first : ℕ) (ledger : List LedgerEntry) (q : Tree) (s : String) (g : GeneratedKind) (kind : Kind) (m : ℕ) (ps : Parts) → kind ≡ Kind.AssignmentExpression → initialization_at first ledger q s g kind m ps ≡ cond (spelled_as s (at 1 ps)) ((m, is_initial first ledger q m g (at 2 ps)) ∷ []) []
by_assignment first ledger q s g kind m ps is = ap (λ k. initialization_at first ledger q s g k m ps) is

given : (first : ℕ) (ledger : List LedgerEntry) (q : Tree) (s : String) (g : GeneratedKind) (m : ℕ) (ps : Parts) → initialization_at first ledger q s g Kind.VariableDeclarator m ps ≡ cond (spelled_as s (at 0 ps) && is_present (at 1 ps)) ((m, is_initial first ledger q m g (at 1 ps)) ∷ []) []
given first ledger q s g m ps = refl

pub by_declarator : (first : ℕ) (ledger : List LedgerEntry) (q : Tree) (s : String) (g : GeneratedKind) (kind : Kind) (m : ℕ) (ps : Parts) (v : Tree) → kind ≡ Kind.VariableDeclarator → at 1 ps ≡ child v → initialization_at first ledger q s g kind m ps ≡ cond (spelled_as s (at 0 ps)) ((m, is_initial first ledger q m g (child v)) ∷ []) []
by_declarator first ledger q s g kind m ps v is value =
    ap (λ k. initialization_at first ledger q s g k m ps) is
    ∙ ap (λ p. cond (spelled_as s (at 0 ps) && is_present p) ((m, is_initial first ledger q m g p) ∷ []) []) value
    ∙ ap (λ b. cond b ((m, is_initial first ledger q m g (child v)) ∷ []) []) (and-true (spelled_as s (at 0 ps)))

pub by_empty_declarator : (first : ℕ) (ledger : List LedgerEntry) (q : Tree) (s : String) (g : GeneratedKind) (kind : Kind) (m : ℕ) (ps : Parts) → kind ≡ Kind.VariableDeclarator → at 1 ps ≡ absent → initialization_at first ledger q s g kind m ps ≡ []
by_empty_declarator first ledger q s g kind m ps is none =
    ap (λ k. initialization_at first ledger q s g k m ps) is
    ∙ ap (λ p. cond (spelled_as s (at 0 ps) && is_present p) ((m, is_initial first ledger q m g p) ∷ []) []) none
    ∙ ap (λ b. cond b ((m, is_initial first ledger q m g absent) ∷ []) []) (and-false (spelled_as s (at 0 ps)))

pub by_function : (first : ℕ) (ledger : List LedgerEntry) (q : Tree) (s : String) (g : GeneratedKind) (kind : Kind) (m : ℕ) (ps : Parts) → kind ≡ Kind.FunctionDeclaration → initialization_at first ledger q s g kind m ps ≡ cond (spelled_as s (at 0 ps)) ((m, is_method_kind g) ∷ []) []
by_function first ledger q s g kind m ps is = ap (λ k. initialization_at first ledger q s g k m ps) is

pub by_class : (first : ℕ) (ledger : List LedgerEntry) (q : Tree) (s : String) (g : GeneratedKind) (kind : Kind) (m : ℕ) (ps : Parts) → kind ≡ Kind.ClassDeclaration → initialization_at first ledger q s g kind m ps ≡ cond (spelled_as s (at 0 ps)) ((m, is_class_kind m g) ∷ []) []
by_class first ledger q s g kind m ps is = ap (λ k. initialization_at first ledger q s g k m ps) is

pub by_class_expression : (first : ℕ) (ledger : List LedgerEntry) (q : Tree) (s : String) (g : GeneratedKind) (kind : Kind) (m : ℕ) (ps : Parts) → kind ≡ Kind.ClassExpression → initialization_at first ledger q s g kind m ps ≡ cond (spelled_as s (at 0 ps)) ((m, is_class_kind m g) ∷ []) []
by_class_expression first ledger q s g kind m ps is = ap (λ k. initialization_at first ledger q s g k m ps) is

pub by_own_name : (first : ℕ) (ledger : List LedgerEntry) (q : Tree) (s : String) (g : GeneratedKind) (kind : Kind) (m : ℕ) (ps : Parts) → kind ≡ Kind.FunctionExpression → initialization_at first ledger q s g kind m ps ≡ cond (spelled_as s (at 0 ps)) ((m, false) ∷ []) []
by_own_name first ledger q s g kind m ps is = ap (λ k. initialization_at first ledger q s g k m ps) is

pub by_none : (first : ℕ) (ledger : List LedgerEntry) (q : Tree) (s : String) (g : GeneratedKind) (kind : Kind) (m : ℕ) (ps : Parts) → (kind ≡ Kind.AssignmentExpression → ⊥) → (kind ≡ Kind.VariableDeclarator → ⊥) → (kind ≡ Kind.FunctionDeclaration → ⊥) → (kind ≡ Kind.ClassDeclaration → ⊥) → (kind ≡ Kind.ClassExpression → ⊥) → (kind ≡ Kind.FunctionExpression → ⊥) → initialization_at first ledger q s g kind m ps ≡ []
by_none first ledger q s g Kind.AssignmentExpression m ps a b c d e f = absurd (a refl)
by_none first ledger q s g Kind.VariableDeclarator m ps a b c d e f = absurd (b refl)
by_none first ledger q s g Kind.FunctionDeclaration m ps a b c d e f = absurd (c refl)
by_none first ledger q s g Kind.ClassDeclaration m ps a b c d e f = absurd (d refl)
by_none first ledger q s g Kind.ClassExpression m ps a b c d e f = absurd (e refl)
by_none first ledger q s g Kind.FunctionExpression m ps a b c d e f = absurd (f refl)
by_none first ledger q s g kind m ps a b c d e f = refl

-- ---- classes

pub class_itself : (n : ℕ) (t : Tree) → kind_of t ≡ Kind.ClassExpression → is_class_itself n (child t) ≡ nat_eq n (number_in t)
class_itself n (Node kind m span semantic_id ps) is = ap (λ k. is_class_itself n (child (Node k m span semantic_id ps))) is

pub no_class_itself : (n : ℕ) (t : Tree) → (kind_of t ≡ Kind.ClassExpression → ⊥) → is_class_itself n (child t) ≡ false
no_class_itself n (Node Kind.ClassExpression m span semantic_id ps) other = absurd (other refl)
no_class_itself n (Node kind m span semantic_id ps) other = refl
