-- The names of a class, by the kind of a node.
use Rattle.std.proofs.Common.{◌≡◌, refl, ap, ℕ, List, [], ◌∷◌, ◌++◌, Bool, true, false, cond, not, ◌&&◌, ◌||◌, Some}
use Rattle.std.specs.Prelude.{nat_eq}
use Rattle.es_base.specs.Numbered.{is_new}
use Rattle.es_base.specs.Tree.{Tree, Parts, Node, child}
use Rattle.es_base.specs.declared.kind.Kind.{Kind}
use Rattle.es_base.specs.declared.ledger.LedgerEntry.{LedgerEntry}
use Rattle.es_node.specs.View.{kind_of, number_in, parts_in}
use Rattle.es_lowered.specs.OwnNames as own
use Rattle.es_steps.specs.Context.{generated_as}
use Rattle.es_lowered.specs.Definitions.{class_identifiers, declares_class, identifier_in, is_bound_among, is_class_number, is_class_temporary, names_class, old_ones}
use Rattle.es_steps.specs.LoweredClasses.{referent_of}
use Rattle.es_steps.specs.Parts.{at, string_of}
use Rattle.es_steps.specs.References.{Reference}
use Rattle.es_steps.specs.Scopes.{class_in, is_binding_identifier}
use Rattle.es_steps.specs.Values.{Referent, Bound, Free}

pub named_reference : (n : ℕ) (ledger : List LedgerEntry) (rs : List Reference) (bs : List ℕ) (t : Tree) → kind_of t ≡ Kind.IdentifierReference → names_class n ledger rs bs (child t) ≡ (is_class_temporary n (generated_as (string_of (at 0 (parts_in t))) ledger) || is_bound_among bs (referent_of (number_in t) rs))
named_reference n ledger rs bs (Node Kind.IdentifierReference m span semantic_id ps) is = refl
named_reference n ledger rs bs (Node kind m span semantic_id ps) is = absurd (cc)

pub names_nothing : (n : ℕ) (ledger : List LedgerEntry) (rs : List Reference) (bs : List ℕ) (t : Tree) → (kind_of t ≡ Kind.IdentifierReference → ⊥) → names_class n ledger rs bs (child t) ≡ false
names_nothing n ledger rs bs (Node Kind.IdentifierReference m span semantic_id ps) other = absurd (other refl)
names_nothing n ledger rs bs (Node kind m span semantic_id ps) other = refl

pub among : (bs : List ℕ) (r : Referent) → is_bound_among bs (Some r) ≡ own.is_bound_among bs r
among bs (Bound b) = refl
among bs (Free s) = refl

-- ---- identifiers

pub more_identifiers : (first n : ℕ) (t : Tree) (ts : List Tree) → class_identifiers first n (t ∷ ts) ≡ declares_class first n (kind_of t) (number_in t) (parts_in t) ++ class_identifiers first n ts
more_identifiers first n (Node kind m span semantic_id ps) ts = refl

pub declared_by : (first n m : ℕ) (kind : Kind) (ps : Parts) → kind ≡ Kind.ClassDeclaration → declares_class first n kind m ps ≡ cond (nat_eq n m) (identifier_in (at 0 ps)) []
declared_by first n m kind ps is = ap (λ k. declares_class first n k m ps) is

pub expressed_by : (first n m : ℕ) (kind : Kind) (ps : Parts) → kind ≡ Kind.ClassExpression → declares_class first n kind m ps ≡ cond (nat_eq n m) (identifier_in (at 0 ps)) []
expressed_by first n m kind ps is = ap (λ k. declares_class first n k m ps) is

pub given_by : (first n m : ℕ) (kind : Kind) (ps : Parts) → kind ≡ Kind.VariableDeclarator → declares_class first n kind m ps ≡ cond (is_new first m && is_class_number n (class_in (at 1 ps))) (old_ones first (identifier_in (at 0 ps))) []
given_by first n m kind ps is = ap (λ k. declares_class first n k m ps) is

pub declares_none : (first n m : ℕ) (kind : Kind) (ps : Parts) → (kind ≡ Kind.ClassDeclaration → ⊥) → (kind ≡ Kind.ClassExpression → ⊥) → (kind ≡ Kind.VariableDeclarator → ⊥) → declares_class first n kind m ps ≡ []
declares_none first n m Kind.ClassDeclaration ps a b c = absurd (a refl)
declares_none first n m Kind.ClassExpression ps a b c = absurd (b refl)
declares_none first n m Kind.VariableDeclarator ps a b c = absurd (c refl)
declares_none first n m kind ps a b c = refl

pub old_identifier : (first : ℕ) (t : Tree) → old_ones first (identifier_in (child t)) ≡ cond (not (is_new first (number_in t))) (identifier_in (child t)) []
old_identifier first (Node Kind.BindingIdentifier b span semantic_id ps) = here (is_new first b)
  where
    here : (new : Bool) → cond new [] (b ∷ []) ++ [] ≡ cond (not new) (b ∷ []) []
    here true = refl
    here false = refl
old_identifier first (Node kind b span semantic_id ps) = none (is_new first b)
  where
    none : (new : Bool) → [] ≡ cond {A = List ℕ} (not new) [] []
    none true = refl
    none false = refl

pub identifier_of : (t : Tree) → identifier_in (child t) ≡ cond (is_binding_identifier (kind_of t)) (number_in t ∷ []) []
identifier_of (Node Kind.BindingIdentifier b span semantic_id ps) = refl
identifier_of (Node kind b span semantic_id ps) = refl
