-- Definitions in code, node by node.
use Rattle.std.proofs.Common.{◌≡◌, refl, sym, ap, ◌∙◌, ℕ, List, [], ◌∷◌, ◌++◌, Bool, true, false, cond, ◌&&◌, ◌||◌}
use Rattle.std.specs.Prelude.{nat_eq}
use Rattle.es_base.specs.Numbered.{is_new}
use Rattle.es_base.specs.Tree.{Tree, Parts, Node, child, absent}
use Rattle.es_base.specs.declared.kind.Kind.{Kind}
use Rattle.es_base.specs.declared.ledger.LedgerEntry.{LedgerEntry}
use Rattle.es_lowered.specs.Definitions.{all_definitions, constructor_definitions, definition_at, definitions_in, definitions_of, function_definitions, given_part, given_to, is_given_super, is_new_this, super_definitions}
use Rattle.es_node.specs.View.{kind_of, number_in, parts_in}
use Rattle.es_owed.specs.Listed.{numbered}
use Rattle.es_owed_definitions.specs.Views.{constructed, of_super}
use Rattle.es_steps.specs.Context.{is_function}
use Rattle.es_steps.specs.LoweredClasses.{constructor_in}
use Rattle.es_steps.specs.Parts.{at}
use Rattle.es_steps.specs.PrivateNames.{is_class}
use Rattle.es_steps.specs.declared.options.Options.{Options}

pub given_to_none : (kind : Kind) (ps : Parts) → (kind ≡ Kind.AssignmentExpression → ⊥) → (kind ≡ Kind.VariableDeclarator → ⊥) → given_to kind ps ≡ absent
given_to_none Kind.AssignmentExpression ps a b = absurd (a refl)
given_to_none Kind.VariableDeclarator ps a b = absurd (b refl)
given_to_none kind ps a b = refl

pub given_part_none : (kind : Kind) (ps : Parts) → (kind ≡ Kind.AssignmentExpression → ⊥) → (kind ≡ Kind.VariableDeclarator → ⊥) → given_part kind ps ≡ absent
given_part_none Kind.AssignmentExpression ps a b = absurd (a refl)
given_part_none Kind.VariableDeclarator ps a b = absurd (b refl)
given_part_none kind ps a b = refl

pub definitions_node : (first : ℕ) (o : Options) (ledger : List LedgerEntry) (n : ℕ) (t : Tree) → definitions_in first o ledger n t ≡ cond (is_class (kind_of t) || (is_function (kind_of t) || is_given_super first o ledger n (kind_of t) (parts_in t))) [] (definition_at first o ledger (kind_of t) (number_in t) (parts_in t) ++ definitions_of first o ledger n (parts_in t))
definitions_node first o ledger n (Node kind m span semantic_id ps) = refl

pub function_node : (first : ℕ) (o : Options) (ledger : List LedgerEntry) (n : ℕ) (t : Tree) → function_definitions first o ledger n (child t) ≡ definitions_of first o ledger n (parts_in t)
function_node first o ledger n (Node kind m span semantic_id ps) = refl

pub super_more : (first : ℕ) (o : Options) (ledger : List LedgerEntry) (n : ℕ) (t : Tree) (ts : List Tree) → super_definitions first o ledger n (t ∷ ts) ≡ of_super first o ledger n t ++ super_definitions first o ledger n ts
super_more first o ledger n (Node kind m span semantic_id ps) ts = refl

pub super_node : (first : ℕ) (o : Options) (ledger : List LedgerEntry) (n : ℕ) (t : Tree) → of_super first o ledger n t ≡ cond (is_given_super first o ledger n (kind_of t) (parts_in t)) (function_definitions first o ledger n (given_part (kind_of t) (parts_in t))) []
super_node first o ledger n (Node kind m span semantic_id ps) = refl

pub constructor_more : (first : ℕ) (o : Options) (ledger : List LedgerEntry) (n : ℕ) (t : Tree) (ts : List Tree) → constructor_definitions first o ledger n (t ∷ ts) ≡ constructed first o ledger n t ++ constructor_definitions first o ledger n ts
constructor_more first o ledger n (Node kind m span semantic_id ps) ts = refl

constructed_node : (first : ℕ) (o : Options) (ledger : List LedgerEntry) (n : ℕ) (t : Tree) → constructed first o ledger n t ≡ cond (is_class (kind_of t) && nat_eq n (number_in t)) (function_definitions first o ledger n (constructor_in (at 2 (parts_in t)))) []
constructed_node first o ledger n (Node kind m span semantic_id ps) = refl

pub constructed_here : (first : ℕ) (o : Options) (ledger : List LedgerEntry) (n : ℕ) (t u : Tree) → (is_class (kind_of t) && nat_eq n (number_in t)) ≡ true → at 2 (parts_in t) ≡ child u → constructed first o ledger n t ≡ function_definitions first o ledger n (constructor_in (child u))
constructed_here first o ledger n t u is body = constructed_node first o ledger n t ∙ ap (λ b. cond b (function_definitions first o ledger n (constructor_in (at 2 (parts_in t)))) []) is ∙ ap (λ p. function_definitions first o ledger n (constructor_in p)) body

pub constructed_elsewhere : (first : ℕ) (o : Options) (ledger : List LedgerEntry) (n : ℕ) (t : Tree) → (is_class (kind_of t) && nat_eq n (number_in t)) ≡ false → constructed first o ledger n t ≡ []
constructed_elsewhere first o ledger n t other = constructed_node first o ledger n t ∙ ap (λ b. cond b (function_definitions first o ledger n (constructor_in (at 2 (parts_in t)))) []) other

-- those of the classes of a number are all
pub constructors_numbered : (first : ℕ) (o : Options) (ledger : List LedgerEntry) (n : ℕ) (ts : List Tree) → constructor_definitions first o ledger n (numbered n ts) ≡ constructor_definitions first o ledger n ts
constructors_numbered first o ledger n [] = refl
constructors_numbered first o ledger n (Node kind k span semantic_id ps ∷ ts) = here (nat_eq n k) refl (constructors_numbered first o ledger n ts)
  where
    none : (c : Bool) → cond (c && false) (function_definitions first o ledger n (constructor_in (at 2 ps))) [] ≡ []
    none true = refl
    none false = refl

    here : (b : Bool) → nat_eq n k ≡ b → constructor_definitions first o ledger n (numbered n ts) ≡ constructor_definitions first o ledger n ts
        → constructor_definitions first o ledger n (cond b (Node kind k span semantic_id ps ∷ []) [] ++ numbered n ts) ≡ constructor_definitions first o ledger n (Node kind k span semantic_id ps ∷ ts)
    here true e h = ap (λ ds. cond (is_class kind && nat_eq n k) (function_definitions first o ledger n (constructor_in (at 2 ps))) [] ++ ds) h
    here false e h =
        h
        ∙ sym (ap (λ ds. ds ++ constructor_definitions first o ledger n ts) (none (is_class kind)))
        ∙ sym (ap (λ b. cond (is_class kind && b) (function_definitions first o ledger n (constructor_in (at 2 ps))) [] ++ constructor_definitions first o ledger n ts) e)

pub this_node : (first : ℕ) (t : Tree) → kind_of t ≡ Kind.ThisExpression → is_new_this first (child t) ≡ is_new first (number_in t)
this_node first (Node kind m span semantic_id ps) is = ap (λ k. is_new_this first (child (Node k m span semantic_id ps))) is

pub no_this : (first : ℕ) (t : Tree) → (kind_of t ≡ Kind.ThisExpression → ⊥) → is_new_this first (child t) ≡ false
no_this first (Node Kind.ThisExpression m span semantic_id ps) other = absurd (other refl)
no_this first (Node kind m span semantic_id ps) other = refl

pub all_more : (first : ℕ) (o : Options) (ledger : List LedgerEntry) (t : Tree) (ts : List Tree) → all_definitions first o ledger (t ∷ ts) ≡ definition_at first o ledger (kind_of t) (number_in t) (parts_in t) ++ all_definitions first o ledger ts
all_more first o ledger (Node kind m span semantic_id ps) ts = refl
