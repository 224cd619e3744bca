-- What stands for `super(..)`, node by node.
use Rattle.std.proofs.Common.{◌≡◌, refl, ℕ, List, ◌∷◌, false, ◌&&◌, ◌||◌, Option}
use Rattle.es_base.specs.Tree.{Tree, Part, Parts, Node, end, more, child, list}
use Rattle.es_base.specs.declared.kind.Kind.{Kind}
use Rattle.es_base.specs.declared.ledger.LedgerEntry.{LedgerEntry}
use Rattle.es_lowered.specs.Definitions.{any_definition, definition_at, is_construction, is_plain_super, super_stands, supers_stand}
use Rattle.es_node.specs.View.{kind_of, number_in, parts_in}
use Rattle.es_owed_definitions.specs.Supers.{is_plain_body, is_this}
use Rattle.es_steps.specs.Context.{is_super_call}
use Rattle.es_steps.specs.References.{Reference}
use Rattle.es_steps.specs.declared.options.Options.{Options}

pub supers_more : (first : ℕ) (o : Options) (ledger : List LedgerEntry) (rs : List Reference) (t : Tree) (ts : List Tree) → supers_stand first o ledger rs (t ∷ ts) ≡ (super_stands first o ledger rs (kind_of t) (parts_in t) && supers_stand first o ledger rs ts)
supers_more first o ledger rs (Node kind m span semantic_id ps) ts = refl

pub no_arrow : (first : ℕ) (o : Options) (ledger : List LedgerEntry) (t : Tree) → (kind_of t ≡ Kind.ArrowFunctionExpression → ⊥) → is_plain_super first o ledger (child t) ≡ false
no_arrow first o ledger (Node Kind.ArrowFunctionExpression m span semantic_id ps) other = absurd (other refl)
no_arrow first o ledger (Node kind m span semantic_id ps) other = refl

pub arrow_node : (first : ℕ) (o : Options) (ledger : List LedgerEntry) (m : ℕ) (span : Option (ℕ × ℕ)) (semantic_id : Option ℕ) (p : Part) (t : Tree) (rest : Parts) → is_plain_super first o ledger (child (Node Kind.ArrowFunctionExpression m span semantic_id (more p (more (child t) rest)))) ≡ is_plain_body first o ledger t
arrow_node first o ledger m span semantic_id p (Node Kind.SequenceExpression k kspan k_semantic_id (more (list es) end)) rest = refl
arrow_node first o ledger m span semantic_id p t rest = refl

pub no_body : (first : ℕ) (o : Options) (ledger : List LedgerEntry) (t : Tree) → (kind_of t ≡ Kind.SequenceExpression → ⊥) → is_plain_body first o ledger t ≡ false
no_body first o ledger (Node Kind.SequenceExpression m span semantic_id ps) other = absurd (other refl)
no_body first o ledger (Node kind m span semantic_id ps) other = refl

pub construction_node : (first : ℕ) (o : Options) (ledger : List LedgerEntry) (t : Tree) → is_construction first o ledger (child t) ≡ ((is_this (kind_of t) || is_super_call (kind_of t) (parts_in t)) || any_definition (definition_at first o ledger (kind_of t) (number_in t) (parts_in t)))
construction_node first o ledger (Node Kind.ThisExpression m span semantic_id ps) = refl
construction_node first o ledger (Node Kind.CallExpression m span semantic_id (more (child (Node Kind.Super k kspan k_semantic_id ks)) rest)) = refl
construction_node first o ledger (Node kind m span semantic_id ps) = refl
