-- Generated names, node by node.
use Rattle.std.proofs.Common.{◌≡◌, refl, ap, ℕ, List, [], ◌∷◌, false, cond}
use Rattle.es_base.specs.Tree.{Tree, Node, child}
use Rattle.es_base.specs.declared.kind.Kind.{Kind}
use Rattle.es_base.specs.declared.ledger.LedgerEntry.{LedgerEntry}
use Rattle.es_lowered.specs.HelperCalls.{generated_spelling, is_generated_name}
use Rattle.es_node.specs.View.{kind_of, parts_in}
use Rattle.es_steps.specs.Context.{is_generated}
use Rattle.es_steps.specs.Parts.{at, string_of}

pub generated_node : (ledger : List LedgerEntry) (t : Tree) → kind_of t ≡ Kind.IdentifierReference → is_generated_name ledger (child t) ≡ is_generated (string_of (at 0 (parts_in t))) ledger
generated_node ledger (Node kind m span semantic_id ps) is = ap (λ k. is_generated_name ledger (child (Node k m span semantic_id ps))) is

pub not_generated : (ledger : List LedgerEntry) (t : Tree) → (kind_of t ≡ Kind.IdentifierReference → ⊥) → is_generated_name ledger (child t) ≡ false
not_generated ledger (Node Kind.IdentifierReference m span semantic_id ps) other = absurd (other refl)
not_generated ledger (Node kind m span semantic_id ps) other = refl

pub spelling_node : (first : ℕ) (ledger : List LedgerEntry) (t : Tree) → kind_of t ≡ Kind.IdentifierReference → generated_spelling first ledger (child t) ≡ cond (is_generated (string_of (at 0 (parts_in t))) ledger) (string_of (at 0 (parts_in t)) ∷ []) []
spelling_node first ledger (Node kind m span semantic_id ps) is = ap (λ k. generated_spelling first ledger (child (Node k m span semantic_id ps))) is

pub no_spelling : (first : ℕ) (ledger : List LedgerEntry) (t : Tree) → (kind_of t ≡ Kind.IdentifierReference → ⊥) → generated_spelling first ledger (child t) ≡ []
no_spelling first ledger (Node Kind.IdentifierReference m span semantic_id ps) other = absurd (other refl)
no_spelling first ledger (Node kind m span semantic_id ps) other = refl
