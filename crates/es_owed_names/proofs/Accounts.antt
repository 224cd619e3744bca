-- New declarations, node by node.
use Rattle.std.proofs.Common.{◌≡◌, refl, ap, ◌∙◌, ℕ, List, [], ◌∷◌, false, ◌&&◌, ◌||◌}
use Rattle.std.specs.Prelude.{not}
use Rattle.es_base.specs.Numbered.{is_new}
use Rattle.es_base.specs.Tree.{Tree, Node}
use Rattle.es_base.specs.declared.kind.Kind.{Kind}
use Rattle.es_base.specs.declared.ledger.LedgerEntry.{LedgerEntry}
use Rattle.es_node.specs.View.{kind_of, number_in, parts_in}
use Rattle.es_steps.specs.Context.{is_generated}
use Rattle.es_lowered.specs.Lowered.{all_accounted, is_accounted, is_new_const}
use Rattle.es_steps.specs.Parts.{at, string_of}
use Rattle.es_steps.specs.References.{has_number}
use Rattle.es_steps.specs.Scopes.{is_binding_identifier}

pub accounted_node : (first : ℕ) (ledger : List LedgerEntry) (own : List ℕ) (t : Tree) → is_accounted first ledger own t ≡ (not (is_binding_identifier (kind_of t) && is_new first (number_in t)) || (is_generated (string_of (at 0 (parts_in t))) ledger || has_number (number_in t) own))
accounted_node first ledger own (Node kind m span semantic_id ps) = refl

pub no_variables : (first : ℕ) (t : Tree) → (kind_of t ≡ Kind.VariableDeclaration → ⊥) → is_new_const first t ≡ false
no_variables first (Node Kind.VariableDeclaration m span semantic_id ps) other = absurd (other refl)
no_variables first (Node kind m span semantic_id ps) other = refl

same_node : (first : ℕ) (ledger : List LedgerEntry) (ns ks : List ℕ) (t : Tree) → ((n : ℕ) → has_number n ns ≡ has_number n ks) → is_accounted first ledger ns t ≡ is_accounted first ledger ks t
same_node first ledger ns ks (Node kind b span semantic_id ps) same = ap (λ c. not (is_binding_identifier kind && is_new first b) || (is_generated (string_of (at 0 ps)) ledger || c)) (same b)

pub same_accounted : (first : ℕ) (ledger : List LedgerEntry) (ns ks : List ℕ) (ts : List Tree) → ((n : ℕ) → has_number n ns ≡ has_number n ks) → all_accounted first ledger ns ts ≡ all_accounted first ledger ks ts
same_accounted first ledger ns ks [] same = refl
same_accounted first ledger ns ks (t ∷ ts) same =
    ap (λ c. not (is_new_const first t) && (c && all_accounted first ledger ns ts)) (same_node first ledger ns ks t same)
    ∙ ap (λ c. not (is_new_const first t) && (is_accounted first ledger ks t && c)) (same_accounted first ledger ns ks ts same)
