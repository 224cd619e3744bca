-- What is written, node by node.
use Rattle.std.proofs.Common.{◌≡◌, refl, ap, ◌∙◌, ℕ, List, [], ◌∷◌, cond, ◌&&◌, ◌||◌}
use Rattle.std.specs.Prelude.{not}
use Rattle.es_base.specs.Numbered.{is_new}
use Rattle.es_base.specs.Tree.{Tree, Node}
use Rattle.es_base.specs.declared.kind.Kind.{Kind}
use Rattle.es_base.specs.declared.ledger.LedgerEntry.{LedgerEntry}
use Rattle.es_lowered.specs.KeptReferences.{plain_target, write_fits, writes_fit}
use Rattle.es_node.specs.View.{kind_of}
use Rattle.es_steps.specs.Context.{is_generated}
use Rattle.es_steps.specs.References.{Reference, has_number}

pub no_target : (t : Tree) → (kind_of t ≡ Kind.AssignmentExpression → ⊥) → (kind_of t ≡ Kind.UpdateExpression → ⊥) → plain_target t ≡ []
no_target (Node Kind.AssignmentExpression m span semantic_id ps) a b = absurd (a refl)
no_target (Node Kind.UpdateExpression m span semantic_id ps) a b = absurd (b refl)
no_target (Node kind m span semantic_id ps) a b = refl

-- among lists of the same numbers
pub fit_alike : (first : ℕ) (ledger : List LedgerEntry) (ts us ks ls : List ℕ) (rs : List Reference) → ((n : ℕ) → has_number n ts ≡ has_number n us) → ((n : ℕ) → has_number n ks ≡ has_number n ls) → writes_fit first ledger ts ks rs ≡ writes_fit first ledger us ls rs
fit_alike first ledger ts us ks ls [] same alike = refl
fit_alike first ledger ts us ks ls (r ∷ rs) same alike =
    ap (λ b. (not r.writes || cond (is_generated r.spelling ledger) (is_new first r.number && b) (has_number r.number ks)) && writes_fit first ledger ts ks rs) (same r.number)
    ∙ ap (λ b. (not r.writes || cond (is_generated r.spelling ledger) (is_new first r.number && has_number r.number us) b) && writes_fit first ledger ts ks rs) (alike r.number)
    ∙ ap (λ b. write_fits first ledger us ls r && b) (fit_alike first ledger ts us ks ls rs same alike)
