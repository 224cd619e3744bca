-- The temporaries of definitions one behind another.
use Rattle.std.proofs.Common.{◌≡◌, refl, sym, ap, ◌∙◌, ℕ, List, [], ◌∷◌, ◌++◌, append_assoc}
use Rattle.es_base.specs.Tree.{Tree, Node}
use Rattle.es_base.specs.declared.ledger.LedgerEntry.{LedgerEntry}
use Rattle.es_lowered.specs.Definitions.{FieldDefinition, all_temporaries, key_temporaries, key_temporary, with_class}
use Rattle.es_owed_definitions.specs.declared.terms.Terms.{Terms}
use Rattle.es_owed_keys.specs.Temporaries.{temporaries_at}
use Rattle.es_steps.specs.PrivateNames.{PrivateMember}
use Rattle.es_steps.specs.Values.{String}

with_both : (n : ℕ) (xs ys : List String) → with_class n (xs ++ ys) ≡ with_class n xs ++ with_class n ys
with_both n [] ys = refl
with_both n (x ∷ xs) ys = ap (λ (zs : List (String × ℕ)). (x, n) ∷ zs) (with_both n xs ys)

temporaries_both : (ledger : List LedgerEntry) (ds es : List FieldDefinition) → key_temporaries ledger (ds ++ es) ≡ key_temporaries ledger ds ++ key_temporaries ledger es
temporaries_both ledger [] es = refl
temporaries_both ledger (d ∷ ds) es = ap (λ (zs : List String). key_temporary ledger d.key ++ zs) (temporaries_both ledger ds es) ∙ sym (append_assoc (key_temporary ledger d.key) (key_temporaries ledger ds) (key_temporaries ledger es))

pub one_more : (ledger : List LedgerEntry) (n : ℕ) (d : FieldDefinition) (ds : List FieldDefinition) → with_class n (key_temporaries ledger (d ∷ ds)) ≡ with_class n (key_temporary ledger d.key) ++ with_class n (key_temporaries ledger ds)
one_more ledger n d ds = with_both n (key_temporary ledger d.key) (key_temporaries ledger ds)

-- found is old with the temporaries of these, and new is found with those of others
pub both_classed : (ledger : List LedgerEntry) (n : ℕ) (ds es : List FieldDefinition) (old found new : List (String × ℕ))
    → found ≡ old ++ with_class n (key_temporaries ledger ds)
    → new ≡ found ++ with_class n (key_temporaries ledger es)
    → new ≡ old ++ with_class n (key_temporaries ledger (ds ++ es))
both_classed ledger n ds es old found new h k =
    k
    ∙ ap (λ (xs : List (String × ℕ)). xs ++ with_class n (key_temporaries ledger es)) h
    ∙ append_assoc old (with_class n (key_temporaries ledger ds)) (with_class n (key_temporaries ledger es))
    ∙ ap (λ (xs : List (String × ℕ)). old ++ xs) (sym (with_both n (key_temporaries ledger ds) (key_temporaries ledger es)) ∙ ap (with_class n) (sym (temporaries_both ledger ds es)))

-- those of the classes among nodes: those of the first, then the others
pub node_more : (o : Terms) (members : List PrivateMember) (q t : Tree) (ts : List Tree) → all_temporaries o.first o.options.now o.ledger.now members q (t ∷ ts) ≡ temporaries_at o members q t ++ all_temporaries o.first o.options.now o.ledger.now members q ts
node_more o members q (Node kind n span semantic_id ps) ts = refl
