-- Going over the classes of a source in search of the first that does not have its definitions.
use Rattle.std.proofs.Common.{◌≡◌, ap, ◌∙◌, ℕ, List, ◌∷◌, true, false, cond, Some}
use Rattle.es_base.specs.Preorder.{number_of}
use Rattle.es_base.specs.Tree.{Tree}
use Rattle.es_base.specs.declared.ledger.LedgerEntry.{LedgerEntry}
use Rattle.es_steps.specs.PrivateNames.{PrivateMember}
use Rattle.es_steps.specs.declared.options.Options.{Options}
use Rattle.es_owed_definitions.specs.Fields.{class_stands}
use Rattle.es_owed_definitions.specs.Unfit.{first_unfit}
use Rattle.es_owed_definitions.specs.declared.terms.Terms.{Terms}

module _ (first : ℕ) (o : Options) (ledger : List LedgerEntry) (members : List PrivateMember) (p q t : Tree) (ts : List Tree) where
  pub unfit_here : class_stands first o ledger members p q t ≡ false → first_unfit first o ledger members p q (t ∷ ts) ≡ Some (number_of t)
  unfit_here h = ap (λ b. cond b (first_unfit first o ledger members p q ts) (Some (number_of t))) h

  pub unfit_behind : class_stands first o ledger members p q t ≡ true → first_unfit first o ledger members p q (t ∷ ts) ≡ first_unfit first o ledger members p q ts
  unfit_behind h = ap (λ b. cond b (first_unfit first o ledger members p q ts) (Some (number_of t))) h

-- the same of what is the same
pub same_unfit : (x : Terms) (members : List PrivateMember) (p p2 q : Tree) (ts us : List Tree) → p ≡ p2 → ts ≡ us
    → first_unfit x.first x.options.now x.ledger.now members p q ts ≡ first_unfit x.first x.options.now x.ledger.now members p2 q us
same_unfit x members p p2 q ts us source nodes =
    ap (λ (z : Tree). first_unfit x.first x.options.now x.ledger.now members z q ts) source
    ∙ ap (λ (z : List Tree). first_unfit x.first x.options.now x.ledger.now members p2 q z) nodes

pub same_terms : (x y : Terms) (ms ns : List PrivateMember) (p q r : Tree) (ts : List Tree) → x ≡ y → ms ≡ ns → q ≡ r
    → first_unfit x.first x.options.now x.ledger.now ms p q ts ≡ first_unfit y.first y.options.now y.ledger.now ns p r ts
same_terms x y ms ns p q r ts terms members lowered =
    ap (λ (z : Terms). first_unfit z.first z.options.now z.ledger.now ms p q ts) terms
    ∙ ap (λ (z : List PrivateMember). first_unfit y.first y.options.now y.ledger.now z p q ts) members
    ∙ ap (λ (z : Tree). first_unfit y.first y.options.now y.ledger.now ns p z ts) lowered
