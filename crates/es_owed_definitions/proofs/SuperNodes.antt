-- Nodes that give values to names which stand for `super(..)` are looked up by their classes.
use Rattle.std.proofs.Common.{◌≡◌, refl, sym, ap, ◌∙◌, ℕ, List, [], ◌∷◌, ◌++◌, Bool, true, false, cond, nat_eq, Option, Some, Bor}
use Rattle.std.proofs.lemmas.List.{map-append}
use Rattle.es_base.specs.Tree.{Tree, Node}
use Rattle.es_base.specs.declared.ledger.GeneratedKind.{GeneratedKind}
use Rattle.es_base.specs.declared.ledger.LedgerEntry.{LedgerEntry}
use Rattle.es_binding_faults.specs.Seen.{seen}
use Rattle.es_grouped.proofs.Having.{having_append}
use Rattle.es_grouped.specs.Groups.{having}
use Rattle.es_lowered.specs.Definitions.{function_definitions, given_part, is_given_super, is_super_of, super_definitions}
use Rattle.es_owed_definitions.specs.SuperNames.{given_kind, of_class, super_class, super_pair, super_pairs, supers_of}
use Rattle.es_steps.specs.declared.options.Options.{Options}

of_one : (n : ℕ) (g : Option GeneratedKind) (x : Bor Tree) → seen (having n (of_class (super_class g) x)) ≡ cond (is_super_of n g) (x.now ∷ []) []
of_one n (Some (GeneratedKind.SuperFn k)) x = here (nat_eq n k.0)
  where
    here : (b : Bool) → seen (cond b (x ∷ []) [] ++ []) ≡ cond b (x.now ∷ []) []
    here true = refl
    here false = refl
of_one n g x = refl

pub by_classes : (ledger : List LedgerEntry) (n : ℕ) (xs : List (Bor Tree)) → seen (having n (super_pairs ledger xs)) ≡ supers_of ledger n (seen xs)
by_classes ledger n [] = refl
by_classes ledger n (x ∷ xs) =
    ap seen (having_append n (super_pair ledger x) (super_pairs ledger xs))
    ∙ map-append (λ (y : Bor Tree). y.now) (having n (super_pair ledger x)) (having n (super_pairs ledger xs))
    ∙ ap (λ (ts : List Tree). ts ++ seen (having n (super_pairs ledger xs))) (of_one n (given_kind ledger x.now) x)
    ∙ ap (λ (ts : List Tree). cond (is_super_of n (given_kind ledger x.now)) (x.now ∷ []) [] ++ ts) (by_classes ledger n xs)

-- their definitions are those among all nodes
module _ (first : ℕ) (o : Options) (ledger : List LedgerEntry) (n : ℕ) where
  pub super_definitions_of : (ts : List Tree) → super_definitions first o ledger n (supers_of ledger n ts) ≡ super_definitions first o ledger n ts
  super_definitions_of [] = refl
  super_definitions_of (Node kind m span semantic_id ps ∷ ts) = here (is_given_super first o ledger n kind ps) refl (super_definitions_of ts)
    where
      here : (b : Bool) → is_given_super first o ledger n kind ps ≡ b → super_definitions first o ledger n (supers_of ledger n ts) ≡ super_definitions first o ledger n ts
          → super_definitions first o ledger n (cond b (Node kind m span semantic_id ps ∷ []) [] ++ supers_of ledger n ts) ≡ super_definitions first o ledger n (Node kind m span semantic_id ps ∷ ts)
      here true e h = ap (λ ds. cond (is_given_super first o ledger n kind ps) (function_definitions first o ledger n (given_part kind ps)) [] ++ ds) h
      here false e h = h ∙ sym (ap (λ b. cond b (function_definitions first o ledger n (given_part kind ps)) [] ++ super_definitions first o ledger n ts) e)
