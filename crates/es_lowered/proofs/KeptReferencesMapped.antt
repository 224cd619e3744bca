-- That names are read and written where they may be does not depend on numbers.
use Rattle.std.specs.Prelude.{◌≡◌, ℕ, List, [], ◌∷◌, map, false, ◌&&◌, bytes_eq, codes}
use Rattle.std.proofs.Common.{refl, ap, ap₂, ◌∙◌}
use Rattle.es_base.specs.Preorder.{preorder}
use Rattle.es_base.specs.Tree.{Tree, Parts, Node}
use Rattle.es_base.specs.declared.kind.Kind.{Kind}
use Rattle.es_base.specs.declared.ledger.LedgerEntry.{LedgerEntry}
use Rattle.es_lowered.specs.HelperCalls.{part_number}
use Rattle.es_lowered.specs.KeptReferences.{plain_target, plain_targets, writing_numbers, write_fits, writes_fit, inner_references, inner_names_stay, references_stay}
use Rattle.es_steps.specs.Parts.{at, string_of}
use Rattle.es_steps.specs.References.{Reference, resolve, gives_inside}
use Rattle.es_steps.specs.declared.options.Options.{Options}
use Rattle.es_lowered.proofs.ClassLetsMapped.{class_lets_fit-mapped}
use Rattle.es_lowered.proofs.ClassNamesMapped.{classes_timely-mapped}
use Rattle.es_steps.proofs.ContextMapped.{is_generated-mapped}
use Rattle.es_lowered.proofs.DeadZonesMapped.{dead_zones_stay-mapped}
use Rattle.es_lowered.proofs.DefaultExportMapped.{default_stays-mapped}
use Rattle.es_lowered.proofs.FunctionsAroundMapped.{mapped_placed, placed_references-mapped, all_stand_where-mapped}
use Rattle.es_lowered.proofs.HeadValuesMapped.{head_values_stay-mapped}
use Rattle.es_lowered.proofs.HelperCallsMapped.{part_number-mapped}
use Rattle.es_lowered.proofs.StrayNamesMapped.{private_names_stay-mapped}
use Rattle.es_lowered.proofs.SupersMapped.{supers_stay-mapped}
use Rattle.es_steps.proofs.Mapped.{Renames, mapped, mapped_parts, mapped_reference, mapped_ledger}
use Rattle.es_steps.proofs.PartsMapped.{cond-mapped, append-mapped, at-mapped, string_at-mapped, preorder-mapped}
use Rattle.es_steps.proofs.ReferencesMapped.{resolve-mapped, has_number-mapped, gives_inside-mapped}

module _ (f : ℕ → ℕ) where
  target_at-mapped : (i : ℕ) (ps : Parts) → part_number (at i (mapped_parts f ps)) ≡ map f (part_number (at i ps))
  target_at-mapped i ps = ap part_number (at-mapped f i ps) ∙ part_number-mapped f (at i ps)

  plain_target-mapped : (t : Tree) → plain_target (mapped f t) ≡ map f (plain_target t)
  plain_target-mapped (Node Kind.AssignmentExpression m span semantic_id ps) =
      rw (string_at-mapped f 0 ps) (cond-mapped (map f) (bytes_eq (string_of (at 0 ps)) (codes "=")) (part_number (at 1 ps)) [] (target_at-mapped 1 ps) refl)
  plain_target-mapped (Node Kind.UpdateExpression m span semantic_id ps) = target_at-mapped 1 ps
  plain_target-mapped t = refl

  plain_targets-mapped : (ts : List Tree) → plain_targets (map (mapped f) ts) ≡ map f (plain_targets ts)
  plain_targets-mapped [] = refl
  plain_targets-mapped (t ∷ ts) = append-mapped f _ _ (plain_target-mapped t) (plain_targets-mapped ts)

module _ {first : ℕ} {f : ℕ → ℕ} (r : Renames first f) where
  writing_numbers-mapped : (rs : List Reference) → writing_numbers (map (mapped_reference f) rs) ≡ map f (writing_numbers rs)
  writing_numbers-mapped [] = refl
  writing_numbers-mapped (x ∷ rs) = append-mapped f _ _ (cond-mapped (map f) x.writes (x.number ∷ []) [] refl refl) (writing_numbers-mapped rs)

  write_fits-mapped : (ledger : List LedgerEntry) (targets old : List ℕ) (x : Reference) → write_fits first (mapped_ledger f ledger) (map f targets) (map f old) (mapped_reference f x) ≡ write_fits first ledger targets old x
  write_fits-mapped ledger targets old x = rw (is_generated-mapped f x.spelling ledger, r.new x.number, has_number-mapped r x.number targets, has_number-mapped r x.number old) refl

  writes_fit-mapped : (ledger : List LedgerEntry) (targets old : List ℕ) (rs : List Reference) → writes_fit first (mapped_ledger f ledger) (map f targets) (map f old) (map (mapped_reference f) rs) ≡ writes_fit first ledger targets old rs
  writes_fit-mapped ledger targets old [] = refl
  writes_fit-mapped ledger targets old (x ∷ rs) = ap₂ (λ a b. a && b) (write_fits-mapped ledger targets old x) (writes_fit-mapped ledger targets old rs)

  inner_references-mapped : (ps : List Tree) (t : Tree) → inner_references first (map (mapped f) ps) (mapped f t) ≡ map (mapped_placed f) (inner_references first ps t)
  inner_references-mapped ps t = placed_references-mapped r (λ m s. gives_inside s (map (mapped f) ps)) (λ m s. gives_inside s ps) (λ m s. gives_inside-mapped f s ps) false [] t

  inner_names_stay-mapped : (p q : Tree) → inner_names_stay first (mapped f p) (mapped f q) ≡ inner_names_stay first p q
  inner_names_stay-mapped p q =
      rw (preorder-mapped f p, inner_references-mapped (preorder p) q, inner_references-mapped (preorder p) p)
      (all_stand_where-mapped r (inner_references first (preorder p) q) (inner_references first (preorder p) p))

  pub references_stay-mapped : (o : Options) (ledger : List LedgerEntry) (p q : Tree) → references_stay first o (mapped_ledger f ledger) (mapped f p) (mapped f q) ≡ references_stay first o ledger p q
  references_stay-mapped o ledger p q =
      ap₂ (λ a b. a && b) (ap₂ (λ a b. a && b) (classes_timely-mapped r ledger p q) (ap₂ (λ a b. a && b) (supers_stay-mapped f p q) (private_names_stay-mapped f p q)))
      (ap₂ (λ a b. a && b)
      (rw (preorder-mapped f q, plain_targets-mapped f (preorder q), resolve-mapped f p, writing_numbers-mapped (resolve p), resolve-mapped f q) (writes_fit-mapped ledger (plain_targets (preorder q)) (writing_numbers (resolve p)) (resolve q)))
      (ap₂ (λ a b. a && b) (inner_names_stay-mapped p q) (ap₂ (λ a b. a && b) (default_stays-mapped r p q) (ap₂ (λ a b. a && b) (rw (preorder-mapped f p) (class_lets_fit-mapped r (preorder p) q)) (ap₂ (λ a b. a && b) (dead_zones_stay-mapped r o ledger p q) (rw (resolve-mapped f q, preorder-mapped f q) (head_values_stay-mapped r ledger (resolve q) (preorder q))))))))
