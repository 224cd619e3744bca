-- The own names of classes, under a change of numbers.
use Rattle.std.specs.Prelude.{◌≡◌, ℕ, List, [], ◌∷◌, map, Bool, not, ◌&&◌, ◌||◌, nat_eq}
use Rattle.std.proofs.Common.{refl, ap₂}
use Rattle.es_base.specs.Conforms.{is_among}
use Rattle.es_base.specs.Preorder.{number_of, preorder, preorder_of_part}
use Rattle.es_base.specs.Tree.{Tree, Node, end, more, child, absent}
use Rattle.es_base.specs.declared.kind.Kind.{Kind}
use Rattle.es_base.specs.declared.ledger.LedgerEntry.{LedgerEntry}
use Rattle.es_lowered.proofs.ClassNamesMapped.{mapped_function, numbers_of_part-mapped, moved_functions-mapped, outside_class-mapped, reaching-mapped, any_among-mapped}
use Rattle.es_lowered.specs.ClassNames.{MovedFunction, numbers_of, moved_functions, outside_class, reaching}
use Rattle.es_lowered.specs.OwnNames.{is_bound_among, references_to, class_name_at, declares_class, are_none, own_name_number, own_name_numbers, identifier_at, identifiers_at, any_stands, loses_name, none_loses_name, class_identifier, class_identifiers, declares_by, any_declares, reads_itself, none_reads_itself, own_names_stay}
use Rattle.es_steps.specs.Parts.{at, string_of}
use Rattle.es_steps.specs.References.{Reference, resolve}
use Rattle.es_steps.specs.Values.{String, Referent, Bound}
use Rattle.es_steps.proofs.Mapped.{Renames, mapped, mapped_referent, mapped_reference, mapped_ledger}
use Rattle.es_steps.proofs.PartsMapped.{cond-mapped, append-mapped, string_at-mapped, number_of-mapped, preorder-mapped, preorder_of_part-mapped}
use Rattle.es_steps.proofs.ReferencesMapped.{resolve-mapped, has_number-mapped}

are_none-mapped : (f : ℕ → ℕ) (ns : List ℕ) → are_none (map f ns) ≡ are_none ns
are_none-mapped f [] = refl
are_none-mapped f (n ∷ ns) = refl

module _ {first : ℕ} {f : ℕ → ℕ} (r : Renames first f) where
  is_bound_among-mapped : (bs : List ℕ) (to : Referent) → is_bound_among (map f bs) (mapped_referent f to) ≡ is_bound_among bs to
  is_bound_among-mapped bs (Bound b) = has_number-mapped r b bs
  is_bound_among-mapped bs to = refl

  references_to-mapped : (bs : List ℕ) (rs : List Reference) → references_to (map f bs) (map (mapped_reference f) rs) ≡ map f (references_to bs rs)
  references_to-mapped bs [] = refl
  references_to-mapped bs (x ∷ rs) = append-mapped f _ _ (rw (is_bound_among-mapped bs x.to) (cond-mapped (map f) (is_bound_among bs x.to) (x.number ∷ []) [] refl refl)) (references_to-mapped bs rs)

  -- ---- own names that are new

  class_name_at-mapped : (n : ℕ) (t : Tree) → class_name_at (f n) (mapped f t) ≡ class_name_at n t
  class_name_at-mapped n (Node Kind.ClassDeclaration m span semantic_id (more (child (Node kind b bspan b_semantic_id bs)) ps)) = rw (r.apart n m, string_at-mapped f 0 bs) refl
  class_name_at-mapped n t = refl

  declares_class-mapped : (n : ℕ) (s : String) (ts : List Tree) → declares_class (f n) s (map (mapped f) ts) ≡ declares_class n s ts
  declares_class-mapped n s [] = refl
  declares_class-mapped n s (t ∷ ts) = ap₂ (λ a b. is_among s a || b) (class_name_at-mapped n t) (declares_class-mapped n s ts)

  own_name_number-mapped : (p : Tree) (rs : List Reference) (t : Tree) → own_name_number (mapped f p) (map (mapped_reference f) rs) (mapped f t) ≡ map f (own_name_number p rs t)
  own_name_number-mapped p rs (Node Kind.ClassExpression n span semantic_id (more (child (Node kind b bspan b_semantic_id bs)) ps)) =
      let is_own : Bool = declares_class n (string_of (at 0 bs)) (preorder p) || are_none (references_to (b ∷ []) rs) in
      rw (string_at-mapped f 0 bs, preorder-mapped f p, declares_class-mapped n (string_of (at 0 bs)) (preorder p), references_to-mapped (b ∷ []) rs, are_none-mapped f (references_to (b ∷ []) rs))
      (cond-mapped (map f) is_own (b ∷ []) [] refl refl)
  own_name_number-mapped p rs t = refl

  pub own_name_numbers-mapped : (p : Tree) (rs : List Reference) (ts : List Tree) → own_name_numbers (mapped f p) (map (mapped_reference f) rs) (map (mapped f) ts) ≡ map f (own_name_numbers p rs ts)
  own_name_numbers-mapped p rs [] = refl
  own_name_numbers-mapped p rs (t ∷ ts) = append-mapped f _ _ (own_name_number-mapped p rs t) (own_name_numbers-mapped p rs ts)

  -- ---- own names that are gone

  identifier_at-mapped : (n : ℕ) (t : Tree) → identifier_at (f n) (mapped f t) ≡ map f (identifier_at n t)
  identifier_at-mapped n (Node Kind.ClassDeclaration m span semantic_id (more (child (Node kind b bspan b_semantic_id bs)) ps)) = rw (r.apart n m) (cond-mapped (map f) (nat_eq n m) (b ∷ []) [] refl refl)
  identifier_at-mapped n t = refl

  identifiers_at-mapped : (n : ℕ) (ts : List Tree) → identifiers_at (f n) (map (mapped f) ts) ≡ map f (identifiers_at n ts)
  identifiers_at-mapped n [] = refl
  identifiers_at-mapped n (t ∷ ts) = append-mapped f _ _ (identifier_at-mapped n t) (identifiers_at-mapped n ts)

  any_stands-mapped : (ns : List ℕ) (ts : List Tree) → any_stands (map f ns) (map (mapped f) ts) ≡ any_stands ns ts
  any_stands-mapped ns [] = refl
  any_stands-mapped ns (t ∷ ts) = rw (number_of-mapped f t, has_number-mapped r (number_of t) ns, any_stands-mapped ns ts) refl

  loses_name-mapped : (ps : List Tree) (rs : List Reference) (t : Tree) → loses_name (map (mapped f) ps) (map (mapped_reference f) rs) (mapped f t) ≡ loses_name ps rs t
  loses_name-mapped ps rs (Node Kind.ClassExpression n span semantic_id (more absent (more heritage (more body rest)))) =
      rw (identifiers_at-mapped n ps, references_to-mapped (identifiers_at n ps) rs, preorder_of_part-mapped f body, any_stands-mapped (references_to (identifiers_at n ps) rs) (preorder_of_part body)) refl
  loses_name-mapped ps rs t = refl

  none_loses_name-mapped : (ps : List Tree) (rs : List Reference) (ts : List Tree) → none_loses_name (map (mapped f) ps) (map (mapped_reference f) rs) (map (mapped f) ts) ≡ none_loses_name ps rs ts
  none_loses_name-mapped ps rs [] = refl
  none_loses_name-mapped ps rs (t ∷ ts) = ap₂ (λ a b. not a && b) (loses_name-mapped ps rs t) (none_loses_name-mapped ps rs ts)

  -- ---- declarators of declared classes

  class_identifier-mapped : (t : Tree) → class_identifier (mapped f t) ≡ map f (class_identifier t)
  class_identifier-mapped (Node Kind.ClassDeclaration m span semantic_id (more (child (Node kind b bspan b_semantic_id bs)) ps)) = refl
  class_identifier-mapped t = refl

  class_identifiers-mapped : (ts : List Tree) → class_identifiers (map (mapped f) ts) ≡ map f (class_identifiers ts)
  class_identifiers-mapped [] = refl
  class_identifiers-mapped (t ∷ ts) = append-mapped f _ _ (class_identifier-mapped t) (class_identifiers-mapped ts)

  declares_by-mapped : (m b : ℕ) (t : Tree) → declares_by (f m) (f b) (mapped f t) ≡ declares_by m b t
  declares_by-mapped m b (Node Kind.VariableDeclarator n span semantic_id (more (child (Node kind k kspan k_semantic_id ks)) rest)) = rw (r.apart m n, r.apart b k) refl
  declares_by-mapped m b t = refl

  any_declares-mapped : (m b : ℕ) (ts : List Tree) → any_declares (f m) (f b) (map (mapped f) ts) ≡ any_declares m b ts
  any_declares-mapped m b [] = refl
  any_declares-mapped m b (t ∷ ts) = ap₂ (λ x y. x || y) (declares_by-mapped m b t) (any_declares-mapped m b ts)

  -- ---- what a declarator is initialized with

  reads_itself-mapped : (ledger : List LedgerEntry) (fs : List MovedFunction) (ps qs : List Tree) (rs : List Reference) (t : Tree) → reads_itself (mapped_ledger f ledger) (map (mapped_function f) fs) (map (mapped f) ps) (map (mapped f) qs) (map (mapped_reference f) rs) (mapped f t) ≡ reads_itself ledger fs ps qs rs t
  reads_itself-mapped ledger fs ps qs rs (Node Kind.VariableDeclarator m span semantic_id (more (child (Node kind b bspan b_semantic_id bs)) (more e end))) =
      let around : List MovedFunction = outside_class (m ∷ []) fs in
      let read : List ℕ = references_to (b ∷ []) rs in
      rw (any_declares-mapped m b ps, class_identifiers-mapped ps, has_number-mapped r b (class_identifiers ps), numbers_of_part-mapped f e, references_to-mapped (b ∷ []) rs, outside_class-mapped r (m ∷ []) fs, reaching-mapped r ledger around rs qs read, any_among-mapped r (numbers_of (preorder_of_part e)) (reaching ledger around rs qs read)) refl
  reads_itself-mapped ledger fs ps qs rs t = refl

  none_reads_itself-mapped : (ledger : List LedgerEntry) (fs : List MovedFunction) (ps qs : List Tree) (rs : List Reference) (ts : List Tree) → none_reads_itself (mapped_ledger f ledger) (map (mapped_function f) fs) (map (mapped f) ps) (map (mapped f) qs) (map (mapped_reference f) rs) (map (mapped f) ts) ≡ none_reads_itself ledger fs ps qs rs ts
  none_reads_itself-mapped ledger fs ps qs rs [] = refl
  none_reads_itself-mapped ledger fs ps qs rs (t ∷ ts) = ap₂ (λ a b. not a && b) (reads_itself-mapped ledger fs ps qs rs t) (none_reads_itself-mapped ledger fs ps qs rs ts)

  pub own_names_stay-mapped : (ledger : List LedgerEntry) (p q : Tree) → own_names_stay (mapped_ledger f ledger) (mapped f p) (mapped f q) ≡ own_names_stay ledger p q
  own_names_stay-mapped ledger p q =
      rw (preorder-mapped f p, resolve-mapped f q, preorder-mapped f q, moved_functions-mapped f ledger (preorder q))
      (ap₂ (λ a b. a && b) (none_loses_name-mapped (preorder p) (resolve q) (preorder q)) (none_reads_itself-mapped ledger (moved_functions ledger (preorder q)) (preorder p) (preorder q) (resolve q) (preorder q)))
