-- Which declaring identifiers share one binding follows a change of numbers.
use Rattle.std.specs.Prelude.{◌≡◌, ℕ, suc, List, [], ◌∷◌, map, Bool, true, false, Option, Some, None}
use Rattle.std.proofs.Common.{refl, ap, ap₂, ◌∙◌}
use Rattle.es_base.specs.declared.kind.Kind.{Kind}
use Rattle.es_base.specs.Tree.{Tree, Part, Parts, Node, end, more, child, list}
use Rattle.es_steps.specs.References.{declared}
use Rattle.es_steps.specs.Parts.{at, block_items}
use Rattle.es_steps.specs.Scopes.{is_declaring, no_class, bound_part, var_items, lexical_items, Declaration, scope_of, scope_names, is_body_part}
use Rattle.es_steps.specs.Shared.{with_earlier, shared_behind, caught_names, hoisted_past, shared_with, shared, shared_in, shared_at, shared_of}
use Rattle.es_steps.proofs.Mapped.{mapped, mapped_part, mapped_parts, mapped_option, mapped_declaration, mapped_declarations, mapped_pair}
use Rattle.es_steps.proofs.PartsMapped.{cond-mapped, append-mapped, at-mapped, block_items_at-mapped}
use Rattle.es_steps.proofs.ReferencesMapped.{declared-mapped}
use Rattle.es_steps.proofs.ScopesMapped.{is_declaring-mapped, bound_at-mapped, bound_part-mapped, var_items-mapped, lexical_at-mapped, lexical_items-mapped, scope_names-mapped}

module _ (f : ℕ → ℕ) where
  with_earlier-mapped : (n : ℕ) (d : Option Declaration) → with_earlier (f n) (mapped_option (mapped_declaration f) d) ≡ map (mapped_pair f) (with_earlier n d)
  with_earlier-mapped n None = refl
  with_earlier-mapped n (Some d) = refl

  shared_behind-mapped : (front ds : List Declaration) → shared_behind (mapped_declarations f front) (mapped_declarations f ds) ≡ map (mapped_pair f) (shared_behind front ds)
  shared_behind-mapped front [] = refl
  shared_behind-mapped front (d ∷ ds) =
      append-mapped (mapped_pair f) _ _ (ap (with_earlier (f d.number)) (declared-mapped f d.spelling front) ∙ with_earlier-mapped d.number (declared d.spelling front)) (shared_behind-mapped (d ∷ front) ds)

  caught_names-mapped : (kind : Kind) (ps : Parts) → caught_names kind (mapped_parts f ps) ≡ mapped_declarations f (caught_names kind ps)
  caught_names-mapped Kind.CatchClause ps =
      append-mapped (mapped_declaration f) _ _ (bound_at-mapped f no_class 0 ps) (ap lexical_items (block_items_at-mapped f 1 ps) ∙ lexical_items-mapped f (block_items (at 1 ps)))
  caught_names-mapped kind ps = refl

  shared_with-mapped : (front ds : List Declaration) → shared_with (mapped_declarations f front) (mapped_declarations f ds) ≡ map (mapped_pair f) (shared_with front ds)
  shared_with-mapped front [] = refl
  shared_with-mapped front (d ∷ ds) =
      append-mapped (mapped_pair f) _ _ (ap (with_earlier (f d.number)) (declared-mapped f d.spelling front) ∙ with_earlier-mapped d.number (declared d.spelling front)) (shared_with-mapped front ds)

  past-mapped : (front there : List Declaration) (ps : Parts) → there ≡ mapped_declarations f front → shared_with there (var_items (mapped_parts f ps)) ≡ map (mapped_pair f) (shared_with front (var_items ps))
  past-mapped front there ps e = ap₂ shared_with e (var_items-mapped f ps) ∙ shared_with-mapped front (var_items ps)

  hoisted_past-mapped : (is_body : Bool) (kind : Kind) (ps : Parts) → hoisted_past is_body kind (mapped_parts f ps) ≡ map (mapped_pair f) (hoisted_past is_body kind ps)
  hoisted_past-mapped false Kind.BlockStatement ps = past-mapped _ _ ps (lexical_items-mapped f ps)
  hoisted_past-mapped true Kind.BlockStatement ps = refl
  hoisted_past-mapped is_body Kind.SwitchStatement ps = past-mapped _ _ ps (lexical_at-mapped f 1 ps)
  hoisted_past-mapped is_body Kind.ForStatement ps = past-mapped _ _ ps (lexical_at-mapped f 0 ps)
  hoisted_past-mapped is_body Kind.ForInStatement ps = past-mapped _ _ ps (lexical_at-mapped f 0 ps)
  hoisted_past-mapped is_body Kind.ForOfStatement ps = past-mapped _ _ ps (lexical_at-mapped f 0 ps)
  hoisted_past-mapped is_body Kind.CatchClause ps =
      rw (at-mapped f 0 ps, is_declaring-mapped f (at 0 ps)) (cond-mapped (map (mapped_pair f)) (is_declaring (at 0 ps)) [] (shared_with (bound_part no_class (at 0 ps)) (var_items ps)) refl (past-mapped _ _ ps (bound_part-mapped f no_class (at 0 ps))))
  hoisted_past-mapped is_body kind ps = refl

  mutual
    pub shared-mapped : (is_body : Bool) (t : Tree) → shared is_body (mapped f t) ≡ map (mapped_pair f) (shared is_body t)
    shared-mapped is_body (Node kind m span semantic_id ps) =
        append-mapped (mapped_pair f) _ _
        (append-mapped (mapped_pair f) _ _
        (append-mapped (mapped_pair f) _ _
        (ap (shared_behind []) (scope_names-mapped f (scope_of kind is_body) m ps) ∙ shared_behind-mapped [] (scope_names (scope_of kind is_body) m ps))
        (ap (shared_behind []) (caught_names-mapped kind ps) ∙ shared_behind-mapped [] (caught_names kind ps)))
        (hoisted_past-mapped is_body kind ps))
        (shared_in-mapped (is_body_part kind) ps)

    shared_in-mapped : (bodies : ℕ → Bool) (ps : Parts) → shared_in bodies (mapped_parts f ps) ≡ map (mapped_pair f) (shared_in bodies ps)
    shared_in-mapped bodies end = refl
    shared_in-mapped bodies (more p ps) = append-mapped (mapped_pair f) _ _ (shared_at-mapped (bodies 0) p) (shared_in-mapped (λ i. bodies (suc i)) ps)

    shared_at-mapped : (is_body : Bool) (p : Part) → shared_at is_body (mapped_part f p) ≡ map (mapped_pair f) (shared_at is_body p)
    shared_at-mapped is_body (child t) = shared-mapped is_body t
    shared_at-mapped is_body (list ps) = shared_of-mapped ps
    shared_at-mapped is_body p = refl

    shared_of-mapped : (ps : Parts) → shared_of (mapped_parts f ps) ≡ map (mapped_pair f) (shared_of ps)
    shared_of-mapped end = refl
    shared_of-mapped (more p ps) = append-mapped (mapped_pair f) _ _ (shared_at-mapped false p) (shared_of-mapped ps)
