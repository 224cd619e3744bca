-- Class expressions whose heritage or keys read their name follow a change of numbers.
use Rattle.std.specs.Prelude.{◌≡◌, ℕ, List, [], ◌∷◌, map, nat_eq, Option, Some, None}
use Rattle.std.proofs.Common.{refl, ap, ◌∙◌}
use Rattle.es_base.specs.Preorder.{preorder, preorder_of_part}
use Rattle.es_base.specs.Tree.{Tree, Part, Parts, Node, end, more, child, absent, string}
use Rattle.es_base.specs.declared.kind.Kind.{Kind}
use Rattle.es_steps.specs.ClassHeads.{key_nodes, body_keys, head_nodes, reads_spelling, is_named_pair, names_itself, named_by, unnamed_class, named_among, named_classes, named_as, declared_or_named}
use Rattle.es_steps.specs.Parts.{at, items}
use Rattle.es_steps.specs.PrivateNames.{is_element}
use Rattle.es_steps.specs.Values.{String}
use Rattle.es_steps.proofs.Mapped.{Renames, mapped, mapped_part, mapped_parts, mapped_option, mapped_pair}
use Rattle.es_steps.proofs.PartsMapped.{cond-mapped, append-mapped, at-mapped, items_at-mapped, string_at-mapped, preorder-mapped, preorder_of_part-mapped}

module _ (f : ℕ → ℕ) where
  key_nodes-mapped : (es : Parts) → key_nodes (mapped_parts f es) ≡ map (mapped f) (key_nodes es)
  key_nodes-mapped end = refl
  key_nodes-mapped (more (child (Node kind m span semantic_id (more key ps))) es) =
      append-mapped (mapped f) _ _ (cond-mapped (map (mapped f)) (is_element kind) (preorder_of_part key) [] (preorder_of_part-mapped f key) refl) (key_nodes-mapped es)
  key_nodes-mapped (more p es) = key_nodes-mapped es

  body_keys-mapped : (p : Part) → body_keys (mapped_part f p) ≡ map (mapped f) (body_keys p)
  body_keys-mapped (child (Node Kind.ClassBody m span semantic_id ps)) = ap key_nodes (items_at-mapped f 0 ps) ∙ key_nodes-mapped (items (at 0 ps))
  body_keys-mapped p = refl

  head_nodes-mapped : (ps : Parts) → head_nodes (mapped_parts f ps) ≡ map (mapped f) (head_nodes ps)
  head_nodes-mapped ps =
      append-mapped (mapped f) (preorder_of_part (at 1 ps)) (body_keys (at 2 ps)) (ap preorder_of_part (at-mapped f 1 ps) ∙ preorder_of_part-mapped f (at 1 ps))
      (ap body_keys (at-mapped f 2 ps) ∙ body_keys-mapped (at 2 ps))

  reads_spelling-mapped : (s : String) (ts : List Tree) → reads_spelling s (map (mapped f) ts) ≡ reads_spelling s ts
  reads_spelling-mapped s [] = refl
  reads_spelling-mapped s (Node Kind.IdentifierReference m span semantic_id ps ∷ ts) = rw (string_at-mapped f 0 ps, reads_spelling-mapped s ts) refl
  reads_spelling-mapped s (t ∷ ts) = reads_spelling-mapped s ts

  named_by-mapped : (n : ℕ) (p : Part) (heads : List Tree) → named_by (f n) (mapped_part f p) (map (mapped f) heads) ≡ map (mapped_pair f) (named_by n p heads)
  named_by-mapped n (child (Node Kind.BindingIdentifier b span semantic_id (more (string s) end))) heads =
      rw (reads_spelling-mapped s heads) (cond-mapped (map (mapped_pair f)) (reads_spelling s heads) ((n, b) ∷ []) [] refl refl)
  named_by-mapped n p heads = refl

  is_named_pair-mapped : (ps : List (ℕ × ℕ)) → is_named_pair (map (mapped_pair f) ps) ≡ is_named_pair ps
  is_named_pair-mapped [] = refl
  is_named_pair-mapped (p ∷ ps) = refl

  pub names_itself-mapped : (n : ℕ) (ps : Parts) → names_itself (f n) (mapped_parts f ps) ≡ names_itself n ps
  names_itself-mapped n ps =
      ap is_named_pair (rw (at-mapped f 0 ps, head_nodes-mapped ps) (named_by-mapped n (at 0 ps) (head_nodes ps)))
      ∙ is_named_pair-mapped (named_by n (at 0 ps) (head_nodes ps))

  unnamed_class-mapped : (n : ℕ) (p : Part) → unnamed_class (f n) (mapped_part f p) ≡ map (mapped_pair f) (unnamed_class n p)
  unnamed_class-mapped n absent = refl
  unnamed_class-mapped n p = refl

  named_among-mapped : (ts : List Tree) → named_among (map (mapped f) ts) ≡ map (mapped_pair f) (named_among ts)
  named_among-mapped [] = refl
  named_among-mapped (Node Kind.ClassDeclaration n span semantic_id ps ∷ ts) =
      append-mapped (mapped_pair f) _ _ (ap (unnamed_class (f n)) (at-mapped f 0 ps) ∙ unnamed_class-mapped n (at 0 ps)) (named_among-mapped ts)
  named_among-mapped (Node Kind.ClassExpression n span semantic_id ps ∷ ts) =
      append-mapped (mapped_pair f) _ _ (rw (at-mapped f 0 ps, head_nodes-mapped ps) (named_by-mapped n (at 0 ps) (head_nodes ps))) (named_among-mapped ts)
  named_among-mapped (t ∷ ts) = named_among-mapped ts

  pub named_classes-mapped : (t : Tree) → named_classes (mapped f t) ≡ map (mapped_pair f) (named_classes t)
  named_classes-mapped t = ap named_among (preorder-mapped f t) ∙ named_among-mapped (preorder t)

pub named_as-mapped : {first : ℕ} {f : ℕ → ℕ} → Renames first f → (n : ℕ) (ps : List (ℕ × ℕ)) → named_as (f n) (map (mapped_pair f) ps) ≡ mapped_option f (named_as n ps)
named_as-mapped r n [] = refl
named_as-mapped {f = f} r n (p ∷ ps) = rw (r.apart n p.0) (cond-mapped (mapped_option f) (nat_eq n p.0) (Some p.1) (named_as n ps) refl (named_as-mapped r n ps))

pub declared_or_named-mapped : {first : ℕ} {f : ℕ → ℕ} → Renames first f → (n : ℕ) (ps : List (ℕ × ℕ)) (d : Option ℕ) → declared_or_named (f n) (map (mapped_pair f) ps) (mapped_option f d) ≡ mapped_option f (declared_or_named n ps d)
declared_or_named-mapped r n ps None = named_as-mapped r n ps
declared_or_named-mapped r n ps (Some b) = refl
