-- The nodes of classes, one by one.
use Rattle.std.proofs.Common.{◌≡◌, refl, sym, ap, ◌∙◌, ℕ, List, [], ◌∷◌, ◌++◌, append-nil, append_assoc, Bool, true, false, cond, not, ◌&&◌, Option, Some, None}
use Rattle.es_base.specs.Preorder.{preorder_of, preorder_of_part}
use Rattle.es_base.specs.Tree.{Tree, Part, Parts, Node, end, more, child}
use Rattle.es_base.specs.declared.kind.Kind.{Kind}
use Rattle.es_lowered.specs.ClassNames.{numbers_of}
use Rattle.es_lowered.specs.DeadZones.{class_elements, class_parts, key_references, moving_blocks, moving_keys, moving_numbers, passed_numbers, reference_number}
use Rattle.es_node.specs.View.{kind_of, number_in, parts_in}
use Rattle.es_shapes.specs.Classes.{class_of}
use Rattle.es_steps.specs.LoweredClasses.{Element, any_element, element_of, elements_in, elements_of, is_hoisted_key, is_lowered_element}
use Rattle.es_steps.specs.Parts.{at}
use Rattle.es_steps.specs.PrivateNames.{is_class, is_element}
use Rattle.es_steps.specs.References.{Reference}
use Rattle.es_steps.specs.Shapes.{ClassAt, class_at}
use Rattle.es_steps.specs.declared.options.Options.{Options}
use Rattle.es_touches.specs.ClassNodes.{is_still, keys_of, moved_block, parts_if}
use Rattle.es_steps.specs.ClassHeads.{names_itself}

pub classes_more : (o : Options) (changed : List ℕ) (references : List Reference) (t : Tree) (ts : List Tree) → class_parts o changed references (t ∷ ts) ≡ parts_if o changed references (class_of t) ++ class_parts o changed references ts
classes_more o changed references (Node kind n span semantic_id ps) ts = here (is_class kind)
  where
    here : (b : Bool) → cond b (record { number = n; passed = passed_numbers o (class_at kind n ps); keys = key_references (class_elements (at 2 ps)); moving = cond (b && any_element (is_lowered_element o) (elements_of ps)) (moving_numbers o changed references (class_at kind n ps) (at 2 ps)) [] } ∷ []) [] ++ class_parts o changed references ts ≡ parts_if o changed references (cond b (Some (class_at kind n ps)) None) ++ class_parts o changed references ts
    here true = refl
    here false = refl

-- ---- whether the making of a class is no event

abbrev class_or : ClassAt → Option ClassAt → ClassAt
class_or k None = k
class_or k (Some l) = l

pub still_expression : (t : Tree) (k : ClassAt) → Some k ≡ class_of t → kind_of t ≡ Kind.ClassExpression → is_still k ≡ not (names_itself (number_in t) (parts_in t))
still_expression (Node Kind.ClassExpression n span semantic_id ps) k is expression = ap (λ o. is_still (class_or k o)) is
still_expression (Node kind n span semantic_id ps) k is expression = absurd (cc)

pub still_no_expression : (t : Tree) (k : ClassAt) → Some k ≡ class_of t → (kind_of t ≡ Kind.ClassExpression → ⊥) → is_still k ≡ false
still_no_expression (Node Kind.ClassExpression n span semantic_id ps) k is other = absurd (other refl)
still_no_expression (Node Kind.ClassDeclaration n span semantic_id ps) k is other = ap (λ o. is_still (class_or k o)) is
still_no_expression (Node kind n span semantic_id ps) k is other = absurd (cc)

pub no_elements : (t : Tree) → (kind_of t ≡ Kind.ClassBody → ⊥) → class_elements (child t) ≡ end
no_elements (Node Kind.ClassBody m span semantic_id ps) other = absurd (other refl)
no_elements (Node kind m span semantic_id ps) other = refl

pub keys_more : (t : Tree) (es : Parts) → key_references (more (child t) es) ≡ keys_of t ++ key_references es
keys_more (Node kind m span semantic_id end) es = refl
keys_more (Node kind m span semantic_id (more k ps)) es = refl

pub key_first : (t : Tree) (k : Part) (ps : Parts) → parts_in t ≡ more k ps → keys_of t ≡ cond (is_element (kind_of t)) (reference_number k) []
key_first (Node kind m span semantic_id qs) k ps is = ap (λ (rs : Parts). keys_of (Node kind m span semantic_id rs)) is

pub key_none : (t : Tree) → parts_in t ≡ end → keys_of t ≡ []
key_none (Node kind m span semantic_id qs) is = ap (λ (rs : Parts). keys_of (Node kind m span semantic_id rs)) is

pub reference_node : (t : Tree) → kind_of t ≡ Kind.IdentifierReference → reference_number (child t) ≡ number_in t ∷ []
reference_node (Node kind m span semantic_id ps) is = ap (λ k. reference_number (child (Node k m span semantic_id ps))) is

pub no_reference : (t : Tree) → (kind_of t ≡ Kind.IdentifierReference → ⊥) → reference_number (child t) ≡ []
no_reference (Node Kind.IdentifierReference m span semantic_id ps) other = absurd (other refl)
no_reference (Node kind m span semantic_id ps) other = refl

-- ---- what moves

module _ (changed : List ℕ) (references : List Reference) where
  moving_append : (es fs : List Element) → moving_keys changed references (es ++ fs) ≡ moving_keys changed references es ++ moving_keys changed references fs
  moving_append [] fs = refl
  moving_append (e ∷ es) fs =
      let here = cond (is_hoisted_key changed references e) (numbers_of (preorder_of_part e.key)) [] in
      ap (λ (ns : List ℕ). here ++ ns) (moving_append es fs) ∙ sym (append_assoc here (moving_keys changed references es) (moving_keys changed references fs))

  pub moving_more : (t : Tree) (es : Parts) → moving_keys changed references (elements_in (more (child t) es)) ≡ moving_keys changed references (element_of (child t)) ++ moving_keys changed references (elements_in es)
  moving_more t es = moving_append (element_of (child t)) (elements_in es)

  pub moving_one : (e : Element) → moving_keys changed references (e ∷ []) ≡ cond (is_hoisted_key changed references e) (numbers_of (preorder_of_part e.key)) []
  moving_one e = append-nil (cond (is_hoisted_key changed references e) (numbers_of (preorder_of_part e.key)) [])

pub blocks_more : (t : Tree) (es : Parts) → moving_blocks (more (child t) es) ≡ moved_block t ++ moving_blocks es
blocks_more (Node Kind.StaticBlock m span semantic_id ps) es = refl
blocks_more (Node kind m span semantic_id ps) es = refl

pub block_node : (t : Tree) → kind_of t ≡ Kind.StaticBlock → moved_block t ≡ numbers_of (preorder_of (parts_in t))
block_node (Node kind m span semantic_id ps) is = ap (λ k. moved_block (Node k m span semantic_id ps)) is

pub no_block : (t : Tree) → (kind_of t ≡ Kind.StaticBlock → ⊥) → moved_block t ≡ []
no_block (Node Kind.StaticBlock m span semantic_id ps) other = absurd (other refl)
no_block (Node kind m span semantic_id ps) other = refl
