-- The value of a node is the object of its members in the order of their bytes.
use Rattle.std.proofs.Common.{◌≡◌, refl, sym, ap, ap₂, ◌∙◌, subst, ℕ, suc, ◌+◌, List, [], ◌∷◌, ◌++◌, Bool, true, false, ◌&&◌, true≢false, Option, Some, None, codes, map, arith}
use Rattle.json.specs.Token.{Token}
use Rattle.serde_json.specs.Data.{Data, array, object, no_members}
use Rattle.es_base.specs.Shape.{shape_number}
use Rattle.es_base.specs.Tree.{Tree, Parts, Node}
use Rattle.es_base.specs.Table.{Field, members_of}
use Rattle.es_base.specs.declared.diagnostic.Diagnostic.{Diagnostic}
use Rattle.es_base.specs.declared.kind.Kind.{Kind}
use Rattle.es_base.specs.declared.ledger.LedgerEntry.{LedgerEntry}
use Rattle.es_base.specs.declared.literal.LiteralValue.{LiteralValue}
use Rattle.es_base.specs.declared.literal.LiteralValue.TheVariants as value
use Rattle.es_base.specs.declared.shape.Shape.{Shape}
use Rattle.es_base.specs.declared.table.Sort.{Sort}
use Rattle.es_node.specs.View.{part_of, parts_of, has_shape, have_shapes, kind_of, parts_in}
use Rattle.es_node.specs.declared.node.Part.{Part}
use Rattle.es_node.specs.declared.node.Part.TheVariants as part
use Rattle.es_writing.specs.Lowered.{entry_value, items_of, warning_value, write_lowered}
use Rattle.es_writing.specs.Slots.{all_slots, data_at, data_of, data_tokens, field_at, list_slots, lowered_data, more_slots, name_in, program_slots, row_from, row_slots, slot_data, slots_of, slots_tokens}
use Rattle.es_writing.specs.Writing.{Entry, entry, kind_entries, more_entries, number_of, put_all, span_entries, type_of, write, write_fields, write_part}
use Rattle.es_writing.specs.declared.slots.Slot.{Slot}
use Rattle.es_writing.proofs.InOrder.{are_new, entries_of, entries_of-append, entry_if, in_order-members, left_true, right_true, members_in, members_in-tokens}
use Rattle.es_writing.proofs.Preorder.{put_all_append}

-- ---- the members of a row

abbrev is_plain_sort : Sort → Bool
is_plain_sort Sort.Literal = false
is_plain_sort sort = true

abbrev are_plain : List Field → Bool
are_plain [] = true
are_plain (f ∷ fs) = is_plain_sort f.sort && are_plain fs

-- a literal stands at a member of its sort alone
not_plain : {A : Type 0} (s : Sort) (v : LiteralValue) → has_shape s (part.Literal v) ≡ true → is_plain_sort s ≡ true → A
not_plain Sort.Literal v shape plain = absurd (true≢false (sym plain))
not_plain _ v shape plain = absurd (true≢false (sym shape))

part_written : (name : List ℕ) (s : Sort) (p : Part) → has_shape s p ≡ true → is_plain_sort s ≡ true → entry_if name (data_of (part_of p)) ≡ write_part name (part_of p)
part_written name s (part.Literal v) shape plain = not_plain s v shape plain
part_written name s _ shape plain = refl

row_written : (kind : Kind) (stands : Slot → Option Data) (n : ℕ) (fs : List Field) (ps : List Part)
    → ((i j : ℕ) → j ≡ i + n → name_in kind (Slot.At j) ≡ field_at i fs)
    → ((i j : ℕ) → j ≡ i + n → stands (Slot.At j) ≡ data_at i (parts_of ps))
    → have_shapes fs ps ≡ true → are_plain fs ≡ true → entries_of kind stands (row_from n fs) ≡ write_fields fs (parts_of ps)
row_written kind stands n [] [] names there shapes plain = refl
row_written kind stands n [] (p ∷ ps) names there shapes plain = absurd (true≢false (sym shapes))
row_written kind stands n (f ∷ fs) [] names there shapes plain = absurd (true≢false (sym shapes))
row_written kind stands n (f ∷ fs) (p ∷ ps) names there shapes plain =
    let rest = entries_of kind stands (row_from (suc n) fs) in
    ap₂ (λ k o. entry_if k o ++ rest) (names 0 n (omega arith)) (there 0 n (omega arith))
    ∙ ap (λ es. es ++ rest) (part_written f.name f.sort p (left_true (has_shape f.sort p) (have_shapes fs ps) shapes) (left_true (is_plain_sort f.sort) (are_plain fs) plain))
    ∙ ap (λ es. write_part f.name (part_of p) ++ es)
    (row_written kind stands (suc n) fs ps (λ i j is. names (suc i) j (omega (arith, is))) (λ i j is. there (suc i) j (omega (arith, is)))
    (right_true (has_shape f.sort p) (have_shapes fs ps) shapes) (right_true (is_plain_sort f.sort) (are_plain fs) plain))

module _ (id : ℕ) (span : Option (ℕ × ℕ)) (semantic_id : Option ℕ) where
  abbrev found : Kind → List Part → Slot → Option Data
  found kind ps = slot_data (Node kind id span semantic_id (parts_of ps))

  abbrev IsRow : Kind → List Part → Type 0
  IsRow kind ps = entries_of kind (found kind ps) (row_slots kind) ≡ kind_entries kind (parts_of ps) (write_fields (members_of kind) (parts_of ps))

  plain_row : (kind : Kind) (ps : List Part) → row_slots kind ≡ row_from 0 (members_of kind) → are_plain (members_of kind) ≡ true
      → ((es : List Entry) → es ≡ kind_entries kind (parts_of ps) es) → have_shapes (members_of kind) ps ≡ true → IsRow kind ps
  plain_row kind ps slots plain own shapes =
      ap (entries_of kind (found kind ps)) slots
      ∙ row_written kind (found kind ps) 0 (members_of kind) ps (λ i j is. ap (λ n. field_at n (members_of kind)) (omega (arith, is))) (λ i j is. ap (λ n. data_at n (parts_of ps)) (omega (arith, is))) shapes plain
      ∙ own (write_fields (members_of kind) (parts_of ps))

  literal_row : (ps : List Part) → have_shapes (members_of Kind.Literal) ps ≡ true → IsRow Kind.Literal ps
  literal_row [] shapes = absurd (true≢false (sym shapes))
  literal_row (part.Literal (value.String s None) ∷ []) shapes = refl
  literal_row (part.Literal (value.String s (Some raw)) ∷ []) shapes = refl
  literal_row (part.Literal (value.Number raw) ∷ []) shapes = refl
  literal_row (part.Literal (value.BigInt s) ∷ []) shapes = refl
  literal_row (part.Literal (value.RegExp pattern flags) ∷ []) shapes = refl
  literal_row (part.Literal (value.Boolean b) ∷ []) shapes = refl
  literal_row (part.Literal value.Null ∷ []) shapes = refl
  literal_row (_ ∷ []) shapes = absurd (true≢false (sym shapes))
  literal_row (p ∷ q ∷ ps) shapes = absurd (true≢false (sym (right_true (has_shape Sort.Literal p) false shapes)))

  template_row : (ps : List Part) → have_shapes (members_of Kind.TemplateElement) ps ≡ true → IsRow Kind.TemplateElement ps
  template_row [] shapes = absurd (true≢false (sym shapes))
  template_row (p ∷ []) shapes = absurd (true≢false (sym (right_true (has_shape Sort.Raw p) false shapes)))
  template_row (p ∷ q ∷ []) shapes =
      absurd (true≢false (sym (right_true (has_shape Sort.Cooked q) false (right_true (has_shape Sort.Raw p) (has_shape Sort.Cooked q && false) shapes))))
  template_row (p ∷ q ∷ part.Boolean b ∷ []) shapes = refl
  template_row (p ∷ q ∷ _ ∷ []) shapes =
      absurd (true≢false (sym (right_true (has_shape Sort.Cooked q) false (right_true (has_shape Sort.Raw p) (has_shape Sort.Cooked q && false) shapes))))
  template_row (p ∷ q ∷ r ∷ t ∷ ps) shapes =
      absurd (true≢false (sym (right_true (has_shape Sort.Boolean r) false
      (right_true (has_shape Sort.Cooked q) (has_shape Sort.Boolean r && false) (right_true (has_shape Sort.Raw p) (has_shape Sort.Cooked q && (has_shape Sort.Boolean r && false)) shapes)))))

  row : (kind : Kind) (ps : List Part) → have_shapes (members_of kind) ps ≡ true → IsRow kind ps
  row Kind.Literal ps shapes = literal_row ps shapes
  row Kind.TemplateElement ps shapes = template_row ps shapes
  row Kind.Foreign ps shapes = refl
  row kind ps shapes = plain_row kind ps refl refl (λ es. refl) shapes

  -- ---- all members

  more_written : (kind : Kind) (ps : List Part) → entries_of kind (found kind ps) (more_slots kind) ≡ more_entries kind (parts_of ps)
  more_written Kind.UnaryExpression ps = refl
  more_written Kind.ArrowFunctionExpression ps = refl
  more_written _ ps = refl

span_written : (kind : Kind) (id : ℕ) (span : Option (ℕ × ℕ)) (semantic_id : Option ℕ) (ps : Parts) → entries_of kind (slot_data (Node kind id span semantic_id ps)) (Slot.Start ∷ Slot.End ∷ []) ≡ span_entries span
span_written kind id None semantic_id ps = refl
span_written kind id (Some s) semantic_id ps = refl

abbrev entries_in : Kind → ℕ → Option (ℕ × ℕ) → Parts → List Entry
entries_in kind id span ps =
    entry (codes "type") (type_of kind ps) (entry (codes "node") (number_of id) (kind_entries kind ps (write_fields (members_of kind) ps) ++ (more_entries kind ps ++ span_entries span)))

all_written : (kind : Kind) (id : ℕ) (span : Option (ℕ × ℕ)) (semantic_id : Option ℕ) (ps : List Part) → have_shapes (members_of kind) ps ≡ true
    → entries_of kind (slot_data (Node kind id span semantic_id (parts_of ps))) (all_slots kind) ≡ entries_in kind id span (parts_of ps)
all_written kind id span semantic_id ps shapes =
    let stands = slot_data (Node kind id span semantic_id (parts_of ps)) in
    let spans = Slot.Start ∷ Slot.End ∷ [] in
    ap (λ es. entry (codes "type") (type_of kind (parts_of ps)) (entry (codes "node") (number_of id) es))
    (entries_of-append kind stands (row_slots kind) (more_slots kind ++ spans)
    ∙ ap₂ (λ es fs. es ++ fs) (row id span semantic_id kind ps shapes)
    (entries_of-append kind stands (more_slots kind) spans ∙ ap₂ (λ es fs. es ++ fs) (more_written id span semantic_id kind ps) (span_written kind id span semantic_id (parts_of ps))))

-- no name comes twice
all_new : (kind : Kind) (stands : Slot → Option Data) → are_new kind stands (all_slots kind) [] ≡ true
all_new Kind.Program stands = refl
all_new _ stands = refl

node_members : (kind : Kind) (id : ℕ) (span : Option (ℕ × ℕ)) (semantic_id : Option ℕ) (ps : List Part) → have_shapes (members_of kind) ps ≡ true
    → object (members_in kind (slot_data (Node kind id span semantic_id (parts_of ps))) (slots_of kind)) ≡ write (Node kind id span semantic_id (parts_of ps))
node_members kind id span semantic_id ps shapes =
    let stands = slot_data (Node kind id span semantic_id (parts_of ps)) in
    ap object (in_order-members kind stands (all_slots kind) (all_new kind stands) ∙ ap (put_all no_members) (all_written kind id span semantic_id ps shapes))

-- the tokens of a node are those of its members in order
pub node_tokens : (t : Tree) (ps : List Part) → parts_in t ≡ parts_of ps → have_shapes (members_of (kind_of t)) ps ≡ true
    → Token.begin_object ∷ (slots_tokens (kind_of t) (slot_data t) (slots_of (kind_of t)) ++ Token.end_object ∷ []) ≡ data_tokens (write t)
node_tokens (Node kind id span semantic_id qs) ps is shapes =
    ap (λ xs. Token.begin_object ∷ (slots_tokens kind (slot_data (Node kind id span semantic_id xs)) (slots_of kind) ++ Token.end_object ∷ [])) is
    ∙ ap (λ ts. Token.begin_object ∷ ts) (members_in-tokens kind (slot_data (Node kind id span semantic_id (parts_of ps))) (slots_of kind))
    ∙ ap data_tokens (node_members kind id span semantic_id ps shapes)
    ∙ ap (λ xs. data_tokens (write (Node kind id span semantic_id xs))) (sym is)

-- ---- a lowered program

module _ (names : List LedgerEntry) (warnings : List Diagnostic) (shapes : List Shape) where
  abbrev lists : List Entry
  lists =
      entry (codes "generated") (array (items_of (map entry_value names)))
      (entry (codes "warnings") (array (items_of (map warning_value warnings)))
      (entry (codes "outside") (array (items_of (map (λ s. number_of (shape_number s)) shapes))) []))

  program_members : (id : ℕ) (span : Option (ℕ × ℕ)) (semantic_id : Option ℕ) (ps : List Part) → have_shapes (members_of Kind.Program) ps ≡ true
      → object (members_in Kind.Program (lowered_data (Node Kind.Program id span semantic_id (parts_of ps)) names warnings shapes) program_slots)
      ≡ write_lowered (Node Kind.Program id span semantic_id (parts_of ps)) names warnings shapes
  program_members id span semantic_id ps shaped =
      let t = Node Kind.Program id span semantic_id (parts_of ps) in
      let stands = lowered_data t names warnings shapes in
      let all = all_slots Kind.Program in
      let own : entries_of Kind.Program stands all ≡ entries_of Kind.Program (slot_data t) all = refl in
      ap object (
      in_order-members Kind.Program stands (all ++ list_slots) refl
      ∙ ap (put_all no_members) (entries_of-append Kind.Program stands all list_slots ∙ ap (λ es. es ++ lists) (own ∙ all_written Kind.Program id span semantic_id ps shaped))
      ∙ put_all_append no_members (entries_in Kind.Program id span (parts_of ps)) lists
      )

  pub program_tokens : (t : Tree) (ps : List Part) → kind_of t ≡ Kind.Program → parts_in t ≡ parts_of ps → have_shapes (members_of (kind_of t)) ps ≡ true
      → Token.begin_object ∷ (slots_tokens Kind.Program (lowered_data t names warnings shapes) program_slots ++ Token.end_object ∷ []) ≡ data_tokens (write_lowered t names warnings shapes)
  program_tokens (Node kind id span semantic_id qs) ps program is shaped =
      let tokens_of : Kind → Parts → List Token = λ k xs. Token.begin_object ∷ (slots_tokens Kind.Program (lowered_data (Node k id span semantic_id xs) names warnings shapes) program_slots ++ Token.end_object ∷ []) in
      ap₂ tokens_of program is
      ∙ ap (λ ts. Token.begin_object ∷ ts) (members_in-tokens Kind.Program (lowered_data (Node Kind.Program id span semantic_id (parts_of ps)) names warnings shapes) program_slots)
      ∙ ap data_tokens (program_members id span semantic_id ps (subst (λ k. have_shapes (members_of k) ps ≡ true) program shaped))
      ∙ sym (ap₂ (λ k xs. data_tokens (write_lowered (Node k id span semantic_id xs) names warnings shapes)) program is)
