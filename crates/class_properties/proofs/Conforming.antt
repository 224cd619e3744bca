-- What a program of the first form is lowered to is a program of the table's grammar, and it is the program itself where no
-- class has a field.
use Rattle.std.specs.Prelude.{◌≡◌, ℕ, ◌+◌, [], Bool, true, false, ◌&&◌}
use Rattle.std.proofs.Common.{refl, sym, ap, ◌∙◌, subst}
use Rattle.std.proofs.lemmas.Bool.{and_parts, true≢false}
use Rattle.std.proofs.lemmas.List.{append-nil}
use Rattle.es_base.specs.Carried.{stripped}
use Rattle.es_base.specs.Conforms.{conforms, part_conforms, items_conform}
use Rattle.es_base.specs.Preorder.{nodes, preorder_of, numbered_from}
use Rattle.es_base.specs.Tree.{Tree, Parts, Node, end, more, list, string, trees}
use Rattle.es_base.specs.declared.kind.Kind.{Kind}
use Rattle.es_base.specs.declared.table.Place.{Place}
use Rattle.es_base.specs.declared.table.Sort.{Sort}
use Rattle.es_base.specs.declared.table.Words.{Words}
use Rattle.es_steps.specs.FirstForm.{is_first_form}
use Rattle.es_steps.specs.LoweredClasses.{holds_lowered, has_lowered_class}
use Rattle.es_lowered.specs.Lowered.{IsUnchanged}
use Rattle.es_steps.specs.declared.options.Options.{Options}
use Rattle.class_properties.proofs.Defining.{defining, is_defining}
use Rattle.class_properties.proofs.Numbered.{definitions_from, lowered_elements, lowered_statements, lowered_from}
use Rattle.class_properties.proofs.Renumbered.{lowered-numbered}
use Rattle.class_properties.proofs.Shaped.{no_value, a_literal, a_reference, a_key, a_field, AreFields, a_body, a_name, a_class, AreClasses, IsProgram, a_program, first_form-shaped}
use Rattle.class_properties.specs.Lowering.{lowered}
use Rattle.class_properties.specs.Options.{defines_fields}

-- ---- fields

-- the value of a field that conforms, behind its key
value-conforms : (a v b : Bool) → (a && (v && b)) ≡ true → v ≡ true
value-conforms true true b h = refl
value-conforms true false b h = h
value-conforms false true b h = refl
value-conforms false false b h = h

definitions-conform : (es : Parts) → AreFields es → (k : ℕ) → items_conform false Place.ClassElement es ≡ true → items_conform false Place.Statement (trees (definitions_from k es)) ≡ true
definitions-conform end h k f = refl
definitions-conform (more p es) (a_field m span semantic_id key v (a_key i ispan i_semantic_id s) no_value, h) k f =
    definitions-conform es h (k + 9) (and_parts _ (items_conform false Place.ClassElement es) f).1
definitions-conform (more p es) (a_field m span semantic_id key v (a_key i ispan i_semantic_id s) (a_literal l lspan l_semantic_id w fine), h) k f =
    let fits = and_parts _ (items_conform false Place.ClassElement es) f in
    let fine : part_conforms false (Sort.Child Place.Expression) v ≡ true = value-conforms _ (part_conforms false (Sort.Child Place.Expression) v) true fits.0 in
    rw (fine, definitions-conform es h (k + 7) fits.1) refl
definitions-conform (more p es) (a_field m span semantic_id key v (a_key i ispan i_semantic_id s) (a_reference r rspan r_semantic_id x), h) k f =
    let fits = and_parts _ (items_conform false Place.ClassElement es) f in
    let fine : part_conforms false (Sort.Child Place.Expression) v ≡ true = value-conforms _ (part_conforms false (Sort.Child Place.Expression) v) true fits.0 in
    rw (fine, definitions-conform es h (k + 7) fits.1) refl

elements-conform : (es : Parts) → AreFields es → (k : ℕ) → items_conform false Place.ClassElement es ≡ true → items_conform false Place.ClassElement (lowered_elements k es) ≡ true
elements-conform end h k f = refl
elements-conform (more p es) h k f = rw (definitions-conform (more p es) h (k + 4) f) refl

-- ---- classes

classes-conform : (ps : Parts) → AreClasses ps → (k : ℕ) → items_conform false Place.Statement ps ≡ true → items_conform false Place.Statement (lowered_statements k ps) ≡ true
classes-conform end h k f = refl
classes-conform (more p ps) (a_class n span semantic_id id body (a_name i ispan i_semantic_id s free) (a_body j bspan b_semantic_id es he), h) k f =
    let fits = and_parts (part_conforms false (Sort.Child Place.Statement) p) (items_conform false Place.Statement ps) f in
    let named = and_parts (part_conforms false (Sort.Child Place.BindingIdentifier) id) (part_conforms false (Sort.Child Place.ClassBody) body && true) fits.0 in
    let of_body = and_parts (part_conforms false (Sort.Child Place.ClassBody) body) true named.1 in
    let inside = and_parts (items_conform false Place.ClassElement es) true of_body.0 in
    rw (named.0, elements-conform es he k inside.0, classes-conform ps h _ fits.1) refl

program-conforms : (k : ℕ) (t : Tree) → IsProgram t → conforms Place.Program t ≡ true → conforms Place.Program (lowered_from k t) ≡ true
program-conforms k t (a_program m span semantic_id s all h) f =
    let word = and_parts (part_conforms false (Sort.Word Words.SourceType) (string s)) (items_conform false Place.Statement all && true) f in
    let fits = and_parts (items_conform false Place.Statement all) true word.1 in
    rw (word.0, classes-conform all h k fits.0) refl

pub lowered-conforms : (t : Tree) → conforms Place.Program t ≡ true → is_first_form t [] ≡ true → t ≡ numbered_from 0 t → conforms Place.Program (lowered t) ≡ true
lowered-conforms t f h e = ap (conforms Place.Program) (lowered-numbered t f h e) ∙ program-conforms (nodes t) t (first_form-shaped t [] f h) f

-- ---- nothing to lower

no_true : {A : Type 0} → true ≡ false → A
no_true h = absurd (true≢false h)

module _ (asked : Options) where
  classes-same : (ps : Parts) → AreClasses ps → (k : ℕ) → holds_lowered (defining asked) (preorder_of ps) ≡ false → lowered_statements k ps ≡ ps
  classes-same end h k none = refl
  classes-same (more p ps) (a_class n span semantic_id id body (a_name i ispan i_semantic_id s free) (a_body j bspan b_semantic_id end he), h) k none = ap (more p) (classes-same ps h _ none)
  classes-same (more p ps) (a_class n span semantic_id id body (a_name i ispan i_semantic_id s free) (a_body j bspan b_semantic_id (more e es) (a_field m fspan f_semantic_id key v hk hv, he)), h) k none = no_true none

  program-same : (k : ℕ) (t : Tree) → IsProgram t → has_lowered_class (defining asked) t ≡ false → lowered_from k t ≡ t
  program-same k t (a_program m span semantic_id s all h) none =
      ap (λ ps. Node Kind.Program m span semantic_id (more (string s) (more (list ps) end)))
      (classes-same all h k (sym (ap (holds_lowered (defining asked)) (append-nil (preorder_of all))) ∙ none))

  form-unchanged : (t : Tree) → conforms Place.Program t ≡ true → is_first_form t [] ≡ true → t ≡ numbered_from 0 t → IsUnchanged (defining asked) [] t (lowered t)
  form-unchanged t f h e none = (ap stripped (lowered-numbered t f h e ∙ program-same (nodes t) t (first_form-shaped t [] f h) none), refl)

pub lowered-unchanged : (o : Options) (t : Tree) → defines_fields o ≡ true → conforms Place.Program t ≡ true → is_first_form t [] ≡ true → t ≡ numbered_from 0 t → IsUnchanged o [] t (lowered t)
lowered-unchanged o t d f h e = subst (λ x. IsUnchanged x [] t (lowered t)) (is_defining o d) (form-unchanged o t f h e)
