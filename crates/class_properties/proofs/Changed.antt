-- What the walk makes of a program of the first form, and what such a program weighs.
use Rattle.std.proofs.Common.{◌≡◌, refl, ap, ◌∙◌, ◌*◌, ◌<◌, ◌≤◌, ◌^◌, [], map, length, true, arith}
use Rattle.std.specs.List.{list_all}
use Rattle.es_base.specs.Conforms.{conforms}
use Rattle.es_base.specs.Preorder.{nodes}
use Rattle.es_base.specs.Tree.{Tree, Parts, Node, end, more, child, absent, list, string, trees}
use Rattle.es_base.specs.declared.kind.Kind.{Kind}
use Rattle.es_base.specs.declared.table.Place.{Place}
use Rattle.es_ctx.specs.declared.ctx.TraverseCtx.{TraverseCtx}
use Rattle.es_steps.specs.FirstForm.{is_first_form}
use Rattle.es_visit.specs.Changed.{chosen}
use Rattle.es_walk.proofs.Most.{total-most}
use Rattle.es_walk.specs.Changed.{changed, changed_items}
use Rattle.es_walk.specs.Given.{Suffice, suffice_at}
use Rattle.es_walk.specs.Weight.{total}
use Rattle.class_properties.proofs.Shaped.{a_key, a_field, AreFields, a_body, a_class, AreClasses, IsProgram, a_program, first_form-shaped}
use Rattle.class_properties.specs.Form.{is_named_field}
use Rattle.class_properties.specs.Lowering.{children, lowered_class, with_constructors}
use Rattle.class_properties.specs.Transform.{goes_into, lowered_node, stays, weight, weighs_most}

fields-named : (es : Parts) → AreFields es → list_all is_named_field (children es) ≡ true
fields-named end h = refl
fields-named (more p es) (a_field m span semantic_id k v (a_key i key_span key_id s) hv, h) = fields-named es h

classes-changed : (ps : Parts) → AreClasses ps → changed_items goes_into lowered_node stays ps ≡ trees (map lowered_class (children ps))
classes-changed end h = refl
classes-changed (more p ps) (a_class n span semantic_id id body hid (a_body m body_span body_id es he), h) =
    let class : Tree = Node Kind.ClassDeclaration n span semantic_id (more id (more absent (more (child (Node Kind.ClassBody m body_span body_id (more (list es) end))) end))) in
    ap (λ b. more (child (chosen b (lowered_class class) class)) (changed_items goes_into lowered_node stays ps)) (fields-named es he)
    ∙ ap (more (child (lowered_class class))) (classes-changed ps h)

program-changed : (t : Tree) → IsProgram t → changed goes_into lowered_node stays t ≡ with_constructors t
program-changed t (a_program m span semantic_id s all h) = ap (λ ps. Node Kind.Program m span semantic_id (more (string s) (more (list ps) end))) (classes-changed all h)

pub first_form_changed : (t : Tree) → conforms Place.Program t ≡ true → is_first_form t [] ≡ true → changed goes_into lowered_node stays t ≡ with_constructors t
first_form_changed t f h = program-changed t (first_form-shaped t [] f h)

weighs_few : (t : Tree) → total weight t ≤ 13 * nodes t
weighs_few t = total-most weight 13 weighs_most t

-- so a walk that begins with nothing in its table has numbers enough
pub walk_suffices : {T : Type 0} (t : Tree) (x : T) (c : TraverseCtx) → 14 * nodes t < 2 ^ 32 → c.next ≡ nodes t → c.lists ≡ [] → c.scoping.scoping ≡ record { scopes = []; symbols = []; references = [] } → Suffice (λ (s : T). 0) (total weight t) (x, c)
walk_suffices t x c light next lists table = suffice_at (λ s. 0) (total weight t) (x, c) lists (omega (arith, weighs_few t, light, next)) (omega (arith, weighs_few t, light, ap (λ t. length t.scopes) table)) (omega (arith, weighs_few t, light, ap (λ t. length t.symbols) table)) (omega (arith, weighs_few t, light, ap (λ t. length t.references) table))
