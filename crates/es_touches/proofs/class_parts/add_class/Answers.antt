use Rattle.std.proofs.Common.{◌≡◌, sym, ap, ◌∙◌, ◌++◌, ◌∷◌, [], List, Some, Bool, Option}
use Rattle.std.proofs.lemmas.List.{map-append}
use Rattle.es_lowered.specs.DeadZones.{ClassParts}
use Rattle.es_shapes.specs.Classes.{class_of, class_view}
use Rattle.es_steps.specs.References.{resolve, written}
use Rattle.es_steps.specs.Shapes.{ClassAt}
use Rattle.es_touches.specs.ClassNodes.{parts_if, parts_of_class}
use Rattle.es_touches.specs.Touches as code
use Rattle.es_touches.specs.Touches.{classes_of}
use Rattle.es_touches.proofs.class_parts.add_class.Goals as goal

pub returns-in_ok-push-in-Some : goal.returns-in_ok-push-in-Some
returns-in_ok-push-in-Some g c =
    let changed = written (g.F.NameFacts.program c.args.facts.now) in
    let references = resolve (g.F.NameFacts.program c.args.facts.now) in
    let k : ClassAt = class_view c.in-Some.class in
    let is : Some k ≡ class_of c.args.node.now = c.in-Some.ensures in
    let old : List ClassParts = classes_of c.args.classes.now.items in
    ap classes_of c.in_ok-push-in-Some.ensures.items
    ∙ map-append code.class_of c.args.classes.now.items (c.in_ok-parts-in-Some.parts ∷ [])
    ∙ ap (λ (x : ClassParts). old ++ x ∷ []) c.in_ok-parts-in-Some.ensures
    ∙ ap (λ (b : Bool). old ++ parts_of_class b c.args.options.now changed references k ∷ []) (sym (c.is_still.ensures k is))
    ∙ ap (λ (m : Option ClassAt). old ++ parts_if c.args.options.now changed references m) is
