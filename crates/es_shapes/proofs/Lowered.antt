-- The lowered classes among the nodes of a program.
use Rattle.std.proofs.Common.{◌≡◌, refl, ap, sym, ◌∙◌, List, [], ◌∷◌, ◌++◌, Bool, true, false, cond, ◌&&◌, ◌||◌, Some, None}
use Rattle.std.specs.List.{list_any}
use Rattle.es_base.specs.Tree.{Tree, Node}
use Rattle.es_steps.specs.LoweredClasses.{constructor_in, Element, any_element, is_lowered_element, elements_of}
use Rattle.es_steps.specs.Parts.{is_present}
use Rattle.es_steps.specs.PrivateNames.{is_class}
use Rattle.es_steps.specs.Shapes.{ClassAt, class_at, any_class, lowered_classes, has_pattern_parameter, is_static_field, initializes_outside, keeps_block}
use Rattle.es_steps.specs.declared.options.Options.{Options}
use Rattle.es_shapes.specs.Classes.{element_kinds, passes_by, is_lowered, is_lowered_with}
use Rattle.es_shapes.specs.declared.element.ElementKinds.{ElementKinds}

one : (test : ClassAt → Bool) (k : ClassAt) (class lowered : Bool) (ks : List ClassAt) → any_class test (cond (class && lowered) (k ∷ []) [] ++ ks) ≡ (passes_by (λ j. lowered && test j) (cond class (Some k) None) || any_class test ks)
one test k true true ks = refl
one test k true false ks = refl
one test k false lowered ks = refl

pub any_lowered : (o : Options) (test : ClassAt → Bool) (ts : List Tree) → any_class test (lowered_classes o ts) ≡ list_any (is_lowered_with o test) ts
any_lowered o test [] = refl
any_lowered o test (Node kind m span semantic_id ps ∷ ts) =
    one test (class_at kind m ps) (is_class kind) (any_element (is_lowered_element o) (elements_of ps)) (lowered_classes o ts)
    ∙ same (is_class kind) (any_lowered o test ts)
  where
    same : (b : Bool) → any_class test (lowered_classes o ts) ≡ list_any (is_lowered_with o test) ts → (passes_by (λ j. any_element (is_lowered_element o) (elements_of ps) && test j) (cond b (Some (class_at kind m ps)) None) || any_class test (lowered_classes o ts)) ≡ (passes_by (λ j. is_lowered o j && test j) (cond b (Some (class_at kind m ps)) None) || list_any (is_lowered_with o test) ts)
    same true rest = ap (λ b. (any_element (is_lowered_element o) (elements_of ps) && test (class_at kind m ps)) || b) rest
    same false rest = rest

either : (es : List Element) → any_element (λ e. is_static_field e || e.is_private) es ≡ (any_element is_static_field es || any_element (λ e. e.is_private) es)
either [] = refl
either (e ∷ es) = mix (is_static_field e) e.is_private (either es)
  where
    mix : (a b : Bool) → any_element (λ e. is_static_field e || e.is_private) es ≡ (any_element is_static_field es || any_element (λ e. e.is_private) es)
        → ((a || b) || any_element (λ e. is_static_field e || e.is_private) es) ≡ ((a || any_element is_static_field es) || (b || any_element (λ e. e.is_private) es))
    mix true b rest = refl
    mix false true rest = last (any_element is_static_field es)
      where
        last : (c : Bool) → true ≡ (c || true)
        last true = refl
        last false = refl
    mix false false rest = rest

pub block_kept : (k : ClassAt) → keeps_block k ≡ (any_element (λ e. e.is_block) k.elements && ((any_element is_static_field k.elements || any_element (λ e. e.is_private) k.elements) || initializes_outside k))
block_kept k = ap (λ b. any_element (λ e. e.is_block) k.elements && (b || initializes_outside k)) (either k.elements)

pub kept_kinds : (o : Options) (k : ClassAt) (kinds : ElementKinds) (is_outside : Bool) → kinds ≡ element_kinds o k.elements
    → is_outside ≡ (is_present k.heritage && (kinds.has_instance_initializer && has_pattern_parameter (constructor_in k.body)))
    → (kinds.has_lowered && (kinds.has_block && ((kinds.has_static_field || kinds.has_private) || is_outside))) ≡ (is_lowered o k && keeps_block k)
kept_kinds o k kinds is_outside e outside =
    ap (λ b. kinds.has_lowered && (kinds.has_block && ((kinds.has_static_field || kinds.has_private) || b))) outside
    ∙ (ap (λ (x : ElementKinds). x.has_lowered && (x.has_block && ((x.has_static_field || x.has_private) || (is_present k.heritage && (x.has_instance_initializer && has_pattern_parameter (constructor_in k.body)))))) e
    ∙ ap (λ b. is_lowered o k && b) (sym (block_kept k)))
