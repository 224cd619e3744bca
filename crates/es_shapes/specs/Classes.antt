-- A class as a node in code shows it, and what kinds of elements it has.
use Rattle.std.specs.Prelude.{List, Bool, false, cond, ◌&&◌, ◌||◌, Option, Some, None, option_map}
use Rattle.es_base.specs.Tree.{Tree, Node, child, nullable}
use Rattle.es_steps.specs.LoweredClasses.{Element, any_element, body_elements, is_lowered_element}
use Rattle.es_steps.specs.PrivateNames.{is_class}
use Rattle.es_steps.specs.Shapes.{ClassAt, class_at, is_static_field, initializes_instances}
use Rattle.es_steps.specs.declared.options.Options.{Options}
use Rattle.es_shapes.specs.declared.class.ClassRef.{ClassRef}
use Rattle.es_shapes.specs.declared.element.ElementKinds.{ElementKinds}
use Rattle.es_shapes.specs.declared.element.ElementRef.{ElementRef}

-- the class that a node is
abbrev pub class_of : Tree → Option ClassAt
class_of (Node kind m span semantic_id ps) = cond (is_class kind) (Some (class_at kind m ps)) None

abbrev pub class_view : ClassRef → ClassAt
class_view k = record {
  number = k.node_id.0;
  is_expression = k.is_expression;
  id = nullable (option_map (λ x. x.now) k.id);
  heritage = nullable (option_map (λ x. x.now) k.super_class);
  body = child k.body.now;
  elements = body_elements (child k.body.now);
}

abbrev pub element_view : ElementRef → Element
element_view e = record {
  number = e.node_id.0;
  is_static = e.is_static;
  is_field = e.is_field;
  is_block = e.is_block;
  is_private = e.is_private;
  computed = e.computed;
  key = nullable (option_map (λ x. x.now) e.key);
  value = nullable (option_map (λ x. x.now) e.value);
}

abbrev pub element_kinds : Options → List Element → ElementKinds
element_kinds o es = record {
  has_lowered = any_element (is_lowered_element o) es;
  has_block = any_element (λ e. e.is_block) es;
  has_static_field = any_element is_static_field es;
  has_private = any_element (λ e. e.is_private) es;
  has_instance_initializer = any_element initializes_instances es;
}

-- a node that is a lowered class and passes a test
abbrev pub passes_by : (ClassAt → Bool) → Option ClassAt → Bool
passes_by test None = false
passes_by test (Some k) = test k

abbrev pub is_lowered : Options → ClassAt → Bool
is_lowered o k = any_element (is_lowered_element o) k.elements

abbrev pub is_lowered_with : Options → (ClassAt → Bool) → Tree → Bool
is_lowered_with o test t = passes_by (λ k. is_lowered o k && test k) (class_of t)

-- the kinds of elements with those of one element more
abbrev pub kinds_with : Options → ElementKinds → Option Element → ElementKinds
kinds_with o kinds None = kinds
kinds_with o kinds (Some e) = record {
  has_lowered = kinds.has_lowered || is_lowered_element o e;
  has_block = kinds.has_block || e.is_block;
  has_static_field = kinds.has_static_field || is_static_field e;
  has_private = kinds.has_private || e.is_private;
  has_instance_initializer = kinds.has_instance_initializer || initializes_instances e;
}

-- .. with those of all these
abbrev pub kinds_or : ElementKinds → ElementKinds → ElementKinds
kinds_or a b = record {
  has_lowered = a.has_lowered || b.has_lowered;
  has_block = a.has_block || b.has_block;
  has_static_field = a.has_static_field || b.has_static_field;
  has_private = a.has_private || b.has_private;
  has_instance_initializer = a.has_instance_initializer || b.has_instance_initializer;
}
