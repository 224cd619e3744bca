-- Classes and their elements: what the kind of a node says, and the kinds of elements one by one.
use Rattle.std.proofs.Common.{◌≡◌, refl, ap, sym, ◌∙◌, ℕ, suc, ◌+◌, ◌<◌, arith, length, drop, drop-cons, get_or, List, [], ◌∷◌, ◌++◌, Bool, true, false, ◌||◌, Option, Some, None}
use Rattle.std.specs.Option.{option_to_list}
use Rattle.es_base.specs.Tree.{Tree, Node, end, child, absent, trees}
use Rattle.es_base.specs.declared.kind.Kind.{Kind}
use Rattle.es_node.specs.View.{kind_of}
use Rattle.es_steps.specs.LoweredClasses.{Element, is_private_key, element_of, elements_in, body_elements, any_element, is_lowered_element, constructor_in}
use Rattle.es_steps.specs.Shapes.{is_static_field, initializes_instances}
use Rattle.es_steps.specs.declared.options.Options.{Options}
use Rattle.es_shapes.specs.Classes.{class_of, element_kinds, kinds_with, kinds_or}
use Rattle.es_shapes.specs.declared.element.ElementKinds.{ElementKinds}

pub no_class : (t : Tree) → (kind_of t ≡ Kind.ClassDeclaration → ⊥) → (kind_of t ≡ Kind.ClassExpression → ⊥) → class_of t ≡ None
no_class (Node Kind.ClassDeclaration m span semantic_id ps) declaration expression = absurd (declaration refl)
no_class (Node Kind.ClassExpression m span semantic_id ps) declaration expression = absurd (expression refl)
no_class (Node kind m span semantic_id ps) declaration expression = refl

pub no_body : (t : Tree) → (kind_of t ≡ Kind.ClassBody → ⊥) → body_elements (child t) ≡ []
no_body (Node Kind.ClassBody m span semantic_id ps) other = absurd (other refl)
no_body (Node kind m span semantic_id ps) other = refl

pub no_constructor : (t : Tree) → (kind_of t ≡ Kind.ClassBody → ⊥) → constructor_in (child t) ≡ absent
no_constructor (Node Kind.ClassBody m span semantic_id ps) other = absurd (other refl)
no_constructor (Node kind m span semantic_id ps) other = refl

pub no_element : (t : Tree) → (kind_of t ≡ Kind.PropertyDefinition → ⊥) → (kind_of t ≡ Kind.MethodDefinition → ⊥) → (kind_of t ≡ Kind.StaticBlock → ⊥) → element_of (child t) ≡ []
no_element (Node Kind.PropertyDefinition m span semantic_id ps) field method block = absurd (field refl)
no_element (Node Kind.MethodDefinition m span semantic_id ps) field method block = absurd (method refl)
no_element (Node Kind.StaticBlock m span semantic_id ps) field method block = absurd (block refl)
no_element (Node kind m span semantic_id ps) field method block = refl

pub private_key : (t : Tree) → is_private_key (child t) ≡ is_private_key (child (Node (kind_of t) 0 None None end))
private_key (Node Kind.PrivateIdentifier m span semantic_id ps) = refl
private_key (Node kind m span semantic_id ps) = refl

or_assoc : (a b c : Bool) → ((a || b) || c) ≡ (a || (b || c))
or_assoc true b c = refl
or_assoc false b c = refl

or_none : (a : Bool) → (a || false) ≡ a
or_none true = refl
or_none false = refl

-- one element more
pub kinds_more : (o : Options) (kinds : ElementKinds) (e : Option Element) (es : List Element) → kinds_or (kinds_with o kinds e) (element_kinds o es) ≡ kinds_or kinds (element_kinds o (option_to_list e ++ es))
kinds_more o kinds None es = refl
kinds_more o kinds (Some e) es = λ i. record {
  has_lowered = or_assoc kinds.has_lowered (is_lowered_element o e) (any_element (is_lowered_element o) es) i;
  has_block = or_assoc kinds.has_block e.is_block (any_element (λ e. e.is_block) es) i;
  has_static_field = or_assoc kinds.has_static_field (is_static_field e) (any_element is_static_field es) i;
  has_private = or_assoc kinds.has_private e.is_private (any_element (λ e. e.is_private) es) i;
  has_instance_initializer = or_assoc kinds.has_instance_initializer (initializes_instances e) (any_element initializes_instances es) i;
}

-- .. and none
pub kinds_whole : (o : Options) (kinds : ElementKinds) → kinds_or kinds (element_kinds o []) ≡ kinds
kinds_whole o kinds = λ i. record {
  has_lowered = or_none kinds.has_lowered i;
  has_block = or_none kinds.has_block i;
  has_static_field = or_none kinds.has_static_field i;
  has_private = or_none kinds.has_private i;
  has_instance_initializer = or_none kinds.has_instance_initializer i;
}

-- the first of a list
pub kinds_first : (o : Options) (kinds : ElementKinds) (e : Option Element) (t : Tree) (ts : List Tree) → option_to_list e ≡ element_of (child t) → kinds_or (kinds_with o kinds e) (element_kinds o (elements_in (trees ts))) ≡ kinds_or kinds (element_kinds o (elements_in (trees (t ∷ ts))))
kinds_first o kinds e t ts is = kinds_more o kinds e (elements_in (trees ts)) ∙ ap (λ es. kinds_or kinds (element_kinds o (es ++ elements_in (trees ts)))) is

-- the element at a place of a list
pub kinds_next : (o : Options) (kinds : ElementKinds) (e : Option Element) (ts : List Tree) (i : ℕ) (t : Tree) → i < length ts → t ≡ get_or ts i t → option_to_list e ≡ element_of (child t)
    → kinds_or (kinds_with o kinds e) (element_kinds o (elements_in (trees (drop (i + 1) ts)))) ≡ kinds_or kinds (element_kinds o (elements_in (trees (drop i ts))))
kinds_next o kinds e ts i t below is element =
    let next : i + 1 ≡ suc i = omega arith in
    let split : drop i ts ≡ (t ∷ drop (i + 1) ts) = drop-cons ts i t below ∙ ap (λ u. u ∷ drop (suc i) ts) (sym is) ∙ ap (λ k. t ∷ drop k ts) (sym next) in
    kinds_first o kinds e t (drop (i + 1) ts) element ∙ ap (λ us. kinds_or kinds (element_kinds o (elements_in (trees us)))) (sym split)
