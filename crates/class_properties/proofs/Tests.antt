-- What the tests of fields and classes say, and of which nodes they are false.
use Rattle.std.proofs.Common.{◌≡◌, refl, List, [], ◌∷◌, true, false}
use Rattle.std.specs.List.{All, list_all}
use Rattle.std.proofs.lemmas.Bool.{and_parts}
use Rattle.std.proofs.lemmas.List.Elements.{All-nil, All-cons}
use Rattle.es_base.specs.Tree.{Tree, Node, more, child, list}
use Rattle.es_base.specs.declared.kind.Kind.{Kind}
use Rattle.es_node.specs.View.{kind_of}
use Rattle.es_steps.proofs.FirstMeaning.{no_false}
use Rattle.class_properties.specs.Form.{IsField, IsClass, elements_of, is_name, is_named_field, is_body_of_fields, is_class_of_fields}
use Rattle.class_properties.specs.Lowering.{children}
use Rattle.class_properties.specs.Transform.{is_program}

-- ---- where they are true

name-is : (k : Kind) → is_name k ≡ true → k ≡ Kind.IdentifierName
name-is Kind.IdentifierName h = refl
name-is k h = no_false h

named_field-is : (t : Tree) → is_named_field t ≡ true → IsField t
named_field-is (Node Kind.PropertyDefinition id span semantic_id (more (child key) (more value ps))) h = record { kind = refl; key = name-is (kind_of key) h }
named_field-is t h = no_false h

named_fields-are : (ts : List Tree) → list_all is_named_field ts ≡ true → All IsField ts
named_fields-are [] h = All-nil IsField
named_fields-are (t ∷ ts) h =
    let fields = and_parts (is_named_field t) (list_all is_named_field ts) h in
    All-cons IsField t ts (named_field-is t fields.0) (named_fields-are ts fields.1)

with_body : (class body : Tree) → is_body_of_fields body ≡ true → (kind_of body ≡ Kind.ClassBody → All IsField (elements_of body) → IsClass class) → IsClass class
with_body class (Node Kind.ClassBody id span semantic_id (more (list elements) ps)) h is = is refl (named_fields-are (children elements) h)
with_body class t h is = no_false h

pub class_of_fields : (t : Tree) → is_class_of_fields t ≡ true → IsClass t
class_of_fields (Node Kind.ClassDeclaration id span semantic_id (more name (more super_class (more (child body) ps)))) h =
    with_body (Node Kind.ClassDeclaration id span semantic_id (more name (more super_class (more (child body) ps)))) body h (λ kind fields. record { kind = refl; body = kind; fields = fields })
class_of_fields t h = no_false h

-- ---- where they are false

pub no_name : (k : Kind) → (k ≡ Kind.IdentifierName → ⊥) → is_name k ≡ false
no_name Kind.IdentifierName other = absurd (other refl)
no_name k other = refl

pub no_named_field : (t : Tree) → (kind_of t ≡ Kind.PropertyDefinition → ⊥) → is_named_field t ≡ false
no_named_field (Node Kind.PropertyDefinition id span semantic_id ps) other = absurd (other refl)
no_named_field (Node kind id span semantic_id ps) other = refl

pub no_body_of_fields : (t : Tree) → (kind_of t ≡ Kind.ClassBody → ⊥) → is_body_of_fields t ≡ false
no_body_of_fields (Node Kind.ClassBody id span semantic_id ps) other = absurd (other refl)
no_body_of_fields (Node kind id span semantic_id ps) other = refl

pub no_class_of_fields : (t : Tree) → (kind_of t ≡ Kind.ClassDeclaration → ⊥) → is_class_of_fields t ≡ false
no_class_of_fields (Node Kind.ClassDeclaration id span semantic_id ps) other = absurd (other refl)
no_class_of_fields (Node kind id span semantic_id ps) other = refl

pub no_program : (k : Kind) → (k ≡ Kind.Program → ⊥) → is_program k ≡ false
no_program Kind.Program other = absurd (other refl)
no_program k other = refl
