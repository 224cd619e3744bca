-- What the kind of a node says: of one that conforms, of its parts; of one that is of another kind, that it is not as the
-- form asks.
use Rattle.std.proofs.Common.{◌≡◌, refl, subst, ℕ, Option, List, [], ◌∷◌, Bool, true, false, ◌&&◌, ◌||◌, not}
use Rattle.std.specs.List.{All}
use Rattle.std.specs.Prelude.{codes}
use Rattle.std.proofs.lemmas.Bool.{and_parts}
use Rattle.std.proofs.lemmas.List.Elements.{All-nil, All-cons}
use Rattle.es_base.specs.Conforms.{conforms, parts_conform, part_conforms, items_conform, is_rest, is_end, boolean_at}
use Rattle.es_base.specs.Table.{members_of}
use Rattle.es_base.specs.Tree.{Tree, Part, Parts, Node, end, more, child, absent, string, trees}
use Rattle.es_base.specs.declared.kind.Kind.{Kind}
use Rattle.es_base.specs.declared.operator.SourceType.{SourceType}
use Rattle.es_base.specs.declared.table.Place.{Place}
use Rattle.es_tree.specs.Program.{program}
use Rattle.es_base.specs.declared.table.Sort.{Sort}
use Rattle.es_base.specs.declared.table.Words.{Words}
use Rattle.es_base.specs.Words.{source_type_string}
use Rattle.es_node.specs.View.{kind_of, number_in}
use Rattle.es_steps.proofs.FirstMeaning.{no_false}
use Rattle.es_steps.specs.FirstForm.{class_names, statement_breaches, is_field, is_plain_key, is_plain_value}
use Rattle.es_steps.specs.Values.{String}
use Rattle.class_properties.specs.Form.{HasClassParts}

-- ---- a class that conforms

name-kind : (t : Tree) → conforms Place.BindingIdentifier t ≡ true → kind_of t ≡ Kind.BindingIdentifier
name-kind (Node Kind.BindingIdentifier id span semantic_id ps) f = refl
name-kind (Node kind id span semantic_id ps) f = no_false f

body-kind : (t : Tree) → conforms Place.ClassBody t ≡ true → kind_of t ≡ Kind.ClassBody
body-kind (Node Kind.ClassBody id span semantic_id ps) f = refl
body-kind (Node kind id span semantic_id ps) f = no_false f

-- the parts of a class, of which the first is its name and the third its body
with_name : (n : ℕ) (span : Option (ℕ × ℕ)) (semantic_id : Option ℕ) (id super_class : Part) (body : Tree) (ps : Parts) (computed : Bool)
    → part_conforms computed (Sort.Nullable Place.BindingIdentifier) id ≡ true → conforms Place.ClassBody body ≡ true → HasClassParts (Node Kind.ClassDeclaration n span semantic_id (more id (more super_class (more (child body) ps))))
with_name n span semantic_id (child id) super_class body ps computed f g = record { name = name-kind id f; body = body-kind body g }
with_name n span semantic_id absent super_class body ps computed f g = record { name = tt; body = body-kind body g }
with_name n span semantic_id id super_class body ps computed f g = no_false f

pub class_parts : (t : Tree) → conforms Place.Statement t ≡ true → kind_of t ≡ Kind.ClassDeclaration → HasClassParts t
class_parts (Node Kind.ClassDeclaration n span semantic_id (more id (more super_class (more (child body) ps)))) f e =
    let computed : Bool = boolean_at (codes "computed") (members_of Kind.ClassDeclaration) (more id (more super_class (more (child body) ps))) in
    let name = and_parts (part_conforms computed (Sort.Nullable Place.BindingIdentifier) id) (part_conforms computed (Sort.Nullable Place.Expression) super_class && (conforms Place.ClassBody body && parts_conform computed [] ps)) f in
    let rest = and_parts (part_conforms computed (Sort.Nullable Place.Expression) super_class) (conforms Place.ClassBody body && parts_conform computed [] ps) name.1 in
    with_name n span semantic_id id super_class body ps computed name.0 (and_parts (conforms Place.ClassBody body) (parts_conform computed [] ps) rest.1).0
class_parts (Node Kind.ClassDeclaration n span semantic_id (more id (more super_class (more body ps)))) f e =
    let computed : Bool = boolean_at (codes "computed") (members_of Kind.ClassDeclaration) (more id (more super_class (more body ps))) in
    let name = and_parts (part_conforms computed (Sort.Nullable Place.BindingIdentifier) id) (part_conforms computed (Sort.Nullable Place.Expression) super_class && false) f in
    no_false (and_parts (part_conforms computed (Sort.Nullable Place.Expression) super_class) false name.1).1
class_parts (Node Kind.ClassDeclaration n span semantic_id (more id (more super_class end))) f e =
    let computed : Bool = boolean_at (codes "computed") (members_of Kind.ClassDeclaration) (more id (more super_class end)) in
    let name = and_parts (part_conforms computed (Sort.Nullable Place.BindingIdentifier) id) (part_conforms computed (Sort.Nullable Place.Expression) super_class && false) f in
    no_false (and_parts (part_conforms computed (Sort.Nullable Place.Expression) super_class) false name.1).1
class_parts (Node Kind.ClassDeclaration n span semantic_id (more id end)) f e =
    let computed : Bool = boolean_at (codes "computed") (members_of Kind.ClassDeclaration) (more id end) in
    no_false (and_parts (part_conforms computed (Sort.Nullable Place.BindingIdentifier) id) false f).1
class_parts (Node Kind.ClassDeclaration n span semantic_id end) f e = no_false f
class_parts (Node kind n span semantic_id ps) f e = absurd (cc)

-- ---- a program that conforms

statements_conform : (ts : List Tree) → items_conform false Place.Statement (trees ts) ≡ true → All (λ t. conforms Place.Statement t ≡ true) ts
statements_conform [] f = All-nil (λ t. conforms Place.Statement t ≡ true)
statements_conform (t ∷ ts) f =
    let here = and_parts (conforms Place.Statement t) ((not (is_rest (child t)) || is_end (trees ts)) && items_conform false Place.Statement (trees ts)) f in
    let rest = and_parts (not (is_rest (child t)) || is_end (trees ts)) (items_conform false Place.Statement (trees ts)) here.1 in
    All-cons (λ u. conforms Place.Statement u ≡ true) t ts here.0 (statements_conform ts rest.1)

body_conforms : (id : ℕ) (span : Option (ℕ × ℕ)) (scope_id : Option ℕ) (source_type : SourceType) (body : List Tree) → conforms Place.Program (program id span scope_id source_type body) ≡ true → All (λ t. conforms Place.Statement t ≡ true) body
body_conforms id span scope_id source_type body f =
    let word = and_parts (part_conforms false (Sort.Word Words.SourceType) (string (source_type_string source_type))) (items_conform false Place.Statement (trees body) && true) f in
    statements_conform body (and_parts (items_conform false Place.Statement (trees body)) true word.1).0

pub program_statements : (t : Tree) (id : ℕ) (span : Option (ℕ × ℕ)) (scope_id : Option ℕ) (source_type : SourceType) (body : List Tree) → t ≡ program id span scope_id source_type body → conforms Place.Program t ≡ true → All (λ u. conforms Place.Statement u ≡ true) body
program_statements t id span scope_id source_type body is f = body_conforms id span scope_id source_type body (subst (λ u. conforms Place.Program u ≡ true) is f)

-- ---- nodes of other kinds

pub no_class_names : (t : Tree) → (kind_of t ≡ Kind.ClassDeclaration → ⊥) → class_names (more (child t) end) ≡ []
no_class_names (Node Kind.ClassDeclaration n span semantic_id ps) other = absurd (other refl)
no_class_names (Node kind n span semantic_id ps) other = refl

pub no_class_breaches : (earlier names : List String) (t : Tree) → (kind_of t ≡ Kind.ClassDeclaration → ⊥) → statement_breaches earlier names (child t) ≡ number_in t ∷ []
no_class_breaches earlier names (Node Kind.ClassDeclaration n span semantic_id ps) other = absurd (other refl)
no_class_breaches earlier names (Node kind n span semantic_id ps) other = refl

pub no_field : (names : List String) (kind : Kind) (ps : Parts) → (kind ≡ Kind.PropertyDefinition → ⊥) → is_field names kind ps ≡ false
no_field names Kind.PropertyDefinition ps other = absurd (other refl)
no_field names kind ps other = refl

pub no_plain_key : (t : Tree) → (kind_of t ≡ Kind.IdentifierName → ⊥) → is_plain_key (child t) ≡ false
no_plain_key (Node Kind.IdentifierName n span semantic_id ps) other = absurd (other refl)
no_plain_key (Node kind n span semantic_id ps) other = refl

pub no_plain_value : (names : List String) (t : Tree) → (kind_of t ≡ Kind.Literal → ⊥) → (kind_of t ≡ Kind.IdentifierReference → ⊥) → is_plain_value names (child t) ≡ false
no_plain_value names (Node Kind.Literal n span semantic_id ps) other another = absurd (other refl)
no_plain_value names (Node Kind.IdentifierReference n span semantic_id ps) other another = absurd (another refl)
no_plain_value names (Node kind n span semantic_id ps) other another = refl
