-- What a program of the first form looks like: a script of classes without heritage, whose elements are fields with a
-- plain key and a plain value.
use Rattle.std.specs.Prelude.{◌≡◌, ℕ, List, [], ◌++◌, Bool, true, false, not, ◌&&◌, ◌||◌, nat_le, bytes_eq, codes, Option}
use Rattle.std.proofs.Common.{refl}
use Rattle.std.proofs.lemmas.Bool.{and_parts}
use Rattle.es_base.specs.Conforms.{conforms, part_conforms, items_conform, boolean_at, is_rest, is_end, is_among}
use Rattle.es_base.specs.Preorder.{nodes}
use Rattle.es_base.specs.Table.{members_of}
use Rattle.es_base.specs.Tree.{Tree, Part, Parts, Node, end, more, child, absent, list, string, boolean, literal}
use Rattle.es_base.specs.declared.kind.Kind.{Kind}
use Rattle.es_base.specs.declared.literal.LiteralValue.{LiteralValue}
use Rattle.es_base.specs.declared.table.Place.{Place}
use Rattle.es_base.specs.declared.table.Sort.{Sort}
use Rattle.es_base.specs.declared.table.Words.{Words}
use Rattle.es_steps.proofs.FirstMeaning.{no_false, both_empty, unless_true}
use Rattle.es_steps.specs.FirstForm.{helper_names, is_plain_literal, is_plain_value, is_plain_key, is_plain_field, is_new_name, unless, element_breaches, elements_breaches, body_breaches, statement_breaches, statements_breaches, class_names, breaches, no_numbers, most_nodes, is_first_form}
use Rattle.es_steps.specs.Values.{String}

pub data IsValue : Part → Type 0 where
  no_value : IsValue absent
  a_literal : (m : ℕ) (span : Option (ℕ × ℕ)) (semantic_id : Option ℕ) (v : LiteralValue) → is_plain_literal v ≡ true → IsValue (child (Node Kind.Literal m span semantic_id (more (literal v) end)))
  a_reference : (m : ℕ) (span : Option (ℕ × ℕ)) (semantic_id : Option ℕ) (s : String) → IsValue (child (Node Kind.IdentifierReference m span semantic_id (more (string s) end)))

pub data IsKey : Part → Type 0 where
  a_key : (m : ℕ) (span : Option (ℕ × ℕ)) (semantic_id : Option ℕ) (s : String) → IsKey (child (Node Kind.IdentifierName m span semantic_id (more (string s) end)))

pub data IsField : Part → Type 0 where
  a_field : (m : ℕ) (span : Option (ℕ × ℕ)) (semantic_id : Option ℕ) (k v : Part) → IsKey k → IsValue v → IsField (child (Node Kind.PropertyDefinition m span semantic_id (more k (more v (more (boolean false) (more (boolean false) end))))))

abbrev pub AreFields : Parts → Type 0
AreFields end = Unit
AreFields (more p ps) = IsField p × AreFields ps

pub data IsBody : Part → Type 0 where
  a_body : (m : ℕ) (span : Option (ℕ × ℕ)) (semantic_id : Option ℕ) (es : Parts) → AreFields es → IsBody (child (Node Kind.ClassBody m span semantic_id (more (list es) end)))

-- no class has the name of a helper
pub data IsName : Part → Type 0 where
  a_name : (m : ℕ) (span : Option (ℕ × ℕ)) (semantic_id : Option ℕ) (s : String) → is_among s helper_names ≡ false → IsName (child (Node Kind.BindingIdentifier m span semantic_id (more (string s) end)))

pub data IsClass : Part → Type 0 where
  a_class : (n : ℕ) (span : Option (ℕ × ℕ)) (semantic_id : Option ℕ) (id body : Part) → IsName id → IsBody body → IsClass (child (Node Kind.ClassDeclaration n span semantic_id (more id (more absent (more body end)))))

abbrev pub AreClasses : Parts → Type 0
AreClasses end = Unit
AreClasses (more p ps) = IsClass p × AreClasses ps

pub data IsProgram : Tree → Type 0 where
  a_program : (m : ℕ) (span : Option (ℕ × ℕ)) (semantic_id : Option ℕ) (s : String) (all : Parts) → AreClasses all → IsProgram (Node Kind.Program m span semantic_id (more (string s) (more (list all) end)))

-- ---- fields

value-shaped : (names : List String) (v : Part) → is_plain_value names v ≡ true → IsValue v
value-shaped names absent h = no_value
value-shaped names (child (Node Kind.Literal m span semantic_id (more (literal v) end))) h = a_literal m span semantic_id v h
value-shaped names (child (Node Kind.IdentifierReference m span semantic_id (more (string s) end))) h = a_reference m span semantic_id s
value-shaped names p h = no_false h

key-shaped : (k : Part) → is_plain_key k ≡ true → IsKey k
key-shaped (child (Node Kind.IdentifierName m span semantic_id (more (string s) end))) h = a_key m span semantic_id s
key-shaped p h = no_false h

field-shaped : (names : List String) (m : ℕ) (span : Option (ℕ × ℕ)) (semantic_id : Option ℕ) (ps : Parts) → is_plain_field names ps ≡ true → IsField (child (Node Kind.PropertyDefinition m span semantic_id ps))
field-shaped names m span semantic_id (more k (more v (more (boolean false) (more (boolean false) end)))) h =
    let plain = and_parts (is_plain_key k) (is_plain_value names v) h in
    a_field m span semantic_id k v (key-shaped k plain.0) (value-shaped names v plain.1)
field-shaped names m span semantic_id ps h = no_false h

element-shaped : (names : List String) (t : Tree) → no_numbers (element_breaches names (child t)) ≡ true → IsField (child t)
element-shaped names (Node Kind.PropertyDefinition m span semantic_id ps) h = field-shaped names m span semantic_id ps (unless_true (is_plain_field names ps) m h)
element-shaped names (Node kind m span semantic_id ps) h = no_false h

-- the items of a list that conform are trees, and so are those behind the first
conforming-rest : (place : Place) (t : Tree) (ps : Parts) → items_conform false place (more (child t) ps) ≡ true → (conforms place t ≡ true) × (items_conform false place ps ≡ true)
conforming-rest place t ps f =
    let fits = and_parts (conforms place t) ((not (is_rest (child t)) || is_end ps) && items_conform false place ps) f in
    (fits.0, (and_parts (not (is_rest (child t)) || is_end ps) (items_conform false place ps) fits.1).1)

elements-shaped : (names : List String) (ps : Parts) → items_conform false Place.ClassElement ps ≡ true → no_numbers (elements_breaches names ps) ≡ true → AreFields ps
elements-shaped names end f h = tt
elements-shaped names (more (child t) ps) f h =
    let free = both_empty (element_breaches names (child t)) (elements_breaches names ps) h in
    (element-shaped names t free.0, elements-shaped names ps (conforming-rest Place.ClassElement t ps f).1 free.1)
elements-shaped names (more p ps) f h = no_false f

-- ---- classes

body-of : (names : List String) (t : Tree) → conforms Place.ClassBody t ≡ true → no_numbers (body_breaches names (child t)) ≡ true → IsBody (child t)
body-of names (Node Kind.ClassBody m span semantic_id (more (list es) end)) f h =
    a_body m span semantic_id es (elements-shaped names es (and_parts (items_conform false Place.ClassElement es) true f).0 h)
body-of names (Node Kind.ClassBody m span semantic_id end) f h = no_false f
body-of names (Node Kind.ClassBody m span semantic_id (more p (more q ps))) f h = no_false (and_parts (part_conforms false (Sort.List Place.ClassElement) p) false f).1
body-of names (Node Kind.ClassBody m span semantic_id (more p end)) f h = no_false f
body-of names (Node kind m span semantic_id ps) f h = no_false f

body-shaped : (names : List String) (computed : Bool) (p : Part) → part_conforms computed (Sort.Child Place.ClassBody) p ≡ true → no_numbers (body_breaches names p) ≡ true → IsBody p
body-shaped names computed (child t) f h = body-of names t f h
body-shaped names computed p f h = no_false f

not_second : (a b : Bool) → not (a || b) ≡ true → b ≡ false
not_second true b h = no_false h
not_second false true h = no_false h
not_second false false h = refl

name-shaped : (earlier : List String) (id : Part) → is_new_name earlier id ≡ true → IsName id
name-shaped earlier (child (Node Kind.BindingIdentifier m span semantic_id (more (string s) end))) h = a_name m span semantic_id s (not_second (is_among s earlier) (is_among s helper_names) h)
name-shaped earlier p h = no_false h

statement-shaped : (earlier names : List String) (t : Tree) → conforms Place.Statement t ≡ true → no_numbers (statement_breaches earlier names (child t)) ≡ true → IsClass (child t)
statement-shaped earlier names (Node Kind.ClassDeclaration n span semantic_id (more id (more absent (more body end)))) f h =
    let computed : Bool = boolean_at (codes "computed") (members_of Kind.ClassDeclaration) (more id (more absent (more body end))) in
    let fits = and_parts (part_conforms computed (Sort.Nullable Place.BindingIdentifier) id) (part_conforms computed (Sort.Child Place.ClassBody) body && true) f in
    let free = both_empty (unless (is_new_name earlier id && true) n) (body_breaches names body) h in
    let named = and_parts (is_new_name earlier id) true (unless_true (is_new_name earlier id && true) n free.0) in
    a_class n span semantic_id id body (name-shaped earlier id named.0) (body-shaped names computed body (and_parts (part_conforms computed (Sort.Child Place.ClassBody) body) true fits.1).0 free.1)
statement-shaped earlier names (Node Kind.ClassDeclaration n span semantic_id (more id (more heritage (more body end)))) f h =
    let free = both_empty (unless (is_new_name earlier id && false) n) (body_breaches names body) h in
    no_false (and_parts (is_new_name earlier id) false (unless_true (is_new_name earlier id && false) n free.0)).1
statement-shaped earlier names (Node kind n span semantic_id ps) f h = no_false h

statements-shaped : (earlier names : List String) (ps : Parts) → items_conform false Place.Statement ps ≡ true → no_numbers (statements_breaches earlier names ps) ≡ true → AreClasses ps
statements-shaped earlier names end f h = tt
statements-shaped earlier names (more (child t) ps) f h =
    let more_names : List String = class_names (more (child t) end) ++ earlier in
    let fits = conforming-rest Place.Statement t ps f in
    let free = both_empty (statement_breaches earlier names (child t)) (statements_breaches more_names names ps) h in
    (statement-shaped earlier names t fits.0 free.0, statements-shaped more_names names ps fits.1 free.1)
statements-shaped earlier names (more p ps) f h = no_false f

-- ---- programs

program-shaped : (t : Tree) → conforms Place.Program t ≡ true → no_numbers (breaches t) ≡ true → IsProgram t
program-shaped (Node Kind.Program m span semantic_id (more (string s) (more (list all) end))) f h =
    let t : Tree = Node Kind.Program m span semantic_id (more (string s) (more (list all) end)) in
    let word = and_parts (part_conforms false (Sort.Word Words.SourceType) (string s)) (items_conform false Place.Statement all && true) f in
    let free = both_empty (unless (bytes_eq s (codes "script") && nat_le (nodes t) most_nodes) m) (statements_breaches [] (class_names all) all) h in
    a_program m span semantic_id s all (statements-shaped [] (class_names all) all (and_parts (items_conform false Place.Statement all) true word.1).0 free.1)
program-shaped (Node Kind.Program m span semantic_id (more (string s) (more q end))) f h = no_false (and_parts (part_conforms false (Sort.Word Words.SourceType) (string s)) false f).1
program-shaped (Node Kind.Program m span semantic_id (more p (more q (more r ps)))) f h =
    let word = and_parts (part_conforms false (Sort.Word Words.SourceType) p) (part_conforms false (Sort.List Place.Statement) q && false) f in
    no_false (and_parts (part_conforms false (Sort.List Place.Statement) q) false word.1).1
program-shaped (Node Kind.Program m span semantic_id (more p end)) f h = no_false (and_parts (part_conforms false (Sort.Word Words.SourceType) p) false f).1
program-shaped (Node kind m span semantic_id ps) f h = no_false f

pub first_form-shaped : (t : Tree) (foreign : List ℕ) → conforms Place.Program t ≡ true → is_first_form t foreign ≡ true → IsProgram t
first_form-shaped t foreign f h = program-shaped t f (both_empty (breaches t) foreign h).0
