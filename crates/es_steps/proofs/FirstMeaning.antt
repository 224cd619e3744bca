-- A program of the first form has a meaning: its classes read as classes without heritage whose elements are fields with
-- plain values.
use Rattle.std.specs.Prelude.{◌≡◌, refl, ℕ, List, [], ◌∷◌, ◌++◌, Bool, true, false, cond, not, ◌&&◌, ◌||◌, nat_le, bytes_eq, codes, Option, Some, None}
use Rattle.std.specs.Option.{IsSome}
use Rattle.std.proofs.Common.{sym, ap, append_assoc}
use Rattle.std.proofs.lemmas.Bool.{true≢false, and_parts}
use Rattle.es_base.specs.Conforms.{conforms, part_conforms, items_conform, boolean_at, is_rest, is_end}
use Rattle.es_base.specs.Numbered.{is_new}
use Rattle.es_base.specs.Preorder.{nodes, preorder, preorder_of, preorder_of_part}
use Rattle.es_base.specs.Table.{members_of}
use Rattle.es_base.specs.Tree as tree
use Rattle.es_base.specs.Tree.{Tree, Part, Parts, Node}
use Rattle.es_base.specs.declared.kind.Kind.{Kind}
use Rattle.es_base.specs.declared.literal.LiteralValue.{LiteralValue}
use Rattle.es_base.specs.declared.literal.LiteralValue.TheVariants as literal_value
use Rattle.es_base.specs.declared.table.Place.{Place}
use Rattle.es_base.specs.declared.table.Sort.{Sort}
use Rattle.es_base.specs.declared.table.Words.{Words}
use Rattle.es_steps.specs.Code.{Code, Codes, Opened, spelled, name, steps, done, and, joined}
use Rattle.es_steps.specs.Context.{Context, NameKind, Fixed, Changing, MeansClass, found_kind, declared_kind, unless_varying, inside}
use Rattle.es_steps.specs.Expressions.{value_code, is_arguments, arguments_of, name_or_arguments, name_code}
use Rattle.es_steps.specs.FirstForm.{is_plain_literal, is_plain_value, is_plain_key, is_plain_field, is_new_name, unless, element_breaches, elements_breaches, body_breaches, statement_breaches, statements_breaches, class_names, breaches, no_numbers, most_nodes}
use Rattle.es_steps.specs.Law.{FirstFormLaw}
use Rattle.es_steps.specs.Meaning.{Terms, MemberEntry, start, source_terms, body_of, in_body, with_all, means_of, has_meaning, member_entries, private_functions, all_exports}
use Rattle.es_steps.specs.Modules.{Exported, exports_of, exports_in}
use Rattle.es_steps.specs.Opening.{definitions, opening}
use Rattle.es_steps.specs.PrivateNames.{a_field, keyed_member, element_members, elements_members, body_members, members_of_all, private_members}
use Rattle.es_steps.specs.Entries.{Entry, Listed, after_run}
use Rattle.es_steps.specs.Evaluation.{Environment, Evaluation, ev}
use Rattle.es_steps.specs.Members.{Member, code, absent, boolean, end, more, codes_in}
use Rattle.es_steps.specs.Reading.{read, read_part, read_parts, read_items}
use Rattle.es_steps.specs.References.{has_number, declared}
use Rattle.es_steps.specs.Scopes.{ClassName, no_class, declares, own_name, let_names, Declaration}
use Rattle.es_steps.specs.ClassHeads.{declared_or_named}
use Rattle.es_steps.specs.Statements.{value_or_undefined, field_code, declared_by, elements_of, class_of}
use Rattle.es_steps.specs.Values.{String, StringOf, NumberOf, BooleanOf, Null, Value, ConstantOf, Undefined, ArgumentsOf, Bound, Free}
use Rattle.es_steps.proofs.PlainClasses.{IsNotGenerated, fixed, changing, means_class, IsPlain, a_value, a_name, IsField, plain_field, AreFields, IsClass, plain_class, AreClasses, classes-run, all-there}

pub no_false : {A : Type 0} → false ≡ true → A
no_false h = absurd (true≢false (sym h))

pub joined-done : (cs : Codes) → joined cs done ≡ cs
joined-done done = refl
joined-done (and c cs) = rw (joined-done cs) refl

-- ---- no breach

pub both_empty : (xs ys : List ℕ) → no_numbers (xs ++ ys) ≡ true → (no_numbers xs ≡ true) × (no_numbers ys ≡ true)
both_empty [] ys h = (refl, h)
both_empty (x ∷ xs) ys h = no_false h

pub unless_true : (b : Bool) (m : ℕ) → no_numbers (unless b m) ≡ true → b ≡ true
unless_true true m h = refl
unless_true false m h = no_false h

-- ---- values and keys

not_generated-unless_varying : (varying : List ℕ) (b : ℕ) (kind : NameKind) → IsNotGenerated kind → IsNotGenerated (unless_varying varying b kind)
not_generated-unless_varying varying b kind h = chosen (has_number b varying)
  where
    chosen : (w : Bool) → IsNotGenerated (cond w (Changing (Bound b)) kind)
    chosen true = changing (Bound b)
    chosen false = h

not_generated-declared : (first : ℕ) (varying : List ℕ) (b : ℕ) (name : ClassName) → IsNotGenerated (declared_kind first varying b name)
not_generated-declared first varying b no_class = not_generated-unless_varying varying b (Fixed b) (fixed b)
not_generated-declared first varying b (declares n) = not_generated-unless_varying varying b (MeansClass n b) (means_class n b)
not_generated-declared first varying b (own_name n) = means_class n b
not_generated-declared first varying b (let_names m n) = not_generated-unless_varying varying b (cond (is_new first m) (MeansClass n b) (Fixed b)) (chosen (is_new first m))
  where
    chosen : (new : Bool) → IsNotGenerated (cond new (MeansClass n b) (Fixed b))
    chosen true = means_class n b
    chosen false = fixed b

pub not_generated-found : (first : ℕ) (varying : List ℕ) (s : String) (d : Option Declaration) → IsNotGenerated (found_kind first varying s d)
not_generated-found first varying s None = changing (Free s)
not_generated-found first varying s (Some d) = not_generated-declared first varying d.number d.class_name

pub plain-name : (c : Context) (m : ℕ) (s : String) (kind : NameKind) → IsNotGenerated kind → IsPlain (name_or_arguments c m s kind)
plain-name c m s kind (fixed b) = a_name m s (Fixed b) (fixed b)
plain-name c m s kind (changing (Bound b)) = a_name m s (Changing (Bound b)) (changing (Bound b))
plain-name c m s kind (changing (Free t)) = chosen (is_arguments s)
  where
    either : (writes : Bool) (v : Value) → IsPlain (arguments_of writes m s v)
    either true (ArgumentsOf k) = a_name m s (Changing (Bound k)) (changing (Bound k))
    either false (ArgumentsOf k) = a_value (ArgumentsOf k)
    either true v = a_name m s (Changing (Free s)) (changing (Free s))
    either false v = a_name m s (Changing (Free s)) (changing (Free s))

    chosen : (b : Bool) → IsPlain (cond b (arguments_of c.writes_arguments m s c.arguments) (name m s (Changing (Free t))))
    chosen true = either c.writes_arguments c.arguments
    chosen false = a_name m s (Changing (Free t)) (changing (Free t))
plain-name c m s kind (means_class n b) = a_name m s (MeansClass n b) (means_class n b)

-- no name was generated
plain-name_code : (c : Context) (m : ℕ) (s : String) → c.ledger ≡ [] → IsPlain (name_code c m s)
plain-name_code c m s l = rw l (plain-name c m s (found_kind c.first_new c.varying s (declared s c.names)) (not_generated-found c.first_new c.varying s (declared s c.names)))

pub plain-literal : (m : ℕ) (v : LiteralValue) → is_plain_literal v ≡ true → IsPlain (value_code m v)
plain-literal m (literal_value.String s raw) h = a_value (ConstantOf (StringOf s))
plain-literal m (literal_value.Number raw) h = a_value (ConstantOf (NumberOf raw))
plain-literal m (literal_value.Boolean b) h = a_value (ConstantOf (BooleanOf b))
plain-literal m literal_value.Null h = a_value (ConstantOf Null)
plain-literal m v h = no_false h

plain-value : (names : List String) (c : Context) (v : Part) → c.ledger ≡ [] → is_plain_value names v ≡ true → IsPlain (value_or_undefined (read_part c v))
plain-value names c tree.absent l h = a_value Undefined
plain-value names c (tree.child (Node Kind.Literal m span semantic_id (tree.more (tree.literal v) tree.end))) l h = plain-literal m v h
plain-value names c (tree.child (Node Kind.IdentifierReference m span semantic_id (tree.more (tree.string s) tree.end))) l h = plain-name_code c m s l
plain-value names c p l h = no_false h

data IsSpelled : Member → Type 0 where
  spelled_key : (s : String) → IsSpelled (code (spelled s))

spelled-key : (c : Context) (k : Part) → is_plain_key k ≡ true → IsSpelled (read_part c k)
spelled-key c (tree.child (Node Kind.IdentifierName m span semantic_id (tree.more (tree.string s) tree.end))) h = spelled_key s
spelled-key c p h = no_false h

-- ---- fields

field-of : (c : Context) (k v : Member) → IsSpelled k → IsPlain (value_or_undefined v) → IsField (field_code c (more k (more v (more (boolean false) (more (boolean false) end)))))
field-of c k v (spelled_key s) p = plain_field _ _ _ p

field-read : (names : List String) (c : Context) (m : ℕ) (ps : Parts) → c.ledger ≡ [] → is_plain_field names ps ≡ true → IsField (field_code c (read_parts (inside c Kind.PropertyDefinition m ps) ps))
field-read names c m (tree.more k (tree.more v (tree.more (tree.boolean false) (tree.more (tree.boolean false) tree.end)))) l h =
    let plain = and_parts (is_plain_key k) (is_plain_value names v) h in
    field-of c _ _ (spelled-key _ k plain.0) (plain-value names _ v l plain.1)
field-read names c m ps l h = no_false h

element-read : (names : List String) (c : Context) (t : Tree) → c.ledger ≡ [] → no_numbers (element_breaches names (tree.child t)) ≡ true → IsField (read c t)
element-read names c (Node Kind.PropertyDefinition m span semantic_id ps) l h = field-read names c m ps l (unless_true (is_plain_field names ps) m h)
element-read names c (Node kind m span semantic_id ps) l h = no_false h

elements-read : (names : List String) (c : Context) (ps : Parts) → c.ledger ≡ [] → items_conform false Place.ClassElement ps ≡ true → no_numbers (elements_breaches names ps) ≡ true → AreFields (codes_in (read_items c ps))
elements-read names c tree.end l f h = tt
elements-read names c (tree.more (tree.child t) ps) l f h =
    let fits = and_parts (conforms Place.ClassElement t) ((not (is_rest (tree.child t)) || is_end ps) && items_conform false Place.ClassElement ps) f in
    let rest = and_parts (not (is_rest (tree.child t)) || is_end ps) (items_conform false Place.ClassElement ps) fits.1 in
    let free = both_empty (element_breaches names (tree.child t)) (elements_breaches names ps) h in
    (element-read names c t l free.0, elements-read names c ps l rest.1 free.1)
elements-read names c (tree.more p ps) l f h = no_false f

-- ---- classes

-- a class body is one list
body-read : (names : List String) (c : Context) (t : Tree) → c.ledger ≡ [] → conforms Place.ClassBody t ≡ true → no_numbers (body_breaches names (tree.child t)) ≡ true → AreFields (elements_of (code (read c t)))
body-read names c (Node Kind.ClassBody m span semantic_id (tree.more (tree.list es) tree.end)) l f h =
    let fits = and_parts (items_conform false Place.ClassElement es) true f in
    let inner : Context = inside c Kind.ClassBody m (tree.more (tree.list es) tree.end) 0 in
    rw (joined-done (codes_in (read_items inner es))) (elements-read names inner es l fits.0 h)
body-read names c (Node Kind.ClassBody m span semantic_id tree.end) l f h = no_false f
body-read names c (Node Kind.ClassBody m span semantic_id (tree.more p (tree.more q ps))) l f h = no_false (and_parts (part_conforms false (Sort.List Place.ClassElement) p) false f).1
body-read names c (Node Kind.ClassBody m span semantic_id (tree.more p tree.end)) l f h = no_false f
body-read names c (Node kind m span semantic_id ps) l f h = no_false f

class-read : (names : List String) (c : Context) (computed : Bool) (n : ℕ) (id : Member) (body : Part) → c.ledger ≡ [] → part_conforms computed (Sort.Child Place.ClassBody) body ≡ true → no_numbers (body_breaches names body) ≡ true → (declared : Option ℕ) → IsClass (class_of declared n (more id (more absent (more (read_part c body) end))))
class-read names c computed n id (tree.child t) l f h declared = plain_class n _ _ (body-read names c t l f h)
class-read names c computed n id p l f h declared = no_false f

statement-read : (earlier names : List String) (c : Context) (t : Tree) → c.ledger ≡ [] → conforms Place.Statement t ≡ true → no_numbers (statement_breaches earlier names (tree.child t)) ≡ true → IsClass (read c t)
statement-read earlier names c (Node Kind.ClassDeclaration n span semantic_id (tree.more id (tree.more tree.absent (tree.more body tree.end)))) l f h =
    let computed : Bool = boolean_at (codes "computed") (members_of Kind.ClassDeclaration) (tree.more id (tree.more tree.absent (tree.more body tree.end))) in
    let fits = and_parts (part_conforms computed (Sort.Nullable Place.BindingIdentifier) id) (part_conforms computed (Sort.Child Place.ClassBody) body && true) f in
    let free = both_empty (unless (is_new_name earlier id && true) n) (body_breaches names body) h in
    let ps : Parts = tree.more id (tree.more tree.absent (tree.more body tree.end)) in
    let name : Member = read_part (inside c Kind.ClassDeclaration n ps 0) id in
    class-read names (inside c Kind.ClassDeclaration n ps 2) computed n name body l (and_parts (part_conforms computed (Sort.Child Place.ClassBody) body) true fits.1).0 free.1 (declared_or_named n c.named (declared_by name))
statement-read earlier names c (Node Kind.ClassDeclaration n span semantic_id (tree.more id (tree.more heritage (tree.more body tree.end)))) l f h =
    let free = both_empty (unless (is_new_name earlier id && false) n) (body_breaches names body) h in
    no_false (and_parts (is_new_name earlier id) false (unless_true (is_new_name earlier id && false) n free.0)).1
statement-read earlier names c (Node kind n span semantic_id ps) l f h = no_false h

statements-read : (earlier names : List String) (c : Context) (ps : Parts) → c.ledger ≡ [] → items_conform false Place.Statement ps ≡ true → no_numbers (statements_breaches earlier names ps) ≡ true → AreClasses (codes_in (read_items c ps))
statements-read earlier names c tree.end l f h = tt
statements-read earlier names c (tree.more (tree.child t) ps) l f h =
    let more_names : List String = class_names (tree.more (tree.child t) tree.end) ++ earlier in
    let fits = and_parts (conforms Place.Statement t) ((not (is_rest (tree.child t)) || is_end ps) && items_conform false Place.Statement ps) f in
    let rest = and_parts (not (is_rest (tree.child t)) || is_end ps) (items_conform false Place.Statement ps) fits.1 in
    let free = both_empty (statement_breaches earlier names (tree.child t)) (statements_breaches more_names names ps) h in
    (statement-read earlier names c t l fits.0 free.0, statements-read more_names names c ps l rest.1 free.1)
statements-read earlier names c (tree.more p ps) l f h = no_false f

-- ---- the program: a string and the list of its statements

data IsProgram : Code → Type 0 where
  classes_alone : (cs : Codes) → AreClasses cs → IsProgram (steps cs)

program-read : (c : Context) (t : Tree) → c.ledger ≡ [] → conforms Place.Program t ≡ true → no_numbers (breaches t) ≡ true → IsProgram (read c t)
program-read c (Node Kind.Program m span semantic_id (tree.more (tree.string s) (tree.more (tree.list all) tree.end))) l f h =
    let t : Tree = Node Kind.Program m span semantic_id (tree.more (tree.string s) (tree.more (tree.list all) tree.end)) in
    let word = and_parts (part_conforms false (Sort.Word Words.SourceType) (tree.string s)) (items_conform false Place.Statement all && true) f in
    let fits = and_parts (items_conform false Place.Statement all) true word.1 in
    let free = both_empty (unless (bytes_eq s (codes "script") && nat_le (nodes t) most_nodes) m) (statements_breaches [] (class_names all) all) h in
    classes_alone _ (rw (joined-done (codes_in (read_items _ all))) (statements-read [] (class_names all) _ all l fits.0 free.1))
program-read c (Node Kind.Program m span semantic_id (tree.more (tree.string s) (tree.more q tree.end))) l f h = no_false (and_parts (part_conforms false (Sort.Word Words.SourceType) (tree.string s)) false f).1
program-read c (Node Kind.Program m span semantic_id (tree.more p (tree.more q (tree.more r ps)))) l f h =
    let word = and_parts (part_conforms false (Sort.Word Words.SourceType) p) (part_conforms false (Sort.List Place.Statement) q && false) f in
    no_false (and_parts (part_conforms false (Sort.List Place.Statement) q) false word.1).1
program-read c (Node Kind.Program m span semantic_id (tree.more p tree.end)) l f h = no_false (and_parts (part_conforms false (Sort.Word Words.SourceType) p) false f).1
program-read c (Node kind m span semantic_id ps) l f h = no_false f

-- ---- no private member is declared

no_members-leaf : (names : List String) (v : Part) → is_plain_value names v ≡ true → members_of_all (preorder_of_part v) ≡ []
no_members-leaf names tree.absent h = refl
no_members-leaf names (tree.child (Node Kind.Literal m span semantic_id (tree.more (tree.literal v) tree.end))) h = refl
no_members-leaf names (tree.child (Node Kind.IdentifierReference m span semantic_id (tree.more (tree.string s) tree.end))) h = refl
no_members-leaf names p h = no_false h

no_members-key : (k : Part) → is_plain_key k ≡ true → members_of_all (preorder_of_part k) ≡ []
no_members-key (tree.child (Node Kind.IdentifierName m span semantic_id (tree.more (tree.string s) tree.end))) h = refl
no_members-key p h = no_false h

keyed-none : (n : ℕ) (k : Part) → is_plain_key k ≡ true → keyed_member n false a_field k ≡ []
keyed-none n (tree.child (Node Kind.IdentifierName m span semantic_id (tree.more (tree.string s) tree.end))) h = refl
keyed-none n p h = no_false h

pub members_of_all-append : (ts us : List Tree) → members_of_all (ts ++ us) ≡ members_of_all ts ++ members_of_all us
members_of_all-append [] us = refl
members_of_all-append (Node kind m span semantic_id ps ∷ ts) us = rw (members_of_all-append ts us, append_assoc) refl

none-append : (ts us : List Tree) → members_of_all ts ≡ [] → members_of_all us ≡ [] → members_of_all (ts ++ us) ≡ []
none-append ts us p q = rw (members_of_all-append ts us, p, q) refl

field-none : (names : List String) (n m : ℕ) (span : Option (ℕ × ℕ)) (semantic_id : Option ℕ) (ps : Parts) → is_plain_field names ps ≡ true → (element_members n (tree.child (Node Kind.PropertyDefinition m span semantic_id ps)) ≡ []) × (members_of_all (preorder_of ps) ≡ [])
field-none names n m span semantic_id (tree.more k (tree.more v (tree.more (tree.boolean false) (tree.more (tree.boolean false) tree.end)))) h =
    let plain = and_parts (is_plain_key k) (is_plain_value names v) h in
    (keyed-none n k plain.0, none-append (preorder_of_part k) (preorder_of_part v ++ []) (no_members-key k plain.0) (none-append (preorder_of_part v) [] (no_members-leaf names v plain.1) refl))
field-none names n m span semantic_id ps h = no_false h

element-none : (names : List String) (n : ℕ) (t : Tree) → no_numbers (element_breaches names (tree.child t)) ≡ true → (element_members n (tree.child t) ≡ []) × (members_of_all (preorder t) ≡ [])
element-none names n (Node Kind.PropertyDefinition m span semantic_id ps) h = field-none names n m span semantic_id ps (unless_true (is_plain_field names ps) m h)
element-none names n (Node kind m span semantic_id ps) h = no_false h

elements-none : (names : List String) (n : ℕ) (ps : Parts) → items_conform false Place.ClassElement ps ≡ true → no_numbers (elements_breaches names ps) ≡ true → (elements_members n ps ≡ []) × (members_of_all (preorder_of ps) ≡ [])
elements-none names n tree.end f h = (refl, refl)
elements-none names n (tree.more (tree.child t) ps) f h =
    let fits = and_parts (conforms Place.ClassElement t) ((not (is_rest (tree.child t)) || is_end ps) && items_conform false Place.ClassElement ps) f in
    let rest = and_parts (not (is_rest (tree.child t)) || is_end ps) (items_conform false Place.ClassElement ps) fits.1 in
    let free = both_empty (element_breaches names (tree.child t)) (elements_breaches names ps) h in
    let here = element-none names n t free.0 in
    let there = elements-none names n ps rest.1 free.1 in
    (rw (here.0, there.0) refl, none-append (preorder t) (preorder_of ps) here.1 there.1)
elements-none names n (tree.more p ps) f h = no_false f

body-none : (names : List String) (n : ℕ) (computed : Bool) (body : Part) → part_conforms computed (Sort.Child Place.ClassBody) body ≡ true → no_numbers (body_breaches names body) ≡ true → (body_members n body ≡ []) × (members_of_all (preorder_of_part body) ≡ [])
body-none names n computed (tree.child (Node Kind.ClassBody m span semantic_id (tree.more (tree.list es) tree.end))) f h =
    let fits = and_parts (items_conform false Place.ClassElement es) true f in
    let none = elements-none names n es fits.0 h in
    (none.0, none-append (preorder_of es) [] none.1 refl)
body-none names n computed (tree.child (Node Kind.ClassBody m span semantic_id tree.end)) f h = no_false f
body-none names n computed (tree.child (Node Kind.ClassBody m span semantic_id (tree.more p (tree.more q ps)))) f h = no_false (and_parts (part_conforms false (Sort.List Place.ClassElement) p) false f).1
body-none names n computed (tree.child (Node Kind.ClassBody m span semantic_id (tree.more p tree.end))) f h = no_false f
body-none names n computed (tree.child (Node kind m span semantic_id ps)) f h = no_false f
body-none names n computed p f h = no_false f

id-none : (earlier : List String) (id : Part) → is_new_name earlier id ≡ true → members_of_all (preorder_of_part id) ≡ []
id-none earlier (tree.child (Node Kind.BindingIdentifier m span semantic_id (tree.more (tree.string s) tree.end))) h = refl
id-none earlier p h = no_false h

statement-none : (earlier names : List String) (t : Tree) → conforms Place.Statement t ≡ true → no_numbers (statement_breaches earlier names (tree.child t)) ≡ true → members_of_all (preorder t) ≡ []
statement-none earlier names (Node Kind.ClassDeclaration n span semantic_id (tree.more id (tree.more tree.absent (tree.more body tree.end)))) f h =
    let computed : Bool = boolean_at (codes "computed") (members_of Kind.ClassDeclaration) (tree.more id (tree.more tree.absent (tree.more body tree.end))) in
    let fits = and_parts (part_conforms computed (Sort.Nullable Place.BindingIdentifier) id) (part_conforms computed (Sort.Child Place.ClassBody) body && true) f in
    let free = both_empty (unless (is_new_name earlier id && true) n) (body_breaches names body) h in
    let none = body-none names n computed body (and_parts (part_conforms computed (Sort.Child Place.ClassBody) body) true fits.1).0 free.1 in
    rw none.0 (none-append (preorder_of_part id) (preorder_of_part body ++ []) (id-none earlier id (and_parts (is_new_name earlier id) true (unless_true (is_new_name earlier id && true) n free.0)).0) (none-append (preorder_of_part body) [] none.1 refl))
statement-none earlier names (Node Kind.ClassDeclaration n span semantic_id (tree.more id (tree.more heritage (tree.more body tree.end)))) f h =
    let free = both_empty (unless (is_new_name earlier id && false) n) (body_breaches names body) h in
    no_false (and_parts (is_new_name earlier id) false (unless_true (is_new_name earlier id && false) n free.0)).1
statement-none earlier names (Node kind n span semantic_id ps) f h = no_false h

statements-none : (earlier names : List String) (ps : Parts) → items_conform false Place.Statement ps ≡ true → no_numbers (statements_breaches earlier names ps) ≡ true → members_of_all (preorder_of ps) ≡ []
statements-none earlier names tree.end f h = refl
statements-none earlier names (tree.more (tree.child t) ps) f h =
    let more_names : List String = class_names (tree.more (tree.child t) tree.end) ++ earlier in
    let fits = and_parts (conforms Place.Statement t) ((not (is_rest (tree.child t)) || is_end ps) && items_conform false Place.Statement ps) f in
    let rest = and_parts (not (is_rest (tree.child t)) || is_end ps) (items_conform false Place.Statement ps) fits.1 in
    let free = both_empty (statement_breaches earlier names (tree.child t)) (statements_breaches more_names names ps) h in
    none-append (preorder t) (preorder_of ps) (statement-none earlier names t fits.0 free.0) (statements-none more_names names ps rest.1 free.1)
statements-none earlier names (tree.more p ps) f h = no_false f

-- nor is anything exported
statement-exports : (earlier names : List String) (x : Context) (env : Environment) (t : Tree) → no_numbers (statement_breaches earlier names (tree.child t)) ≡ true → exports_of x env (tree.child t) ≡ []
statement-exports earlier names x env (Node Kind.ClassDeclaration n span semantic_id ps) h = refl
statement-exports earlier names x env (Node kind n span semantic_id ps) h = no_false h

statements-exports : (earlier names : List String) (x : Context) (env : Environment) (ps : Parts) → items_conform false Place.Statement ps ≡ true → no_numbers (statements_breaches earlier names ps) ≡ true → exports_in x env ps ≡ []
statements-exports earlier names x env tree.end f h = refl
statements-exports earlier names x env (tree.more (tree.child t) ps) f h =
    let more_names : List String = class_names (tree.more (tree.child t) tree.end) ++ earlier in
    let fits = and_parts (conforms Place.Statement t) ((not (is_rest (tree.child t)) || is_end ps) && items_conform false Place.Statement ps) f in
    let rest = and_parts (not (is_rest (tree.child t)) || is_end ps) (items_conform false Place.Statement ps) fits.1 in
    let free = both_empty (statement_breaches earlier names (tree.child t)) (statements_breaches more_names names ps) h in
    rw (statement-exports earlier names x env t free.0) (statements-exports more_names names x env ps rest.1 free.1)
statements-exports earlier names x env (tree.more p ps) f h = no_false f

-- what a program of the first form declares and exports
record HasNone (t : Tree) : Type 0 where
  members : private_members t ≡ []
  exports : (x : Context) (env : Environment) → exports_in x env (body_of t) ≡ []

program-none : (t : Tree) → conforms Place.Program t ≡ true → no_numbers (breaches t) ≡ true → HasNone t
program-none (Node Kind.Program m span semantic_id (tree.more (tree.string s) (tree.more (tree.list all) tree.end))) f h =
    let t : Tree = Node Kind.Program m span semantic_id (tree.more (tree.string s) (tree.more (tree.list all) tree.end)) in
    let words = and_parts (part_conforms false (Sort.Word Words.SourceType) (tree.string s)) (items_conform false Place.Statement all && true) f in
    let fits = and_parts (items_conform false Place.Statement all) true words.1 in
    let free = both_empty (unless (bytes_eq s (codes "script") && nat_le (nodes t) most_nodes) m) (statements_breaches [] (class_names all) all) h in
    record { members = none-append (preorder_of all) [] (statements-none [] (class_names all) all fits.0 free.1) refl; exports = λ x env. statements-exports [] (class_names all) x env all fits.0 free.1 }
program-none (Node Kind.Program m span semantic_id (tree.more (tree.string s) tree.end)) f h = no_false (and_parts (part_conforms false (Sort.Word Words.SourceType) (tree.string s)) false f).1
program-none (Node Kind.Program m span semantic_id (tree.more (tree.string s) (tree.more q (tree.more r ps)))) f h =
    let word = and_parts (part_conforms false (Sort.Word Words.SourceType) (tree.string s)) (part_conforms false (Sort.List Place.Statement) q && false) f in
    no_false (and_parts (part_conforms false (Sort.List Place.Statement) q) false word.1).1
program-none (Node Kind.Program m span semantic_id (tree.more (tree.string s) (tree.more q tree.end))) f h =
    let word = and_parts (part_conforms false (Sort.Word Words.SourceType) (tree.string s)) (part_conforms false (Sort.List Place.Statement) q && true) f in
    no_false (and_parts (part_conforms false (Sort.List Place.Statement) q) true word.1).0
program-none (Node Kind.Program m span semantic_id (tree.more p ps)) f h = no_false f
program-none (Node Kind.Program m span semantic_id tree.end) f h = no_false f
program-none (Node kind m span semantic_id ps) f h = no_false f

-- ---- the law

with_all-there : (o : Terms) (t : Tree) (d : List (ℕ × ℕ)) (l : Option Listed) (es : Option (List (ℕ × Entry))) (ms : Option (List (ℕ × MemberEntry))) (xs : Option (List (String × Exported))) → IsSome l → IsSome es → ms ≡ Some [] → xs ≡ Some [] → has_meaning (with_all o t d l es ms xs) ≡ true
with_all-there o t d None es ms xs h k p q = absurd (true≢false (sym h))
with_all-there o t d (Some l) None ms xs h k p q = absurd (true≢false (sym k))
with_all-there o t d (Some l) (Some es) ms xs h k p q = rw (p, q) refl

program-means : (o : Terms) (t : Tree) (c : Code) → o.members ≡ [] → ((x : Context) (env : Environment) → exports_in x env (body_of t) ≡ []) → IsProgram c → has_meaning (means_of o t c) ≡ true
program-means o t c members exports (classes_alone cs h) =
    let opens : Opened → Evaluation = opening (definitions (steps cs)) in
    with_all-there o t _ _ _ _ _ (classes-run opens o.first_new o.late cs h) (all-there opens o.first_new o.late [] cs h) (ap (member_entries (private_functions (steps cs))) members) (ap all_exports (exports (in_body (start o t) t) (after_run [] (ev opens (steps cs) []))))

-- a program of the first form has a meaning, under all options
pub first_form_law : FirstFormLaw
first_form_law o t foreign f h =
    let free = both_empty (breaches t) foreign h in
    let none = program-none t f free.0 in
    program-means (source_terms o t) t (read (start (source_terms o t) t) t) none.members none.exports (program-read (start (source_terms o t) t) t refl f free.0)
