-- A program of the first form has no shape, under any options.
use Rattle.std.specs.Prelude.{◌≡◌, ℕ, List, [], ◌∷◌, ◌++◌, Bool, true, false, cond, not, ◌&&◌, ◌||◌, Option}
use Rattle.std.proofs.Common.{refl}
use Rattle.std.proofs.Math.Bool.{and-false}
use Rattle.std.proofs.lemmas.List.{append-nil}
use Rattle.es_base.specs.Conforms.{conforms}
use Rattle.es_base.specs.Preorder.{preorder, preorder_of}
use Rattle.es_base.specs.Tree.{Tree, Part, Parts, Node, end, more, child, absent, list, string}
use Rattle.es_base.specs.declared.kind.Kind.{Kind}
use Rattle.es_base.specs.declared.shape.Shape.{Shape}
use Rattle.es_base.specs.declared.table.Place.{Place}
use Rattle.es_left.proofs.Booleans.{none_of}
use Rattle.es_steps.specs.FirstForm.{is_first_form}
use Rattle.es_steps.specs.LoweredClasses.{elements_in, any_element, is_lowered_class, constructor_function}
use Rattle.es_steps.specs.Options.{lowers_fields, lowers_blocks}
use Rattle.es_steps.specs.Parts.{at}
use Rattle.es_steps.specs.PrivateNames.{PrivateMember, elements_members}
use Rattle.es_steps.specs.References.{Reference, item_references, resolve, written, changed_otherwise, varying}
use Rattle.es_steps.specs.Scopes.{Declaration, body_names}
use Rattle.es_steps.specs.Quiet.{Around, nothing_around, id_number, inside}
use Rattle.es_steps.specs.Shapes.{ClassAt, class_at, lowered_classes, any_class, moves_heritage, moves_heritage_of, has_shape_1, initializes_instances, is_late_class, has_shape_2, keeps_block, has_shape_3, reads_twice, reads_twice_of, is_changing_key, has_changing_key, has_shape_4, has_unwritable, unwritable_items, has_shape_5, class_names, refers_to, writes_any, has_shape_6, named_in_keys, names_stand_at, suspended_names, has_shape_7, private_behind_part, private_chains, has_shape_8, if_has, shapes_of, shapes}
use Rattle.es_steps.specs.declared.options.Options.{Options}
use Rattle.class_properties.proofs.Declared.{two_ends}
use Rattle.class_properties.proofs.Shaped.{no_value, a_literal, a_reference, a_key, a_field, AreFields, a_body, a_name, a_class, AreClasses, IsProgram, a_program, first_form-shaped}

-- ---- the classes that are lowered

data IsPlainAt : ClassAt → Type 0 where
  plain_at : (n j : ℕ) (span : Option (ℕ × ℕ)) (semantic_id : Option ℕ) (id : Part) (es : Parts) → AreFields es → IsPlainAt (class_at Kind.ClassDeclaration n (more id (more absent (more (child (Node Kind.ClassBody j span semantic_id (more (list es) end))) end))))

abbrev ArePlainAt : List ClassAt → Type 0
ArePlainAt [] = Unit
ArePlainAt (k ∷ ks) = IsPlainAt k × ArePlainAt ks

plain-append : (ks ls : List ClassAt) → ArePlainAt ks → ArePlainAt ls → ArePlainAt (ks ++ ls)
plain-append [] ls h i = i
plain-append (k ∷ ks) ls h i = (h.0, plain-append ks ls h.1 i)

lowered-append : (o : Options) (ts us : List Tree) → ArePlainAt (lowered_classes o ts) → ArePlainAt (lowered_classes o us) → ArePlainAt (lowered_classes o (ts ++ us))
lowered-append o [] us h i = i
lowered-append o (Node kind n span semantic_id ps ∷ ts) us h i = either (is_lowered_class o kind ps) h (lowered-append o ts us)
  where
    either : (b : Bool) → ArePlainAt (cond b (class_at kind n ps ∷ []) [] ++ lowered_classes o ts) → (ArePlainAt (lowered_classes o ts) → ArePlainAt (lowered_classes o us) → ArePlainAt (lowered_classes o (ts ++ us))) → ArePlainAt (cond b (class_at kind n ps ∷ []) [] ++ lowered_classes o (ts ++ us))
    either true j f = (j.0, f j.1 i)
    either false j f = f j i

fields-lowered : (o : Options) (es : Parts) → AreFields es → ArePlainAt (lowered_classes o (preorder_of es))
fields-lowered o end h = tt
fields-lowered o (more p es) (a_field m span semantic_id key v (a_key i ispan i_semantic_id s) no_value, h) = fields-lowered o es h
fields-lowered o (more p es) (a_field m span semantic_id key v (a_key i ispan i_semantic_id s) (a_literal l lspan l_semantic_id w fine), h) = fields-lowered o es h
fields-lowered o (more p es) (a_field m span semantic_id key v (a_key i ispan i_semantic_id s) (a_reference r rspan r_semantic_id x), h) = fields-lowered o es h

with-class : (b : Bool) (k : ClassAt) (ks : List ClassAt) → IsPlainAt k → ArePlainAt ks → ArePlainAt (cond b (k ∷ []) [] ++ ks)
with-class true k ks h i = (h, i)
with-class false k ks h i = i

classes-lowered : (o : Options) (ps : Parts) → AreClasses ps → ArePlainAt (lowered_classes o (preorder_of ps))
classes-lowered o end h = tt
classes-lowered o (more p ps) (a_class n span semantic_id id body (a_name i ispan i_semantic_id s free) (a_body j bspan b_semantic_id es he), h) =
    with-class (is_lowered_class o Kind.ClassDeclaration (more id (more absent (more body end)))) (class_at Kind.ClassDeclaration n (more id (more absent (more body end)))) (lowered_classes o (preorder_of es ++ [] ++ [] ++ preorder_of ps)) (plain_at n j bspan b_semantic_id id es he)
    (rw (two_ends (preorder_of es) (preorder_of ps)) (lowered-append o (preorder_of es) (preorder_of ps) (fields-lowered o es he) (classes-lowered o ps h)))

no_class : (test : ClassAt → Bool) → ((k : ClassAt) → IsPlainAt k → test k ≡ false) → (ks : List ClassAt) → ArePlainAt ks → any_class test ks ≡ false
no_class test each [] h = refl
no_class test each (k ∷ ks) h = rw (each k h.0) (no_class test each ks h.1)

-- ---- what their elements are

no_blocks : (es : Parts) → AreFields es → any_element (λ e. e.is_block) (elements_in es) ≡ false
no_blocks end h = refl
no_blocks (more p es) (a_field m span semantic_id key v hk hv, h) = no_blocks es h

no_constructor : (es : Parts) → AreFields es → constructor_function es ≡ absent
no_constructor end h = refl
no_constructor (more p es) (a_field m span semantic_id key v hk hv, h) = no_constructor es h

no_keys : (names : List ℕ) (rs : List Reference) (es : Parts) → AreFields es → named_in_keys names rs (elements_in es) ≡ false
no_keys names rs end h = refl
no_keys names rs (more p es) (a_field m span semantic_id key v hk hv, h) = no_keys names rs es h

no_changing : (is_behind : Bool) (is : List ℕ) (rs : List Reference) (es : Parts) → AreFields es → any_element (is_changing_key is_behind is rs) (elements_in es) ≡ false
no_changing is_behind is rs end h = refl
no_changing is_behind is rs (more p es) (a_field m span semantic_id key v hk hv, h) = no_changing is_behind is rs es h

-- ---- shapes by classes

changing-none : (o : Options) (ws is : List ℕ) (rs : List Reference) (k : ClassAt) → IsPlainAt k → has_changing_key o ws is rs k ≡ false
changing-none o ws is rs k (plain_at n j span semantic_id id es h) = no_changing _ is rs es h

late-none : (k : ClassAt) → IsPlainAt k → is_late_class k ≡ false
late-none k (plain_at n j span semantic_id id es h) = rw (no_constructor es h) (and-false (any_element initializes_instances (elements_in es)))

block-none : (k : ClassAt) → IsPlainAt k → keeps_block k ≡ false
block-none k (plain_at n j span semantic_id id es h) = rw (no_blocks es h) refl

names-none : (rs : List Reference) (k : ClassAt) → IsPlainAt k → (names_stand_at (id_number k.id) rs k.heritage || named_in_keys (id_number k.id) rs k.elements) ≡ false
names-none rs k (plain_at n j span semantic_id id es h) = no_keys (id_number id) rs es h

-- ---- shapes by nodes

or_none : (a b : Bool) → a ≡ false → b ≡ false → (a || b) ≡ false
or_none a b h i = rw (h, i) refl

-- what the nodes of these parts by themselves have none of
record AreQuiet (ps : Parts) : Type 0 where
  twice : (o : Options) (ws : List ℕ) (rs : List Reference) (moved : Bool) → reads_twice_of o ws rs moved ps ≡ false
  writes : (names : List ℕ) (ds : List Declaration) → writes_any names (item_references ds false ps) ≡ false
  unwritable : (seen : List PrivateMember) → unwritable_items seen ps ≡ false
  heritages : (o : Options) (program : Tree) (a : Around) → moves_heritage_of o program a ps ≡ false

quiet-end : AreQuiet end
quiet-end = record { twice = λ o ws rs moved. refl; writes = λ names ds. refl; unwritable = λ seen. refl; heritages = λ o program a. refl }

fields-quiet : (es : Parts) → AreFields es → AreQuiet es
fields-quiet end h = quiet-end
fields-quiet (more p es) (a_field m span semantic_id key v (a_key i ispan i_semantic_id s) no_value, h) = let q : AreQuiet es = fields-quiet es h in record { twice = q.twice; writes = q.writes; unwritable = q.unwritable; heritages = q.heritages }
fields-quiet (more p es) (a_field m span semantic_id key v (a_key i ispan i_semantic_id s) (a_literal l lspan l_semantic_id w fine), h) = let q : AreQuiet es = fields-quiet es h in record { twice = q.twice; writes = q.writes; unwritable = q.unwritable; heritages = q.heritages }
fields-quiet (more p es) (a_field m span semantic_id key v (a_key i ispan i_semantic_id s) (a_reference r rspan r_semantic_id x), h) = let q : AreQuiet es = fields-quiet es h in record { twice = q.twice; writes = q.writes; unwritable = q.unwritable; heritages = q.heritages }

writes-append : (names : List ℕ) (rs qs : List Reference) → writes_any names rs ≡ false → writes_any names qs ≡ false → writes_any names (rs ++ qs) ≡ false
writes-append names [] qs h i = i
writes-append names (r ∷ rs) qs h i =
    let parts = none_of (r.writes && refers_to names r.to) (writes_any names rs) h in
    or_none (r.writes && refers_to names r.to) (writes_any names (rs ++ qs)) parts.0 (writes-append names rs qs parts.1 i)

classes-quiet : (ps : Parts) → AreClasses ps → AreQuiet ps
classes-quiet end h = quiet-end
classes-quiet (more p ps) (a_class n span semantic_id id body (a_name i ispan i_semantic_id s free) (a_body j bspan b_semantic_id es he), h) =
    let here : AreQuiet es = fields-quiet es he in
    let there : AreQuiet ps = classes-quiet ps h in record {
      twice = λ o ws rs moved. rw (here.twice o ws rs moved, there.twice o ws rs moved) refl;
      writes = λ names ds. rw (two_ends (item_references ds false es) (item_references ds false ps)) (writes-append names (item_references ds false es) (item_references ds false ps) (here.writes names ds) (there.writes names ds));
      unwritable = λ seen. rw (here.unwritable (elements_members n es ++ seen), there.unwritable seen) refl;
      heritages = λ o program a. rw (and-false (is_lowered_class o Kind.ClassDeclaration (more id (more absent (more body end)))), here.heritages o program (inside (inside a Kind.ClassDeclaration (more id (more absent (more body end))) 2) Kind.ClassBody (more (list es) end) 0), there.heritages o program a) refl;
    }

-- and of the nodes of a program
record IsQuiet (t : Tree) : Type 0 where
  twice : (o : Options) (ws : List ℕ) (rs : List Reference) → reads_twice o ws rs false false t ≡ false
  writes : (names : List ℕ) → writes_any names (resolve t) ≡ false
  unwritable : has_unwritable [] t ≡ false
  heritages : (o : Options) (program : Tree) → moves_heritage o program nothing_around t ≡ false

program-quiet : (t : Tree) → IsProgram t → IsQuiet t
program-quiet t (a_program m span semantic_id s all h) =
    let q : AreQuiet all = classes-quiet all h in record {
      twice = λ o ws rs. rw (q.twice o ws rs false) refl;
      writes = λ names. rw (append-nil (item_references (body_names all ++ []) false all)) (q.writes names (body_names all ++ []));
      unwritable = rw (q.unwritable []) refl;
      heritages = λ o program. rw (q.heritages o program (inside nothing_around Kind.Program (more (string s) (more (list all) end)) 1)) refl;
    }

-- ---- no chain

chains-append : (ts us : List Tree) → private_chains ts ≡ false → private_chains us ≡ false → private_chains (ts ++ us) ≡ false
chains-append [] us h i = i
chains-append (Node Kind.ChainExpression m span semantic_id ps ∷ ts) us h i =
    let parts = none_of (private_behind_part false (at 0 ps)) (private_chains ts) h in
    or_none (private_behind_part false (at 0 ps)) (private_chains (ts ++ us)) parts.0 (chains-append ts us parts.1 i)
chains-append (Node kind m span semantic_id ps ∷ ts) us h i = chains-append ts us h i

fields-no_chain : (es : Parts) → AreFields es → private_chains (preorder_of es) ≡ false
fields-no_chain end h = refl
fields-no_chain (more p es) (a_field m span semantic_id key v (a_key i ispan i_semantic_id s) no_value, h) = fields-no_chain es h
fields-no_chain (more p es) (a_field m span semantic_id key v (a_key i ispan i_semantic_id s) (a_literal l lspan l_semantic_id w fine), h) = fields-no_chain es h
fields-no_chain (more p es) (a_field m span semantic_id key v (a_key i ispan i_semantic_id s) (a_reference r rspan r_semantic_id x), h) = fields-no_chain es h

classes-no_chain : (ps : Parts) → AreClasses ps → private_chains (preorder_of ps) ≡ false
classes-no_chain end h = refl
classes-no_chain (more p ps) (a_class n span semantic_id id body (a_name i ispan i_semantic_id s free) (a_body j bspan b_semantic_id es he), h) =
    rw (two_ends (preorder_of es) (preorder_of ps)) (chains-append (preorder_of es) (preorder_of ps) (fields-no_chain es he) (classes-no_chain ps h))

program-no_chain : (t : Tree) → IsProgram t → private_chains (preorder t) ≡ false
program-no_chain t (a_program m span semantic_id s all h) = rw (append-nil (preorder_of all)) (classes-no_chain all h)

program-plain : (o : Options) (t : Tree) → IsProgram t → ArePlainAt (lowered_classes o (preorder t))
program-plain o t (a_program m span semantic_id s all h) = rw (append-nil (preorder_of all)) (classes-lowered o all h)

-- ---- programs

no_shapes : (a b c d e f g h : Bool) → a ≡ false → b ≡ false → c ≡ false → d ≡ false → e ≡ false → f ≡ false → g ≡ false → h ≡ false
    → if_has a Shape.S1 (if_has b Shape.S2 (if_has c Shape.S3 (if_has d Shape.S4 (if_has e Shape.S5 (if_has f Shape.S6 (if_has g Shape.S7 (if_has h Shape.S8 []))))))) ≡ []
no_shapes a b c d e f g h one two three four five six seven eight = rw (one, two, three, four, five, six, seven, eight) refl

program-shapes : (o : Options) (t : Tree) → IsProgram t → shapes_of o t (lowered_classes o (preorder t)) ≡ []
program-shapes o t p =
    let ks : List ClassAt = lowered_classes o (preorder t) in
    let plain : ArePlainAt ks = program-plain o t p in
    let q : IsQuiet t = program-quiet t p in
    let named : has_shape_7 t ks ≡ false = no_class (λ k. names_stand_at (id_number k.id) (resolve t) k.heritage || named_in_keys (id_number k.id) (resolve t) k.elements) (names-none (resolve t)) ks plain in
    no_shapes (has_shape_1 o t) (has_shape_2 o ks) (has_shape_3 o ks) (has_shape_4 o t ks) (has_shape_5 o t) (has_shape_6 o t ks) (has_shape_7 t ks) (has_shape_8 o t)
    (rw (q.heritages o t) (and-false (lowers_fields o)))
    (rw (no_class is_late_class late-none ks plain) (and-false (lowers_fields o)))
    (rw (no_class keeps_block block-none ks plain, and-false (not (lowers_blocks o))) (and-false (lowers_fields o)))
    (rw (q.twice o (varying t) (resolve t), no_class (has_changing_key o (written t) (changed_otherwise t) (resolve t)) (changing-none o (written t) (changed_otherwise t) (resolve t)) ks plain) (and-false (lowers_fields o)))
    (rw q.unwritable (and-false (lowers_fields o)))
    (q.writes (class_names ks ++ suspended_names o (preorder t)))
    named
    (rw (program-no_chain t p) (and-false (lowers_fields o)))

pub first_form-shapes : (o : Options) (t : Tree) → conforms Place.Program t ≡ true → is_first_form t [] ≡ true → shapes o t ≡ []
first_form-shapes o t f h = program-shapes o t (first_form-shaped t [] f h)
