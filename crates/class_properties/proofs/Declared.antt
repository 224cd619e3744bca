-- A program of the first form and what it is lowered to declare the same, and nothing of them is written.
use Rattle.std.specs.Prelude.{◌≡◌, ℕ, ◌+◌, List, [], ◌∷◌, ◌++◌, Bool, true, false, cond, ◌||◌, ◌&&◌, nat_le, codes, Option}
use Rattle.std.proofs.Common.{refl, sym, ap, ap₂, ◌∙◌, append_assoc, ◌≤◌, arith}
use Rattle.std.proofs.lemmas.Bool.{le-leb}
use Rattle.std.proofs.lemmas.List.{append-nil}
use Rattle.es_base.specs.Preorder.{preorder, preorder_of}
use Rattle.es_base.specs.Conforms.{is_among}
use Rattle.es_base.specs.declared.kind.Kind.{Kind}
use Rattle.es_base.specs.Tree.{Tree, Parts, end, more, trees, Node, child, absent, string, list}
use Rattle.es_steps.proofs.FirstMeaning.{members_of_all-append}
use Rattle.es_steps.specs.Context.{Context}
use Rattle.es_steps.specs.Evaluation.{Environment}
use Rattle.es_steps.specs.Meaning.{DeclarationKind, ClassDeclared, declared_as, declaring, declaring_items, declared_function, declared_functions, body_of, globals}
use Rattle.es_steps.specs.Modules.{links_in, exports_in}
use Rattle.es_steps.specs.PrivateNames.{private_members, members_of_all, elements_members}
use Rattle.es_lowered.specs.KeptReferences.{writing_numbers}
use Rattle.es_steps.specs.References.{Reference, if_bound, is_free, assigned, item_references, resolve, written_by, written_by_all, written, changing_by, changing_in, varying, writes_free, caught_again, caught_again_in, given_of, changed_otherwise, inner_functions, function_names, gives_inside, changes_free}
use Rattle.es_steps.specs.Branches.{names_inside, around_branches, around_branches_of}
use Rattle.es_steps.specs.Repeated.{Surroundings, places_of, all_places}
use Rattle.es_steps.specs.Shared.{shared, shared_of}
use Rattle.es_steps.specs.Scopes.{Declaration, lexical_part, lexical_items, var_part, body_names}
use Rattle.es_steps.specs.Values.{String}
use Rattle.class_properties.proofs.Numbered.{definitions_from, lowered_elements, statement_size, lowered_statements, lowered_from}
use Rattle.es_unchanged.proofs.Standing.{still_new}
use Rattle.class_properties.proofs.Shaped.{no_value, a_literal, a_reference, a_key, a_field, AreFields, a_body, a_name, a_class, AreClasses, IsProgram, a_program}

-- ---- names: none in a constructor

pub lexical-definitions : (es : Parts) → AreFields es → (k : ℕ) → lexical_items (trees (definitions_from k es)) ≡ []
lexical-definitions end h k = refl
lexical-definitions (more p es) (a_field m span semantic_id key v hk hv, h) k = lexical-definitions es h _

pub names-definitions : (es : Parts) → AreFields es → (k : ℕ) → body_names (trees (definitions_from k es)) ≡ []
names-definitions end h k = refl
names-definitions (more p es) (a_field m span semantic_id key v hk hv, h) k = names-definitions es h _

pub names-lowered : (ps : Parts) → AreClasses ps → (k : ℕ) → body_names (lowered_statements k ps) ≡ body_names ps
names-lowered end h k = refl
names-lowered (more p ps) (a_class n span semantic_id id body hid hbody, h) k = ap (λ (ds : List Declaration). (lexical_part p ++ var_part p) ++ ds) (names-lowered ps h _)

-- ---- appended lists

assigned-append : (xs ys : List Reference) → assigned (xs ++ ys) ≡ assigned xs ++ assigned ys
assigned-append [] ys = refl
assigned-append (x ∷ xs) ys = rw (assigned-append xs ys) (sym (append_assoc (if_bound x.writes x.to) (assigned xs) (assigned ys)))

writing-append : (xs ys : List Reference) → writing_numbers (xs ++ ys) ≡ writing_numbers xs ++ writing_numbers ys
writing-append [] ys = refl
writing-append (x ∷ xs) ys = rw (writing-append xs ys) (sym (append_assoc (cond x.writes (x.number ∷ []) []) (writing_numbers xs) (writing_numbers ys)))

or-assoc : (a b c : Bool) → a || (b || c) ≡ (a || b) || c
or-assoc true b c = refl
or-assoc false b c = refl

writes_free-append : (s : String) (xs ys : List Reference) → writes_free s (xs ++ ys) ≡ (writes_free s xs || writes_free s ys)
writes_free-append s [] ys = refl
writes_free-append s (x ∷ xs) ys = rw (writes_free-append s xs ys) (or-assoc (x.writes && is_free s x.to) (writes_free s xs) (writes_free s ys))

written_by_all-append : (xs ys : List Tree) → written_by_all (xs ++ ys) ≡ written_by_all xs ++ written_by_all ys
written_by_all-append [] ys = refl
written_by_all-append (x ∷ xs) ys = rw (written_by_all-append xs ys) (sym (append_assoc (written_by x) (written_by_all xs) (written_by_all ys)))

changing_in-append : (xs ys : List Tree) → changing_in (xs ++ ys) ≡ changing_in xs ++ changing_in ys
changing_in-append [] ys = refl
changing_in-append (x ∷ xs) ys = rw (changing_in-append xs ys) (sym (append_assoc (changing_by x) (changing_in xs) (changing_in ys)))

declared_functions-append : (xs ys : List Tree) → declared_functions [] (xs ++ ys) ≡ declared_functions [] xs ++ declared_functions [] ys
declared_functions-append [] ys = refl
declared_functions-append (x ∷ xs) ys = rw (declared_functions-append xs ys) (sym (append_assoc (declared_function [] x) (declared_functions [] xs) (declared_functions [] ys)))

-- what ends the lists of the nodes around the statements of a constructor, and around the elements of a class
pub four_ends : {A : Type 0} (xs : List A) → xs ++ [] ++ [] ++ [] ++ [] ≡ xs
four_ends [] = refl
four_ends (x ∷ xs) = ap (λ zs. x ∷ zs) (four_ends xs)

pub two_ends : {A : Type 0} (xs ys : List A) → xs ++ [] ++ [] ++ ys ≡ xs ++ ys
two_ends [] ys = refl
two_ends (x ∷ xs) ys = ap (λ zs. x ∷ zs) (two_ends xs ys)

-- ---- in these lists nothing is written or changes by itself, and no function and no private member is declared

caught_again_in-append : (xs ys : List Tree) → caught_again_in (xs ++ ys) ≡ caught_again_in xs ++ caught_again_in ys
caught_again_in-append [] ys = refl
caught_again_in-append (x ∷ xs) ys = rw (caught_again_in-append xs ys) (sym (append_assoc (caught_again x) (caught_again_in xs) (caught_again_in ys)))

gives_inside-append : (s : String) (xs ys : List Tree) → gives_inside s (xs ++ ys) ≡ (gives_inside s xs || gives_inside s ys)
gives_inside-append s [] ys = refl
gives_inside-append s (Node kind m span semantic_id ps ∷ xs) ys = rw (gives_inside-append s xs ys) (or-assoc (is_among s (inner_functions false kind ps)) (gives_inside s xs) (gives_inside s ys))

-- the statements that define fields are no functions
function-definitions : (es : Parts) → AreFields es → (k : ℕ) → function_names (trees (definitions_from k es)) ≡ []
function-definitions end h k = refl
function-definitions (more p es) (a_field m span semantic_id key v hk no_value, h) k = function-definitions es h (k + 9)
function-definitions (more p es) (a_field m span semantic_id key v hk (a_literal l lspan l_semantic_id w fine), h) k = function-definitions es h (k + 7)
function-definitions (more p es) (a_field m span semantic_id key v hk (a_reference r rspan r_semantic_id x), h) k = function-definitions es h (k + 7)

-- what is empty, with nothing behind
one-none : {xs : List ℕ} → xs ≡ [] → xs ++ [] ≡ []
one-none e = rw e refl

three-none : {xs ys zs : List ℕ} → xs ≡ [] → ys ≡ [] → zs ≡ [] → xs ++ (ys ++ zs) ≡ []
three-none e f g = rw (e, f, g) refl

four-none : {xs : List ℕ} → xs ≡ [] → (((xs ++ []) ++ []) ++ []) ++ [] ≡ []
four-none e = rw e refl

two-none : {xs ys : List ℕ} → xs ≡ [] → ys ≡ [] → ((xs ++ []) ++ []) ++ ys ≡ []
two-none e f = rw (e, f) refl

pub record Unwritten (ps : Parts) : Type 0 where
  pub assigned : (names : List Declaration) → assigned (item_references names false ps) ≡ []
  pub writing : (names : List Declaration) → writing_numbers (item_references names false ps) ≡ []
  pub free : (names : List Declaration) → writes_free (codes "arguments") (item_references names false ps) ≡ false
  pub repeated : written_by_all (preorder_of ps) ≡ []
  pub changing : changing_in (preorder_of ps) ≡ []
  pub caught : caught_again_in (preorder_of ps) ≡ []
  pub given : (names uncaught : List Declaration) → given_of names uncaught ps ≡ []
  pub inside : (s : String) → gives_inside s (preorder_of ps) ≡ false
  pub functions : declared_functions [] (preorder_of ps) ≡ []
  pub members : members_of_all (preorder_of ps) ≡ []

unwritten-end : Unwritten end
unwritten-end = record { assigned = λ names. refl; writing = λ names. refl; free = λ names. refl; repeated = refl; changing = refl; caught = refl; given = λ names uncaught. refl; inside = λ s. refl; functions = refl; members = refl }

fields-unwritten : (es : Parts) → AreFields es → Unwritten es
fields-unwritten end h = unwritten-end
fields-unwritten (more p es) (a_field m span semantic_id key v (a_key i ispan i_semantic_id s) no_value, h) = let u : Unwritten es = fields-unwritten es h in record { assigned = u.assigned; writing = u.writing; free = u.free; repeated = u.repeated; changing = u.changing; caught = u.caught; given = u.given; inside = u.inside; functions = u.functions; members = u.members }
fields-unwritten (more p es) (a_field m span semantic_id key v (a_key i ispan i_semantic_id s) (a_literal l lspan l_semantic_id w fine), h) = let u : Unwritten es = fields-unwritten es h in record { assigned = u.assigned; writing = u.writing; free = u.free; repeated = u.repeated; changing = u.changing; caught = u.caught; given = u.given; inside = u.inside; functions = u.functions; members = u.members }
fields-unwritten (more p es) (a_field m span semantic_id key v (a_key i ispan i_semantic_id s) (a_reference r rspan r_semantic_id x), h) = let u : Unwritten es = fields-unwritten es h in record { assigned = u.assigned; writing = u.writing; free = u.free; repeated = u.repeated; changing = u.changing; caught = u.caught; given = u.given; inside = u.inside; functions = u.functions; members = u.members }

definitions-unwritten : (es : Parts) → AreFields es → (k : ℕ) → Unwritten (trees (definitions_from k es))
definitions-unwritten end h k = unwritten-end
definitions-unwritten (more p es) (a_field m span semantic_id key v hk no_value, h) k = let u : Unwritten (trees (definitions_from (k + 9) es)) = definitions-unwritten es h (k + 9) in record { assigned = u.assigned; writing = u.writing; free = u.free; repeated = u.repeated; changing = u.changing; caught = u.caught; given = u.given; inside = u.inside; functions = u.functions; members = u.members }
definitions-unwritten (more p es) (a_field m span semantic_id key v hk (a_literal l lspan l_semantic_id w fine), h) k = let u : Unwritten (trees (definitions_from (k + 7) es)) = definitions-unwritten es h (k + 7) in record { assigned = u.assigned; writing = u.writing; free = u.free; repeated = u.repeated; changing = u.changing; caught = u.caught; given = u.given; inside = u.inside; functions = u.functions; members = u.members }
definitions-unwritten (more p es) (a_field m span semantic_id key v hk (a_reference r rspan r_semantic_id x), h) k = let u : Unwritten (trees (definitions_from (k + 7) es)) = definitions-unwritten es h (k + 7) in record { assigned = u.assigned; writing = u.writing; free = u.free; repeated = u.repeated; changing = u.changing; caught = u.caught; given = u.given; inside = u.inside; functions = u.functions; members = u.members }

elements-unwritten : (es : Parts) → AreFields es → (k : ℕ) → Unwritten (lowered_elements k es)
elements-unwritten end h k = unwritten-end
elements-unwritten (more p es) h k =
    let ts : Parts = trees (definitions_from (k + 4) (more p es)) in
    let u : Unwritten ts = definitions-unwritten (more p es) h (k + 4) in record {
      assigned = λ names. rw (names-definitions (more p es) h (k + 4), four_ends (item_references names false ts)) (u.assigned names);
      writing = λ names. rw (names-definitions (more p es) h (k + 4), four_ends (item_references names false ts)) (u.writing names);
      free = λ names. rw (names-definitions (more p es) h (k + 4), four_ends (item_references names false ts)) (u.free names);
      repeated = rw (names-definitions (more p es) h (k + 4), lexical-definitions (more p es) h (k + 4), four_ends (preorder_of ts)) u.repeated;
      changing = rw (four_ends (preorder_of ts)) u.changing;
      caught = rw (four_ends (preorder_of ts)) u.caught;
      given = λ names uncaught. four-none (u.given _ _);
      inside = λ s. rw (function-definitions (more p es) h (k + 4), four_ends (preorder_of ts)) (u.inside s);
      functions = rw (four_ends (preorder_of ts)) u.functions;
      members = rw (four_ends (preorder_of ts)) u.members;
    }

-- the elements declare no private member of their class
pub fields-no_members : (n : ℕ) (es : Parts) → AreFields es → elements_members n es ≡ []
fields-no_members n end h = refl
fields-no_members n (more p es) (a_field m span semantic_id key v (a_key i ispan i_semantic_id s) hv, h) = fields-no_members n es h

pub lowered-no_members : (n k : ℕ) (es : Parts) → elements_members n (lowered_elements k es) ≡ []
lowered-no_members n k end = refl
lowered-no_members n k (more p es) = refl

-- a class with these elements in front of these classes
record ClassUnwritten (n : ℕ) (es ps : Parts) : Type 0 where
  assigned : (names : List Declaration) → assigned (item_references names false es ++ [] ++ [] ++ item_references names false ps) ≡ []
  writing : (names : List Declaration) → writing_numbers (item_references names false es ++ [] ++ [] ++ item_references names false ps) ≡ []
  free : (names : List Declaration) → writes_free (codes "arguments") (item_references names false es ++ [] ++ [] ++ item_references names false ps) ≡ false
  repeated : written_by_all (preorder_of es ++ [] ++ [] ++ preorder_of ps) ≡ []
  changing : changing_in (preorder_of es ++ [] ++ [] ++ preorder_of ps) ≡ []
  caught : caught_again_in (preorder_of es ++ [] ++ [] ++ preorder_of ps) ≡ []
  inside : (s : String) → gives_inside s (preorder_of es ++ [] ++ [] ++ preorder_of ps) ≡ false
  functions : declared_functions [] (preorder_of es ++ [] ++ [] ++ preorder_of ps) ≡ []
  members : elements_members n es ++ members_of_all (preorder_of es ++ [] ++ [] ++ preorder_of ps) ≡ []

class-unwritten : (n : ℕ) (es ps : Parts) → Unwritten es → Unwritten ps → elements_members n es ≡ [] → ClassUnwritten n es ps
class-unwritten n es ps a b none =
    let xs : List Tree = preorder_of es in
    let ys : List Tree = preorder_of ps in record {
      assigned = λ names. rw (two_ends (item_references names false es) (item_references names false ps), assigned-append (item_references names false es) (item_references names false ps), a.assigned names) (b.assigned names);
      writing = λ names. rw (two_ends (item_references names false es) (item_references names false ps), writing-append (item_references names false es) (item_references names false ps), a.writing names) (b.writing names);
      free = λ names. rw (two_ends (item_references names false es) (item_references names false ps), writes_free-append (codes "arguments") (item_references names false es) (item_references names false ps), a.free names) (b.free names);
      repeated = rw (two_ends xs ys, written_by_all-append xs ys, a.repeated) b.repeated;
      changing = rw (two_ends xs ys, changing_in-append xs ys, a.changing) b.changing;
      caught = rw (two_ends xs ys, caught_again_in-append xs ys, a.caught) b.caught;
      inside = λ s. rw (two_ends xs ys, gives_inside-append s xs ys, a.inside s) (b.inside s);
      functions = rw (two_ends xs ys, declared_functions-append xs ys, a.functions) b.functions;
      members = rw (none, two_ends xs ys, members_of_all-append xs ys, a.members) b.members;
    }

classes-unwritten : (ps : Parts) → AreClasses ps → Unwritten ps
classes-unwritten end h = unwritten-end
classes-unwritten (more p ps) (a_class n span semantic_id id body (a_name i ispan i_semantic_id s free) (a_body m bspan b_semantic_id es he), h) =
    let rest : Unwritten ps = classes-unwritten ps h in
    let u : ClassUnwritten n es ps = class-unwritten n es ps (fields-unwritten es he) rest (fields-no_members n es he) in
    record { assigned = u.assigned; writing = u.writing; free = u.free; repeated = u.repeated; changing = u.changing; caught = u.caught; given = λ names uncaught. two-none ((fields-unwritten es he).given _ _) (rest.given names uncaught); inside = u.inside; functions = u.functions; members = u.members }

lowered-unwritten : (ps : Parts) → AreClasses ps → (k : ℕ) → Unwritten (lowered_statements k ps)
lowered-unwritten end h k = unwritten-end
lowered-unwritten (more p ps) (a_class n span semantic_id id body (a_name i ispan i_semantic_id s free) (a_body m bspan b_semantic_id es he), h) k =
    let next : ℕ = k + statement_size p in
    let rest : Unwritten (lowered_statements next ps) = lowered-unwritten ps h next in
    let u : ClassUnwritten n (lowered_elements k es) (lowered_statements next ps) = class-unwritten n (lowered_elements k es) (lowered_statements next ps) (elements-unwritten es he k) rest (lowered-no_members n k es) in
    record { assigned = u.assigned; writing = u.writing; free = u.free; repeated = u.repeated; changing = u.changing; caught = u.caught; given = λ names uncaught. two-none ((elements-unwritten es he k).given _ _) (rest.given names uncaught); inside = u.inside; functions = u.functions; members = u.members }

-- ---- declaring identifiers: those of the classes

abbrev Undeclaring : ℕ → Parts → Type 0
Undeclaring first ps = (d : DeclarationKind) → declaring_items first d ps ≡ []

fields-declare : (first : ℕ) (es : Parts) → AreFields es → Undeclaring first es
fields-declare first end h d = refl
fields-declare first (more p es) (a_field m span semantic_id key v (a_key i ispan i_semantic_id s) no_value, h) d = fields-declare first es h d
fields-declare first (more p es) (a_field m span semantic_id key v (a_key i ispan i_semantic_id s) (a_literal l lspan l_semantic_id w fine), h) d = fields-declare first es h d
fields-declare first (more p es) (a_field m span semantic_id key v (a_key i ispan i_semantic_id s) (a_reference r rspan r_semantic_id x), h) d = fields-declare first es h d

definitions-declare : (first : ℕ) (es : Parts) → AreFields es → (k : ℕ) → Undeclaring first (trees (definitions_from k es))
definitions-declare first end h k d = refl
definitions-declare first (more p es) (a_field m span semantic_id key v hk no_value, h) k d = definitions-declare first es h (k + 9) d
definitions-declare first (more p es) (a_field m span semantic_id key v hk (a_literal l lspan l_semantic_id w fine), h) k d = definitions-declare first es h (k + 7) d
definitions-declare first (more p es) (a_field m span semantic_id key v hk (a_reference r rspan r_semantic_id x), h) k d = definitions-declare first es h (k + 7) d

elements-declare : (first : ℕ) (es : Parts) → AreFields es → (k : ℕ) → Undeclaring first (lowered_elements k es)
elements-declare first end h k d = refl
elements-declare first (more p es) h k d = four_ends _ ∙ definitions-declare first (more p es) h (k + 4) _

classes-declare : (first : ℕ) (ps : Parts) → AreClasses ps → (k : ℕ) (d : DeclarationKind) → declaring_items first d (lowered_statements k ps) ≡ declaring_items first d ps
classes-declare first end h k d = refl
classes-declare first (more p ps) (a_class n span semantic_id id body (a_name i ispan i_semantic_id s free) (a_body m bspan b_semantic_id es he), h) k d =
    rw (elements-declare first es he k ClassDeclared, fields-declare first es he ClassDeclared) (ap (λ ds. (i, declared_as s ClassDeclared) ∷ ds) (classes-declare first ps h _ d))

-- ---- declaring identifiers of one binding: those of the program alone

abbrev Unshared : Parts → Type 0
Unshared ps = shared_of ps ≡ []

fields-shared : (es : Parts) → AreFields es → Unshared es
fields-shared end h = refl
fields-shared (more p es) (a_field m span semantic_id key v (a_key i ispan i_semantic_id s) no_value, h) = fields-shared es h
fields-shared (more p es) (a_field m span semantic_id key v (a_key i ispan i_semantic_id s) (a_literal l lspan l_semantic_id w fine), h) = fields-shared es h
fields-shared (more p es) (a_field m span semantic_id key v (a_key i ispan i_semantic_id s) (a_reference r rspan r_semantic_id x), h) = fields-shared es h

definitions-shared : (es : Parts) → AreFields es → (k : ℕ) → Unshared (trees (definitions_from k es))
definitions-shared end h k = refl
definitions-shared (more p es) (a_field m span semantic_id key v hk no_value, h) k = definitions-shared es h (k + 9)
definitions-shared (more p es) (a_field m span semantic_id key v hk (a_literal l lspan l_semantic_id w fine), h) k = definitions-shared es h (k + 7)
definitions-shared (more p es) (a_field m span semantic_id key v hk (a_reference r rspan r_semantic_id x), h) k = definitions-shared es h (k + 7)

elements-shared : (es : Parts) → AreFields es → (k : ℕ) → Unshared (lowered_elements k es)
elements-shared end h k = refl
elements-shared (more p es) h k = rw (names-definitions (more p es) h (k + 4), definitions-shared (more p es) h (k + 4)) refl

classes-shared : (ps : Parts) → AreClasses ps → Unshared ps
classes-shared end h = refl
classes-shared (more p ps) (a_class n span semantic_id id body (a_name i ispan i_semantic_id s free) (a_body m bspan b_semantic_id es he), h) =
    rw (fields-shared es he, classes-shared ps h) refl

lowered-shared : (ps : Parts) → AreClasses ps → (k : ℕ) → Unshared (lowered_statements k ps)
lowered-shared end h k = refl
lowered-shared (more p ps) (a_class n span semantic_id id body (a_name i ispan i_semantic_id s free) (a_body m bspan b_semantic_id es he), h) k =
    rw (elements-shared es he k, lowered-shared ps h (k + statement_size p)) refl

pub shared-lowered : (k : ℕ) (t : Tree) → IsProgram t → shared false (lowered_from k t) ≡ shared false t
shared-lowered k t (a_program m span semantic_id s all h) = rw (names-lowered all h k, classes-shared all h, lowered-shared all h k) refl

-- ---- where things stand: classes and their names alone, and these where they stood

abbrev Unplaced : ℕ → Parts → Type 0
Unplaced first ps = (s : Surroundings) → places_of first [] [] s ps ≡ []

fields-placed : (first : ℕ) (es : Parts) → AreFields es → Unplaced first es
fields-placed first end h s = refl
fields-placed first (more p es) (a_field m span semantic_id key v (a_key i ispan i_semantic_id x) no_value, h) s = fields-placed first es h s
fields-placed first (more p es) (a_field m span semantic_id key v (a_key i ispan i_semantic_id x) (a_literal l lspan l_semantic_id w fine), h) s = fields-placed first es h s
fields-placed first (more p es) (a_field m span semantic_id key v (a_key i ispan i_semantic_id x) (a_reference r rspan r_semantic_id y), h) s = fields-placed first es h s

definitions-placed : (first : ℕ) (es : Parts) → AreFields es → (k : ℕ) → Unplaced first (trees (definitions_from k es))
definitions-placed first end h k s = refl
definitions-placed first (more p es) (a_field m span semantic_id key v hk no_value, h) k s = definitions-placed first es h (k + 9) s
definitions-placed first (more p es) (a_field m span semantic_id key v hk (a_literal l lspan l_semantic_id w fine), h) k s = definitions-placed first es h (k + 7) s
definitions-placed first (more p es) (a_field m span semantic_id key v hk (a_reference r rspan r_semantic_id x), h) k s = definitions-placed first es h (k + 7) s

elements-placed : (first : ℕ) (es : Parts) → AreFields es → (k : ℕ) → first ≤ k → Unplaced first (lowered_elements k es)
elements-placed first end h k new s = refl
elements-placed first (more p es) h k new s =
    let later : nat_le first (k + 2) ≡ true = le-leb first (k + 2) (omega (arith, new)) in
    rw later (four_ends _ ∙ definitions-placed first (more p es) h (k + 4) _)

classes-placed : (first : ℕ) (ps : Parts) → AreClasses ps → (k : ℕ) → first ≤ k → (s : Surroundings) → places_of first [] [] s (lowered_statements k ps) ≡ places_of first [] [] s ps
classes-placed first end h k new s = refl
classes-placed first (more p ps) (a_class n span semantic_id id body (a_name i ispan i_semantic_id x free) (a_body m bspan b_semantic_id es he), h) k new s =
    let next : ℕ = k + statement_size p in
    rw (elements-placed first es he k new _, fields-placed first es he _, classes-placed first ps h next (still_new k (statement_size p) new) s) refl

pub places-lowered : (first : ℕ) (t : Tree) → IsProgram t → all_places first [] [] (lowered_from first t) ≡ all_places first [] [] t
places-lowered first t (a_program m span semantic_id s all h) = ap (λ xs. xs ++ []) (classes-placed first all h first (omega arith) _)

-- ---- names around functions that are branches: there are none

abbrev Unbranched : Parts → Type 0
Unbranched ps = (names : List Declaration) → around_branches_of names ps ≡ []

fields-unbranched : (es : Parts) → AreFields es → Unbranched es
fields-unbranched end h c = refl
fields-unbranched (more p es) (a_field m span semantic_id key v (a_key i ispan i_semantic_id x) no_value, h) c = fields-unbranched es h c
fields-unbranched (more p es) (a_field m span semantic_id key v (a_key i ispan i_semantic_id x) (a_literal l lspan l_semantic_id w fine), h) c = fields-unbranched es h c
fields-unbranched (more p es) (a_field m span semantic_id key v (a_key i ispan i_semantic_id x) (a_reference r rspan r_semantic_id y), h) c = fields-unbranched es h c

definitions-unbranched : (es : Parts) → AreFields es → (k : ℕ) → Unbranched (trees (definitions_from k es))
definitions-unbranched end h k c = refl
definitions-unbranched (more p es) (a_field m span semantic_id key v hk no_value, h) k c = definitions-unbranched es h (k + 9) c
definitions-unbranched (more p es) (a_field m span semantic_id key v hk (a_literal l lspan l_semantic_id w fine), h) k c = definitions-unbranched es h (k + 7) c
definitions-unbranched (more p es) (a_field m span semantic_id key v hk (a_reference r rspan r_semantic_id y), h) k c = definitions-unbranched es h (k + 7) c

elements-unbranched : (es : Parts) → AreFields es → (k : ℕ) → Unbranched (lowered_elements k es)
elements-unbranched end h k c = refl
elements-unbranched (more p es) h k c = four_ends _ ∙ definitions-unbranched (more p es) h (k + 4) _

classes-unbranched : (ps : Parts) → AreClasses ps → Unbranched ps
classes-unbranched end h c = refl
classes-unbranched (more p ps) (a_class n span semantic_id id body (a_name i ispan i_semantic_id x free) (a_body m bspan b_semantic_id es he), h) c =
    let in_class : List Declaration = names_inside c Kind.ClassDeclaration n (more id (more absent (more body end))) 2 in
    rw (fields-unbranched es he (names_inside in_class Kind.ClassBody m (more (list es) end) 0), classes-unbranched ps h c) refl

lowered-unbranched : (ps : Parts) → AreClasses ps → (k : ℕ) → Unbranched (lowered_statements k ps)
lowered-unbranched end h k c = refl
lowered-unbranched (more p ps) (a_class n span semantic_id id body (a_name i ispan i_semantic_id x free) (a_body m bspan b_semantic_id es he), h) k c =
    let low : Parts = more (list (lowered_elements k es)) end in
    let in_class : List Declaration = names_inside c Kind.ClassDeclaration n (more id (more absent (more (child (Node Kind.ClassBody m bspan b_semantic_id low)) end))) 2 in
    rw (elements-unbranched es he k (names_inside in_class Kind.ClassBody m low 0), lowered-unbranched ps h (k + statement_size p) c) refl

pub branches-lowered : (k : ℕ) (t : Tree) → IsProgram t → around_branches [] (lowered_from k t) ≡ around_branches [] t
branches-lowered k t (a_program m span semantic_id s all h) =
    let names : Parts → List Declaration = λ ps. names_inside [] Kind.Program m (more (string s) (more (list ps) end)) 1 in
    rw (classes-unbranched all h (names all), lowered-unbranched all h k (names (lowered_statements k all))) refl

pub globals-lowered : (first k : ℕ) (t : Tree) → IsProgram t → globals first (lowered_from k t) ≡ globals first t
globals-lowered first k t (a_program m span semantic_id s all h) = rw (names-lowered all h k) refl

-- ---- nothing is imported or exported

no_links : (ps : Parts) → AreClasses ps → links_in ps ≡ []
no_links end h = refl
no_links (more p ps) (a_class n span semantic_id id body hid hbody, h) = no_links ps h

no_exports : (c : Context) (env : Environment) (ps : Parts) → AreClasses ps → exports_in c env ps ≡ []
no_exports c env end h = refl
no_exports c env (more p ps) (a_class n span semantic_id id body hid hbody, h) = no_exports c env ps h

lowered-no_links : (ps : Parts) → AreClasses ps → (k : ℕ) → links_in (lowered_statements k ps) ≡ []
lowered-no_links end h k = refl
lowered-no_links (more p ps) (a_class n span semantic_id id body hid hbody, h) k = lowered-no_links ps h _

lowered-no_exports : (c : Context) (env : Environment) (ps : Parts) → AreClasses ps → (k : ℕ) → exports_in c env (lowered_statements k ps) ≡ []
lowered-no_exports c env end h k = refl
lowered-no_exports c env (more p ps) (a_class n span semantic_id id body hid hbody, h) k = lowered-no_exports c env ps h _

-- ---- programs

written-lowered : (k : ℕ) (t : Tree) → IsProgram t → written (lowered_from k t) ≡ written t
written-lowered k t (a_program m span semantic_id s all h) =
    let ps : Parts = lowered_statements k all in
    let here : Unwritten all = classes-unwritten all h in
    let there : Unwritten ps = lowered-unwritten all h k in
    rw (names-lowered all h k, append-nil (item_references (body_names all ++ []) false all), append-nil (item_references (body_names all ++ []) false ps), append-nil (preorder_of all), append-nil (preorder_of ps), here.assigned (body_names all ++ []), there.assigned (body_names all ++ []), here.repeated, there.repeated) refl

-- nothing changes without a write
changed-none : (m : ℕ) (span : Option (ℕ × ℕ)) (semantic_id : Option ℕ) (s : String) (ps : Parts) → Unwritten ps → changed_otherwise (Node Kind.Program m span semantic_id (more (string s) (more (list ps) end))) ≡ []
changed-none m span semantic_id s ps u = three-none (rw (append-nil (preorder_of ps)) u.changing) (rw (append-nil (preorder_of ps)) u.caught) (one-none (u.given _ _))

pub varying-lowered : (k : ℕ) (t : Tree) → IsProgram t → varying (lowered_from k t) ≡ varying t
varying-lowered k t (a_program m span semantic_id s all h) =
    ap₂ (λ xs ys. xs ++ ys) (written-lowered k t (a_program m span semantic_id s all h))
    (changed-none m span semantic_id s (lowered_statements k all) (lowered-unwritten all h k) ∙ sym (changed-none m span semantic_id s all (classes-unwritten all h)))

pub declaring-lowered : (first k : ℕ) (t : Tree) → IsProgram t → declaring first ClassDeclared (lowered_from k t) ≡ declaring first ClassDeclared t
declaring-lowered first k t (a_program m span semantic_id s all h) = ap (λ ds. ds ++ []) (classes-declare first all h k ClassDeclared)

-- no reference writes, and no function stands in a block
pub writing-none : (k : ℕ) (t : Tree) → IsProgram t → writing_numbers (resolve (lowered_from k t)) ≡ []
writing-none k t (a_program m span semantic_id s all h) =
    let ps : Parts = lowered_statements k all in
    let there : Unwritten ps = lowered-unwritten all h k in
    rw (append-nil (item_references (body_names ps ++ []) false ps)) (there.writing (body_names ps ++ []))

pub inside-none : (t : Tree) → IsProgram t → (s : String) → gives_inside s (preorder t) ≡ false
inside-none t (a_program m span semantic_id p all h) s =
    let here : Unwritten all = classes-unwritten all h in
    rw (append-nil (preorder_of all)) (here.inside s)

-- what a program has none of
pub record HasNone (t : Tree) : Type 0 where
  pub free : changes_free (codes "arguments") t ≡ false
  pub functions : declared_functions [] (preorder t) ≡ []
  pub members : private_members t ≡ []
  pub links : links_in (body_of t) ≡ []
  pub exports : (c : Context) (env : Environment) → exports_in c env (body_of t) ≡ []

neither : (a b : Bool) → a ≡ false → b ≡ false → (a || b) ≡ false
neither a b e f = rw (e, f) refl

pub source-none : (t : Tree) → IsProgram t → HasNone t
source-none t (a_program m span semantic_id s all h) =
    let here : Unwritten all = classes-unwritten all h in record {
      free = neither (writes_free (codes "arguments") (resolve (Node Kind.Program m span semantic_id (more (string s) (more (list all) end))))) (gives_inside (codes "arguments") (preorder_of all ++ [])) (rw (append-nil (item_references (body_names all ++ []) false all)) (here.free (body_names all ++ []))) (rw (append-nil (preorder_of all)) (here.inside (codes "arguments")));
      functions = rw (append-nil (preorder_of all)) here.functions;
      members = rw (append-nil (preorder_of all)) here.members;
      links = no_links all h;
      exports = λ c env. no_exports c env all h;
    }

pub lowered-none : (k : ℕ) (t : Tree) → IsProgram t → HasNone (lowered_from k t)
lowered-none k t (a_program m span semantic_id s all h) =
    let ps : Parts = lowered_statements k all in
    let there : Unwritten ps = lowered-unwritten all h k in record {
      free = neither (writes_free (codes "arguments") (resolve (Node Kind.Program m span semantic_id (more (string s) (more (list ps) end))))) (gives_inside (codes "arguments") (preorder_of ps ++ [])) (rw (append-nil (item_references (body_names ps ++ []) false ps)) (there.free (body_names ps ++ []))) (rw (append-nil (preorder_of ps)) (there.inside (codes "arguments")));
      functions = rw (append-nil (preorder_of ps)) there.functions;
      members = rw (append-nil (preorder_of ps)) there.members;
      links = lowered-no_links all h k;
      exports = λ c env. lowered-no_exports c env all h k;
    }
