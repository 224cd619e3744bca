-- What a program of the first form is lowered to reads no name of a class and writes no name, no function stands in a block, and no `super` is
-- made.
use Rattle.std.specs.Prelude.{◌≡◌, ℕ, suc, ◌+◌, List, [], ◌∷◌, ◌++◌, Bool, true, false, cond, not, ◌||◌}
use Rattle.std.proofs.Common.{refl}
use Rattle.es_base.specs.Preorder.{preorder}
use Rattle.es_base.specs.Tree.{Tree, Part, Parts, Node, end, more, child, absent, list, trees, string, no_string, boolean, literal}
use Rattle.es_base.specs.declared.kind.Kind.{Kind}
use Rattle.es_steps.specs.FirstForm.{is_first_form}
use Rattle.es_steps.specs.KeptNodes.{is_constructor_part}
use Rattle.es_lowered.specs.ClassLets.{class_lets_fit, class_lets_fit_in}
use Rattle.es_lowered.specs.DefaultExport.{holds, is_default, default_stays}
use Rattle.es_lowered.specs.FunctionsAround.{functions_in, placed_reference, placed_references, placed_in, placed_at, placed_of}
use Rattle.es_lowered.specs.KeptReferences.{plain_targets, writing_numbers, writes_fit, references_stay}
use Rattle.es_lowered.specs.StrayNames.{has_stray_name, stray_name_of}
use Rattle.es_lowered.specs.Supers.{SuperPlace, no_place, has_stray_super, stray_super_of}
use Rattle.es_steps.specs.Parts.{at, string_of}
use Rattle.es_steps.specs.PrivateNames.{PrivateMember}
use Rattle.es_steps.specs.References.{Reference, resolve, gives_inside}
use Rattle.es_steps.specs.declared.options.Options.{Options}
use Rattle.es_steps.specs.Values.{String}
use Rattle.class_properties.proofs.Declared.{writing-none, inside-none}
use Rattle.es_unchanged.proofs.HeadValues.{head_values-stay}
use Rattle.class_properties.proofs.Early.{dead_zones-stay}
use Rattle.class_properties.proofs.FreeNames.{classes-timely}
use Rattle.class_properties.proofs.Numbered.{definitions_from, lowered_elements, lowered_statements, statement_size, lowered_from}
use Rattle.class_properties.proofs.Shaped.{no_value, a_literal, a_reference, a_key, a_field, AreFields, a_body, a_name, a_class, AreClasses, IsProgram, a_program}

unwriting : (first : ℕ) (targets old : List ℕ) (rs : List Reference) → writing_numbers rs ≡ [] → writes_fit first [] targets old rs ≡ true
unwriting first targets old [] e = refl
unwriting first targets old (r ∷ rs) e = by_first r.writes refl e (unwriting first targets old rs)
  where
    by_first : (b : Bool) → r.writes ≡ b → cond b (r.number ∷ []) [] ++ writing_numbers rs ≡ [] → (writing_numbers rs ≡ [] → writes_fit first [] targets old rs ≡ true) → writes_fit first [] targets old (r ∷ rs) ≡ true
    by_first true w h rest = cc
    by_first false w h rest = rw w (rest h)

module _ (first : ℕ) (asked : ℕ → String → Bool) (none : (m : ℕ) (s : String) → asked m s ≡ false) where
  reference-none : (around : List (ℕ × ℕ)) (kind : Kind) (m : ℕ) (qs : Parts) → placed_reference first asked around kind m qs ≡ []
  reference-none around Kind.IdentifierReference m qs = rw (none m (string_of (at 0 qs))) refl
  reference-none around kind m qs = refl

  mutual
    tree-none : (c : Bool) (around : List (ℕ × ℕ)) (t : Tree) → placed_references first asked c around t ≡ []
    tree-none c around (Node kind m span semantic_id qs) = rw (reference-none around kind m qs, parts-none (is_constructor_part kind qs) (functions_in first c around kind m) qs) refl

    parts-none : (c : ℕ → Bool) (x : ℕ → List (ℕ × ℕ)) (qs : Parts) → placed_in first asked c x qs ≡ []
    parts-none c x end = refl
    parts-none c x (more q qs) = rw (part-none (c 0) (x 0) q, parts-none (λ i. c (suc i)) (λ i. x (suc i)) qs) refl

    part-none : (c : Bool) (around : List (ℕ × ℕ)) (q : Part) → placed_at first asked c around q ≡ []
    part-none c around (child t) = tree-none c around t
    part-none c around absent = refl
    part-none c around (list qs) = list-none around qs
    part-none c around (string s) = refl
    part-none c around no_string = refl
    part-none c around (boolean b) = refl
    part-none c around (literal v) = refl

    list-none : (around : List (ℕ × ℕ)) (qs : Parts) → placed_of first asked around qs ≡ []
    list-none around end = refl
    list-none around (more q qs) = rw (part-none false around q, list-none around qs) refl

-- ---- no `super` is made

definitions-without : (x : SuperPlace) (es : Parts) → AreFields es → (k : ℕ) → stray_super_of x (trees (definitions_from k es)) ≡ false
definitions-without x end h k = refl
definitions-without x (more p es) (a_field m span semantic_id key v (a_key i ispan i_semantic_id s) no_value, h) k = definitions-without x es h (k + 9)
definitions-without x (more p es) (a_field m span semantic_id key v (a_key i ispan i_semantic_id s) (a_literal l lspan l_semantic_id w fine), h) k = definitions-without x es h (k + 7)
definitions-without x (more p es) (a_field m span semantic_id key v (a_key i ispan i_semantic_id s) (a_reference r rspan r_semantic_id y), h) k = definitions-without x es h (k + 7)

classes-without : (x : SuperPlace) (ps : Parts) → AreClasses ps → (k : ℕ) → stray_super_of x (lowered_statements k ps) ≡ false
classes-without x end h k = refl
classes-without x (more p ps) (a_class n span semantic_id id body (a_name i ispan i_semantic_id s free) (a_body b bspan b_semantic_id end he), h) k = classes-without x ps h _
classes-without x (more p ps) (a_class n span semantic_id id body (a_name i ispan i_semantic_id s free) (a_body b bspan b_semantic_id (more e es) he), h) k =
    rw (definitions-without _ (more e es) he (k + 4)) (classes-without x ps h _)

program-without : (k : ℕ) (t : Tree) → IsProgram t → has_stray_super no_place (lowered_from k t) ≡ false
program-without k t (a_program m span semantic_id s all h) = rw (classes-without _ all h k) refl

-- ---- no private name is made

definitions-named : (seen : List PrivateMember) (es : Parts) → AreFields es → (k : ℕ) → stray_name_of seen (trees (definitions_from k es)) ≡ false
definitions-named seen end h k = refl
definitions-named seen (more p es) (a_field m span semantic_id key v (a_key i ispan i_semantic_id s) no_value, h) k = definitions-named seen es h (k + 9)
definitions-named seen (more p es) (a_field m span semantic_id key v (a_key i ispan i_semantic_id s) (a_literal l lspan l_semantic_id w fine), h) k = definitions-named seen es h (k + 7)
definitions-named seen (more p es) (a_field m span semantic_id key v (a_key i ispan i_semantic_id s) (a_reference r rspan r_semantic_id y), h) k = definitions-named seen es h (k + 7)

classes-named : (seen : List PrivateMember) (ps : Parts) → AreClasses ps → (k : ℕ) → stray_name_of seen (lowered_statements k ps) ≡ false
classes-named seen end h k = refl
classes-named seen (more p ps) (a_class n span semantic_id id body (a_name i ispan i_semantic_id s free) (a_body b bspan b_semantic_id end he), h) k = classes-named seen ps h _
classes-named seen (more p ps) (a_class n span semantic_id id body (a_name i ispan i_semantic_id s free) (a_body b bspan b_semantic_id (more e es) he), h) k =
    rw (definitions-named _ (more e es) he (k + 4)) (classes-named seen ps h _)

program-named : (k : ℕ) (t : Tree) → IsProgram t → has_stray_name [] (lowered_from k t) ≡ false
program-named k t (a_program m span semantic_id s all h) = rw (classes-named _ all h k) refl

stay-without : (b c : Bool) → c ≡ false → (b || not c) ≡ true
stay-without true c e = refl
stay-without false c e = rw e refl

no-default : (ps : Parts) → AreClasses ps → (k : ℕ) → holds is_default (lowered_statements k ps) ≡ false
no-default end h k = refl
no-default (more p ps) (a_class n span semantic_id id body hid hbody, h) k = no-default ps h _

classes-without_default : (ps : Parts) → AreClasses ps → holds is_default ps ≡ false
classes-without_default end h = refl
classes-without_default (more p ps) (a_class n span semantic_id id body hid hbody, h) = classes-without_default ps h

default-stays : (first k : ℕ) (t : Tree) → IsProgram t → default_stays first t (lowered_from k t) ≡ true
default-stays first k t (a_program m span semantic_id s all h) = rw (no-default all h k, classes-without_default all h) refl

-- ps are nodes
module _ (first : ℕ) (ps : List Tree) where
  fields-without_variables : (es : Parts) → AreFields es → (k : ℕ) → class_lets_fit_in first ps (trees (definitions_from k es)) ≡ true
  fields-without_variables end h k = refl
  fields-without_variables (more p es) (a_field m span semantic_id key v (a_key i ispan i_semantic_id x) no_value, h) k = fields-without_variables es h (k + 9)
  fields-without_variables (more p es) (a_field m span semantic_id key v (a_key i ispan i_semantic_id x) (a_literal l lspan l_semantic_id w fine), h) k = fields-without_variables es h (k + 7)
  fields-without_variables (more p es) (a_field m span semantic_id key v (a_key i ispan i_semantic_id x) (a_reference r rspan r_semantic_id y), h) k = fields-without_variables es h (k + 7)

  elements-without_variables : (es : Parts) → AreFields es → (k : ℕ) → class_lets_fit_in first ps (lowered_elements k es) ≡ true
  elements-without_variables end h k = refl
  elements-without_variables (more p es) h k = rw (fields-without_variables (more p es) h (k + 4)) refl

  classes-without_variables : (cs : Parts) → AreClasses cs → (k : ℕ) → class_lets_fit_in first ps (lowered_statements k cs) ≡ true
  classes-without_variables end h k = refl
  classes-without_variables (more p cs) (a_class n span semantic_id id body (a_name i ispan i_semantic_id x free) (a_body m bspan b_semantic_id es he), h) k =
      rw (elements-without_variables es he k, classes-without_variables cs h (k + statement_size p)) refl

  class_lets-fit : (k : ℕ) (t : Tree) → IsProgram t → class_lets_fit first ps (lowered_from k t) ≡ true
  class_lets-fit k t (a_program m span semantic_id s all h) = rw (classes-without_variables all h k) refl

pub references-stay : (first k : ℕ) (o : Options) (t : Tree) → IsProgram t → is_first_form t [] ≡ true → references_stay first o [] t (lowered_from k t) ≡ true
references-stay first k o t p f =
    rw (classes-timely first k t p f, stay-without (has_stray_super no_place t) (has_stray_super no_place (lowered_from k t)) (program-without k t p), stay-without (has_stray_name [] t) (has_stray_name [] (lowered_from k t)) (program-named k t p), tree-none first (λ m s. gives_inside s (preorder t)) (λ m s. inside-none t p s) false [] (lowered_from k t), unwriting first (plain_targets (preorder (lowered_from k t))) (writing_numbers (resolve t)) (resolve (lowered_from k t)) (writing-none k t p), default-stays first k t p, class_lets-fit first (preorder t) k t p, dead_zones-stay first k o t p f, head_values-stay (resolve (lowered_from k t)) (preorder (lowered_from k t))) refl
