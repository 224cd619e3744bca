-- What a program of the first form is lowered to calls no helper but `defineProperty`.
use Rattle.std.specs.Prelude.{◌≡◌, ℕ, ◌+◌, List, [], true}
use Rattle.std.proofs.Common.{refl}
use Rattle.std.proofs.Math.Bool.{and-false}
use Rattle.es_base.specs.Numbered.{is_new}
use Rattle.es_base.specs.Preorder.{preorder}
use Rattle.es_base.specs.Tree.{Tree, Parts, end, more, trees}
use Rattle.es_lowered.specs.HelperCalls.{Conversions, calls_in, conversions, helper_calls_fit}
use Rattle.es_steps.specs.Values.{String}
use Rattle.class_properties.proofs.Numbered.{definitions_from, lowered_elements, statement_size, lowered_statements, lowered_from}
use Rattle.class_properties.proofs.Shaped.{no_value, a_literal, a_reference, a_field, AreFields, a_body, a_name, a_class, AreClasses, IsProgram, a_program}

module _ (first : ℕ) (keys : List ℕ) (x : Conversions) where
  definitions-called : (es : Parts) → AreFields es → (k : ℕ) (names : List String) → calls_in first [] keys x names (trees (definitions_from k es)) ≡ true
  definitions-called end h k names = refl
  definitions-called (more p es) (a_field m span semantic_id key v hk no_value, h) k names = rw (and-false (is_new first (k + 3))) (definitions-called es h (k + 9) names)
  definitions-called (more p es) (a_field m span semantic_id key v hk (a_literal l lspan l_semantic_id w fine), h) k names = rw (and-false (is_new first (k + 3))) (definitions-called es h (k + 7) names)
  definitions-called (more p es) (a_field m span semantic_id key v hk (a_reference r rspan r_semantic_id y), h) k names = rw (and-false (is_new first (k + 3))) (definitions-called es h (k + 7) names)

  elements-called : (es : Parts) → AreFields es → (k : ℕ) (names : List String) → calls_in first [] keys x names (lowered_elements k es) ≡ true
  elements-called end h k names = refl
  elements-called (more p es) h k names = rw (definitions-called (more p es) h (k + 4) names) refl

  classes-called : (ps : Parts) → AreClasses ps → (k : ℕ) (names : List String) → calls_in first [] keys x names (lowered_statements k ps) ≡ true
  classes-called end h k names = refl
  classes-called (more p ps) (a_class n span semantic_id id body (a_name i ispan i_semantic_id s free) (a_body j bspan b_semantic_id es he), h) k names =
      rw (elements-called es he k _) (classes-called ps h (k + statement_size p) names)

pub program-calls : (first : ℕ) (keys : List ℕ) (t : Tree) → IsProgram t → helper_calls_fit first [] keys (lowered_from first t) ≡ true
program-calls first keys t (a_program m span semantic_id s all h) = rw (classes-called first keys (conversions first [] (preorder (lowered_from first t))) all h first _) refl
