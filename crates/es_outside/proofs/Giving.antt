-- What functions in blocks give a value to is that of the definition.
use Rattle.std.proofs.Common.{◌≡◌, refl, sym, ap, ◌∙◌, ℕ, suc, ◌+◌, List, [], ◌∷◌, ◌++◌, Bool, true, false, cond, Some, None, arith}
use Rattle.es_base.specs.Tree.{Tree, Part, Parts, Node, end, more, child, absent, list, string, no_string, boolean, literal}
use Rattle.es_base.specs.declared.ids.NodeId.{NodeId}
use Rattle.es_base.specs.declared.kind.Kind.{Kind}
use Rattle.es_binding_faults.specs.Named.{plain}
use Rattle.es_binding_faults.proofs.Plain.{plain-append, plain-either}
use Rattle.es_node.specs.View.{kind_of, parts_in}
use Rattle.es_steps.specs.References.{declared, referent, if_bound, meant, inner_functions, catches_a_name, names_around, takes_vars, uncaught_at, given_around, given_in, given_at, given_of}
use Rattle.es_steps.specs.Scopes.{Declaration, names_at, is_body_part, scope_of}
use Rattle.es_steps.specs.Values.{String, Referent}
use Rattle.es_outside.specs.Changing.{if_written}
use Rattle.es_references.specs.Frames.{binding_of}
use Rattle.es_references.specs.References.{names_inside}
use Rattle.es_outside.specs.Given.{names_passed, given_by, given_from, given_by_part, given_by_items}
use Rattle.es_outside.proofs.DeclaredNames.{written_if}
use Rattle.es_references.proofs.Resolving.{inside, plain_seen, same_referent}

-- ---- what a name means

bound_alike : (s : String) (names : List Declaration) → if_bound true (referent s (declared s names)) ≡ if_bound true (referent s (declared s (plain names)))
bound_alike s names = ap (if_bound true) (same_referent s names)

meant_alike : (names : List Declaration) (ss : List String) → meant names ss ≡ meant (plain names) ss
meant_alike names [] = refl
meant_alike names (s ∷ ss) = ap (λ (ns : List ℕ). ns ++ meant names ss) (bound_alike s names) ∙ ap (λ (ns : List ℕ). if_bound true (referent s (declared s (plain names))) ++ ns) (meant_alike names ss)

-- ---- what is seen

passed_alike : (b : Bool) (xs ys : List Declaration) → plain xs ≡ plain ys → plain (cond b [] xs) ≡ plain (cond b [] ys)
passed_alike true xs ys e = refl
passed_alike false xs ys e = e

pub nothing_passed : (b : Bool) (ds : List Declaration) → plain ds ≡ [] → plain (cond b [] ds) ≡ []
nothing_passed true ds e = refl
nothing_passed false ds e = e

passed : (names uncaught : List Declaration) (is_body : Bool) (kind : Kind) (m : ℕ) (ps : Parts) (i : ℕ) → plain (uncaught_at names uncaught is_body kind m ps i) ≡ names_passed (cond (takes_vars kind) (plain names) (plain uncaught)) is_body kind ps i
passed names uncaught is_body kind m ps i =
    let around = cond (takes_vars kind) names uncaught in
    plain-append (names_around is_body kind m ps i) around
    ∙ ap (λ (ds : List Declaration). ds ++ plain around) (passed_alike (catches_a_name kind ps) (names_at is_body kind m ps i) (names_at is_body kind 0 ps i) (plain_seen (scope_of kind is_body) m ps i))
    ∙ ap (λ (ds : List Declaration). plain (names_around is_body kind 0 ps i) ++ ds) (plain-either (takes_vars kind) names uncaught (plain names) (plain uncaught) refl refl)

-- ---- of a tree

mutual
  given-tree : (names uncaught : List Declaration) (is_body : Bool) (t : Tree) → given_around names uncaught is_body t ≡ given_by (plain names) (plain uncaught) is_body t
  given-tree names uncaught is_body (Node kind m span semantic_id ps) =
      ap (λ (ns : List ℕ). ns ++ given_in (λ i. names_at is_body kind m ps i ++ names) (uncaught_at names uncaught is_body kind m ps) (is_body_part kind) ps) (meant_alike uncaught (inner_functions is_body kind ps))
      ∙ ap (λ (ns : List ℕ). meant (plain uncaught) (inner_functions is_body kind ps) ++ ns) (given-parts (λ i. names_at is_body kind m ps i ++ names) (uncaught_at names uncaught is_body kind m ps) (is_body_part kind) (names_inside (plain names) is_body kind ps) (names_passed (cond (takes_vars kind) (plain names) (plain uncaught)) is_body kind ps) (is_body_part kind) 0 ps
      (λ k. inside names is_body kind m ps k ∙ ap (names_inside (plain names) is_body kind ps) (from_zero k)) (λ k. passed names uncaught is_body kind m ps k ∙ ap (names_passed (cond (takes_vars kind) (plain names) (plain uncaught)) is_body kind ps) (from_zero k)) (λ k. ap (is_body_part kind) (from_zero k)))
    where
      from_zero : (k : ℕ) → k ≡ 0 + k
      from_zero k = omega arith

  given-parts : (names uncaught : ℕ → List Declaration) (parts : ℕ → Bool) (sees passes : ℕ → List Declaration) (bodies : ℕ → Bool) (i : ℕ) (ps : Parts)
      → ((k : ℕ) → plain (names k) ≡ sees (i + k)) → ((k : ℕ) → plain (uncaught k) ≡ passes (i + k)) → ((k : ℕ) → parts k ≡ bodies (i + k))
      → given_in names uncaught parts ps ≡ given_from sees passes bodies i ps
  given-parts names uncaught parts sees passes bodies i end same alike are = refl
  given-parts names uncaught parts sees passes bodies i (more p ps) same alike are =
      ap (λ (ns : List ℕ). ns ++ given_in (λ k. names (suc k)) (λ k. uncaught (suc k)) (λ k. parts (suc k)) ps)
      (given-part (names 0) (uncaught 0) (parts 0) p
      ∙ ap (λ ds. given_by_part ds (plain (uncaught 0)) (parts 0) p) (same 0 ∙ ap sees (at_once i))
      ∙ ap (λ ds. given_by_part (sees i) ds (parts 0) p) (alike 0 ∙ ap passes (at_once i))
      ∙ ap (λ b. given_by_part (sees i) (passes i) b p) (are 0 ∙ ap bodies (at_once i)))
      ∙ ap (λ (ns : List ℕ). given_by_part (sees i) (passes i) (bodies i) p ++ ns) (given-parts (λ k. names (suc k)) (λ k. uncaught (suc k)) (λ k. parts (suc k)) sees passes bodies (i + 1) ps
      (λ k. same (suc k) ∙ ap sees (one_on i k)) (λ k. alike (suc k) ∙ ap passes (one_on i k)) (λ k. are (suc k) ∙ ap bodies (one_on i k)))
    where
      at_once : (i : ℕ) → i + 0 ≡ i
      at_once i = omega arith

      one_on : (i k : ℕ) → i + suc k ≡ (i + 1) + k
      one_on i k = omega arith

  given-part : (names uncaught : List Declaration) (is_body : Bool) (p : Part) → given_at names uncaught is_body p ≡ given_by_part (plain names) (plain uncaught) is_body p
  given-part names uncaught is_body (child t) = given-tree names uncaught is_body t
  given-part names uncaught is_body absent = refl
  given-part names uncaught is_body (list ps) = given-items names uncaught ps
  given-part names uncaught is_body (string s) = refl
  given-part names uncaught is_body no_string = refl
  given-part names uncaught is_body (boolean b) = refl
  given-part names uncaught is_body (literal v) = refl

  given-items : (names uncaught : List Declaration) (ps : Parts) → given_of names uncaught ps ≡ given_by_items (plain names) (plain uncaught) ps
  given-items names uncaught end = refl
  given-items names uncaught (more p ps) =
      ap (λ (ns : List ℕ). ns ++ given_of names uncaught ps) (given-part names uncaught false p)
      ∙ ap (λ (ns : List ℕ). given_by_part (plain names) (plain uncaught) false p ++ ns) (given-items names uncaught ps)

pub given_alike : (t : Tree) → given_by [] [] false t ≡ given_around [] [] false t
given_alike t = sym (given-tree [] [] false t)

-- ---- at a node

pub given_node : (names uncaught : List Declaration) (is_body : Bool) (t : Tree) → given_by names uncaught is_body t ≡ meant uncaught (inner_functions is_body (kind_of t) (parts_in t)) ++ given_from (names_inside names is_body (kind_of t) (parts_in t)) (names_passed (cond (takes_vars (kind_of t)) names uncaught) is_body (kind_of t) (parts_in t)) (is_body_part (kind_of t)) 0 (parts_in t)
given_node names uncaught is_body (Node kind m span semantic_id ps) = refl

pub bound_name : (r : Referent) (b : NodeId) → Some b ≡ binding_of r → if_bound true r ≡ (b.0 ∷ [])
bound_name r b e = sym (written_if true r) ∙ ap (if_written true) (sym e)

pub free_name : (r : Referent) → None ≡ binding_of r → if_bound true r ≡ []
free_name r e = sym (written_if true r) ∙ ap (if_written true) (sym e)
