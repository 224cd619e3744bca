-- Functions that are branches of an `if`, node by node.
use Rattle.std.proofs.Common.{◌≡◌, refl, sym, ap, ap₂, ◌∙◌, arith, ℕ, suc, ◌+◌, List, [], ◌∷◌, ◌++◌, Bool, true, false, cond, bytes_eq, Option}
use Rattle.es_base.specs.Tree.{Tree, Part, Parts, Node, end, more, child, absent, list, string, no_string, boolean, literal}
use Rattle.es_base.specs.declared.kind.Kind.{Kind}
use Rattle.es_binding_faults.specs.Named.{plain}
use Rattle.es_node.specs.View.{kind_of, parts_in}
use Rattle.es_references.proofs.Resolving.{inside}
use Rattle.es_references.specs.References as references
use Rattle.es_steps.specs.Branches.{spelled_as, around_branch, around_branches, around_branches_here, around_branches_in, around_branches_of, around_branches_at, names_inside}
use Rattle.es_steps.specs.Parts.{at}
use Rattle.es_steps.specs.References.{takes_vars}
use Rattle.es_steps.specs.Scopes.{Declaration}
use Rattle.es_steps.specs.Values.{String}
use Rattle.es_branches.specs.Branching.{branches_at, branches_from, branches_in, branches_of, named_branch, names_within, spelled_among}

-- ---- names of one spelling

-- those of a scope, and those around it
pub spelled_inside : (b : ℕ) (s : String) (xs ys : List Declaration) → spelled_as b s (xs ++ ys) ≡ spelled_among b s xs ++ spelled_as b s ys
spelled_inside b s [] ys = refl
spelled_inside b s (d ∷ xs) ys = here (bytes_eq s d.spelling) (spelled_inside b s xs ys)
  where
    here : (c : Bool) → spelled_as b s (xs ++ ys) ≡ spelled_among b s xs ++ spelled_as b s ys
        → cond c ((b, d.number) ∷ spelled_as b s (xs ++ ys)) (spelled_as b s (xs ++ ys)) ≡ (cond c ((b, d.number) ∷ []) [] ++ spelled_among b s xs) ++ spelled_as b s ys
    here true h = ap (λ (zs : List (ℕ × ℕ)). (b, d.number) ∷ zs) h
    here false h = h

spelled-plain : (b : ℕ) (s : String) (ds : List Declaration) → spelled_as b s ds ≡ spelled_as b s (plain ds)
spelled-plain b s [] = refl
spelled-plain b s (d ∷ ds) = ap (λ (zs : List (ℕ × ℕ)). cond (bytes_eq s d.spelling) ((b, d.number) ∷ zs) zs) (spelled-plain b s ds)

-- ---- one node

pub named_function : (names : List Declaration) (t : Tree) (f : ℕ) (span : Option (ℕ × ℕ)) (semantic_id : Option ℕ) (ps : Parts) → around_branch names (child (Node Kind.FunctionDeclaration f span semantic_id (more (child t) ps))) ≡ named_branch names t
named_function names (Node Kind.BindingIdentifier b bspan b_semantic_id (more (string s) end)) f span semantic_id ps = refl
named_function names (Node kind b bspan b_semantic_id bs) f span semantic_id ps = refl

pub unnamed_function : (names : List Declaration) (f : ℕ) (span : Option (ℕ × ℕ)) (semantic_id : Option ℕ) (ps : Parts) → around_branch names (child (Node Kind.FunctionDeclaration f span semantic_id (more absent ps))) ≡ []
unnamed_function names f span semantic_id ps = refl

pub no_function : (names : List Declaration) (t : Tree) → (kind_of t ≡ Kind.FunctionDeclaration → ⊥) → around_branch names (child t) ≡ []
no_function names (Node Kind.FunctionDeclaration m span semantic_id ps) other = absurd (other refl)
no_function names (Node kind m span semantic_id ps) other = refl

pub no_identifier : (names : List Declaration) (t : Tree) → (kind_of t ≡ Kind.BindingIdentifier → ⊥) → named_branch names t ≡ []
no_identifier names (Node Kind.BindingIdentifier m span semantic_id ps) other = absurd (other refl)
no_identifier names (Node kind m span semantic_id ps) other = refl

pub no_branches : (names : List Declaration) (kind : Kind) (ps : Parts) → (kind ≡ Kind.IfStatement → ⊥) → around_branches_here names kind ps ≡ []
no_branches names Kind.IfStatement ps other = absurd (other refl)
no_branches names kind ps other = refl

pub both_branches : (names : List Declaration) (kind : Kind) (ps : Parts) → kind ≡ Kind.IfStatement → around_branches_here names kind ps ≡ around_branch names (at 1 ps) ++ around_branch names (at 2 ps)
both_branches names kind ps is = ap (λ k. around_branches_here names k ps) is

pub branches_node : (names : List Declaration) (t : Tree) → branches_in names t ≡ around_branches_here names (kind_of t) (parts_in t) ++ branches_from (names_within names false (kind_of t) (parts_in t)) 0 (parts_in t)
branches_node names (Node kind m span semantic_id ps) = refl

-- ---- without the classes that names may name

branch-plain : (names : List Declaration) (p : Part) → around_branch names p ≡ around_branch (plain names) p
branch-plain names (child (Node Kind.FunctionDeclaration f span semantic_id (more (child (Node Kind.BindingIdentifier b bspan b_semantic_id (more (string s) end))) ps))) = spelled-plain b s names
branch-plain names p = refl

here-plain : (names : List Declaration) (kind : Kind) (ps : Parts) → around_branches_here names kind ps ≡ around_branches_here (plain names) kind ps
here-plain names Kind.IfStatement ps = ap₂ (λ (xs ys : List (ℕ × ℕ)). xs ++ ys) (branch-plain names (at 1 ps)) (branch-plain names (at 2 ps))
here-plain names kind ps = refl

none-plain : (b : Bool) (names : List Declaration) → plain (cond b [] names) ≡ cond b [] (plain names)
none-plain true names = refl
none-plain false names = refl

within : (names : List Declaration) (kind : Kind) (m : ℕ) (ps : Parts) (i : ℕ) → plain (names_inside names kind m ps i) ≡ names_within (plain names) false kind ps i
within names kind m ps i = inside (cond (takes_vars kind) [] names) false kind m ps i ∙ ap (λ (ds : List Declaration). references.names_inside ds false kind ps i) (none-plain (takes_vars kind) names)

at_once : (i : ℕ) → i + 0 ≡ i
at_once i = omega arith

one_on : (i k : ℕ) → i + suc k ≡ (i + 1) + k
one_on i k = omega arith

from_zero : (k : ℕ) → k ≡ 0 + k
from_zero k = omega arith

mutual
  tree-plain : (names : List Declaration) (t : Tree) → around_branches names t ≡ branches_in (plain names) t
  tree-plain names (Node kind m span semantic_id ps) =
      ap₂ (λ (xs ys : List (ℕ × ℕ)). xs ++ ys) (here-plain names kind ps)
      (parts-plain (names_inside names kind m ps) (names_within (plain names) false kind ps) 0 ps (λ k. within names kind m ps k ∙ ap (names_within (plain names) false kind ps) (from_zero k)))

  parts-plain : (names sees : ℕ → List Declaration) (i : ℕ) (ps : Parts) → ((k : ℕ) → plain (names k) ≡ sees (i + k)) → around_branches_in names ps ≡ branches_from sees i ps
  parts-plain names sees i end same = refl
  parts-plain names sees i (more p ps) same =
      ap₂ (λ (xs ys : List (ℕ × ℕ)). xs ++ ys) (part-plain (names 0) p ∙ ap (λ ds. branches_at ds p) (same 0 ∙ ap sees (at_once i)))
      (parts-plain (λ k. names (suc k)) sees (i + 1) ps (λ k. same (suc k) ∙ ap sees (one_on i k)))

  items-plain : (names : List Declaration) (ps : Parts) → around_branches_of names ps ≡ branches_of (plain names) ps
  items-plain names end = refl
  items-plain names (more p ps) = ap₂ (λ (xs ys : List (ℕ × ℕ)). xs ++ ys) (part-plain names p) (items-plain names ps)

  part-plain : (names : List Declaration) (p : Part) → around_branches_at names p ≡ branches_at (plain names) p
  part-plain names (child t) = tree-plain names t
  part-plain names absent = refl
  part-plain names (list ps) = items-plain names ps
  part-plain names (string s) = refl
  part-plain names no_string = refl
  part-plain names (boolean b) = refl
  part-plain names (literal v) = refl

pub of_program : (t : Tree) → branches_in [] t ≡ around_branches [] t
of_program t = sym (tree-plain [] t)
