-- Spans and semantic ids mean nothing, and neither does giving the new nodes their numbers anew, where none of them stands in
-- the meaning.
use Rattle.std.specs.Prelude.{◌≡◌, ℕ, ◌+◌, suc, List, [], ◌∷◌, ◌++◌, map, Bool, true, false, cond, Option, Some, None}
use Rattle.std.proofs.Common.{refl, sym, ap, ap₂, ◌∙◌}
use Rattle.es_base.specs.Carried.{stripped, stripped_part, stripped_parts}
use Rattle.es_base.specs.Numbered.{is_old, new_numbers}
use Rattle.es_base.specs.Preorder.{preorder, nodes, nodes_of, nodes_of_part, renumbered}
use Rattle.es_base.specs.Tree.{Tree, Part, Parts, Node, end, more, child, list}
use Rattle.es_steps.specs.ClassHeads.{named_classes}
use Rattle.es_steps.specs.Law.{SemanticIdsLaw, SourceSemanticIdsLaw, PrivateSemanticIdsLaw, RenumberingLaw}
use Rattle.es_steps.specs.Meaning.{Meaning, Terms, source_terms, means, source_means}
use Rattle.es_steps.specs.PrivateNames.{PrivateMember, PrivateUse, seen_members, members_of_all, private_members, declared_member, used, class_of, is_private_identifier, is_element, private_uses, uses_in, part_uses, item_uses, resolve_privates}
use Rattle.es_steps.specs.Parts.{at, string_of}
use Rattle.es_steps.specs.Standing.{meaning_numbers, terms_numbers, all_pass}
use Rattle.es_steps.specs.declared.options.Options.{Options}
use Rattle.es_steps.proofs.ClassHeadsMapped.{named_classes-mapped}
use Rattle.es_steps.proofs.Mapped.{Renames, mapped, mapped_part, mapped_parts, mapped_option, mapped_pair, mapped_privates, mapped_private, mapped_meaning}
use Rattle.es_steps.proofs.MeaningMapped.{means-same}
use Rattle.es_steps.proofs.PartsMapped.{cond-mapped, append-mapped, string_at-mapped, preorder-mapped}
use Rattle.es_steps.proofs.PrivatesMapped.{members_at-mapped, seen_members-mapped, declared_member-mapped}
use Rattle.es_steps.proofs.Renaming.{same, renaming, renaming-renames, renaming-renumbers}
use Rattle.es_steps.proofs.Still.{meaning-still, terms-still}

-- ---- no change is a change

pub same-renames : (first : ℕ) → Renames first same
same-renames first = record { apart = λ a b. refl; new = λ a. refl; old = λ a e. refl }

abbrev pub anything : ℕ → Bool
anything n = true

pub anything-passes : (ns : List ℕ) → all_pass anything ns ≡ true
anything-passes [] = refl
anything-passes (n ∷ ns) = anything-passes ns

unchanged : (m : Option Meaning) → mapped_option (mapped_meaning same) m ≡ m
unchanged None = refl
unchanged (Some m) = ap Some (meaning-still same anything (λ n e. refl) m (anything-passes (meaning_numbers m)))

-- a tree without its spans and semantic ids means what it meant
bare : (o : Terms) (t : Tree) → means o (mapped same t) ≡ means o t
bare o t =
    ap (λ x. means x (mapped same t)) (sym (terms-still same anything (λ n e. refl) o (anything-passes (terms_numbers o))))
    ∙ means-same o (same-renames o.first_new) t (means o t) refl (unchanged (means o t))

-- ---- semantic ids

mutual
  bare-stripped : (t : Tree) → mapped same (stripped t) ≡ mapped same t
  bare-stripped (Node kind m span semantic_id ps) = ap (Node kind m None None) (bare-stripped_parts ps)

  bare-stripped_part : (p : Part) → mapped_part same (stripped_part p) ≡ mapped_part same p
  bare-stripped_part (child t) = ap child (bare-stripped t)
  bare-stripped_part (list ps) = ap list (bare-stripped_parts ps)
  bare-stripped_part p = refl

  bare-stripped_parts : (ps : Parts) → mapped_parts same (stripped_parts ps) ≡ mapped_parts same ps
  bare-stripped_parts end = refl
  bare-stripped_parts (more p ps) = ap₂ more (bare-stripped_part p) (bare-stripped_parts ps)

pub semantic_ids_law : SemanticIdsLaw
semantic_ids_law o t = sym (bare o (stripped t)) ∙ ap (means o) (bare-stripped t) ∙ bare o t

-- ---- the terms of a source

pub members_of_all-mapped : (f : ℕ → ℕ) (ts : List Tree) → members_of_all (map (mapped f) ts) ≡ mapped_privates f (members_of_all ts)
members_of_all-mapped f [] = refl
members_of_all-mapped f (Node kind m span semantic_id ps ∷ ts) = append-mapped (mapped_private f) _ _ (members_at-mapped f kind m ps) (members_of_all-mapped f ts)

privates-unchanged : (xs : List PrivateMember) → mapped_privates same xs ≡ xs
privates-unchanged [] = refl
privates-unchanged (x ∷ xs) = ap (λ rest. x ∷ rest) (privates-unchanged xs)

private_members-bare : (t : Tree) → private_members (mapped same t) ≡ private_members t
private_members-bare t = ap members_of_all (preorder-mapped same t) ∙ members_of_all-mapped same (preorder t) ∙ privates-unchanged (private_members t)

pairs-unchanged : (xs : List (ℕ × ℕ)) → map (mapped_pair same) xs ≡ xs
pairs-unchanged [] = refl
pairs-unchanged (x ∷ xs) = ap (λ rest. x ∷ rest) (pairs-unchanged xs)

named_classes-bare : (t : Tree) → named_classes (mapped same t) ≡ named_classes t
named_classes-bare t = named_classes-mapped same t ∙ pairs-unchanged (named_classes t)

mutual
  nodes-bare : (t : Tree) → nodes (mapped same t) ≡ nodes t
  nodes-bare (Node kind m span semantic_id ps) = ap (λ n. 1 + n) (nodes_of-bare ps)

  nodes_of_part-bare : (p : Part) → nodes_of_part (mapped_part same p) ≡ nodes_of_part p
  nodes_of_part-bare (child t) = nodes-bare t
  nodes_of_part-bare (list ps) = nodes_of-bare ps
  nodes_of_part-bare p = refl

  nodes_of-bare : (ps : Parts) → nodes_of (mapped_parts same ps) ≡ nodes_of ps
  nodes_of-bare end = refl
  nodes_of-bare (more p ps) = ap₂ (λ a b. a + b) (nodes_of_part-bare p) (nodes_of-bare ps)

source_terms-bare : (o : Options) (t : Tree) → source_terms o (mapped same t) ≡ source_terms o t
source_terms-bare o t = rw (nodes-bare t, private_members-bare t, named_classes-bare t) refl

source_means-bare : (o : Options) (t : Tree) → source_means o (mapped same t) ≡ source_means o t
source_means-bare o t = ap (λ x. means x (mapped same t)) (source_terms-bare o t) ∙ bare (source_terms o t) t

pub source_semantic_ids_law : SourceSemanticIdsLaw
source_semantic_ids_law o t = sym (source_means-bare o (stripped t)) ∙ ap (source_means o) (bare-stripped t) ∙ source_means-bare o t

-- ---- what private names mean

abbrev mapped_use : (ℕ → ℕ) → PrivateUse → PrivateUse
mapped_use f u = record { number = f u.number; spelling = u.spelling; class = mapped_option f u.class }

module _ (f : ℕ → ℕ) where
  class_of-mapped : (x : Option PrivateMember) → class_of (mapped_option (mapped_private f) x) ≡ mapped_option f (class_of x)
  class_of-mapped None = refl
  class_of-mapped (Some x) = refl

  mutual
    private_uses-mapped : (seen : List PrivateMember) (declares : Bool) (t : Tree) → private_uses (mapped_privates f seen) declares (mapped f t) ≡ map (mapped_use f) (private_uses seen declares t)
    private_uses-mapped seen declares (Node kind m span semantic_id ps) =
        rw (string_at-mapped f 0 ps, declared_member-mapped f (string_of (at 0 ps)) seen, class_of-mapped (declared_member (string_of (at 0 ps)) seen))
        (cond-mapped (map (mapped_use f)) (is_private_identifier kind) (cond declares [] (used m (string_of (at 0 ps)) (class_of (declared_member (string_of (at 0 ps)) seen)) ∷ [])) (uses_in (λ i. seen_members kind m ps i ++ seen) (is_element kind) ps)
        (cond-mapped (map (mapped_use f)) declares [] (used m (string_of (at 0 ps)) (class_of (declared_member (string_of (at 0 ps)) seen)) ∷ []) refl refl)
        (uses_in-mapped _ (λ i. seen_members kind m ps i ++ seen) (λ i. append-mapped (mapped_private f) (seen_members kind m ps i) seen (seen_members-mapped f kind m ps i) refl) (is_element kind) ps))

    uses_in-mapped : (there here : ℕ → List PrivateMember) → ((i : ℕ) → there i ≡ mapped_privates f (here i)) → (declares : Bool) (ps : Parts) → uses_in there declares (mapped_parts f ps) ≡ map (mapped_use f) (uses_in here declares ps)
    uses_in-mapped there here equal declares end = refl
    uses_in-mapped there here equal declares (more p ps) =
        append-mapped (mapped_use f) _ _ (ap (λ seen. part_uses seen declares (mapped_part f p)) (equal 0) ∙ part_uses-mapped (here 0) declares p)
        (uses_in-mapped (λ i. there (suc i)) (λ i. here (suc i)) (λ i. equal (suc i)) false ps)

    part_uses-mapped : (seen : List PrivateMember) (declares : Bool) (p : Part) → part_uses (mapped_privates f seen) declares (mapped_part f p) ≡ map (mapped_use f) (part_uses seen declares p)
    part_uses-mapped seen declares (child t) = private_uses-mapped seen declares t
    part_uses-mapped seen declares (list ps) = item_uses-mapped seen ps
    part_uses-mapped seen declares p = refl

    item_uses-mapped : (seen : List PrivateMember) (ps : Parts) → item_uses (mapped_privates f seen) (mapped_parts f ps) ≡ map (mapped_use f) (item_uses seen ps)
    item_uses-mapped seen end = refl
    item_uses-mapped seen (more p ps) = append-mapped (mapped_use f) _ _ (part_uses-mapped seen false p) (item_uses-mapped seen ps)

class-unchanged : (n : Option ℕ) → mapped_option same n ≡ n
class-unchanged None = refl
class-unchanged (Some n) = refl

uses-unchanged : (us : List PrivateUse) → map (mapped_use same) us ≡ us
uses-unchanged [] = refl
uses-unchanged (u ∷ us) = rw (class-unchanged u.class, uses-unchanged us) refl

resolve_privates-bare : (t : Tree) → resolve_privates (mapped same t) ≡ resolve_privates t
resolve_privates-bare t = private_uses-mapped same [] false t ∙ uses-unchanged (resolve_privates t)

pub private_semantic_ids_law : PrivateSemanticIdsLaw
private_semantic_ids_law t = (
  sym (private_members-bare (stripped t)) ∙ ap private_members (bare-stripped t) ∙ private_members-bare t,
  sym (resolve_privates-bare (stripped t)) ∙ ap resolve_privates (bare-stripped t) ∙ resolve_privates-bare t,
)

-- ---- numbers given anew

pub renumbering_law : RenumberingLaw
renumbering_law o t m once terms e old =
    let first : ℕ = o.first_new in
    let f : ℕ → ℕ = renaming first (new_numbers first t) in
    let r : Renames first f = renaming-renames first (new_numbers first t) in
    sym (bare o (renumbered first first t))
    ∙ ap (means o) (sym (renaming-renumbers first t once))
    ∙ ap (λ x. means x (mapped f t)) (sym (terms-still f (is_old first) r.old o terms))
    ∙ means-same o r t (Some m) e (ap Some (meaning-still f (is_old first) r.old m old))
