-- Names around functions that are branches follow a change of numbers.
use Rattle.std.specs.Prelude.{◌≡◌, ℕ, suc, List, [], ◌∷◌, map, false, cond, bytes_eq}
use Rattle.std.proofs.Common.{refl}
use Rattle.es_base.specs.Tree.{Tree, Part, Parts, Node, end, more, child, list, string}
use Rattle.es_base.specs.declared.kind.Kind.{Kind}
use Rattle.es_steps.specs.Branches.{spelled_as, around_branch, around_branches_here, names_inside, around_branches, around_branches_in, around_branches_of, around_branches_at}
use Rattle.es_steps.specs.Parts.{at}
use Rattle.es_steps.specs.References.{takes_vars}
use Rattle.es_steps.specs.Scopes.{Declaration, names_at}
use Rattle.es_steps.specs.Values.{String}
use Rattle.es_steps.proofs.Mapped.{mapped, mapped_part, mapped_parts, mapped_declaration, mapped_declarations, mapped_pair}
use Rattle.es_steps.proofs.PartsMapped.{cond-mapped, append-mapped, at-mapped}
use Rattle.es_steps.proofs.ScopesMapped.{names_at-mapped}

module _ (f : ℕ → ℕ) where
  spelled_as-mapped : (b : ℕ) (s : String) (ds : List Declaration) → spelled_as (f b) s (mapped_declarations f ds) ≡ map (mapped_pair f) (spelled_as b s ds)
  spelled_as-mapped b s [] = refl
  spelled_as-mapped b s (d ∷ ds) =
      rw (spelled_as-mapped b s ds) (cond-mapped (map (mapped_pair f)) (bytes_eq s d.spelling) ((b, d.number) ∷ spelled_as b s ds) (spelled_as b s ds) refl refl)

  around_branch-mapped : (names : List Declaration) (p : Part) → around_branch (mapped_declarations f names) (mapped_part f p) ≡ map (mapped_pair f) (around_branch names p)
  around_branch-mapped names (child (Node Kind.FunctionDeclaration g span semantic_id (more (child (Node Kind.BindingIdentifier b bspan b_semantic_id (more (string s) end))) ps))) = spelled_as-mapped b s names
  around_branch-mapped names p = refl

  around_branches_here-mapped : (names : List Declaration) (kind : Kind) (ps : Parts) → around_branches_here (mapped_declarations f names) kind (mapped_parts f ps) ≡ map (mapped_pair f) (around_branches_here names kind ps)
  around_branches_here-mapped names Kind.IfStatement ps =
      rw (at-mapped f 1 ps, at-mapped f 2 ps) (append-mapped (mapped_pair f) _ _ (around_branch-mapped names (at 1 ps)) (around_branch-mapped names (at 2 ps)))
  around_branches_here-mapped names kind ps = refl

  names_inside-mapped : (names : List Declaration) (kind : Kind) (m : ℕ) (ps : Parts) (i : ℕ) → names_inside (mapped_declarations f names) kind (f m) (mapped_parts f ps) i ≡ mapped_declarations f (names_inside names kind m ps i)
  names_inside-mapped names kind m ps i =
      append-mapped (mapped_declaration f) (names_at false kind m ps i) (cond (takes_vars kind) [] names) (names_at-mapped f false kind m ps i) (cond-mapped (mapped_declarations f) (takes_vars kind) [] names refl refl)

  mutual
    pub around_branches-mapped : (names : List Declaration) (t : Tree) → around_branches (mapped_declarations f names) (mapped f t) ≡ map (mapped_pair f) (around_branches names t)
    around_branches-mapped names (Node kind m span semantic_id ps) =
        append-mapped (mapped_pair f) _ _ (around_branches_here-mapped names kind ps)
        (around_branches_in-mapped _ (names_inside names kind m ps) (names_inside-mapped names kind m ps) ps)

    -- names that are seen part by part
    around_branches_in-mapped : (seen names : ℕ → List Declaration) → ((i : ℕ) → seen i ≡ mapped_declarations f (names i)) → (ps : Parts) → around_branches_in seen (mapped_parts f ps) ≡ map (mapped_pair f) (around_branches_in names ps)
    around_branches_in-mapped seen names same end = refl
    around_branches_in-mapped seen names same (more p ps) =
        append-mapped (mapped_pair f) _ _
        (rw (same 0) (around_branches_at-mapped (names 0) p))
        (around_branches_in-mapped (λ i. seen (suc i)) (λ i. names (suc i)) (λ i. same (suc i)) ps)

    around_branches_of-mapped : (names : List Declaration) (ps : Parts) → around_branches_of (mapped_declarations f names) (mapped_parts f ps) ≡ map (mapped_pair f) (around_branches_of names ps)
    around_branches_of-mapped names end = refl
    around_branches_of-mapped names (more p ps) = append-mapped (mapped_pair f) _ _ (around_branches_at-mapped names p) (around_branches_of-mapped names ps)

    around_branches_at-mapped : (names : List Declaration) (p : Part) → around_branches_at (mapped_declarations f names) (mapped_part f p) ≡ map (mapped_pair f) (around_branches_at names p)
    around_branches_at-mapped names (child t) = around_branches-mapped names t
    around_branches_at-mapped names (list ps) = around_branches_of-mapped names ps
    around_branches_at-mapped names p = refl
