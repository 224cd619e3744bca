-- A table of one scope without names.
use Rattle.std.proofs.Common.{◌≡◌, refl, ap, ◌∙◌, ℕ, zero, suc, List, [], None}
use Rattle.es_base.specs.declared.ids.ScopeId.{ScopeId}
use Rattle.es_scopes.specs.Bindings as bindings
use Rattle.es_scopes.specs.Table.{names_at}
use Rattle.es_uids.specs.Uids.{AreTaken}
use Rattle.es_uids.specs.declared.traverse_scoping.TraverseScoping.{TraverseScoping}
use Rattle.common_tests.specs.Root.{one_scope}

no-name : (name : List ℕ) (n : ℕ) → bindings.lookup name (names_at one_scope (record { 0 = n })) ≡ None
no-name name zero = refl
no-name name (suc n) = refl

pub are_taken : (t : TraverseScoping) (s : ScopeId) → t.scoping ≡ one_scope → AreTaken t s
are_taken t s is name free = ap (λ x. bindings.lookup name (names_at x s)) is ∙ no-name name s.0

pub no_references : (t : TraverseScoping) → t.scoping ≡ one_scope → t.scoping.references ≡ []
no_references t is = ap (λ x. x.references) is
