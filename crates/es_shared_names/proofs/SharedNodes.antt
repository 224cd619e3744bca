-- Shared bindings, node by node.
use Rattle.std.proofs.Common.{◌≡◌, refl, sym, ap, ◌∙◌, arith, ℕ, suc, ◌+◌, List, [], ◌++◌, Bool, true, false, append_assoc}
use Rattle.es_base.specs.Tree.{Tree, Part, Parts, Node, end, more, child}
use Rattle.es_base.specs.declared.kind.Kind.{Kind}
use Rattle.es_binding_faults.proofs.Hoisting.{lexical-part}
use Rattle.es_binding_faults.proofs.Plain.{plain-append, plain-bound_part}
use Rattle.es_binding_faults.specs.Hoisted.{hoisted_part}
use Rattle.es_binding_faults.specs.Named.{plain}
use Rattle.es_binding_faults.specs.declared.hoisted.Hoist.{Hoist}
use Rattle.es_node.specs.View.{kind_of, number_in, parts_in}
use Rattle.es_steps.specs.Parts.{at, block_items}
use Rattle.es_steps.specs.Scopes.{Declaration, ScopeForm, program_scope, function_scope, own_function_scope, arrow_scope, own_class_scope, block_scope, static_block_scope, loop_scope, switch_scope, catch_scope, no_scope, no_class, own_name, scope_of, bound_part, is_binding_identifier, is_body_part, is_declaring, lexical_items, lexical_part, scope_names, var_items}
use Rattle.es_steps.specs.Shared.{caught_names, hoisted_past, shared, shared_at, shared_behind, shared_in, shared_with}
use Rattle.es_shared_names.proofs.Nearest.{behind_plain, with_plain_front}
use Rattle.es_shared_names.specs.SharedParts.{shared_from, shared_here}

-- ---- the walk

from_place : (b f : ℕ → Bool) (i : ℕ) (ps : Parts) → ((k : ℕ) → f k ≡ b (i + k)) → shared_in f ps ≡ shared_from b i ps
from_place b f i end same = refl
from_place b f i (more p ps) same =
    ap (λ (x : Bool). shared_at x p ++ shared_in (λ k. f (suc k)) ps) (same 0 ∙ ap b (at_once i))
    ∙ ap (λ (xs : List (ℕ × ℕ)). shared_at (b i) p ++ xs) (from_place b (λ k. f (suc k)) (i + 1) ps (λ k. same (suc k) ∙ ap b (one_on i k)))
  where
    at_once : (i : ℕ) → i + 0 ≡ i
    at_once i = omega arith

    one_on : (i k : ℕ) → i + suc k ≡ (i + 1) + k
    one_on i k = omega arith

from_zero : (k : ℕ) → k ≡ 0 + k
from_zero k = omega arith

grouped : (xs ys zs vs : List (ℕ × ℕ)) → ((xs ++ ys) ++ zs) ++ vs ≡ (xs ++ (ys ++ zs)) ++ vs
grouped xs ys zs vs = ap (λ us. us ++ vs) (append_assoc xs ys zs)

pub shared_node : (is_body : Bool) (t : Tree) → shared is_body t ≡ shared_here is_body (kind_of t) (number_in t) (parts_in t) ++ shared_from (is_body_part (kind_of t)) 0 (parts_in t)
shared_node is_body (Node kind m span semantic_id ps) =
    grouped (shared_behind [] (scope_names (scope_of kind is_body) m ps)) (shared_behind [] (caught_names kind ps)) (hoisted_past is_body kind ps) (shared_in (is_body_part kind) ps)
    ∙ ap (λ xs. shared_here is_body kind m ps ++ xs) (from_place (is_body_part kind) (is_body_part kind) 0 ps (λ k. ap (is_body_part kind) (from_zero k)))

-- ---- the names of one node

scope-plain : (form : ScopeForm) (m : ℕ) (ps : Parts) → plain (scope_names form 0 ps) ≡ plain (scope_names form m ps)
scope-plain program_scope m ps = refl
scope-plain function_scope m ps = refl
scope-plain own_function_scope m ps = refl
scope-plain arrow_scope m ps = refl
scope-plain own_class_scope m ps = plain-bound_part (own_name 0) (at 0 ps) ∙ sym (plain-bound_part (own_name m) (at 0 ps))
scope-plain block_scope m ps = refl
scope-plain static_block_scope m ps = refl
scope-plain loop_scope m ps = refl
scope-plain switch_scope m ps = refl
scope-plain catch_scope m ps = refl
scope-plain no_scope m ps = refl

pub scope_behind : (form : ScopeForm) (m : ℕ) (ps : Parts) → shared_behind [] (plain (scope_names form 0 ps)) ≡ shared_behind [] (scope_names form m ps)
scope_behind form m ps = ap (shared_behind []) (scope-plain form m ps) ∙ behind_plain (scope_names form m ps)

pub none_caught : (kind : Kind) (ps : Parts) → (kind ≡ Kind.CatchClause → ⊥) → caught_names kind ps ≡ []
none_caught Kind.CatchClause ps other = absurd (other refl)
none_caught kind ps other = refl

pub caught_plain : (ps : Parts) → shared_behind [] (bound_part no_class (at 0 ps) ++ plain (lexical_items (block_items (at 1 ps)))) ≡ shared_behind [] (caught_names Kind.CatchClause ps)
caught_plain ps =
    ap (λ ds. shared_behind [] (ds ++ plain (lexical_items (block_items (at 1 ps))))) (sym (plain-bound_part no_class (at 0 ps)))
    ∙ ap (shared_behind []) (sym (plain-append (bound_part no_class (at 0 ps)) (lexical_items (block_items (at 1 ps)))))
    ∙ behind_plain (caught_names Kind.CatchClause ps)

pub none_past : (is_body : Bool) (kind : Kind) (ps : Parts) → (kind ≡ Kind.BlockStatement → ⊥) → (kind ≡ Kind.SwitchStatement → ⊥) → (kind ≡ Kind.ForStatement → ⊥) → (kind ≡ Kind.ForInStatement → ⊥) → (kind ≡ Kind.ForOfStatement → ⊥) → (kind ≡ Kind.CatchClause → ⊥) → hoisted_past is_body kind ps ≡ []
none_past false Kind.BlockStatement ps a b c d e f = absurd (a refl)
none_past false Kind.SwitchStatement ps a b c d e f = absurd (b refl)
none_past false Kind.ForStatement ps a b c d e f = absurd (c refl)
none_past false Kind.ForInStatement ps a b c d e f = absurd (d refl)
none_past false Kind.ForOfStatement ps a b c d e f = absurd (e refl)
none_past false Kind.CatchClause ps a b c d e f = absurd (f refl)
none_past false kind ps a b c d e f = refl
none_past true Kind.BlockStatement ps a b c d e f = absurd (a refl)
none_past true Kind.SwitchStatement ps a b c d e f = absurd (b refl)
none_past true Kind.ForStatement ps a b c d e f = absurd (c refl)
none_past true Kind.ForInStatement ps a b c d e f = absurd (d refl)
none_past true Kind.ForOfStatement ps a b c d e f = absurd (e refl)
none_past true Kind.CatchClause ps a b c d e f = absurd (f refl)
none_past true kind ps a b c d e f = refl

pub past_part : (p : Part) (ds : List Declaration) → shared_with (hoisted_part Hoist.Lexical p) ds ≡ shared_with (lexical_part p) ds
past_part p ds = ap (λ fs. shared_with fs ds) (sym (lexical-part p)) ∙ with_plain_front (lexical_part p) ds

pub declaring_node : (t : Tree) → is_declaring (child t) ≡ is_binding_identifier (kind_of t)
declaring_node (Node kind m span semantic_id ps) = refl

pub here_added : (old one two new xs ys zs : List (ℕ × ℕ)) → one ≡ old ++ xs → two ≡ one ++ ys → new ≡ two ++ zs → new ≡ old ++ (xs ++ (ys ++ zs))
here_added old one two new xs ys zs first second third =
    third
    ∙ ap (λ us. us ++ zs) (second ∙ ap (λ us. us ++ ys) first)
    ∙ append_assoc (old ++ xs) ys zs
    ∙ append_assoc old xs (ys ++ zs)
