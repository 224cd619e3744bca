-- The names of bodies, functions and scopes, one after another.
use Rattle.std.proofs.Common.{◌≡◌, refl, sym, ap, ◌∙◌, ℕ, List, ◌++◌, false, cond, nat_eq, arith}
use Rattle.es_base.specs.Tree.{Part, Parts, more}
use Rattle.es_steps.specs.Parts.{at, block_items}
use Rattle.es_steps.specs.Scopes.{Declaration, no_class, own_name, bound_part, body_names, lexical_part, var_part, ScopeForm, program_scope, function_scope, own_function_scope, arrow_scope, own_class_scope, block_scope, static_block_scope, loop_scope, switch_scope, catch_scope, no_scope, scope_names, seen}
use Rattle.es_validity.specs.Facts.{counted}
use Rattle.es_binding_faults.proofs.Hoisting.{lexical-part, var-part}
use Rattle.es_binding_faults.proofs.Plain.{plain-append, plain-bound_part}
use Rattle.es_binding_faults.specs.Hoisted.{hoisted_part}
use Rattle.es_binding_faults.specs.Named.{plain}
use Rattle.es_binding_faults.specs.ScopeForms.{body_item}
use Rattle.es_binding_faults.specs.declared.hoisted.Hoist.{Hoist}

pub body_one : (p : Part) (ps : Parts) → plain (body_names (more p ps)) ≡ body_item p ++ plain (body_names ps)
body_one p ps =
    plain-append (lexical_part p ++ var_part p) (body_names ps)
    ∙ ap (λ (ds : List Declaration). ds ++ plain (body_names ps)) (plain-append (lexical_part p) (var_part p) ∙ ap (λ (ds : List Declaration). ds ++ plain (var_part p)) (lexical-part p) ∙ ap (λ (ds : List Declaration). hoisted_part Hoist.Lexical p ++ ds) (var-part p))

-- parameters, and then the names of a body
pub plain-function : (p q : Part) → plain (bound_part no_class p ++ body_names (block_items q)) ≡ bound_part no_class p ++ plain (body_names (block_items q))
plain-function p q = plain-append (bound_part no_class p) (body_names (block_items q)) ∙ ap (λ (ds : List Declaration). ds ++ plain (body_names (block_items q))) (plain-bound_part no_class p)

-- ---- what the parameters of a function see, and what its other parts do

apart : (m n : ℕ) → (m ≡ n → ⊥) → nat_eq m n ≡ false
apart m n different = grind (arith, different)

pub seen_parameters : (ps : Parts) (i : ℕ) → i ≡ 1 → plain (seen function_scope 0 ps i) ≡ bound_part no_class (at 1 ps)
seen_parameters ps i e = ap (λ (k : ℕ). plain (seen function_scope 0 ps k)) e ∙ plain-bound_part no_class (at 1 ps)

pub seen_function : (ps : Parts) (i : ℕ) → (i ≡ 1 → ⊥) → plain (seen function_scope 0 ps i) ≡ bound_part no_class (at 1 ps) ++ plain (body_names (block_items (at 2 ps)))
seen_function ps i e = ap (λ b. plain (cond b (bound_part no_class (at 1 ps)) (scope_names function_scope 0 ps))) (apart i 1 e) ∙ plain-function (at 1 ps) (at 2 ps)

pub seen_own : (ps : Parts) (i : ℕ) → plain (seen own_function_scope 0 ps i) ≡ plain (seen function_scope 0 ps i) ++ bound_part no_class (at 0 ps)
seen_own ps i = plain-append (seen function_scope 0 ps i) (bound_part no_class (at 0 ps)) ∙ ap (λ (ds : List Declaration). plain (seen function_scope 0 ps i) ++ ds) (plain-bound_part no_class (at 0 ps))

pub seen_arrow_parameters : (ps : Parts) (i : ℕ) → i ≡ 0 → plain (seen arrow_scope 0 ps i) ≡ bound_part no_class (at 0 ps)
seen_arrow_parameters ps i e = ap (λ (k : ℕ). plain (seen arrow_scope 0 ps k)) e ∙ plain-bound_part no_class (at 0 ps)

pub seen_arrow : (ps : Parts) (i : ℕ) → (i ≡ 0 → ⊥) → plain (seen arrow_scope 0 ps i) ≡ bound_part no_class (at 0 ps) ++ plain (body_names (block_items (at 1 ps)))
seen_arrow ps i e = ap (λ b. plain (cond b (bound_part no_class (at 0 ps)) (scope_names arrow_scope 0 ps))) (apart i 0 e) ∙ plain-function (at 0 ps) (at 1 ps)

pub catch_counted : (ps : Parts) → plain (bound_part no_class (at 0 ps) ++ var_part (at 1 ps)) ≡ bound_part no_class (at 0 ps) ++ hoisted_part Hoist.Var (at 1 ps)
catch_counted ps = plain-append (bound_part no_class (at 0 ps)) (var_part (at 1 ps)) ∙ ap (λ (ds : List Declaration). ds ++ plain (var_part (at 1 ps))) (plain-bound_part no_class (at 0 ps)) ∙ ap (λ (ds : List Declaration). bound_part no_class (at 0 ps) ++ ds) (var-part (at 1 ps))

-- which class or program it is does not matter
pub counted-plain : (form : ScopeForm) (m : ℕ) (ps : Parts) → plain (counted form 0 ps) ≡ plain (counted form m ps)
counted-plain program_scope m ps = refl
counted-plain function_scope m ps = refl
counted-plain own_function_scope m ps = refl
counted-plain arrow_scope m ps = refl
counted-plain own_class_scope m ps = plain-bound_part (own_name 0) (at 0 ps) ∙ sym (plain-bound_part (own_name m) (at 0 ps))
counted-plain block_scope m ps = refl
counted-plain static_block_scope m ps = refl
counted-plain loop_scope m ps = refl
counted-plain switch_scope m ps = refl
counted-plain catch_scope m ps = refl
counted-plain no_scope m ps = refl

pub seen-plain : (form : ScopeForm) (m : ℕ) (ps : Parts) (i : ℕ) → plain (seen form 0 ps i) ≡ plain (seen form m ps i)
seen-plain program_scope m ps i = refl
seen-plain function_scope m ps i = refl
seen-plain own_function_scope m ps i = refl
seen-plain arrow_scope m ps i = refl
seen-plain own_class_scope m ps i = plain-bound_part (own_name 0) (at 0 ps) ∙ sym (plain-bound_part (own_name m) (at 0 ps))
seen-plain block_scope m ps i = refl
seen-plain static_block_scope m ps i = refl
seen-plain loop_scope m ps i = refl
seen-plain switch_scope m ps i = refl
seen-plain catch_scope m ps i = refl
seen-plain no_scope m ps i = refl
