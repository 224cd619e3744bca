-- What patterns and catches take, one after the other.
use Rattle.std.proofs.Common.{◌≡◌, refl, sym, ap, ◌∙◌, ℕ, ◌+◌, ◌<◌, suc, List, length, get_or, set, drop, Option, arith}
use Rattle.std.proofs.lemmas.List.{drop-set-lt}
use Rattle.es_codes.specs.CodeView.{code_of, codes_of}
use Rattle.es_codes.specs.declared.code.Code as coded
use Rattle.es_steps.specs.Code.{Code, Codes, rest, done, and, joined}
use Rattle.es_steps.specs.Members.{Member, Members, code, more}
use Rattle.es_steps.specs.Statements.{elements_from, given_codes, taken_properties}
use Rattle.es_code_members.proofs.Chaining.{joined_step}
use Rattle.es_code_members.proofs.Moved.{drop-here, moved}
use Rattle.es_code_members.specs.MembersView.{item_of, items_in}
use Rattle.es_code_targets.specs.Patterns.{taken_item}

pub given_step : (m : ℕ) (xs : List coded.Code) (i : ℕ) (x y : coded.Code) (old new all : Codes) → i < length xs → x ≡ get_or xs i x → new ≡ joined old (given_codes m (and (code_of x) done)) → joined old (given_codes m (codes_of (drop i xs))) ≡ all → joined new (given_codes m (codes_of (drop (i + 1) (set xs i y)))) ≡ all
given_step m = moved (λ xs. given_codes m (codes_of xs)) (λ x. given_codes m (and (code_of x) done)) (λ x xs. refl)

properties-more : (m : ℕ) (c : Code) (cs : Codes) → taken_properties m (and c cs) ≡ joined (taken_properties m (and c done)) (taken_properties m cs)
properties-more m (rest to) cs = refl
properties-more m c cs = refl

pub property_step : (m : ℕ) (xs : List coded.Code) (i : ℕ) (x y : coded.Code) (old new all : Codes) → i < length xs → x ≡ get_or xs i x → new ≡ joined old (taken_properties m (and (code_of x) done)) → joined old (taken_properties m (codes_of (drop i xs))) ≡ all → joined new (taken_properties m (codes_of (drop (i + 1) (set xs i y)))) ≡ all
property_step m = moved (λ xs. taken_properties m (codes_of xs)) (λ x. taken_properties m (and (code_of x) done)) (λ x xs. properties-more m (code_of x) (codes_of xs))

-- the elements of an array are numbered
elements-more : (m i : ℕ) (p : Member) (ps : Members) → elements_from m i (more p ps) ≡ joined (and (taken_item m i p) done) (elements_from m (suc i) ps)
elements-more m i (code c) ps = refl
elements-more m i p ps = refl

one-more : (k : ℕ) → k + 1 ≡ suc k
one-more k = omega arith

pub element_step : (m n j : ℕ) (xs : List (Option coded.Code)) (i : ℕ) (x y : Option coded.Code) (old new all : Codes) → i < length xs → x ≡ get_or xs i x → new ≡ joined old (and (taken_item m n (item_of x)) done) → j ≡ n + 1 → joined old (elements_from m n (items_in (drop i xs))) ≡ all → joined new (elements_from m j (items_in (drop (i + 1) (set xs i y)))) ≡ all
element_step m n j xs i x y old new all h is added next before =
    ap (λ (k : ℕ). joined new (elements_from m k (items_in (drop (i + 1) (set xs i y))))) (next ∙ one-more n)
    ∙ ap (λ zs. joined new (elements_from m (suc n) (items_in zs))) (drop-set-lt (i + 1) xs i y (omega arith))
    ∙ joined_step old new (and (taken_item m n (item_of x)) done) (elements_from m (suc n) (items_in (drop (i + 1) xs))) all added
    (ap (joined old) (sym (elements-more m n (item_of x) (items_in (drop (i + 1) xs))) ∙ ap (λ zs. elements_from m n (items_in zs)) (sym (drop-here xs i x h is))) ∙ before)
