-- The constructors among elements, and parameters that take all arguments.
use Rattle.std.proofs.Common.{◌≡◌, refl, ap, ◌∙◌, ℕ, ◌+◌, ◌<◌, ◌≤◌, List, [], ◌∷◌, length, drop, get_or, Bool, true, false, cond, Option, Some, None, arith}
use Rattle.std.proofs.lemmas.List.{drop_more, drop_all}
use Rattle.es_base.specs.declared.ledger.GeneratedKind.{GeneratedKind}
use Rattle.es_steps.specs.Code as of
use Rattle.es_steps.specs.Context.{NameKind, Generated}
use Rattle.es_steps.specs.Entries.{no_constructor}
use Rattle.es_steps.specs.Opening.{all_arguments}
use Rattle.es_steps.specs.Values.{String}
use Rattle.es_codes.specs.CodeView.{code_of, codes_of}
use Rattle.es_codes.specs.declared.code.Code.{Code}
use Rattle.es_code_bodies.specs.Constructing.{no_function, one_function, more_functions, constructor_function, constructors_in, is_args}

-- ---- constructors

here : (c : of.Code) (cs : of.Codes) (f : of.Code) → Some f ≡ constructor_function c → constructors_in (of.and c cs) ≡ cond (no_constructor cs) (one_function f) more_functions
here (of.constructor g) cs f e = cc
here c cs f e = absurd (cc)

not_there : (c : of.Code) (cs : of.Codes) → None ≡ constructor_function c → constructors_in (of.and c cs) ≡ constructors_in cs
not_there (of.constructor g) cs e = absurd (cc)
not_there c cs e = refl

pub found_here : (cs : List Code) (i : ℕ) (d : Code) (f : of.Code) → i < length cs → Some f ≡ constructor_function (code_of (get_or cs i d)) → constructors_in (codes_of (drop i cs)) ≡ cond (no_constructor (codes_of (drop (i + 1) cs))) (one_function f) more_functions
found_here cs i d f h e =
    ap (λ (l : List Code). constructors_in (codes_of l)) (drop_more cs i d h)
    ∙ here (code_of (get_or cs i d)) (codes_of (drop (i + 1) cs)) f e

pub not_here : (cs : List Code) (i : ℕ) (d : Code) → i < length cs → None ≡ constructor_function (code_of (get_or cs i d)) → constructors_in (codes_of (drop i cs)) ≡ constructors_in (codes_of (drop (i + 1) cs))
not_here cs i d h e =
    ap (λ (l : List Code). constructors_in (codes_of l)) (drop_more cs i d h)
    ∙ not_there (code_of (get_or cs i d)) (codes_of (drop (i + 1) cs)) e

pub nowhere : (cs : List Code) (i : ℕ) → length cs ≤ i → constructors_in (codes_of (drop i cs)) ≡ no_function
nowhere cs i h = ap (λ (l : List Code). constructors_in (codes_of l)) (drop_all i cs h)

-- ---- parameters

pub args_named : (m : ℕ) (x : String) (kind : NameKind) → all_arguments (of.and (of.rest (of.to_name m x kind)) of.done) ≡ is_args kind
args_named m x (Generated GeneratedKind.Args) = refl
args_named m x kind = refl

two_parameters : (c d : of.Code) (cs : of.Codes) → all_arguments (of.and c (of.and d cs)) ≡ false
two_parameters (of.rest (of.to_name m x (Generated GeneratedKind.Args))) d cs = refl
two_parameters c d cs = refl

pub many_parameters : (ps : List Code) → 2 ≤ length ps → all_arguments (codes_of ps) ≡ false
many_parameters [] h = absurd (omega arith)
many_parameters (p ∷ []) h = absurd (omega arith)
many_parameters (p ∷ q ∷ ps) h = two_parameters (code_of p) (code_of q) (codes_of ps)
