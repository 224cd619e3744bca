-- The names of a whole program, one node after another.
use Rattle.std.proofs.Common.{◌≡◌, refl, sym, ap, ◌∙◌, ℕ, List, [], ◌∷◌, ◌++◌, Bool, true, false, cond, ◌||◌, Option, Some, None}
use Rattle.std.specs.Prelude.{filter, not, ◌&&◌, bytes_eq, nat_lt}
use Rattle.es_base.specs.Tree.{Tree, Part, Parts, Node, child}
use Rattle.es_base.specs.declared.kind.Kind.{Kind}
use Rattle.es_node.specs.View.{kind_of, number_in, parts_in}
use Rattle.es_steps.specs.Parts.{at}
use Rattle.es_steps.specs.References.{has_number, numbers_of}
use Rattle.es_steps.specs.Scopes.{Declaration, no_class, bound_part, scope_form, is_var}
use Rattle.es_validity.specs.Facts.{declared_by, lexical_identifiers, function_name, branch_names, counted, is_repeated_by, is_repeat, repeats, not_among, repeats_of_all, is_eval, eval_calls_of_all}
use Rattle.es_binding_faults.specs.Evals.{is_eval_call}
use Rattle.es_binding_faults.specs.Repeats.{repeats_in}
use Rattle.es_binding_faults.specs.WholeProgram.{lexical_place, is_function_declaration, is_if, branches_at}

pub numbers_of-append : (ds es : List Declaration) → numbers_of (ds ++ es) ≡ numbers_of ds ++ numbers_of es
numbers_of-append [] es = refl
numbers_of-append (d ∷ ds) es = ap (λ (ns : List ℕ). d.number ∷ ns) (numbers_of-append ds es)

-- ---- what a node declares

abbrev pub placed : Option ℕ → Parts → List ℕ
placed None ps = []
placed (Some i) ps = numbers_of (bound_part no_class (at i ps))

variables_placed : (ps : Parts) (b : Bool) → cond b [] (numbers_of (bound_part no_class (at 1 ps))) ≡ placed (cond b None (Some 1)) ps
variables_placed ps true = refl
variables_placed ps false = refl

pub declared_placed : (kind : Kind) (ps : Parts) → declared_by kind ps ≡ placed (lexical_place kind ps) ps
declared_placed Kind.VariableDeclaration ps = variables_placed ps (is_var ps)
declared_placed kind ps = refl

pub lexical_one : (t : Tree) (ts : List Tree) → lexical_identifiers (t ∷ ts) ≡ declared_by (kind_of t) (parts_in t) ++ lexical_identifiers ts
lexical_one (Node kind m span semantic_id ps) ts = refl

-- ---- functions that are branches

pub function_here : (t : Tree) → true ≡ is_function_declaration (kind_of t) → function_name (child t) ≡ numbers_of (bound_part no_class (at 0 (parts_in t)))
function_here (Node Kind.FunctionDeclaration m span semantic_id ps) e = refl
function_here (Node kind m span semantic_id ps) e = absurd (cc)

pub no_function : (t : Tree) → false ≡ is_function_declaration (kind_of t) → function_name (child t) ≡ []
no_function (Node Kind.FunctionDeclaration m span semantic_id ps) e = absurd (cc)
no_function (Node kind m span semantic_id ps) e = refl

pub branches_is : (t : Tree) → branches_at t ≡ cond (is_if (kind_of t)) (function_name (at 1 (parts_in t)) ++ function_name (at 2 (parts_in t))) []
branches_is (Node kind m span semantic_id ps) = refl

pub branches_one : (t : Tree) (ts : List Tree) → branch_names (t ∷ ts) ≡ branches_at t ++ branch_names ts
branches_one (Node Kind.IfStatement m span semantic_id ps) ts = refl
branches_one (Node kind m span semantic_id ps) ts = refl

-- ---- repeated names

pub repeats_one : (lexical branches : List ℕ) (t : Tree) (ts : List Tree) → repeats_of_all lexical branches (t ∷ ts) ≡ repeats_in lexical branches t ++ repeats_of_all lexical branches ts
repeats_one lexical branches (Node kind m span semantic_id ps) ts = refl

abbrev pub AreSame : List ℕ → List ℕ → Type 0
AreSame xs ys = (n : ℕ) → has_number n xs ≡ has_number n ys

filter-same : (p q : Declaration → Bool) → ((d : Declaration) → p d ≡ q d) → (ds : List Declaration) → filter p ds ≡ filter q ds
filter-same p q same [] = refl
filter-same p q same (d ∷ ds) = ap (λ b. cond b (d ∷ filter p ds) (filter p ds)) (same d) ∙ ap (λ es. cond (q d) (d ∷ es) es) (filter-same p q same ds)

is_repeat-same : (xs ys : List ℕ) → AreSame xs ys → (ds : List Declaration) (d : Declaration) → is_repeat xs ds d ≡ is_repeat ys ds d
is_repeat-same xs ys same [] d = refl
is_repeat-same xs ys same (e ∷ es) d =
    ap (λ b. (bytes_eq e.spelling d.spelling && (nat_lt e.number d.number && (b || has_number d.number xs))) || is_repeat xs es d) (same e.number)
    ∙ ap (λ b. (bytes_eq e.spelling d.spelling && (nat_lt e.number d.number && (has_number e.number ys || b))) || is_repeat xs es d) (same d.number)
    ∙ ap (λ b. is_repeated_by ys e d || b) (is_repeat-same xs ys same es d)

pub repeats-same : (lexical branches xs ys : List ℕ) → AreSame lexical xs → AreSame branches ys → (ts : List Tree) → repeats_of_all lexical branches ts ≡ repeats_of_all xs ys ts
repeats-same lexical branches xs ys same alike [] = refl
repeats-same lexical branches xs ys same alike (Node kind m span semantic_id ps ∷ ts) =
    let ds = counted (scope_form kind) m ps in
    ap (λ (ns : List ℕ). ns ++ repeats_of_all lexical branches ts)
    (ap (repeats lexical) (filter-same (not_among branches) (not_among ys) (λ d. ap not (alike d.number)) ds)
    ∙ ap numbers_of (filter-same (is_repeat lexical (filter (not_among ys) ds)) (is_repeat xs (filter (not_among ys) ds)) (is_repeat-same lexical xs same (filter (not_among ys) ds)) (filter (not_among ys) ds)))
    ∙ ap (λ (ns : List ℕ). repeats xs (filter (not_among ys) ds) ++ ns) (repeats-same lexical branches xs ys same alike ts)

-- ---- calls of `eval`

pub calls_one : (evals : List ℕ) (t : Tree) (ts : List Tree) → eval_calls_of_all evals (t ∷ ts) ≡ cond (is_eval_call evals t) (number_in t ∷ []) [] ++ eval_calls_of_all evals ts
calls_one evals (Node Kind.CallExpression m span semantic_id ps) ts = refl
calls_one evals (Node kind m span semantic_id ps) ts = refl

is_eval-same : (xs ys : List ℕ) → AreSame xs ys → (p : Part) → is_eval xs p ≡ is_eval ys p
is_eval-same xs ys same (child (Node Kind.IdentifierReference m span semantic_id ps)) = same m
is_eval-same xs ys same p = refl

call-same : (xs ys : List ℕ) → AreSame xs ys → (t : Tree) → is_eval_call xs t ≡ is_eval_call ys t
call-same xs ys same (Node Kind.CallExpression m span semantic_id ps) = is_eval-same xs ys same (at 0 ps)
call-same xs ys same (Node kind m span semantic_id ps) = refl

pub calls-same : (xs ys : List ℕ) → AreSame xs ys → (ts : List Tree) → eval_calls_of_all xs ts ≡ eval_calls_of_all ys ts
calls-same xs ys same [] = refl
calls-same xs ys same (t ∷ ts) =
    calls_one xs t ts
    ∙ ap (λ b. cond b (number_in t ∷ []) [] ++ eval_calls_of_all xs ts) (call-same xs ys same t)
    ∙ ap (λ (ns : List ℕ). cond (is_eval_call ys t) (number_in t ∷ []) [] ++ ns) (calls-same xs ys same ts)
    ∙ sym (calls_one ys t ts)

not_called : (p : Part) → is_eval [] p ≡ false
not_called (child (Node Kind.IdentifierReference m span semantic_id ps)) = refl
not_called p = refl

pub none_called : (evals : List ℕ) (ts : List Tree) → evals ≡ [] → eval_calls_of_all evals ts ≡ []
none_called evals [] e = refl
none_called evals (t ∷ ts) e = calls_one evals t ts ∙ ap (λ (xs : List ℕ). cond (is_eval_call xs t) (number_in t ∷ []) [] ++ eval_calls_of_all evals ts) e ∙ ap (λ b. cond b (number_in t ∷ []) [] ++ eval_calls_of_all evals ts) (not_call t) ∙ none_called evals ts e
  where
    not_call : (t : Tree) → is_eval_call [] t ≡ false
    not_call (Node Kind.CallExpression m span semantic_id ps) = not_called (at 0 ps)
    not_call (Node kind m span semantic_id ps) = refl
