-- Copies of temporaries, one more at a time.
use Rattle.std.proofs.Common.{◌≡◌, refl, sym, ap, ap₂, ◌∙◌, ℕ, zero, suc, ◌+◌, ◌-◌, ◌<◌, ◌≤◌, List, [], ◌∷◌, ◌++◌, length, take, drop, get_or, append_assoc, append-nil, Bool, true, false, cond, ◌||◌, arith}
use Rattle.std.proofs.lemmas.Bool.Decides.{same_from_decides}
use Rattle.std.proofs.lemmas.List.{drop_all, drop_more, take-append-drop, take_all, take_more}
use Rattle.std.proofs.lemmas.Slice.Eq.{bytes_eq-Decides}
use Rattle.std.specs.Prelude.{bytes_eq}
use Rattle.es_evaluation.specs.Direct.{kept}
use Rattle.es_evaluator.proofs.Given.{length_names_of, names_of_push, names_of_take, onto_names-append}
use Rattle.es_evaluator.specs.Running.{names_of, onto_names}
use Rattle.es_evaluator.specs.declared.state.Named.{Named}
use Rattle.es_steps.specs.Entries.{is_string_among, without}
use Rattle.es_steps.specs.Evaluation.{Environment, is_private_key, only_private}
use Rattle.es_steps.specs.Values.{String}

-- ---- all of them

pub all_copied : (ns xs : List Named) (i : ℕ) (x : Named) → i < length xs → x ≡ get_or xs i x → (ns ++ x ∷ []) ++ drop (i + 1) xs ≡ ns ++ drop i xs
all_copied ns xs i x below is =
    append_assoc ns (x ∷ []) (drop (i + 1) xs)
    ∙ ap (λ (y : Named). ns ++ y ∷ drop (i + 1) xs) is
    ∙ ap (λ (l : List Named). ns ++ l) (sym (drop_more xs i x below))

pub none_left : (ns xs : List Named) (i : ℕ) → length xs ≤ i → ns ++ drop i xs ≡ ns
none_left ns xs i above = ap (λ (l : List Named). ns ++ l) (drop_all i xs above) ∙ append-nil ns

-- what is behind the first that are known is added to these
taken_names : (ns : List Named) (i : ℕ) (x : Named) → i < length ns → x ≡ get_or ns i x → names_of (take (i + 1) ns) ≡ (x.name, x.value) ∷ names_of (take i ns)
taken_names ns i x below is =
    ap names_of (take_more ns i x below)
    ∙ names_of_push (take i ns) (get_or ns i x)
    ∙ ap (λ (y : Named). (y.name, y.value) ∷ names_of (take i ns)) (sym is)

-- ---- private elements

next_count : (i first : ℕ) → first ≤ i → (i + 1) - first ≡ suc (i - first)
next_count i first h = omega arith

only_more : (b : Bool) (k : ℕ) (x : Named) (env : Environment) → is_private_key x.name ≡ b → only_private (suc k) ((x.name, x.value) ∷ env) ≡ cond b ((x.name, x.value) ∷ only_private k env) (only_private k env)
only_more b k x env h = ap (λ (c : Bool). cond c ((x.name, x.value) ∷ only_private k env) (only_private k env)) h

private_next : (b : Bool) (xs : List Named) (i first : ℕ) (x : Named) → first ≤ i → i < length xs → x ≡ get_or xs i x → is_private_key x.name ≡ b
    → only_private ((i + 1) - first) (names_of (take (i + 1) xs)) ≡ cond b ((x.name, x.value) ∷ only_private (i - first) (names_of (take i xs))) (only_private (i - first) (names_of (take i xs)))
private_next b xs i first x start below is h =
    ap₂ (λ (k : ℕ) (env : Environment). only_private k env) (next_count i first start) (taken_names xs i x below is)
    ∙ only_more b (i - first) x (names_of (take i xs)) h

pub private_copied : (ns ms xs : List Named) (i first : ℕ) (x : Named) → first ≤ i → i < length xs → x ≡ get_or xs i x → is_private_key x.name ≡ true
    → names_of ns ≡ only_private (i - first) (names_of (take i xs)) ++ names_of ms
    → names_of (ns ++ x ∷ []) ≡ only_private ((i + 1) - first) (names_of (take (i + 1) xs)) ++ names_of ms
private_copied ns ms xs i first x start below is h before =
    names_of_push ns x
    ∙ ap (λ (env : Environment). (x.name, x.value) ∷ env) before
    ∙ ap (λ (env : Environment). env ++ names_of ms) (sym (private_next true xs i first x start below is h))

pub public_left_out : (ns ms xs : List Named) (i first : ℕ) (x : Named) → first ≤ i → i < length xs → x ≡ get_or xs i x → is_private_key x.name ≡ false
    → names_of ns ≡ only_private (i - first) (names_of (take i xs)) ++ names_of ms
    → names_of ns ≡ only_private ((i + 1) - first) (names_of (take (i + 1) xs)) ++ names_of ms
public_left_out ns ms xs i first x start below is h before = before ∙ ap (λ (env : Environment). env ++ names_of ms) (sym (private_next false xs i first x start below is h))

pub no_private_yet : (ns xs : List Named) (first : ℕ) → names_of ns ≡ only_private (first - first) (names_of (take first xs)) ++ names_of ns
no_private_yet ns xs first = let z : 0 ≡ first - first = omega arith in ap (λ (k : ℕ). only_private k (names_of (take first xs)) ++ names_of ns) z

pub all_private : (ns ms xs : List Named) (i first : ℕ) → length xs ≤ i → i - first ≤ length xs - first → names_of ns ≡ only_private (i - first) (names_of (take i xs)) ++ names_of ms → names_of ns ≡ only_private (length xs - first) (names_of xs) ++ names_of ms
all_private ns ms xs i first above count before =
    let n : i - first ≡ length xs - first = omega (arith, above, count) in
    before ∙ ap₂ (λ (k : ℕ) (l : List Named). only_private k (names_of l) ++ names_of ms) n (take_all i xs above)

-- ---- those that are not hidden

without_next : (b : Bool) (hidden : List String) (xs : List Named) (i : ℕ) (x : Named) → i < length xs → x ≡ get_or xs i x → is_string_among x.name hidden ≡ b
    → without hidden (names_of (take (i + 1) xs)) ≡ cond b (without hidden (names_of (take i xs))) ((x.name, x.value) ∷ without hidden (names_of (take i xs)))
without_next b hidden xs i x below is h =
    ap (without hidden) (taken_names xs i x below is)
    ∙ ap (λ (c : Bool). cond c (without hidden (names_of (take i xs))) ((x.name, x.value) ∷ without hidden (names_of (take i xs)))) h

pub other_copied : (hidden : List String) (ns xs : List Named) (i : ℕ) (x : Named) → i < length xs → x ≡ get_or xs i x → is_string_among x.name hidden ≡ false
    → names_of ns ≡ without hidden (names_of (take i xs)) → names_of (ns ++ x ∷ []) ≡ without hidden (names_of (take (i + 1) xs))
other_copied hidden ns xs i x below is h before =
    names_of_push ns x
    ∙ ap (λ (env : Environment). (x.name, x.value) ∷ env) before
    ∙ sym (without_next false hidden xs i x below is h)

pub hidden_left_out : (hidden : List String) (ns xs : List Named) (i : ℕ) (x : Named) → i < length xs → x ≡ get_or xs i x → is_string_among x.name hidden ≡ true
    → names_of ns ≡ without hidden (names_of (take i xs)) → names_of ns ≡ without hidden (names_of (take (i + 1) xs))
hidden_left_out hidden ns xs i x below is h before = before ∙ sym (without_next true hidden xs i x below is h)

pub no_names : names_of [] ≡ []
unfolding names_of
no_names = refl

pub none_copied_yet : (hidden : List String) (xs : List Named) → names_of [] ≡ without hidden (names_of (take 0 xs))
unfolding names_of
none_copied_yet hidden xs = refl

pub all_gone_over : (hidden : List String) (ns xs : List Named) (i : ℕ) → length xs ≤ i → names_of ns ≡ without hidden (names_of (take i xs)) → names_of ns ≡ without hidden (names_of xs)
all_gone_over hidden ns xs i above before = before ∙ ap (λ (l : List Named). without hidden (names_of l)) (take_all i xs above)

-- ---- a name among others

not_same : (b : Bool) → (b ≡ true → ⊥) → b ≡ false
not_same true h = absurd (h refl)
not_same false h = refl

pub among_here : (s : String) (xs : List String) (i : ℕ) (x : String) → i < length xs → x ≡ get_or xs i x → s ≡ x → is_string_among s (drop i xs) ≡ true
among_here s xs i x below is same =
    ap (is_string_among s) (drop_more xs i x below)
    ∙ ap (λ (b : Bool). b || is_string_among s (drop (i + 1) xs)) ((bytes_eq-Decides s (get_or xs i x)).1 (same ∙ is))

pub among_behind : (s : String) (xs : List String) (i : ℕ) (x : String) → i < length xs → x ≡ get_or xs i x → (s ≡ x → ⊥) → is_string_among s (drop i xs) ≡ is_string_among s (drop (i + 1) xs)
among_behind s xs i x below is other =
    ap (is_string_among s) (drop_more xs i x below)
    ∙ ap (λ (b : Bool). b || is_string_among s (drop (i + 1) xs)) (not_same (bytes_eq s (get_or xs i x)) (λ t. other ((bytes_eq-Decides s (get_or xs i x)).0 t ∙ sym is)))

pub among_none : (s : String) (xs : List String) (i : ℕ) → length xs ≤ i → is_string_among s (drop i xs) ≡ false
among_none s xs i above = ap (is_string_among s) (drop_all i xs above)

-- ---- where an evaluation led

-- the names that were there are those in front of the others
pub names_behind : (ns xs : List Named) → kept (length (names_of ns)) (names_of xs) ≡ names_of ns → names_of (ns ++ drop (length ns) xs) ≡ names_of xs
unfolding names_of
names_behind ns xs h =
    let n : length (names_of ns) ≡ length ns = length_names_of ns in
    let front : onto_names [] (take (length ns) xs) ≡ onto_names [] ns = names_of_take (length ns) xs ∙ ap (λ (k : ℕ). kept k (names_of xs)) (sym n) ∙ h in
    onto_names-append [] ns (drop (length ns) xs)
    ∙ ap (λ (env : Environment). onto_names env (drop (length ns) xs)) (sym front)
    ∙ sym (onto_names-append [] (take (length ns) xs) (drop (length ns) xs))
    ∙ ap (onto_names []) (take-append-drop (length ns) xs)
