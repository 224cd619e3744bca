-- Names that were given, in front of those that were given earlier.
use Rattle.std.proofs.Common.{◌≡◌, refl, sym, ap, ap₂, ◌∙◌, ℕ, ◌+◌, ◌-◌, List, [], ◌∷◌, ◌++◌, length, take, drop, Bool, true, false, cond, Some, None, ◌<◌, ◌≤◌, zero, suc, get_or, arith}
use Rattle.std.specs.Prelude.{bytes_eq}
use Rattle.std.proofs.lemmas.Slice.Eq.{bytes_eq-Decides}
use Rattle.std.proofs.lemmas.List.{drop-drop, take-append-drop, take_more, length-drop, map-append}
use Rattle.es_steps.specs.Evaluation.{Environment}
use Rattle.es_steps.specs.Evaluation.{found, is_binding_value}
use Rattle.es_steps.specs.Values.{String, Value, ConstantOf, Undefined, BindingOf, FunctionOf, ClassOf, ThisOf, ArgumentsOf, NewTargetOf, ResultOf, FormerOf, KeyOf}
use Rattle.es_codes.specs.Keyed.{is_key}
use Rattle.es_evaluation.specs.Direct.{State, kept, given_as, kept_as, stands_for}
use Rattle.es_codes.specs.View.{token_of, tokens_of}
use Rattle.es_codes.specs.declared.event.Token.{Token}
use Rattle.es_evaluator.specs.declared.state.Named.{Named}
use Rattle.es_evaluator.specs.Running.{onto_names, names_of}

pub onto_names-append : (env : Environment) (xs ys : List Named) → onto_names env (xs ++ ys) ≡ onto_names (onto_names env xs) ys
onto_names-append env [] ys = refl
onto_names-append env (x ∷ xs) ys = onto_names-append ((x.name, x.value) ∷ env) xs ys

pub names_of_push : (ns : List Named) (n : Named) → names_of (ns ++ n ∷ []) ≡ (n.name, n.value) ∷ names_of ns
unfolding names_of
names_of_push ns n = onto_names-append [] ns (n ∷ [])

length-onto : (env : Environment) (ns : List Named) → length (onto_names env ns) ≡ length ns + length env
length-onto env [] = omega arith
length-onto env (n ∷ ns) = let e : length (onto_names ((n.name, n.value) ∷ env) ns) ≡ length ns + length ((n.name, n.value) ∷ env) = length-onto ((n.name, n.value) ∷ env) ns in omega (arith, e)

pub length_names_of : (ns : List Named) → length (names_of ns) ≡ length ns
unfolding names_of
length_names_of ns = let e : length (onto_names [] ns) ≡ length ns + 0 = length-onto [] ns in omega (arith, e)

drop-onto : (env : Environment) (ns : List Named) → drop (length ns) (onto_names env ns) ≡ env
drop-onto env [] = refl
drop-onto env (n ∷ ns) =
    let e : length (n ∷ ns) ≡ length ns + 1 = omega arith in
    ap (λ (k : ℕ). drop k (onto_names ((n.name, n.value) ∷ env) ns)) e
    ∙ sym (drop-drop 1 (length ns) (onto_names ((n.name, n.value) ∷ env) ns))
    ∙ ap (λ (l : Environment). drop 1 l) (drop-onto ((n.name, n.value) ∷ env) ns)

-- what is cut back is what was given first
pub names_of_take : (k : ℕ) (ns : List Named) → names_of (take k ns) ≡ kept k (names_of ns)
unfolding names_of
names_of_take k ns =
    let n : length (drop k ns) ≡ length (names_of ns) - k = length-drop k ns ∙ ap (λ (j : ℕ). j - k) (sym (length_names_of ns)) in
    let whole : onto_names (names_of (take k ns)) (drop k ns) ≡ names_of ns = sym (onto_names-append [] (take k ns) (drop k ns)) ∙ ap names_of (take-append-drop k ns) in
    sym (drop-onto (names_of (take k ns)) (drop k ns)) ∙ ap₂ (λ (j : ℕ) (l : Environment). drop j l) n whole

pub tokens_of_push : (ts : List Token) (t : Token) → tokens_of (ts ++ t ∷ []) ≡ tokens_of ts ++ token_of t ∷ []
tokens_of_push ts t = map-append token_of ts (t ∷ [])

-- ---- what a temporary is given

pub given_key : (m : ℕ) (x : String) (v : Value) (s : State) → is_key v ≡ true → given_as m x v s ≡ stands_for x (cond (is_binding_value v) (ResultOf m) v) s
given_key m x (KeyOf v) s h = refl
given_key m x (ConstantOf c) s h = cc
given_key m x Undefined s h = cc
given_key m x (BindingOf b) s h = cc
given_key m x (FunctionOf f) s h = cc
given_key m x (ClassOf n) s h = cc
given_key m x (ThisOf k) s h = cc
given_key m x (ArgumentsOf k) s h = cc
given_key m x (NewTargetOf k) s h = cc
given_key m x (ResultOf n) s h = cc
given_key m x (FormerOf n) s h = cc

pub given_plain : (m : ℕ) (x : String) (v : Value) (s : State) → is_key v ≡ false → given_as m x v s ≡ kept_as x v s
given_plain m x (KeyOf v) s h = cc
given_plain m x (ConstantOf c) s h = refl
given_plain m x Undefined s h = refl
given_plain m x (BindingOf b) s h = refl
given_plain m x (FunctionOf f) s h = refl
given_plain m x (ClassOf n) s h = refl
given_plain m x (ThisOf k) s h = refl
given_plain m x (ArgumentsOf k) s h = refl
given_plain m x (NewTargetOf k) s h = refl
given_plain m x (ResultOf n) s h = refl
given_plain m x (FormerOf n) s h = refl

-- ---- looking a name up, from the last one to the first

found_last : (x : String) (ns : List Named) (i : ℕ) (d : Named) → i < length ns → found x (names_of (take (i + 1) ns)) ≡ cond (bytes_eq x (get_or ns i d).name) (Some (get_or ns i d).value) (found x (names_of (take i ns)))
found_last x ns i d h = ap (λ (l : List Named). found x (names_of l)) (take_more ns i d h) ∙ ap (found x) (names_of_push (take i ns) (get_or ns i d))

is_false : (b : Bool) → (b ≡ true → ⊥) → b ≡ false
is_false true h = absurd (h refl)
is_false false h = refl

found_at : (x : String) (ns : List Named) (i : ℕ) (n : Named) → 0 < i → i ≤ length ns → n ≡ get_or ns (i - 1) n → found x (names_of (take i ns)) ≡ cond (bytes_eq x n.name) (Some n.value) (found x (names_of (take (i - 1) ns)))
found_at x ns i n h k e =
    let j : i ≡ (i - 1) + 1 = omega arith in
    let below : i - 1 < length ns = omega arith in
    ap (λ (l : ℕ). found x (names_of (take l ns))) j
    ∙ found_last x ns (i - 1) n below
    ∙ ap (λ (m : Named). cond (bytes_eq x m.name) (Some m.value) (found x (names_of (take (i - 1) ns)))) (sym e)

pub found_here : (x : String) (ns : List Named) (i : ℕ) (n : Named) → 0 < i → i ≤ length ns → n ≡ get_or ns (i - 1) n → x ≡ n.name → found x (names_of (take i ns)) ≡ Some n.value
found_here x ns i n h k e same = found_at x ns i n h k e ∙ ap (λ (b : Bool). cond b (Some n.value) (found x (names_of (take (i - 1) ns)))) ((bytes_eq-Decides x n.name).1 same)

pub found_before : (x : String) (ns : List Named) (i : ℕ) (n : Named) → 0 < i → i ≤ length ns → n ≡ get_or ns (i - 1) n → (x ≡ n.name → ⊥) → found x (names_of (take i ns)) ≡ found x (names_of (take (i - 1) ns))
found_before x ns i n h k e other = found_at x ns i n h k e ∙ ap (λ (b : Bool). cond b (Some n.value) (found x (names_of (take (i - 1) ns)))) (is_false (bytes_eq x n.name) (λ t. other ((bytes_eq-Decides x n.name).0 t)))

pub found_nowhere : (x : String) (ns : List Named) (i : ℕ) → i ≤ 0 → found x (names_of (take i ns)) ≡ None
unfolding names_of
found_nowhere x ns zero h = refl
found_nowhere x ns (suc i) h = absurd (omega arith)

pub unlike : (b : Bool) (P : Type 0) → (P → b ≡ true) → b ≡ false → P → ⊥
unlike b P h e p = let t : true ≡ false = sym (h p) ∙ e in cc
