-- Codes in order, one more at a time.
use Rattle.std.proofs.Common.{◌≡◌, refl, ap, ◌∙◌, ℕ, suc, ◌+◌, ◌<◌, ◌≤◌, List, [], ◌∷◌, ◌++◌, length, drop, get_or, Option, Some, None, arith}
use Rattle.std.proofs.lemmas.List.{drop_more, drop_all}
use Rattle.es_steps.specs.Values.{Value, Undefined}
use Rattle.es_codes.specs.declared.code.Code.{Code}
use Rattle.es_codes.specs.CodeView.{code_of, codes_of}
use Rattle.es_evaluation.specs.Direct as direct
use Rattle.es_evaluation.specs.Direct.{State, Step, next}
use Rattle.es_evaluator.specs.Steps.{Opens, convert_at}
use Rattle.es_code_rules.specs.Steps.{value_at, all_at, all_from, converted_at, converted_from, string_step, parts_at, parts_from, part_at, again_at, same_step}

pub all_begins : (opens : Opens) (cs : List Code) (s : State) → all_at opens (codes_of cs) s ≡ all_from opens [] (codes_of cs) s
unfolding all_at all_from
all_begins opens cs s = refl

pub all_more : (opens : Opens) (cs : List Code) (i : ℕ) (d : Code) (vs : List Value) (s t : State) (v : Value) → i < length cs → value_at opens (code_of (get_or cs i d)) s ≡ Some (v, t) → all_from opens vs (codes_of (drop i cs)) s ≡ all_from opens (vs ++ v ∷ []) (codes_of (drop (i + 1) cs)) t
unfolding value_at all_from
all_more opens cs i d vs s t v h e =
    ap (λ (l : List Code). direct.all opens vs (codes_of l) s) (drop_more cs i d h)
    ∙ ap (λ (x : Option (Value × State)). next x (λ (w : Value). direct.all opens (vs ++ w ∷ []) (codes_of (drop (i + 1) cs)))) e

pub all_fails : (opens : Opens) (cs : List Code) (i : ℕ) (d : Code) (vs : List Value) (s : State) → i < length cs → value_at opens (code_of (get_or cs i d)) s ≡ None → all_from opens vs (codes_of (drop i cs)) s ≡ None
unfolding value_at all_from
all_fails opens cs i d vs s h e =
    ap (λ (l : List Code). direct.all opens vs (codes_of l) s) (drop_more cs i d h)
    ∙ ap (λ (x : Option (Value × State)). next x (λ (w : Value). direct.all opens (vs ++ w ∷ []) (codes_of (drop (i + 1) cs)))) e

pub all_ends : (opens : Opens) (cs : List Code) (i : ℕ) (vs : List Value) (s : State) → length cs ≤ i → all_from opens vs (codes_of (drop i cs)) s ≡ Some (vs, s)
unfolding all_from
all_ends opens cs i vs s h = ap (λ (l : List Code). direct.all opens vs (codes_of l) s) (drop_all i cs h)

-- ---- parts of an operation

suc_is : (i : ℕ) → suc i ≡ i + 1
suc_is i = omega arith

pub parts_begins : (opens : Opens) (m : ℕ) (cs : List Code) (s : State) → parts_at opens m (codes_of cs) s ≡ parts_from opens m 0 (codes_of cs) s
unfolding parts_at parts_from
parts_begins opens m cs s = refl

pub parts_more : (opens : Opens) (m : ℕ) (cs : List Code) (i : ℕ) (d : Code) (s t : State) (v : Value) → i < length cs → part_at opens m i (code_of (get_or cs i d)) s ≡ Some (v, t) → parts_from opens m i (codes_of (drop i cs)) s ≡ parts_from opens m (i + 1) (codes_of (drop (i + 1) cs)) t
unfolding part_at parts_from value_at
parts_more opens m cs i d s t v h e =
    ap (λ (l : List Code). direct.parts opens m i (codes_of l) s) (drop_more cs i d h)
    ∙ ap (λ (x : Option (Value × State)). next x (λ (w : Value). direct.parts opens m (suc i) (codes_of (drop (i + 1) cs)))) e
    ∙ ap (λ (j : ℕ). direct.parts opens m j (codes_of (drop (i + 1) cs)) t) (suc_is i)

pub parts_fails : (opens : Opens) (m : ℕ) (cs : List Code) (i : ℕ) (d : Code) (s : State) → i < length cs → part_at opens m i (code_of (get_or cs i d)) s ≡ None → parts_from opens m i (codes_of (drop i cs)) s ≡ None
unfolding part_at parts_from value_at
parts_fails opens m cs i d s h e =
    ap (λ (l : List Code). direct.parts opens m i (codes_of l) s) (drop_more cs i d h)
    ∙ ap (λ (x : Option (Value × State)). next x (λ (w : Value). direct.parts opens m (suc i) (codes_of (drop (i + 1) cs)))) e

pub parts_ends : (opens : Opens) (m : ℕ) (cs : List Code) (i : ℕ) (s : State) → length cs ≤ i → parts_from opens m i (codes_of (drop i cs)) s ≡ Some (Undefined, s)
unfolding parts_from
parts_ends opens m cs i s h = ap (λ (l : List Code). direct.parts opens m i (codes_of l) s) (drop_all i cs h)

-- ---- expressions of a template

pub converted_begins : (opens : Opens) (m : ℕ) (cs : List Code) (s : State) → converted_at opens m (codes_of cs) s ≡ converted_from opens m 0 [] (codes_of cs) s
unfolding converted_at converted_from
converted_begins opens m cs s = refl

string_then : {B : Type 0} (m i : ℕ) (x : Option (Value × State)) (k : Value → Step B) → next x (λ (v : Value). direct.and_then (convert_at m i v) (λ (w : Value). k v)) ≡ next (next x (λ (v : Value). direct.and_then (convert_at m i v) (λ (w : Value). direct.gives v))) k
unfolding convert_at
string_then m i None k = refl
string_then m i (Some p) k = refl

pub converted_more : (opens : Opens) (m : ℕ) (cs : List Code) (i : ℕ) (d : Code) (vs : List Value) (s t : State) (v : Value) → i < length cs → string_step opens m i (code_of (get_or cs i d)) s ≡ Some (v, t) → converted_from opens m i vs (codes_of (drop i cs)) s ≡ converted_from opens m (i + 1) (vs ++ v ∷ []) (codes_of (drop (i + 1) cs)) t
unfolding value_at convert_at converted_from
converted_more opens m cs i d vs s t v h e =
    ap (λ (l : List Code). direct.converted opens m i vs (codes_of l) s) (drop_more cs i d h)
    ∙ string_then m i (value_at opens (code_of (get_or cs i d)) s) (λ (a : Value). direct.converted opens m (suc i) (vs ++ a ∷ []) (codes_of (drop (i + 1) cs)))
    ∙ ap (λ (x : Option (Value × State)). next x (λ (a : Value). direct.converted opens m (suc i) (vs ++ a ∷ []) (codes_of (drop (i + 1) cs)))) e
    ∙ ap (λ (j : ℕ). direct.converted opens m j (vs ++ v ∷ []) (codes_of (drop (i + 1) cs)) t) (suc_is i)

pub converted_fails : (opens : Opens) (m : ℕ) (cs : List Code) (i : ℕ) (d : Code) (vs : List Value) (s : State) → i < length cs → string_step opens m i (code_of (get_or cs i d)) s ≡ None → converted_from opens m i vs (codes_of (drop i cs)) s ≡ None
unfolding value_at convert_at converted_from
converted_fails opens m cs i d vs s h e =
    ap (λ (l : List Code). direct.converted opens m i vs (codes_of l) s) (drop_more cs i d h)
    ∙ string_then m i (value_at opens (code_of (get_or cs i d)) s) (λ (a : Value). direct.converted opens m (suc i) (vs ++ a ∷ []) (codes_of (drop (i + 1) cs)))
    ∙ ap (λ (x : Option (Value × State)). next x (λ (a : Value). direct.converted opens m (suc i) (vs ++ a ∷ []) (codes_of (drop (i + 1) cs)))) e

pub converted_ends : (opens : Opens) (m : ℕ) (cs : List Code) (i : ℕ) (vs : List Value) (s : State) → length cs ≤ i → converted_from opens m i vs (codes_of (drop i cs)) s ≡ Some (vs, s)
unfolding converted_from
converted_ends opens m cs i vs s h = ap (λ (l : List Code). direct.converted opens m i vs (codes_of l) s) (drop_all i cs h)

-- ---- what stands for a tested object again

pub again_none : (opens : Opens) (v : Value) (cs : List Code) (s : State) → length cs ≤ 0 → again_at opens v (codes_of cs) s ≡ Some (Undefined, s)
unfolding again_at
again_none opens v [] s h = refl
again_none opens v (c ∷ cs) s h = absurd (omega arith)

pub again_one : (opens : Opens) (v : Value) (cs : List Code) (d : Code) (s : State) → 0 < length cs → again_at opens v (codes_of cs) s ≡ same_step opens v (code_of (get_or cs 0 d)) s
unfolding again_at value_at
again_one opens v [] d s h = absurd (omega arith)
again_one opens v (c ∷ cs) d s h = refl
