-- Elements of classes in order, one more at a time.
use Rattle.std.proofs.Common.{◌≡◌, refl, ℕ, List, [], ◌∷◌, Option, Some, None, ap, ap₂, ◌∙◌, ◌+◌, ◌<◌, ◌≤◌, ◌++◌, length, drop, get_or}
use Rattle.es_steps.specs.Code as of
use Rattle.es_steps.specs.Values.{Value, Undefined}
use Rattle.es_evaluation.specs.Direct as direct
use Rattle.es_evaluation.specs.Direct.{State, next}
use Rattle.es_evaluator.specs.Steps.{Opens}
use Rattle.es_class_rules.specs.Steps.{key_at, static_at, fields_at, field_at, keys_at, keys_from, statics_at}
use Rattle.es_codes.specs.declared.code.Code.{Code}
use Rattle.es_codes.specs.CodeView.{code_of, codes_of}
use Rattle.std.proofs.lemmas.List.{drop_more, drop_all}

pub fields_more : (opens : Opens) (n : ℕ) (cs : List Code) (i : ℕ) (d : Code) (s t : State) (w : Value) → i < length cs → field_at opens n (code_of (get_or cs i d)) s ≡ Some (w, t) → fields_at opens n (codes_of (drop i cs)) s ≡ fields_at opens n (codes_of (drop (i + 1) cs)) t
unfolding field_at fields_at
fields_more opens n cs i d s t w h e =
    ap (λ (l : List Code). direct.fields opens n (codes_of l) s) (drop_more cs i d h)
    ∙ ap (λ (x : Option (Value × State)). next x (λ (u : Value). direct.fields opens n (codes_of (drop (i + 1) cs)))) e

pub fields_fails : (opens : Opens) (n : ℕ) (cs : List Code) (i : ℕ) (d : Code) (s : State) → i < length cs → field_at opens n (code_of (get_or cs i d)) s ≡ None → fields_at opens n (codes_of (drop i cs)) s ≡ None
unfolding field_at fields_at
fields_fails opens n cs i d s h e =
    ap (λ (l : List Code). direct.fields opens n (codes_of l) s) (drop_more cs i d h)
    ∙ ap (λ (x : Option (Value × State)). next x (λ (u : Value). direct.fields opens n (codes_of (drop (i + 1) cs)))) e

pub fields_ends : (opens : Opens) (n : ℕ) (cs : List Code) (i : ℕ) (s : State) → length cs ≤ i → fields_at opens n (codes_of (drop i cs)) s ≡ Some (Undefined, s)
unfolding fields_at
fields_ends opens n cs i s h = ap (λ (l : List Code). direct.fields opens n (codes_of l) s) (drop_all i cs h)

pub keys_begins : (opens : Opens) (cs : List Code) (s : State) → keys_at opens (codes_of cs) s ≡ keys_from opens [] (codes_of cs) s
unfolding keys_at keys_from
keys_begins opens cs s = refl

pub keys_more : (opens : Opens) (cs : List Code) (i : ℕ) (d : Code) (vs : List Value) (s t : State) (v : Value) → i < length cs → key_at opens (code_of (get_or cs i d)) s ≡ Some (v, t) → keys_from opens vs (codes_of (drop i cs)) s ≡ keys_from opens (vs ++ v ∷ []) (codes_of (drop (i + 1) cs)) t
unfolding key_at keys_from
keys_more opens cs i d vs s t v h e =
    ap (λ (l : List Code). direct.keys opens vs (codes_of l) s) (drop_more cs i d h)
    ∙ ap (λ (x : Option (Value × State)). next x (λ (w : Value). direct.keys opens (vs ++ w ∷ []) (codes_of (drop (i + 1) cs)))) e

pub keys_fails : (opens : Opens) (cs : List Code) (i : ℕ) (d : Code) (vs : List Value) (s : State) → i < length cs → key_at opens (code_of (get_or cs i d)) s ≡ None → keys_from opens vs (codes_of (drop i cs)) s ≡ None
unfolding key_at keys_from
keys_fails opens cs i d vs s h e =
    ap (λ (l : List Code). direct.keys opens vs (codes_of l) s) (drop_more cs i d h)
    ∙ ap (λ (x : Option (Value × State)). next x (λ (w : Value). direct.keys opens (vs ++ w ∷ []) (codes_of (drop (i + 1) cs)))) e

pub keys_ends : (opens : Opens) (cs : List Code) (i : ℕ) (vs : List Value) (s : State) → length cs ≤ i → keys_from opens vs (codes_of (drop i cs)) s ≡ Some (vs, s)
unfolding keys_from
keys_ends opens cs i vs s h = ap (λ (l : List Code). direct.keys opens vs (codes_of l) s) (drop_all i cs h)

pub statics_more : (opens : Opens) (n : ℕ) (ks : List Value) (cs : List Code) (i : ℕ) (k : Value) (d : Code) (s t : State) (w : Value) → i < length ks → i < length cs → static_at opens n (get_or ks i k) (code_of (get_or cs i d)) s ≡ Some (w, t) → statics_at opens n (drop i ks) (codes_of (drop i cs)) s ≡ statics_at opens n (drop (i + 1) ks) (codes_of (drop (i + 1) cs)) t
unfolding static_at statics_at
statics_more opens n ks cs i k d s t w g h e =
    ap₂ (λ (vs : List Value) (l : List Code). direct.statics opens n vs (codes_of l) s) (drop_more ks i k g) (drop_more cs i d h)
    ∙ ap (λ (x : Option (Value × State)). next x (λ (u : Value). direct.statics opens n (drop (i + 1) ks) (codes_of (drop (i + 1) cs)))) e

pub statics_fails : (opens : Opens) (n : ℕ) (ks : List Value) (cs : List Code) (i : ℕ) (k : Value) (d : Code) (s : State) → i < length ks → i < length cs → static_at opens n (get_or ks i k) (code_of (get_or cs i d)) s ≡ None → statics_at opens n (drop i ks) (codes_of (drop i cs)) s ≡ None
unfolding static_at statics_at
statics_fails opens n ks cs i k d s g h e =
    ap₂ (λ (vs : List Value) (l : List Code). direct.statics opens n vs (codes_of l) s) (drop_more ks i k g) (drop_more cs i d h)
    ∙ ap (λ (x : Option (Value × State)). next x (λ (u : Value). direct.statics opens n (drop (i + 1) ks) (codes_of (drop (i + 1) cs)))) e

pub statics_end : (opens : Opens) (n : ℕ) (ks : List Value) (es : of.Codes) (i : ℕ) (s : State) → length ks ≤ i → statics_at opens n (drop i ks) es s ≡ Some (Undefined, s)
unfolding statics_at
statics_end opens n ks es i s h = ap (λ (vs : List Value). direct.statics opens n vs es s) (drop_all i ks h)

no_element : (opens : Opens) (n : ℕ) (ks : List Value) (s : State) → direct.statics opens n ks of.done s ≡ Some (Undefined, s)
no_element opens n [] s = refl
no_element opens n (k ∷ ks) s = refl

pub statics_stop : (opens : Opens) (n : ℕ) (ks : List Value) (cs : List Code) (i : ℕ) (s : State) → length cs ≤ i → statics_at opens n ks (codes_of (drop i cs)) s ≡ Some (Undefined, s)
unfolding statics_at
statics_stop opens n ks cs i s h = ap (λ (l : List Code). direct.statics opens n ks (codes_of l) s) (drop_all i cs h) ∙ no_element opens n ks s
