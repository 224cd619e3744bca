-- Classes, element by element.
use Rattle.std.proofs.Common.{◌≡◌, refl, sym, ap, ap₂, ◌∙◌, ℕ, zero, suc, ◌+◌, ◌-◌, ◌<◌, ◌≤◌, List, [], ◌∷◌, ◌++◌, append_assoc, append-nil, length, get_or, drop, Bool, true, false, not, ◌&&◌, cond, Option, Some, None, option_map, arith}
use Rattle.std.proofs.lemmas.List.{map-append}
use Rattle.es_codes.specs.CodeView.{code_of, codes_of}
use Rattle.es_codes.specs.declared.code.Code as code
use Rattle.es_steps.specs.Code.{Code, Codes, FieldForm, function, field, private_field, method, private_method, constructor, generated_element, and, done}
use Rattle.es_steps.specs.Entries as spec
use Rattle.es_entries.specs.Methods as entered_in
use Rattle.es_entries.specs.declared.method.Method as entered
use Rattle.es_steps.specs.Opening.{assigned_in_all}
use Rattle.es_steps.specs.Entries.{Method, after_run, is_quiet_run, method_with, same_nullable, some_value, value_in, without}
use Rattle.es_steps.specs.Evaluation.{Environment, added, ev, ev_key, ev_static, only_private}
use Rattle.es_steps.specs.Values.{String, Value, Undefined, as_key}
use Rattle.es_code_environments.proofs.Codes.{all_gone, split_at}
use Rattle.es_code_environments.specs.Classes as classes
use Rattle.es_code_environments.specs.Classes.{behind_element, behind_key, behind_keys, behind_leading, behind_heritage, function_in, heritage_in, is_instance_field, is_leading, joined, key_stays, keys_stay, made, method_at, methods_in, start_of}
use Rattle.es_code_environments.specs.Standing.{opens_in}
use Rattle.es_code_environments.specs.declared.terms.Terms.{Terms}

-- ---- where a construction starts

cond_twice : {A : Type 0} (b : Bool) (f : Environment → A) (a s : Environment) (d : A) → cond b (f a) d ≡ cond b (f (cond b a s)) d
cond_twice true f a s d = refl
cond_twice false f a s d = refl

leading_next : (t : Terms) (n : ℕ) (s : Environment) (c : Code) (cs : Codes) → behind_leading t n s (and c cs) ≡ cond (is_leading t n s c) (behind_leading t n (behind_element t n s c) cs) s
leading_next t n s (generated_element x r) cs =
    let run = ev_static (opens_in t) n Undefined (generated_element x r) s in
    cond_twice (is_quiet_run run) (λ a. behind_leading t n a cs) (after_run s run) s s
leading_next t n s (field true form k r) cs = refl
leading_next t n s (field false form k r) cs = refl
leading_next t n s (private_field true d r) cs = refl
leading_next t n s (private_field false d r) cs = refl
leading_next t n s c cs = refl

pub leading_more : (t : Terms) (n : ℕ) (s : Environment) (cs : List code.Code) (i : ℕ) (x : code.Code) → i < length cs → x ≡ get_or cs i x → is_leading t n s (code_of x) ≡ true → behind_leading t n s (codes_of (drop i cs)) ≡ behind_leading t n (behind_element t n s (code_of x)) (codes_of (drop (i + 1) cs))
leading_more t n s cs i x below is h =
    ap (behind_leading t n s) (split_at cs i x below is)
    ∙ leading_next t n s (code_of x) (codes_of (drop (i + 1) cs))
    ∙ ap (λ (b : Bool). cond b (behind_leading t n (behind_element t n s (code_of x)) (codes_of (drop (i + 1) cs))) s) h

stays_put : (t : Terms) (n : ℕ) (s : Environment) (c : Code) → is_leading t n s c ≡ false → behind_element t n s c ≡ s
stays_put t n s (generated_element x r) h =
    let run = ev_static (opens_in t) n Undefined (generated_element x r) s in
    ap (λ (b : Bool). cond b (after_run s run) s) h
stays_put t n s c h = refl

pub leading_stops : (t : Terms) (n : ℕ) (s : Environment) (cs : List code.Code) (i : ℕ) (x : code.Code) → i < length cs → x ≡ get_or cs i x → is_leading t n s (code_of x) ≡ false → behind_leading t n s (codes_of (drop i cs)) ≡ behind_element t n s (code_of x)
leading_stops t n s cs i x below is h =
    ap (behind_leading t n s) (split_at cs i x below is)
    ∙ leading_next t n s (code_of x) (codes_of (drop (i + 1) cs))
    ∙ ap (λ (b : Bool). cond b (behind_leading t n (behind_element t n s (code_of x)) (codes_of (drop (i + 1) cs))) s) h
    ∙ sym (stays_put t n s (code_of x) h)

pub leading_ends : (t : Terms) (n : ℕ) (s : Environment) (cs : List code.Code) (i : ℕ) → length cs ≤ i → behind_leading t n s (codes_of (drop i cs)) ≡ s
leading_ends t n s cs i above = ap (behind_leading t n s) (all_gone cs i above)

added_is : (xs ys : Environment) → added xs ys ≡ length xs - length ys
added_is [] [] = omega arith
added_is [] (y ∷ ys) = omega arith
added_is (x ∷ xs) [] = omega arith
added_is (x ∷ xs) (y ∷ ys) = added_is xs ys ∙ omega arith

pub start_is : (t : Terms) (n : ℕ) (s : Environment) (h es : Codes) (x b a : Environment) → b ≡ behind_keys t (behind_heritage t s h) es → x ≡ behind_leading t n b es → a ≡ only_private (length x - length b) x ++ without (assigned_in_all es) s → a ≡ start_of t n s h es
start_is t n s h es x b a keys leading is =
    is
    ∙ ap (λ (k : ℕ). only_private k x ++ without (assigned_in_all es) s) (sym (added_is x b))
    ∙ ap (λ (y : Environment). only_private (added y b) y ++ without (assigned_in_all es) s) leading
    ∙ ap (λ (c : Environment). only_private (added (behind_leading t n c es) c) (behind_leading t n c es) ++ without (assigned_in_all es) s) keys

pub fields_behind : (t : Terms) (s : Environment) (n : ℕ) (hs : List code.Code) (es : Codes) → length hs ≡ 0 → classes.behind_fields t s n (codes_of hs) es ≡ classes.behind_fields t s n done es
fields_behind t s n [] es h = refl
fields_behind t s n (x ∷ hs) es h = absurd (omega (arith, h))

pub no_fields_behind : (t : Terms) (s : Environment) (n : ℕ) (hs : List code.Code) (es : Codes) → (length hs ≡ 0 → ⊥) → classes.behind_fields t s n (codes_of hs) es ≡ s
no_fields_behind t s n [] es h = absurd (h refl)
no_fields_behind t s n (x ∷ hs) es h = refl

-- ---- the heritage

pub no_heritage : (t : Terms) (s : Environment) (hs : List code.Code) → length hs ≡ 0 → heritage_in t s (codes_of hs) ≡ Some None
no_heritage t s [] h = refl
no_heritage t s (x ∷ hs) h = absurd (omega (arith, h))

pub first_heritage : (t : Terms) (s : Environment) (hs : List code.Code) (x : code.Code) → 0 < length hs → x ≡ get_or hs 0 x → heritage_in t s (codes_of hs) ≡ some_value (value_in (ev (opens_in t) (code_of x) s))
first_heritage t s [] x h is = absurd (omega (arith, h))
first_heritage t s (y ∷ hs) x h is = ap (λ (z : code.Code). some_value (value_in (ev (opens_in t) (code_of z) s))) (sym is)

-- ---- methods

made_first : (b : Bool) (kind : String) (v : Option Value) (f : Code) (ms : Option (List Method)) → method_with b kind v f ms ≡ joined (made b kind v (function_in f)) ms
made_first b kind None f ms = refl
made_first b kind (Some v) (function f form own_name ps body) None = refl
made_first b kind (Some v) (function f form own_name ps body) (Some ms) = refl
made_first b kind (Some v) f ms = refl

none_first : (ms : Option (List Method)) → ms ≡ joined (Some []) ms
none_first None = refl
none_first (Some ms) = refl

method_first : (t : Terms) (s : Environment) (c : Code) (cs : Codes) → methods_in t s (and c cs) ≡ joined (method_at t s c) (methods_in t (behind_key t s c) cs)
method_first t s (method b kind k f) cs = made_first b kind (value_in (ev (opens_in t) k s)) f (methods_in t (after_run s (ev (opens_in t) k s)) cs)
method_first t s c cs = none_first (methods_in t (behind_key t s c) cs)

joined_twice : (xs : List Method) (a b : Option (List Method)) → joined (Some xs) (joined a b) ≡ joined (joined (Some xs) a) b
joined_twice xs None b = refl
joined_twice xs (Some ys) None = refl
joined_twice xs (Some ys) (Some zs) = ap Some (sym (append_assoc xs ys zs))

pub method_more : (t : Terms) (s : Environment) (cs : List code.Code) (i : ℕ) (x : code.Code) (ms ns : List Method) → i < length cs → x ≡ get_or cs i x → joined (Some ms) (method_at t s (code_of x)) ≡ Some ns
    → joined (Some ms) (methods_in t s (codes_of (drop i cs))) ≡ joined (Some ns) (methods_in t (behind_key t s (code_of x)) (codes_of (drop (i + 1) cs)))
method_more t s cs i x ms ns below is h =
    ap (λ (ds : Codes). joined (Some ms) (methods_in t s ds)) (split_at cs i x below is)
    ∙ ap (joined (Some ms)) (method_first t s (code_of x) (codes_of (drop (i + 1) cs)))
    ∙ joined_twice ms (method_at t s (code_of x)) (methods_in t (behind_key t s (code_of x)) (codes_of (drop (i + 1) cs)))
    ∙ ap (λ (o : Option (List Method)). joined o (methods_in t (behind_key t s (code_of x)) (codes_of (drop (i + 1) cs)))) h

pub method_fails : (t : Terms) (s : Environment) (cs : List code.Code) (i : ℕ) (x : code.Code) (ms : List Method) → i < length cs → x ≡ get_or cs i x → joined (Some ms) (method_at t s (code_of x)) ≡ None → joined (Some ms) (methods_in t s (codes_of (drop i cs))) ≡ None
method_fails t s cs i x ms below is h =
    ap (λ (ds : Codes). joined (Some ms) (methods_in t s ds)) (split_at cs i x below is)
    ∙ ap (joined (Some ms)) (method_first t s (code_of x) (codes_of (drop (i + 1) cs)))
    ∙ joined_twice ms (method_at t s (code_of x)) (methods_in t (behind_key t s (code_of x)) (codes_of (drop (i + 1) cs)))
    ∙ ap (λ (o : Option (List Method)). joined o (methods_in t (behind_key t s (code_of x)) (codes_of (drop (i + 1) cs)))) h

pub nothing_joined : (xs : List Method) → joined (Some xs) (Some []) ≡ Some xs
nothing_joined xs = ap Some (append-nil xs)

pub method_ends : (t : Terms) (s : Environment) (cs : List code.Code) (i : ℕ) (ms : List Method) → length cs ≤ i → joined (Some ms) (methods_in t s (codes_of (drop i cs))) ≡ Some ms
method_ends t s cs i ms above = ap (λ (ds : Codes). joined (Some ms) (methods_in t s ds)) (all_gone cs i above) ∙ nothing_joined ms

made_pushed : (b : Bool) (kind : String) (v : Value) (n : ℕ) (o : Option Value) (p : Option ℕ) (ms : List Method) → o ≡ Some v → p ≡ Some n → joined (Some ms) (made b kind o p) ≡ Some (ms ++ record { is_static = b; kind = kind; key = as_key v; function = n } ∷ [])
made_pushed b kind v n o p ms h k = ap₂ (λ (x : Option Value) (y : Option ℕ). joined (Some ms) (made b kind x y)) h k

pub method_pushed : (t : Terms) (s : Environment) (b : Bool) (kind : String) (k f : Code) (v : Value) (n : ℕ) (ms : List Method) → value_in (ev_key (opens_in t) (method b kind k f) s) ≡ Some v → function_in f ≡ Some n → joined (Some ms) (method_at t s (method b kind k f)) ≡ Some (ms ++ record { is_static = b; kind = kind; key = as_key v; function = n } ∷ [])
method_pushed t s b kind k f v n ms h p = made_pushed b kind v n (value_in (ev (opens_in t) k s)) (function_in f) ms h p

pub methods_more : (ms : List entered.Method) (m : entered.Method) → entered_in.methods_in (ms ++ m ∷ []) ≡ entered_in.methods_in ms ++ entered_in.method_in m ∷ []
methods_more ms m = map-append entered_in.method_in ms (m ∷ [])

pub none_yet : (o : Option (List Method)) → joined (Some []) o ≡ o
none_yet o = sym (none_first o)

-- ---- keys of fields

pub is_field : (b : Bool) (form : FieldForm) (k e : Code) → is_instance_field (field b form k e) ≡ not b
is_field true form k e = refl
is_field false form k e = refl

pub other_key : (t : Terms) (s i : Environment) (c : Code) → is_instance_field c ≡ false → key_stays t s i c ≡ true
other_key t s i (field false form k e) h = absurd (cc)
other_key t s i c h = refl

pub field_key : (t : Terms) (s i : Environment) (c : Code) → is_instance_field c ≡ true → key_stays t s i c ≡ same_nullable (value_in (ev_key (opens_in t) c s)) (value_in (ev_key (opens_in t) c i))
field_key t s i (field false form k e) h = refl
field_key t s i c h = absurd (cc)

key_first : (t : Terms) (s i : Environment) (c : Code) (cs : Codes) → keys_stay t s i (and c cs) ≡ (key_stays t s i c && keys_stay t (behind_key t s c) i cs)
key_first t s i (field true form k e) cs = refl
key_first t s i (field false form k e) cs = refl
key_first t s i c cs = refl

pub key_more : (t : Terms) (s i : Environment) (cs : List code.Code) (k : ℕ) (x : code.Code) → k < length cs → x ≡ get_or cs k x → key_stays t s i (code_of x) ≡ true → keys_stay t s i (codes_of (drop k cs)) ≡ keys_stay t (behind_key t s (code_of x)) i (codes_of (drop (k + 1) cs))
key_more t s i cs k x below is h =
    ap (keys_stay t s i) (split_at cs k x below is)
    ∙ key_first t s i (code_of x) (codes_of (drop (k + 1) cs))
    ∙ ap (λ (b : Bool). b && keys_stay t (behind_key t s (code_of x)) i (codes_of (drop (k + 1) cs))) h

pub key_fails : (t : Terms) (s i : Environment) (cs : List code.Code) (k : ℕ) (x : code.Code) → k < length cs → x ≡ get_or cs k x → key_stays t s i (code_of x) ≡ false → keys_stay t s i (codes_of (drop k cs)) ≡ false
key_fails t s i cs k x below is h =
    ap (keys_stay t s i) (split_at cs k x below is)
    ∙ key_first t s i (code_of x) (codes_of (drop (k + 1) cs))
    ∙ ap (λ (b : Bool). b && keys_stay t (behind_key t s (code_of x)) i (codes_of (drop (k + 1) cs))) h

pub key_ends : (t : Terms) (s i : Environment) (cs : List code.Code) (k : ℕ) → length cs ≤ k → keys_stay t s i (codes_of (drop k cs)) ≡ true
key_ends t s i cs k above = ap (keys_stay t s i) (all_gone cs k above)
