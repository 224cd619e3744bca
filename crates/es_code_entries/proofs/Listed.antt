-- Entries that are all there, and the entries in code that they are.
use Rattle.std.proofs.Common.{◌≡◌, refl, sym, ap, subst, ◌∙◌, ℕ, List, [], ◌∷◌, ◌++◌, append_assoc, append-nil, Option, Some, None, option_map, Result, Ok, Err}
use Rattle.es_by_number.specs.declared.numbered.Numbered.{Numbered}
use Rattle.es_codes.specs.View.{tokens_of}
use Rattle.es_codes.specs.CodeView.{form_of}
use Rattle.es_entries.specs.Entered.{IsClassEntry, IsEntry, IsFunctionEntry}
use Rattle.es_entries.specs.Methods.{methods_in}
use Rattle.es_entries.specs.Parameters.{parameters_in}
use Rattle.es_entries.specs.declared.entry.Entry.{Entry}
use Rattle.es_evaluation.specs.Flat.{Token, tokens}
use Rattle.es_evaluator.specs.declared.fault.Fault.{Fault}
use Rattle.es_code_entries.proofs.NoNew.{entries_same}
use Rattle.es_meanings.specs.Finding.{Found, Finds}
use Rattle.es_meanings.specs.Means.{AreEntries}
use Rattle.es_steps.specs.Code.{Code, FunctionForm, Opened}
use Rattle.es_steps.specs.Evaluation.{Environment, Evaluation}
use Rattle.es_steps.specs.Entries as spec
use Rattle.es_steps.specs.Entries.{Entries}
use Rattle.es_steps.specs.Meaning.{whole, with_entry}
use Rattle.es_steps.specs.Values.{Value}
use Rattle.es_code_environments.specs.Results.{Gives}
use Rattle.es_code_environments.specs.FlatEntries.{Flat, FlatEntry, entry_in, flat_class, flat_entry, flat_function, flat_list}
use Rattle.es_code_entries.specs.Found.{Reaches, flat_entries, reach, seen}

-- ---- what is reached is what is whole

behind_one : (fs : List (ℕ × FlatEntry)) (n : ℕ) (e : spec.Entry) (o : Option (List (ℕ × spec.Entry))) → option_map (λ ws. (fs ++ (n, flat_entry e) ∷ []) ++ flat_entries ws) o ≡ option_map (λ ws. fs ++ flat_entries ws) (with_entry n (Some e) o)
behind_one fs n e None = refl
behind_one fs n e (Some ws) = ap Some (append_assoc fs ((n, flat_entry e) ∷ []) (flat_entries ws))

entry_first : (fs : List (ℕ × FlatEntry)) (n : ℕ) (e : Option spec.Entry) (ps : Entries) → ((gs : List (ℕ × FlatEntry)) → reach gs ps ≡ option_map (λ ws. gs ++ flat_entries ws) (whole ps)) → reach fs ((n, e) ∷ ps) ≡ option_map (λ ws. fs ++ flat_entries ws) (with_entry n e (whole ps))
entry_first fs n None ps h = refl
entry_first fs n (Some e) ps h = h (fs ++ (n, flat_entry e) ∷ []) ∙ behind_one fs n e (whole ps)

reach_whole : (fs : List (ℕ × FlatEntry)) (es : Entries) → reach fs es ≡ option_map (λ ws. fs ++ flat_entries ws) (whole es)
reach_whole fs [] = ap Some (sym (append-nil fs))
reach_whole fs (p ∷ ps) = entry_first fs p.0 p.1 ps (λ gs. reach_whole gs ps)

-- ---- what is seen so is so

abbrev form_at : FunctionForm → FlatEntry → FunctionForm
form_at d (flat_function form own_name ps l) = form
form_at d (flat_class declared h ms form ps l) = form

abbrev name_at : FlatEntry → Option ℕ
name_at (flat_function form own_name ps l) = own_name
name_at (flat_class declared h ms form ps l) = declared

abbrev heritage_at : FlatEntry → Option Value
heritage_at (flat_function form own_name ps l) = None
heritage_at (flat_class declared h ms form ps l) = h

abbrev methods_at : FlatEntry → List spec.Method
methods_at (flat_function form own_name ps l) = []
methods_at (flat_class declared h ms form ps l) = ms

abbrev parameters_at : FlatEntry → List spec.Parameter
parameters_at (flat_function form own_name ps l) = ps
parameters_at (flat_class declared h ms form ps l) = ps

abbrev list_at : FlatEntry → Flat
list_at (flat_function form own_name ps l) = l
list_at (flat_class declared h ms form ps l) = l

entry_is : (x : Entry) (e : spec.Entry) → entry_in x ≡ flat_entry e → IsEntry x e
entry_is (Entry.Function f) (spec.FunctionEntry form own_name ps l) h = record {
  body = l;
  is_listed = record { events = ap (λ y. (list_at y).list) h; value = ap (λ y. (list_at y).value) h };
  is = rw (ap (form_at form) h, ap name_at h, ap parameters_at h) refl;
}
entry_is (Entry.Class c) (spec.ClassEntry declared heritage ms form ps l) h = record {
  construction = l;
  is_listed = record { events = ap (λ y. (list_at y).list) h; value = ap (λ y. (list_at y).value) h };
  is = rw (ap name_at h, ap heritage_at h, ap methods_at h, ap (form_at form) h, ap parameters_at h) refl;
}
entry_is (Entry.Function f) (spec.ClassEntry declared heritage ms form ps l) h = absurd (cc)
entry_is (Entry.Class c) (spec.FunctionEntry form own_name ps l) h = absurd (cc)

abbrev first_of : (ℕ × FlatEntry) → List (ℕ × FlatEntry) → ℕ × FlatEntry
first_of d [] = d
first_of d (x ∷ xs) = x

abbrev rest_of : List (ℕ × FlatEntry) → List (ℕ × FlatEntry)
rest_of [] = []
rest_of (x ∷ xs) = xs

are_entries : (xs : List (Numbered Entry)) (es : List (ℕ × spec.Entry)) → seen xs ≡ flat_entries es → AreEntries xs es
are_entries [] [] h = tt
are_entries [] (e ∷ es) h = absurd (cc)
are_entries (x ∷ xs) [] h = absurd (cc)
are_entries (x ∷ xs) (e ∷ es) h =
    let first : (x.number, entry_in x.value) ≡ (e.0, flat_entry e.1) = ap (first_of (e.0, flat_entry e.1)) h in
    ((ap (λ p. p.0) first, entry_is x.value e.1 (ap (λ p. p.1) first)), are_entries xs es (ap rest_of h))

-- ---- all of them

abbrev inside : List (ℕ × FlatEntry) → Option (List (ℕ × FlatEntry)) → List (ℕ × FlatEntry)
inside d None = d
inside d (Some xs) = xs

abbrev Are : {B : Type 0} → (B → List (Numbered Entry)) → B → List (ℕ × spec.Entry) → Type 0
Are view x es = AreEntries (view x) es

found_by : {B : Type 0} (view : B → List (Numbered Entry)) (x : B) (o : Option (List (ℕ × spec.Entry))) → option_map (λ ws. [] ++ flat_entries ws) o ≡ Some (seen (view x)) → Found x o (Are view)
found_by view x None h = absurd (cc)
found_by view x (Some es) h = record {
  value = es;
  has = refl;
  is = are_entries (view x) es (sym (ap (inside []) h));
}

not_found : (o : Option (List (ℕ × spec.Entry))) → option_map (λ ws. [] ++ flat_entries ws) o ≡ None → o ≡ None
not_found None h = refl
not_found (Some es) h = absurd (cc)

pub found_all : {B C : Type 0} (view : B → List (Numbered Entry)) (x : B) (y : C) (es : Entries) → Reaches {B = C} (Ok y) [] (seen (view x)) es → Finds (Ok x) (whole es) (Are view)
found_all view x y es h = found_by view x (whole es) (sym (reach_whole [] es) ∙ h.reaches)

missing : (B C : Type 0) (e : Fault) (ks : List (ℕ × FlatEntry)) (es : Entries) (Is : B → List (ℕ × spec.Entry) → Type 0) → Gives (λ (x : C). ks) (Err e) (reach [] es) → Finds {B = B} (Err e) (whole es) Is
missing B C Fault.NoMeaning ks es Is h = not_found (whole es) (sym (reach_whole [] es) ∙ h)
missing B C Fault.TooDeep ks es Is h = tt
missing B C Fault.NoMemory ks es Is h = tt

pub found_none : {B C : Type 0} (view : B → List (Numbered Entry)) (e : Fault) (ks : List (ℕ × FlatEntry)) (es : Entries) → Reaches {B = C} (Err e) [] ks es → Finds {B = B} (Err e) (whole es) (Are view)
found_none {B} {C} view e ks es h = missing B C e ks es (Are view) h.reaches

-- ---- whichever nodes are new

pub all_found : {B C : Type 0} (opens : Opened → Evaluation) (f : ℕ) (late : List ℕ) (s : Environment) (c : Code) (view : B → List (Numbered Entry)) (x : B) (y : C) → Reaches {B = C} (Ok y) [] (seen (view x)) (spec.entries opens 0 late s c) → Finds (Ok x) (whole (spec.entries opens f late s c)) (λ x es. AreEntries (view x) es)
all_found {B} {C} opens f late s c view x y h = found_all {B = B} {C = C} view x y (spec.entries opens f late s c) (subst (λ (es : Entries). Reaches {B = C} (Ok y) [] (seen (view x)) es) (sym (entries_same opens f late s c)) h)

pub none_found : {B C : Type 0} (opens : Opened → Evaluation) (f : ℕ) (late : List ℕ) (s : Environment) (c : Code) (view : B → List (Numbered Entry)) (e : Fault) (ks : List (ℕ × FlatEntry)) → Reaches {B = C} (Err e) [] ks (spec.entries opens 0 late s c) → Finds {B = B} (Err e) (whole (spec.entries opens f late s c)) (λ x es. AreEntries (view x) es)
none_found {B} {C} opens f late s c view e ks h = found_none {B = B} {C = C} view e ks (spec.entries opens f late s c) (subst (λ (es : Entries). Reaches {B = C} (Err e) [] ks es) (sym (entries_same opens f late s c)) h)
