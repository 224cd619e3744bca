-- Entries that are reached, one list behind another.
use Rattle.std.specs.Prelude.{IsErr, IsErrAnd, OnOk}
use Rattle.std.proofs.Common.{◌≡◌, refl, sym, ap, subst, ◌∙◌, ℕ, ◌+◌, ◌<◌, ◌≤◌, List, [], ◌∷◌, ◌++◌, length, get_or, drop, Bool, true, false, Option, Some, None, option_and_then, option_map, Result, Ok, Err}
use Rattle.es_codes.specs.CodeView.{code_of, codes_of}
use Rattle.es_codes.specs.declared.code.Code.{Code}
use Rattle.es_evaluator.specs.declared.fault.Fault.{Fault}
use Rattle.es_steps.specs.Code as of
use Rattle.es_steps.specs.Entries as spec
use Rattle.es_steps.specs.Entries.{Entries}
use Rattle.es_steps.specs.Evaluation.{Environment}
use Rattle.es_code_environments.proofs.Codes.{all_gone, split_at}
use Rattle.es_code_environments.specs.FlatEntries.{FlatEntry, flat_entry}
use Rattle.es_code_environments.specs.Results.{Gives, Proceeds}
use Rattle.es_code_entries.specs.Found.{Reaches, reach}

then_assoc : {A B C : Type 0} (o : Option A) (f : A → Option B) (g : B → Option C) → option_and_then g (option_and_then f o) ≡ option_and_then (λ x. option_and_then g (f x)) o
then_assoc None f g = refl
then_assoc (Some x) f g = refl

then_same : {A B : Type 0} (o : Option A) (f g : A → Option B) → ((x : A) → f x ≡ g x) → option_and_then f o ≡ option_and_then g o
then_same None f g h = refl
then_same (Some x) f g h = h x

reach_append : (fs : List (ℕ × FlatEntry)) (a b : Entries) → reach fs (a ++ b) ≡ option_and_then (λ gs. reach gs b) (reach fs a)
reach_append fs [] b = refl
reach_append fs (p ∷ ps) b =
    then_same p.1 (λ e. reach (fs ++ (p.0, flat_entry e) ∷ []) (ps ++ b)) (λ e. option_and_then (λ gs. reach gs b) (reach (fs ++ (p.0, flat_entry e) ∷ []) ps)) (λ e. reach_append (fs ++ (p.0, flat_entry e) ∷ []) ps b)
    ∙ sym (then_assoc p.1 (λ e. reach (fs ++ (p.0, flat_entry e) ∷ []) ps) (λ gs. reach gs b))

reach_on : (fs gs : List (ℕ × FlatEntry)) (a b : Entries) → reach fs a ≡ Some gs → reach fs (a ++ b) ≡ reach gs b
reach_on fs gs a b h = reach_append fs a b ∙ ap (λ o. option_and_then (λ xs. reach xs b) o) h

reach_off : (fs : List (ℕ × FlatEntry)) (a b : Entries) → reach fs a ≡ None → reach fs (a ++ b) ≡ None
reach_off fs a b h = reach_append fs a b ∙ ap (λ o. option_and_then (λ xs. reach xs b) o) h

-- ---- one behind another

pub nothing_reached : {B : Type 0} (x : B) (fs : List (ℕ × FlatEntry)) → Reaches {B = B} (Ok x) fs fs []
nothing_reached x fs = record { reaches = refl }

gives_behind : {B : Type 0} (r : Result B Fault) (fs gs hs : List (ℕ × FlatEntry)) (a b : Entries) → reach fs a ≡ Some gs → Gives (λ (x : B). hs) r (reach gs b) → Gives (λ (x : B). hs) r (reach fs (a ++ b))
gives_behind (Ok y) fs gs hs a b h k = reach_on fs gs a b h ∙ k
gives_behind (Err Fault.NoMeaning) fs gs hs a b h k = reach_on fs gs a b h ∙ k
gives_behind (Err Fault.TooDeep) fs gs hs a b h k = tt
gives_behind (Err Fault.NoMemory) fs gs hs a b h k = tt

pub goes_behind : {B C : Type 0} (x : B) (r : Result C Fault) (fs gs hs : List (ℕ × FlatEntry)) (a b : Entries) → Reaches {B = B} (Ok x) fs gs a → Reaches {B = C} r gs hs b → Reaches {B = C} r fs hs (a ++ b)
goes_behind x r fs gs hs a b h k = record { reaches = gives_behind r fs gs hs a b h.reaches k.reaches }

-- behind an environment in which the first has been evaluated
pub goes_on_behind : {B C : Type 0} (x : B) (r : Result C Fault) (fs gs hs : List (ℕ × FlatEntry)) (a : Entries) (rest : Environment → Entries) (s t : Environment) → s ≡ t → Reaches {B = B} (Ok x) fs gs a → Reaches {B = C} r gs hs (rest s) → Reaches {B = C} r fs hs (a ++ rest t)
goes_on_behind {B} {C} x r fs gs hs a rest s t same h k = goes_behind {B = B} {C = C} x r fs gs hs a (rest t) h (subst (λ (z : Environment). Reaches {B = C} r gs hs (rest z)) same k)

pub moved : {B S : Type 0} (r : Result B Fault) (fs gs : List (ℕ × FlatEntry)) (rest : S → Entries) (s t : S) → s ≡ t → Reaches {B = B} r fs gs (rest s) → Reaches {B = B} r fs gs (rest t)
moved {B} {S} r fs gs rest s t same h = subst (λ (z : S). Reaches {B = B} r fs gs (rest z)) same h

pub any_ok : {B C : Type 0} (x : B) (y : C) (fs gs : List (ℕ × FlatEntry)) (a : Entries) → Reaches {B = B} (Ok x) fs gs a → Reaches {B = C} (Ok y) fs gs a
any_ok x y fs gs a h = record { reaches = h.reaches }

refused_first : (B C : Type 0) (e : Fault) (fs gs hs : List (ℕ × FlatEntry)) (a b : Entries) → Gives (λ (x : B). gs) (Err e) (reach fs a) → Gives (λ (x : C). hs) (Err e) (reach fs (a ++ b))
refused_first B C Fault.NoMeaning fs gs hs a b h = reach_off fs a b h
refused_first B C Fault.TooDeep fs gs hs a b h = tt
refused_first B C Fault.NoMemory fs gs hs a b h = tt

pub first_refused : {B C : Type 0} (e : Fault) (fs gs hs : List (ℕ × FlatEntry)) (a b : Entries) → Reaches {B = B} (Err e) fs gs a → Reaches {B = C} (Err e) fs hs (a ++ b)
first_refused {B} {C} e fs gs hs a b h = record { reaches = refused_first B C e fs gs hs a b h.reaches }

pub first_two_refused : {B C : Type 0} (e : Fault) (fs gs hs : List (ℕ × FlatEntry)) (a b d : Entries) → Reaches {B = B} (Err e) fs gs a → Reaches {B = C} (Err e) fs hs (a ++ b ++ d)
first_two_refused {B} {C} e fs gs hs a b d h = first_refused {B = B} {C = C} e fs gs hs (a ++ b) d (first_refused {B = B} {C = B} e fs gs gs a b h)

-- an error that `?` gives back
pub from_error : {C : Type 0} (r : Result C Fault) (e : Fault) (fs gs : List (ℕ × FlatEntry)) (a : Entries) → Reaches {B = C} (Err e) fs gs a → IsErr r × IsErrAnd r (λ f. f ≡ e) → Reaches {B = C} r fs gs a
from_error (Ok x) e fs gs a h is =
    let no : false ≡ true = is.0 in
    absurd (cc)
from_error {C} (Err f) e fs gs a h is = subst (λ (z : Fault). Reaches {B = C} (Err z) fs gs a) (sym is.1) h

-- ---- what is refused by memory and by depth alone

gives_anyway : {B : Type 0} (r : Result B Fault) (fs gs : List (ℕ × FlatEntry)) (a : Entries) → reach fs a ≡ Some gs → Proceeds r → Gives (λ (x : B). gs) r (reach fs a)
gives_anyway (Ok y) fs gs a h p = h
gives_anyway (Err Fault.NoMeaning) fs gs a h p = absurd p
gives_anyway (Err Fault.TooDeep) fs gs a h p = tt
gives_anyway (Err Fault.NoMemory) fs gs a h p = tt

pub passed : {B C : Type 0} (x : B) (r : Result C Fault) (fs gs : List (ℕ × FlatEntry)) (a : Entries) → Reaches {B = B} (Ok x) fs gs a → Proceeds r → Reaches {B = C} r fs gs a
passed x r fs gs a h p = record { reaches = gives_anyway r fs gs a h.reaches p }

stays_silent : (B C : Type 0) (e : Fault) (fs gs : List (ℕ × FlatEntry)) (a : Entries) → Proceeds {B = B} (Err e) → Gives (λ (x : C). gs) (Err e) (reach fs a)
stays_silent B C Fault.NoMeaning fs gs a p = absurd p
stays_silent B C Fault.TooDeep fs gs a p = tt
stays_silent B C Fault.NoMemory fs gs a p = tt

pub refused_anyway : {C : Type 0} (B : Type 0) (e : Fault) (fs gs : List (ℕ × FlatEntry)) (a : Entries) → Proceeds {B = B} (Err e) → Reaches {B = C} (Err e) fs gs a
refused_anyway {C} B e fs gs a p = record { reaches = stays_silent B C e fs gs a p }

pub out_of_memory : {C : Type 0} (fs gs : List (ℕ × FlatEntry)) (a : Entries) → Reaches {B = C} (Err Fault.NoMemory) fs gs a
out_of_memory fs gs a = record { reaches = tt }

-- ---- environments that a last call leaves alone

pub unmoved : {T E : Type 0} (r : Result T E) (s : Environment) → OnOk r (s ≡ s)
unmoved (Ok x) s = refl
unmoved (Err e) s = tt

-- ---- an entry

entry_given : {C : Type 0} (view : C → FlatEntry) (y : C) (fs gs : List (ℕ × FlatEntry)) (n : ℕ) (o : Option spec.Entry) → option_map flat_entry o ≡ Some (view y) → gs ≡ fs ++ (n, view y) ∷ [] → reach fs ((n, o) ∷ []) ≡ Some gs
entry_given view y fs gs n None h is = absurd (cc)
entry_given view y fs gs n (Some e) h is = ap (λ (z : Option FlatEntry). option_and_then (λ w. Some (fs ++ (n, w) ∷ [])) z) h ∙ ap Some (sym is)

pub entry_reached : {B C : Type 0} (view : C → FlatEntry) (x : B) (y : C) (fs gs : List (ℕ × FlatEntry)) (n : ℕ) (o : Option spec.Entry) → option_map flat_entry o ≡ Some (view y) → gs ≡ fs ++ (n, view y) ∷ [] → Reaches {B = B} (Ok x) fs gs ((n, o) ∷ [])
entry_reached view x y fs gs n o h is = record { reaches = entry_given view y fs gs n o h is }

entry_missing : {C : Type 0} (B : Type 0) (view : C → FlatEntry) (e : Fault) (fs gs : List (ℕ × FlatEntry)) (n : ℕ) (o : Option spec.Entry) → Gives view (Err e) (option_map flat_entry o) → Gives (λ (x : B). gs) (Err e) (reach fs ((n, o) ∷ []))
entry_missing B view Fault.NoMeaning fs gs n None h = refl
entry_missing B view Fault.NoMeaning fs gs n (Some x) h = absurd (cc)
entry_missing B view Fault.TooDeep fs gs n o h = tt
entry_missing B view Fault.NoMemory fs gs n o h = tt

pub entry_refused : {B C : Type 0} (view : C → FlatEntry) (e : Fault) (fs gs : List (ℕ × FlatEntry)) (n : ℕ) (o : Option spec.Entry) → Gives view (Err e) (option_map flat_entry o) → Reaches {B = B} (Err e) fs gs ((n, o) ∷ [])
entry_refused {B} {C} view e fs gs n o h = record { reaches = entry_missing {C = C} B view e fs gs n o h }

-- ---- codes in order

-- what a list of codes has is what the first has, and then what the others have behind it
abbrev pub Goes : {S : Type 0} → (S → of.Codes → Entries) → (S → of.Code → Entries) → (S → of.Code → S) → Type 0
Goes {S} rest one next = (s : S) (c : of.Code) (cs : of.Codes) → rest s (of.and c cs) ≡ one s c ++ rest (next s c) cs

-- what is left to reach from these is all that was to be reached from those
pub record IsLeft (fs : List (ℕ × FlatEntry)) (a : Entries) (gs : List (ℕ × FlatEntry)) (all : Entries) : Type 0 where
  pub same : reach fs a ≡ reach gs all

pub all_left : (fs : List (ℕ × FlatEntry)) (all : Entries) → IsLeft fs all fs all
all_left fs all = record { same = refl }

first_split : {S : Type 0} (rest : S → of.Codes → Entries) (one : S → of.Code → Entries) (next : S → of.Code → S) → Goes rest one next
    → (cs : List Code) (i : ℕ) (x : Code) (s : S) → i < length cs → x ≡ get_or cs i x
    → rest s (codes_of (drop i cs)) ≡ one s (code_of x) ++ rest (next s (code_of x)) (codes_of (drop (i + 1) cs))
first_split rest one next goes cs i x s below is = ap (rest s) (split_at cs i x below is) ∙ goes s (code_of x) (codes_of (drop (i + 1) cs))

pub less_left : {B S : Type 0} (y : B) (rest : S → of.Codes → Entries) (one : S → of.Code → Entries) (next : S → of.Code → S) → Goes rest one next
    → (cs : List Code) (i : ℕ) (x : Code) (s s2 : S) (fs gs f0 : List (ℕ × FlatEntry)) (all : Entries) → i < length cs → x ≡ get_or cs i x → Reaches {B = B} (Ok y) fs gs (one s (code_of x)) → s2 ≡ next s (code_of x)
    → IsLeft fs (rest s (codes_of (drop i cs))) f0 all → IsLeft gs (rest s2 (codes_of (drop (i + 1) cs))) f0 all
less_left {B} {S} y rest one next goes cs i x s s2 fs gs f0 all below is h leads before = record {
  same =
      ap (λ (a : S). reach gs (rest a (codes_of (drop (i + 1) cs)))) leads
      ∙ sym (reach_on fs gs (one s (code_of x)) (rest (next s (code_of x)) (codes_of (drop (i + 1) cs))) h.reaches)
      ∙ sym (ap (reach fs) (first_split rest one next goes cs i x s below is))
      ∙ before.same;
}

left_refused : (B C : Type 0) (e : Fault) (gs ks : List (ℕ × FlatEntry)) (o p : Option (List (ℕ × FlatEntry))) → o ≡ p → Gives (λ (x : B). gs) (Err e) o → Gives (λ (x : C). ks) (Err e) p
left_refused B C Fault.NoMeaning gs ks o p same h = sym same ∙ h
left_refused B C Fault.TooDeep gs ks o p same h = tt
left_refused B C Fault.NoMemory gs ks o p same h = tt

pub one_refused : {B C S : Type 0} (e : Fault) (rest : S → of.Codes → Entries) (one : S → of.Code → Entries) (next : S → of.Code → S) → Goes rest one next
    → (cs : List Code) (i : ℕ) (x : Code) (s : S) (fs gs f0 ks : List (ℕ × FlatEntry)) (all : Entries) → i < length cs → x ≡ get_or cs i x → Reaches {B = B} (Err e) fs gs (one s (code_of x))
    → IsLeft fs (rest s (codes_of (drop i cs))) f0 all → Reaches {B = C} (Err e) f0 ks all
one_refused {B} {C} {S} e rest one next goes cs i x s fs gs f0 ks all below is h before =
    let behind : Entries = rest (next s (code_of x)) (codes_of (drop (i + 1) cs)) in
    let split : reach fs (one s (code_of x) ++ behind) ≡ reach f0 all = sym (ap (reach fs) (first_split rest one next goes cs i x s below is)) ∙ before.same in
    record { reaches = left_refused C C e ks ks (reach fs (one s (code_of x) ++ behind)) (reach f0 all) split (refused_first B C e fs gs ks (one s (code_of x)) behind h.reaches) }

pub none_left : {B S : Type 0} (y : B) (rest : S → of.Codes → Entries) (cs : List Code) (i : ℕ) (s : S) (fs f0 : List (ℕ × FlatEntry)) (all : Entries) → length cs ≤ i → rest s of.done ≡ [] → IsLeft fs (rest s (codes_of (drop i cs))) f0 all → Reaches {B = B} (Ok y) f0 fs all
none_left y rest cs i s fs f0 all above h before = record {
  reaches = sym before.same ∙ ap (λ (ds : of.Codes). reach fs (rest s ds)) (all_gone cs i above) ∙ ap (reach fs) h;
}
