-- The private members of a class, met one at a time.
use Rattle.std.proofs.Common.{◌≡◌, refl, sym, ap, ◌∙◌, ℕ, ◌+◌, ◌<◌, length, drop, get_or, List, [], ◌∷◌, ◌++◌, map, cond, ◌||◌, Bool, true, false, Option}
use Rattle.std.specs.Prelude.{bytes_eq}
use Rattle.std.proofs.lemmas.List.{at_drop_more, map-append}
use Rattle.es_base.specs.Conforms.{is_among}
use Rattle.es_base.specs.Tree.{Tree, child, trees}
use Rattle.es_name_set.proofs.NameSets.{is_among-append}
use Rattle.es_name_set.specs.Names.{HaveSame}
use Rattle.es_steps.specs.PrivateNames.{PrivateKind, PrivateMember, a_field, a_method, element_members, elements_members}
use Rattle.es_steps.specs.Values.{String}
use Rattle.es_validity.proofs.Firsts.{first_with_append}
use Rattle.es_validity.specs.Faults.{FaultAt, fault_at, first_with}
use Rattle.es_validity.specs.Privates.{spellings, completes, taken_for, is_duplicate, duplicates}
use Rattle.es_validity.specs.Reached.{Holds, before}
use Rattle.es_validity.specs.declared.fault.Cause.{Cause}
use Rattle.es_validity.specs.declared.privates.Declared.{Declared}

-- ---- the names that a member may not have

-- a field or a method completes none
pub taken_for_field : (is_static : Bool) (ys : List PrivateMember) → taken_for a_field is_static ys ≡ spellings ys
taken_for_field is_static [] = refl
taken_for_field is_static (y ∷ ys) = ap (λ ss. y.spelling ∷ ss) (taken_for_field is_static ys)

pub taken_for_method : (is_static : Bool) (ys : List PrivateMember) → taken_for a_method is_static ys ≡ spellings ys
taken_for_method is_static [] = refl
taken_for_method is_static (y ∷ ys) = ap (λ ss. y.spelling ∷ ss) (taken_for_method is_static ys)

or_none : (b : Bool) → (b || false) ≡ b
or_none true = refl
or_none false = refl

one_taken : (b : Bool) (name s : String) (old : List String) → is_among s ((cond b [] (name ∷ []) ++ []) ++ old) ≡ (is_among s (cond b [] (name ∷ [])) || is_among s old)
one_taken true name s old = refl
one_taken false name s old = ap (λ c. c || is_among s old) (sym (or_none (bytes_eq name s)))

pub taken_added : (kind : PrivateKind) (is_static : Bool) (x : PrivateMember) (earlier : List PrivateMember) (old new : List String)
    → HaveSame new (taken_for kind is_static (x ∷ []) ++ old) → HaveSame old (taken_for kind is_static earlier) → HaveSame new (taken_for kind is_static (x ∷ earlier))
taken_added kind is_static x earlier old new added before = λ s.
    added s
    ∙ one_taken (completes kind is_static x) x.spelling s old
    ∙ ap (λ b. is_among s (cond (completes kind is_static x) [] (x.spelling ∷ [])) || b) (before s)
    ∙ sym (is_among-append s (cond (completes kind is_static x) [] (x.spelling ∷ [])) (taken_for kind is_static earlier))

pub name_added : (name : String) (earlier : List PrivateMember) (old new : List String) → HaveSame new (name ∷ old) → HaveSame old (spellings earlier) → HaveSame new (name ∷ spellings earlier)
name_added name earlier old new added before = λ s. added s ∙ ap (λ b. bytes_eq name s || b) (before s)

-- ---- members behind others

one_more : (b : Bool) (n : ℕ) (front bs cs : List ℕ) → front ≡ bs ++ cs → cond b (n ∷ []) [] ++ front ≡ (cond b (n ∷ []) [] ++ bs) ++ cs
one_more true n front bs cs e = ap (λ ns. n ∷ ns) e
one_more false n front bs cs e = e

duplicates-append : (earlier xs ys : List PrivateMember) → duplicates earlier (xs ++ ys) ≡ duplicates earlier xs ++ duplicates (before earlier xs) ys
duplicates-append earlier [] ys = refl
duplicates-append earlier (x ∷ xs) ys = one_more (is_duplicate earlier x) x.number (duplicates (x ∷ earlier) (xs ++ ys)) (duplicates (x ∷ earlier) xs) (duplicates (before (x ∷ earlier) xs) ys) (duplicates-append (x ∷ earlier) xs ys)

or_swapped : (a b c : Bool) → (a || (b || c)) ≡ (b || (a || c))
or_swapped true true c = refl
or_swapped true false c = refl
or_swapped false b c = refl

in_the_middle : (s b : String) (front cs : List String) → is_among s (front ++ b ∷ cs) ≡ (bytes_eq b s || is_among s (front ++ cs))
in_the_middle s b [] cs = refl
in_the_middle s b (a ∷ front) cs = ap (λ c. bytes_eq a s || c) (in_the_middle s b front cs) ∙ or_swapped (bytes_eq a s) (bytes_eq b s) (is_among s (front ++ cs))

names_before : (s : String) (earlier xs rest : List PrivateMember) → is_among s (spellings (before earlier xs) ++ spellings rest) ≡ is_among s (spellings earlier ++ spellings (xs ++ rest))
names_before s earlier [] rest = refl
names_before s earlier (x ∷ xs) rest = names_before s (x ∷ earlier) xs rest ∙ sym (in_the_middle s x.spelling (spellings earlier) (spellings (xs ++ rest)))

no_more : (s : String) (front : List String) → is_among s (front ++ []) ≡ is_among s front
no_more s [] = refl
no_more s (a ∷ front) = ap (λ c. bytes_eq a s || c) (no_more s front)

pub next_members : (ts : List Tree) (i : ℕ) (t : Tree) → i < length ts → t ≡ get_or ts i t → elements_members 0 (trees (drop i ts)) ≡ element_members 0 (child t) ++ elements_members 0 (trees (drop (i + 1) ts))
next_members ts i t below is =
    at_drop_more (λ (xs : List Tree). elements_members 0 (trees xs)) ts i t below
    ∙ ap (λ (u : Tree). element_members 0 (child u) ++ elements_members 0 (trees (drop (i + 1) ts))) (sym is)

-- ---- the members that were met, and the rest

abbrev again : List PrivateMember → List PrivateMember → List FaultAt
again earlier xs = map (fault_at Cause.DuplicatePrivate) (duplicates earlier xs)

pub record Met (declared : Declared) (first initial : Option FaultAt) (rest all earlier : List PrivateMember) : Type 0 where
  pub holds : Holds declared earlier
  pub faults : first_with first (map (fault_at Cause.DuplicatePrivate) (duplicates earlier rest)) ≡ first_with initial (map (fault_at Cause.DuplicatePrivate) (duplicates [] all))
  pub names : (s : String) → is_among s (spellings earlier ++ spellings rest) ≡ is_among s (spellings all)

pub met_none : (declared : Declared) (initial : Option FaultAt) (all : List PrivateMember) → Holds declared [] → Met declared initial initial all all []
met_none declared initial all holds = record { holds = holds; faults = refl; names = λ s. refl }

pub met_next : (declared later : Declared) (first next initial : Option FaultAt) (xs rest all earlier : List PrivateMember)
    → Met declared first initial (xs ++ rest) all earlier → Holds later (before earlier xs) → next ≡ first_with first (map (fault_at Cause.DuplicatePrivate) (duplicates earlier xs))
    → Met later next initial rest all (before earlier xs)
met_next declared later first next initial xs rest all earlier met holds is = record {
  holds = holds;
  faults =
      ap (λ f. first_with f (again (before earlier xs) rest)) is
      ∙ sym (first_with_append first (again earlier xs) (again (before earlier xs) rest))
      ∙ ap (first_with first) (sym (map-append (fault_at Cause.DuplicatePrivate) (duplicates earlier xs) (duplicates (before earlier xs) rest)) ∙ ap (map (fault_at Cause.DuplicatePrivate)) (sym (duplicates-append earlier xs rest)))
      ∙ met.faults;
  names = λ s. names_before s earlier xs rest ∙ met.names s;
}

pub met_all : (declared : Declared) (first initial : Option FaultAt) (all earlier : List PrivateMember) (names : List String) → Met declared first initial [] all earlier → HaveSame names (spellings earlier) → HaveSame names (spellings all)
met_all declared first initial all earlier names met same = λ s. same s ∙ sym (no_more s (spellings earlier)) ∙ met.names s
