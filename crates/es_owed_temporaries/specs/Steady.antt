-- Tests of touches, as code has them.
use Rattle.std.specs.Prelude.{ℕ, List, Bool, not, ◌&&◌, ◌||◌, nat_eq}
use Rattle.es_base.specs.declared.ledger.GeneratedKind.{GeneratedKind}
use Rattle.es_lowered.specs.Temporaries.{Touch, all_touched, class_before, constructs_with, is_at_call, is_at_most_one, is_given_with, is_none, is_steady, stands_with}
use Rattle.es_steps.specs.PrivateNames.{PrivateMember}
use Rattle.es_owed_temporaries.specs.declared.steady.Use.{Use}

abbrev pub test_of : Use → Touch → Bool
test_of Use.Declares = λ t. t.declares
test_of Use.Gives = λ t. t.gives
test_of Use.Reads = λ t. not (t.declares || t.gives)

abbrev pub all_of : ℕ → List Touch → Bool
all_of place ts = all_touched (λ t. nat_eq place t.place) ts

abbrev pub all_in : ℕ → List Touch → Bool
all_in declaration ts = all_touched (λ t. nat_eq declaration t.declaration) ts

abbrev pub all_of_home : ℕ → List Touch → Bool
all_of_home home ts = all_touched (λ t. nat_eq home t.home) ts

abbrev pub all_stand : List (ℕ × ℕ) → List ℕ → List Touch → Bool
all_stand places ns ts = all_touched (stands_with places ns) ts

abbrev pub all_construct : List (ℕ × ℕ) → ℕ → List Touch → Bool
all_construct places n ts = all_touched (constructs_with places n) ts

-- by what gives the name values and what reads it
abbrev pub steady_by_kind : List (ℕ × ℕ) → List PrivateMember → GeneratedKind → List Touch → List Touch → Bool
steady_by_kind places members GeneratedKind.Temp gifts reads = is_steady gifts reads
steady_by_kind places members GeneratedKind.Param gifts reads = is_at_call gifts reads
steady_by_kind places members GeneratedKind.Closure gifts reads = is_given_with gifts reads && (not (is_none reads) && is_at_most_one reads)
steady_by_kind places members (GeneratedKind.SuperFn n) gifts reads = all_construct places n.0 gifts
steady_by_kind places members kind gifts reads = all_stand places (class_before kind members) gifts
