-- The names that a class needs are those of its number.
use Rattle.std.proofs.Common.{◌≡◌, refl, ap, ◌∙◌, ℕ, List, [], ◌∷◌, ◌++◌, Bool, true, false, cond, nat_eq, Option, Some, None}
use Rattle.es_base.specs.declared.ledger.GeneratedKind.{GeneratedKind}
use Rattle.es_base.specs.declared.ledger.LedgerEntry.{LedgerEntry}
use Rattle.es_grouped.proofs.Having.{having_append}
use Rattle.es_grouped.specs.Groups.{having}
use Rattle.es_lowered.specs.Temporaries.{class_before, class_of_member}
use Rattle.es_lowered.specs.Timely.{is_needed_by, is_of_class, needed_names}
use Rattle.es_owed_timely.specs.Needed.{with_class, with_classes, with_numbers}
use Rattle.es_steps.specs.PrivateNames.{PrivateMember, member_at}
use Rattle.es_steps.specs.Values.{String}

alone : (b : Bool) (s : String) → cond b (s ∷ []) [] ++ [] ≡ cond b (s ∷ []) []
alone true s = refl
alone false s = refl

of_member : (n : ℕ) (s : String) (o : Option PrivateMember) → having n (with_numbers (class_of_member o) s) ≡ cond (is_of_class n o) (s ∷ []) []
of_member n s None = refl
of_member n s (Some x) = alone (nat_eq n x.class) s

of_kind : (n : ℕ) (members : List PrivateMember) (s : String) (g : GeneratedKind) → having n (with_numbers (class_before g members) s) ≡ cond (is_needed_by n members g) (s ∷ []) []
of_kind n members s (GeneratedKind.WeakMap d) = of_member n s (member_at d.0 members)
of_kind n members s (GeneratedKind.Method d) = of_member n s (member_at d.0 members)
of_kind n members s (GeneratedKind.LooseKey d) = of_member n s (member_at d.0 members)
of_kind n members s (GeneratedKind.Brand k) = alone (nat_eq n k.0) s
of_kind n members s g = refl

pub needed_by_number : (n : ℕ) (members : List PrivateMember) (es : List LedgerEntry) → having n (with_classes members es) ≡ needed_names n members es
needed_by_number n members [] = refl
needed_by_number n members (e ∷ es) =
    having_append n (with_class members e) (with_classes members es)
    ∙ ap (λ (ss : List String). ss ++ having n (with_classes members es)) (of_kind n members e.name e.kind)
    ∙ ap (λ (ss : List String). cond (is_needed_by n members e.kind) (e.name ∷ []) [] ++ ss) (needed_by_number n members es)
