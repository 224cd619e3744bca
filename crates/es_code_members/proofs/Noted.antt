-- What stands beside operands, one after the other.
use Rattle.std.proofs.Common.{◌≡◌, refl, sym, ap, ◌∙◌, ℕ, ◌+◌, ◌<◌, List, [], ◌∷◌, ◌++◌, length, get_or, drop, Option, append_assoc, append-nil}
use Rattle.es_codes.specs.CodeView.{code_of}
use Rattle.es_codes.specs.View.{detail_of, details_of}
use Rattle.es_codes.specs.declared.code.Code.{Code}
use Rattle.es_codes.specs.declared.event.Detail.{Detail}
use Rattle.es_steps.specs.Events as events
use Rattle.es_steps.specs.Members as spec
use Rattle.es_code_members.proofs.Moved.{drop-here}
use Rattle.es_code_members.specs.MembersView.{item_of, items_in, member_of, members_of}
use Rattle.es_code_members.specs.declared.member.Member.{Member}

pub added : (ds : List Detail) (d : Detail) → details_of (ds ++ d ∷ []) ≡ details_of ds ++ (detail_of d ∷ [])
added [] d = refl
added (e ∷ ds) d = ap (λ (es : List events.Detail). detail_of e ∷ es) (added ds d)

pub bracketed : (old opened inner closed ds : List events.Detail) → opened ≡ old ++ (events.Opens ∷ []) → inner ≡ opened ++ ds → closed ≡ inner ++ (events.Closes ∷ []) → closed ≡ old ++ (events.Opens ∷ ds ++ events.Closes ∷ [])
bracketed old opened inner closed ds opens between closes =
    closes
    ∙ ap (λ (es : List events.Detail). es ++ (events.Closes ∷ [])) (between ∙ ap (λ (es : List events.Detail). es ++ ds) opens)
    ∙ append_assoc (old ++ (events.Opens ∷ [])) ds (events.Closes ∷ [])
    ∙ append_assoc old (events.Opens ∷ []) (ds ++ (events.Closes ∷ []))

step : (old new ds rest all : List events.Detail) → new ≡ old ++ ds → old ++ (ds ++ rest) ≡ all → new ++ rest ≡ all
step old new ds rest all more before = ap (λ (es : List events.Detail). es ++ rest) more ∙ append_assoc old ds rest ∙ before

pub item : (xs : List (Option Code)) (i : ℕ) (x : Option Code) (old new all : List events.Detail) → i < length xs → x ≡ get_or xs i x → new ≡ old ++ spec.details_of (item_of x) → old ++ spec.details (items_in (drop i xs)) ≡ all → new ++ spec.details (items_in (drop (i + 1) xs)) ≡ all
item xs i x old new all h is more before = step old new (spec.details_of (item_of x)) (spec.details (items_in (drop (i + 1) xs))) all more (ap (λ (zs : List (Option Code)). old ++ spec.details (items_in zs)) (sym (drop-here xs i x h is)) ∙ before)

pub member : (xs : List Member) (i : ℕ) (x : Member) (old new all : List events.Detail) → i < length xs → x ≡ get_or xs i x → new ≡ old ++ spec.details_of (member_of x) → old ++ spec.details (members_of (drop i xs)) ≡ all → new ++ spec.details (members_of (drop (i + 1) xs)) ≡ all
member xs i x old new all h is more before = step old new (spec.details_of (member_of x)) (spec.details (members_of (drop (i + 1) xs))) all more (ap (λ (zs : List Member). old ++ spec.details (members_of zs)) (sym (drop-here xs i x h is)) ∙ before)

pub ends : (ds all : List events.Detail) → ds ++ [] ≡ all → ds ≡ all
ends ds all e = sym (append-nil ds) ∙ e
