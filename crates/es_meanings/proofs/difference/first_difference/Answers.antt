use Rattle.std.proofs.Common.{List, refl, sym, subst, ap₂, ◌∙◌}
use Rattle.es_by_number.specs.declared.numbered.Numbered.{Numbered}
use Rattle.es_entries.specs.declared.entry.Entry.{Entry}
use Rattle.es_meanings.proofs.Alike.{all_alike, members_alike}
use Rattle.es_meanings.specs.Means.{AreEntries}
use Rattle.es_member_entries.specs.Entries.{entries_in}
use Rattle.es_steps.specs.SameMeanings.{same_list, same_member, same_numbered}
use Rattle.es_meanings.proofs.difference.first_difference.Goals as goal

pub returns-then-not-same_members : goal.returns-then-not-same_members
returns-then-not-same_members c = λ a b m n.
    let program = (c.if-not-same_listed.ensures a.program b.program m.program n.program).0 refl in
    let left = subst (λ (xs : List (Numbered Entry)). AreEntries xs a.entries) (sym c.as_slice.ensures.value) m.entries in
    let right = subst (λ (xs : List (Numbered Entry)). AreEntries xs b.entries) (sym c.as_slice-2.ensures.value) n.entries in
    let entries = c.in_default.ensures a.entries b.entries left right in
    let members = members_alike c.args.left.now c.args.right.now a b _ (c.if-not-same_members.ensures ∙ ap₂ (λ xs ys. same_list (same_numbered same_member) (entries_in xs) (entries_in ys)) c.as_slice-3.ensures.value c.as_slice-4.ensures.value) m n in
    ((program, entries), (λ e. let t = members.1 e in cc))

pub returns-then-not-same_declared : goal.returns-then-not-same_declared
returns-then-not-same_declared c = λ a b m n.
    let program = (c.if-not-same_listed.ensures a.program b.program m.program n.program).0 refl in
    let left = subst (λ (xs : List (Numbered Entry)). AreEntries xs a.entries) (sym c.as_slice.ensures.value) m.entries in
    let right = subst (λ (xs : List (Numbered Entry)). AreEntries xs b.entries) (sym c.as_slice-2.ensures.value) n.entries in
    let entries = c.in_default.ensures a.entries b.entries left right in
    let members = (members_alike c.args.left.now c.args.right.now a b _ (c.if-not-same_members.ensures ∙ ap₂ (λ xs ys. same_list (same_numbered same_member) (entries_in xs) (entries_in ys)) c.as_slice-3.ensures.value c.as_slice-4.ensures.value) m n).0 refl in
    (((program, entries), members), (λ alike. let t = (c.if-not-same_declared.ensures a b m n).1 alike.0 in cc))

pub returns-then-not-same_places : goal.returns-then-not-same_places
returns-then-not-same_places c = λ a b m n.
    let program = (c.if-not-same_listed.ensures a.program b.program m.program n.program).0 refl in
    let left = subst (λ (xs : List (Numbered Entry)). AreEntries xs a.entries) (sym c.as_slice.ensures.value) m.entries in
    let right = subst (λ (xs : List (Numbered Entry)). AreEntries xs b.entries) (sym c.as_slice-2.ensures.value) n.entries in
    let entries = c.in_default.ensures a.entries b.entries left right in
    let members = (members_alike c.args.left.now c.args.right.now a b _ (c.if-not-same_members.ensures ∙ ap₂ (λ xs ys. same_list (same_numbered same_member) (entries_in xs) (entries_in ys)) c.as_slice-3.ensures.value c.as_slice-4.ensures.value) m n).0 refl in
    (((program, entries), members), (λ alike. let t = (c.if-not-same_places.ensures a b m n).1 alike.1 in cc))

pub returns-then-not-same_modules : goal.returns-then-not-same_modules
returns-then-not-same_modules c = λ a b m n.
    let program = (c.if-not-same_listed.ensures a.program b.program m.program n.program).0 refl in
    let left = subst (λ (xs : List (Numbered Entry)). AreEntries xs a.entries) (sym c.as_slice.ensures.value) m.entries in
    let right = subst (λ (xs : List (Numbered Entry)). AreEntries xs b.entries) (sym c.as_slice-2.ensures.value) n.entries in
    let entries = c.in_default.ensures a.entries b.entries left right in
    let members = (members_alike c.args.left.now c.args.right.now a b _ (c.if-not-same_members.ensures ∙ ap₂ (λ xs ys. same_list (same_numbered same_member) (entries_in xs) (entries_in ys)) c.as_slice-3.ensures.value c.as_slice-4.ensures.value) m n).0 refl in
    let named = (c.if-not-same_declared.ensures a b m n).0 refl in
    let placed = (c.if-not-same_places.ensures a b m n).0 refl in
    (((program, entries), members), ((named, placed), (λ alike. let t = (c.if-not-same_modules.ensures a b m n).1 alike in cc)))

pub returns : goal.returns
returns c = λ a b m n.
    let program = (c.if-not-same_listed.ensures a.program b.program m.program n.program).0 refl in
    let left = subst (λ (xs : List (Numbered Entry)). AreEntries xs a.entries) (sym c.as_slice.ensures.value) m.entries in
    let right = subst (λ (xs : List (Numbered Entry)). AreEntries xs b.entries) (sym c.as_slice-2.ensures.value) n.entries in
    let entries = c.in_default.ensures a.entries b.entries left right in
    let members = (members_alike c.args.left.now c.args.right.now a b _ (c.if-not-same_members.ensures ∙ ap₂ (λ xs ys. same_list (same_numbered same_member) (entries_in xs) (entries_in ys)) c.as_slice-3.ensures.value c.as_slice-4.ensures.value) m n).0 refl in
    all_alike a b program entries members ((c.if-not-same_declared.ensures a b m n).0 refl) ((c.if-not-same_places.ensures a b m n).0 refl) ((c.if-not-same_modules.ensures a b m n).0 refl)
