-- Private members, one by one.
use Rattle.std.proofs.Common.{◌≡◌, refl, sym, ap, ◌∙◌, ℕ, List, [], ◌∷◌, ◌++◌, Option, Some, None, append_assoc}
use Rattle.es_steps.specs.Meaning.{MemberEntry, member_entry, member_entries, with_member}
use Rattle.es_steps.specs.PrivateNames.{PrivateMember}

abbrev pub Found : Type 0
Found = List (ℕ × MemberEntry)

-- behind those that were found
abbrev pub behind : Found → Option Found → Option Found
behind found None = None
behind found (Some es) = Some (found ++ es)

with_more : (found : Found) (d : ℕ) (e : MemberEntry) (o : Option Found) → behind found (with_member d (Some e) o) ≡ behind (found ++ (d, e) ∷ []) o
with_more found d e None = refl
with_more found d e (Some es) = ap Some (sym (append_assoc found ((d, e) ∷ []) es))

without : (found : Found) (d : ℕ) (o : Option Found) → behind found (with_member d None o) ≡ None
without found d None = refl
without found d (Some es) = refl

pub entry_there : (functions : List (ℕ × ℕ)) (x : PrivateMember) (xs : List PrivateMember) (e : MemberEntry) (found : Found) → Some e ≡ member_entry x.class x.is_static x.kind x.number functions → behind found (member_entries functions (x ∷ xs)) ≡ behind (found ++ (x.number, e) ∷ []) (member_entries functions xs)
entry_there functions x xs e found there =
    ap (λ o. behind found (with_member x.number o (member_entries functions xs))) (sym there)
    ∙ with_more found x.number e (member_entries functions xs)

pub entry_missing : (functions : List (ℕ × ℕ)) (x : PrivateMember) (xs : List PrivateMember) (found : Found) → None ≡ member_entry x.class x.is_static x.kind x.number functions → behind found (member_entries functions (x ∷ xs)) ≡ None
entry_missing functions x xs found missing =
    ap (λ o. behind found (with_member x.number o (member_entries functions xs))) (sym missing)
    ∙ without found x.number (member_entries functions xs)
