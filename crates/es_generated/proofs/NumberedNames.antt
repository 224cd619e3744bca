-- A generated name is among those of its number.
use Rattle.std.proofs.Common.{◌≡◌, refl, sym, ap, ◌∙◌, true≢false, ℕ, List, [], ◌∷◌, ◌++◌, map, Bool, true, false, cond, ◌&&◌, ◌||◌, bytes_eq, nat_eq, arith, Option, Some}
use Rattle.std.proofs.lemmas.Bool.Decides.{nat_tests}
use Rattle.std.proofs.lemmas.Slice.Eq.{bytes_eq-Decides}
use Rattle.es_base.specs.declared.ledger.GeneratedKind.{GeneratedKind}
use Rattle.es_base.specs.declared.ledger.LedgerEntry.{LedgerEntry}
use Rattle.es_binding_faults.specs.Leasts.{Numbers}
use Rattle.es_by_number.specs.Numbered.{numbered, pairs}
use Rattle.es_by_number.specs.declared.numbered.Numbered as code
use Rattle.es_grouped.specs.Groups.{having}
use Rattle.es_steps.specs.Context.{generated_as, is_generated_private, is_private_entry, is_private_for}
use Rattle.es_steps.specs.Values.{String}
use Rattle.es_generated.specs.Spellings.{class_or, name_number, numbered_names, spelling_number}

reflexive : (n : ℕ) → nat_eq n n ≡ true
reflexive n = grind (arith, nat_tests)

-- spellings of two numbers are two
pub apart : (ns : Numbers) (s t : String) → nat_eq (spelling_number ns s) (spelling_number ns t) ≡ false → bytes_eq s t ≡ false
apart ns s t other = here (bytes_eq s t) refl
  where
    here : (b : Bool) → bytes_eq s t ≡ b → b ≡ false
    here true e = absurd (true≢false (sym (reflexive (spelling_number ns s)) ∙ ap (λ (u : String). nat_eq (spelling_number ns s) (spelling_number ns u)) ((bytes_eq-Decides s t).0 e) ∙ other))
    here false e = refl

-- the values of a number, as definitions see them
pub having_seen : {T A : Type 0} (view : T → A) (m : ℕ) (xs : List (code.Numbered T)) → map view (having m (pairs xs)) ≡ having m (numbered view xs)
having_seen view m [] = refl
having_seen {T} {A} view m (x ∷ xs) = here (nat_eq m x.number) (having_seen view m xs)
  where
    here : (b : Bool) → map view (having m (pairs xs)) ≡ having m (numbered view xs) → map view (cond b (x.value ∷ []) [] ++ having m (pairs xs)) ≡ cond b (view x.value ∷ []) [] ++ having m (numbered view xs)
    here true h = ap (λ (ys : List A). view x.value ∷ ys) h
    here false h = h

-- ---- names of identifiers

not_private : (n : ℕ) (g : GeneratedKind) → is_private_entry g ≡ false → class_or n g ≡ n
not_private n (GeneratedKind.Private k) is = absurd (true≢false is)
not_private n g is = refl

missed : (p q : Bool) (o : Option GeneratedKind) (g : GeneratedKind) → (p ≡ false → q ≡ false) → o ≡ cond p o (cond q (Some g) o)
missed true q o g other = refl
missed false true o g other = absurd (true≢false (other refl))
missed false false o g other = refl

pub generated_by_number : (ns : Numbers) (s : String) (es : List LedgerEntry) → generated_as s (having (spelling_number ns s) (numbered_names ns es)) ≡ generated_as s es
generated_by_number ns s [] = refl
generated_by_number ns s (e ∷ es) = here (nat_eq (spelling_number ns s) (name_number ns e)) refl (generated_by_number ns s es)
  where
    here : (b : Bool) → nat_eq (spelling_number ns s) (name_number ns e) ≡ b → generated_as s (having (spelling_number ns s) (numbered_names ns es)) ≡ generated_as s es
        → generated_as s (cond b (e ∷ []) [] ++ having (spelling_number ns s) (numbered_names ns es)) ≡ cond (is_private_entry e.kind) (generated_as s es) (cond (bytes_eq s e.name) (Some e.kind) (generated_as s es))
    here true is h = ap (λ o. cond (is_private_entry e.kind) o (cond (bytes_eq s e.name) (Some e.kind) o)) h
    here false is h = h ∙ missed (is_private_entry e.kind) (bytes_eq s e.name) (generated_as s es) e.kind (λ told.
        apart ns s e.name (ap (λ n. nat_eq (spelling_number ns s) n) (sym (not_private (spelling_number ns e.name) e.kind told)) ∙ is))

-- ---- private names

of_another : (n m : ℕ) (g : GeneratedKind) → nat_eq n (class_or m g) ≡ false → is_private_for n g ≡ false
of_another n m (GeneratedKind.Private k) other = other
of_another n m g other = refl

pub private_by_number : (ns : Numbers) (s : String) (n : ℕ) (es : List LedgerEntry) → is_generated_private s n (having n (numbered_names ns es)) ≡ is_generated_private s n es
private_by_number ns s n [] = refl
private_by_number ns s n (e ∷ es) = here (nat_eq n (name_number ns e)) refl (private_by_number ns s n es)
  where
    here : (b : Bool) → nat_eq n (name_number ns e) ≡ b → is_generated_private s n (having n (numbered_names ns es)) ≡ is_generated_private s n es
        → is_generated_private s n (cond b (e ∷ []) [] ++ having n (numbered_names ns es)) ≡ ((is_private_for n e.kind && bytes_eq s e.name) || is_generated_private s n es)
    here true is h = ap (λ c. (is_private_for n e.kind && bytes_eq s e.name) || c) h
    here false is h = h ∙ ap (λ c. (c && bytes_eq s e.name) || is_generated_private s n es) (sym (of_another n (spelling_number ns e.name) e.kind is))
