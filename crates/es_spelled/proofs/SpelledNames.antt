-- What has a spelling is among what has its number.
use Rattle.std.proofs.Common.{◌≡◌, refl, sym, ap, ◌∙◌, ℕ, List, [], ◌∷◌, ◌++◌, Bool, true, false, cond, ◌&&◌, ◌||◌, bytes_eq, nat_eq, Bor}
use Rattle.std.specs.Prelude.{not}
use Rattle.std.specs.Str.{chars}
use Rattle.es_base.specs.Tree.{Tree, Node}
use Rattle.es_binding_faults.specs.Leasts.{Numbers}
use Rattle.es_binding_faults.specs.Seen.{seen}
use Rattle.es_generated.proofs.NumberedNames.{apart}
use Rattle.es_generated.specs.Spellings.{spelling_number}
use Rattle.es_grouped.specs.Groups.{having}
use Rattle.es_lowered.specs.Lowered.{all_mean, declaring_number, declaring_numbers, is_bound_to}
use Rattle.es_node.specs.View.{kind_of, parts_in}
use Rattle.es_references.specs.References.{references_of, referent_of}
use Rattle.es_references.specs.declared.references.Reference.{Reference}
use Rattle.es_steps.specs.Parts.{at, string_of}
use Rattle.es_steps.specs.Scopes.{is_binding_identifier}
use Rattle.es_steps.specs.Values.{String}
use Rattle.es_spelled.specs.Spelled.{numbered_declaring, numbered_references}

-- ---- identifiers and references

declares_not : (s : String) (t : Tree) → bytes_eq s (string_of (at 0 (parts_in t))) ≡ false → declaring_number s t ≡ []
declares_not s (Node kind b span semantic_id ps) other = here (is_binding_identifier kind)
  where
    here : (a : Bool) → cond (a && bytes_eq s (string_of (at 0 ps))) (b ∷ []) [] ≡ []
    here true = ap (λ c. cond c (b ∷ []) []) other
    here false = refl

declares_no_name : (s : String) (t : Tree) → is_binding_identifier (kind_of t) ≡ false → declaring_number s t ≡ []
declares_no_name s (Node kind b span semantic_id ps) other = ap (λ a. cond (a && bytes_eq s (string_of (at 0 ps))) (b ∷ []) []) other

pub declaring_by_number : (ns : Numbers) (s : String) (ts : List (Bor Tree)) → declaring_numbers s (seen (having (spelling_number ns s) (numbered_declaring ns ts))) ≡ declaring_numbers s (seen ts)
declaring_by_number ns s [] = refl
declaring_by_number ns s (t ∷ ts) = here (is_binding_identifier (kind_of t.now)) refl (declaring_by_number ns s ts)
  where
    m : ℕ
    m = spelling_number ns s

    rest : List (Bor Tree)
    rest = having m (numbered_declaring ns ts)

    named : (b : Bool) → nat_eq m (spelling_number ns (string_of (at 0 (parts_in t.now)))) ≡ b → declaring_numbers s (seen rest) ≡ declaring_numbers s (seen ts)
        → declaring_numbers s (seen (cond b (t ∷ []) [] ++ rest)) ≡ declaring_number s t.now ++ declaring_numbers s (seen ts)
    named true is h = ap (λ (ks : List ℕ). declaring_number s t.now ++ ks) h
    named false is h = h ∙ ap (λ (ks : List ℕ). ks ++ declaring_numbers s (seen ts)) (sym (declares_not s t.now (apart ns s (string_of (at 0 (parts_in t.now))) is)))

    here : (b : Bool) → is_binding_identifier (kind_of t.now) ≡ b → declaring_numbers s (seen rest) ≡ declaring_numbers s (seen ts)
        → declaring_numbers s (seen (having m (cond b ((spelling_number ns (string_of (at 0 (parts_in t.now))), t) ∷ []) [] ++ numbered_declaring ns ts))) ≡ declaring_number s t.now ++ declaring_numbers s (seen ts)
    here true is h = named (nat_eq m (spelling_number ns (string_of (at 0 (parts_in t.now))))) refl h
    here false is h = h ∙ ap (λ (ks : List ℕ). ks ++ declaring_numbers s (seen ts)) (sym (declares_no_name s t.now is))

pub referring_by_number : (ns : Numbers) (s : String) (b : ℕ) (rs : List Reference) → all_mean s b (references_of (having (spelling_number ns s) (numbered_references ns rs))) ≡ all_mean s b (references_of rs)
referring_by_number ns s b [] = refl
referring_by_number ns s b (r ∷ rs) = here (nat_eq (spelling_number ns s) (spelling_number ns (chars r.name.now))) refl (referring_by_number ns s b rs)
  where
    means : Bool
    means = is_bound_to b (referent_of (chars r.name.now) r.binding)

    rest : List Reference
    rest = having (spelling_number ns s) (numbered_references ns rs)

    here : (c : Bool) → nat_eq (spelling_number ns s) (spelling_number ns (chars r.name.now)) ≡ c → all_mean s b (references_of rest) ≡ all_mean s b (references_of rs)
        → all_mean s b (references_of (cond c (r ∷ []) [] ++ rest)) ≡ ((not (bytes_eq s (chars r.name.now)) || means) && all_mean s b (references_of rs))
    here true is h = ap (λ c. (not (bytes_eq s (chars r.name.now)) || means) && c) h
    here false is h = h ∙ ap (λ c. (not c || means) && all_mean s b (references_of rs)) (sym (apart ns s (chars r.name.now) is))
