-- The touches of a name are among those of the number of its spelling.
use Rattle.std.proofs.Common.{◌≡◌, refl, sym, ap, ◌∙◌, List, [], ◌∷◌, ◌++◌, Bool, true, false, cond, ◌&&◌, nat_eq, bytes_eq}
use Rattle.std.proofs.Math.Bool.{and-false}
use Rattle.es_binding_faults.specs.Leasts.{Numbers}
use Rattle.es_grouped.specs.Groups.{having}
use Rattle.es_lowered.specs.Temporaries.{Touch, chosen}
use Rattle.es_generated.proofs.NumberedNames.{apart}
use Rattle.es_generated.specs.Spellings.{spelling_number}
use Rattle.es_steps.specs.Values.{String}
use Rattle.es_owed_temporaries.specs.Named.{numbered_touches}

pub chosen_by_number : (ns : Numbers) (test : Touch → Bool) (s : String) (ts : List Touch) → chosen test s (having (spelling_number ns s) (numbered_touches ns ts)) ≡ chosen test s ts
chosen_by_number ns test s [] = refl
chosen_by_number ns test s (t ∷ ts) = here (nat_eq (spelling_number ns s) (spelling_number ns t.name)) refl (chosen_by_number ns test s ts)
  where
    rest : List Touch
    rest = having (spelling_number ns s) (numbered_touches ns ts)

    here : (b : Bool) → nat_eq (spelling_number ns s) (spelling_number ns t.name) ≡ b → chosen test s rest ≡ chosen test s ts
        → chosen test s (cond b (t ∷ []) [] ++ rest) ≡ cond (test t && bytes_eq s t.name) (t ∷ []) [] ++ chosen test s ts
    here true is h = ap (λ (xs : List Touch). cond (test t && bytes_eq s t.name) (t ∷ []) [] ++ xs) h
    here false is h = h ∙ ap (λ b. cond b (t ∷ []) [] ++ chosen test s ts) (sym (ap (λ b. test t && b) (apart ns s t.name is) ∙ and-false (test t)))
