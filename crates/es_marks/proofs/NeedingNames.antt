-- What holds the class that needs a name is found by the number of its spelling.
use Rattle.std.proofs.Common.{◌≡◌, refl, sym, ap, ◌∙◌, ℕ, List, [], ◌∷◌, ◌++◌, Bool, true, false, cond, ◌&&◌, nat_eq, bytes_eq}
use Rattle.std.proofs.Math.Bool.{and-false}
use Rattle.es_binding_faults.specs.Leasts.{Numbers}
use Rattle.es_grouped.specs.Groups.{having}
use Rattle.es_lowered.specs.Timely.{Mark, held_of, is_needed, is_of_no_node}
use Rattle.es_generated.proofs.NumberedNames.{apart}
use Rattle.es_generated.specs.Spellings.{spelling_number}
use Rattle.es_steps.specs.Values.{String}
use Rattle.es_marks.specs.Needing.{held_named, with_numbers}

pub held_by_number : (ns : Numbers) (s : String) (ms : List Mark) → held_named s (having (spelling_number ns s) (with_numbers ns ms)) ≡ held_of s ms
held_by_number ns s [] = refl
held_by_number ns s (m ∷ ms) = here (is_needed m.form && is_of_no_node m.node) refl (held_by_number ns s ms)
  where
    n : ℕ
    n = spelling_number ns s

    rest : List (String × List (ℕ × ℕ))
    rest = having n (with_numbers ns ms)

    spelled : (b : Bool) → nat_eq n (spelling_number ns m.name) ≡ b → held_named s rest ≡ held_of s ms
        → held_named s (cond b ((m.name, m.around.held) ∷ []) [] ++ rest) ≡ cond (bytes_eq s m.name && true) m.around.held (held_of s ms)
    spelled true is h = same (bytes_eq s m.name) ∙ ap (λ (hs : List (ℕ × ℕ)). cond (bytes_eq s m.name && true) m.around.held hs) h
      where
        same : (b : Bool) → cond b m.around.held (held_named s rest) ≡ cond (b && true) m.around.held (held_named s rest)
        same true = refl
        same false = refl
    spelled false is h = h ∙ ap (λ b. cond (b && true) m.around.held (held_of s ms)) (sym (apart ns s m.name is))

    here : (b : Bool) → (is_needed m.form && is_of_no_node m.node) ≡ b → held_named s rest ≡ held_of s ms
        → held_named s (having n (cond b ((spelling_number ns m.name, (m.name, m.around.held)) ∷ []) [] ++ with_numbers ns ms)) ≡ cond (bytes_eq s m.name && b) m.around.held (held_of s ms)
    here true is h = spelled (nat_eq n (spelling_number ns m.name)) refl h
    here false is h = h ∙ ap (λ b. cond b m.around.held (held_of s ms)) (sym (and-false (bytes_eq s m.name)))
