-- A definition defines one thing, and is among those of its number.
use Rattle.std.proofs.Common.{◌≡◌, refl, sym, ap, ◌∙◌, true≢false, ℕ, List, [], ◌∷◌, ◌++◌, Bool, true, false, cond, nat_eq, arith, Option, Some}
use Rattle.std.proofs.lemmas.Bool.Decides.{nat_tests}
use Rattle.std.proofs.lemmas.Slice.Eq.{bytes_eq-Decides}
use Rattle.es_binding_faults.specs.Leasts.{Numbers}
use Rattle.es_grouped.specs.Groups.{having}
use Rattle.es_steps.specs.Code.{Opened, InitializersOf, BodyOf, CalledBodyOf}
use Rattle.es_steps.specs.Opening.{Definition, of_class, of_name, of_called, defines, definition_of}
use Rattle.es_code_rules.specs.Elsewhere.{opened_by}
use Rattle.es_code_rules.specs.Indexed.{numbered_definitions, opened_number}

same_number : (n k : ℕ) → nat_eq n k ≡ true → n ≡ k
same_number n k e = grind (arith, nat_tests, e)

one_number : (n : ℕ) → nat_eq n n ≡ true
one_number n = grind (arith, nat_tests)

pub defines_one : (o : Opened) (d : Definition) → defines o d ≡ true → o ≡ opened_by d
defines_one (InitializersOf n) (of_class k es) e = ap InitializersOf (same_number n k e)
defines_one (InitializersOf n) (of_name s c) e = absurd (true≢false (sym e))
defines_one (InitializersOf n) (of_called s c) e = absurd (true≢false (sym e))
defines_one (BodyOf s) (of_class k es) e = absurd (true≢false (sym e))
defines_one (BodyOf s) (of_name t c) e = ap BodyOf ((bytes_eq-Decides s t).0 e)
defines_one (BodyOf s) (of_called t c) e = absurd (true≢false (sym e))
defines_one (CalledBodyOf s) (of_class k es) e = absurd (true≢false (sym e))
defines_one (CalledBodyOf s) (of_name t c) e = absurd (true≢false (sym e))
defines_one (CalledBodyOf s) (of_called t c) e = ap CalledBodyOf ((bytes_eq-Decides s t).0 e)

pub defines_its_own : (d : Definition) → defines (opened_by d) d ≡ true
defines_its_own (of_class n es) = one_number n
defines_its_own (of_name s c) = (bytes_eq-Decides s s).1 refl
defines_its_own (of_called s c) = (bytes_eq-Decides s s).1 refl

-- what is defined like another thing is no definition of a third
pub not_both : (o : Opened) (d e : Definition) → defines o d ≡ false → defines (opened_by d) e ≡ true → defines o e ≡ false
not_both o d e apart is = here (defines o e) refl
  where
    here : (b : Bool) → defines o e ≡ b → b ≡ false
    here true h =
        let one : opened_by d ≡ o = defines_one (opened_by d) e is ∙ sym (defines_one o e h) in
        absurd (true≢false (sym (defines_its_own d) ∙ ap (λ (p : Opened). defines p d) one ∙ apart))
    here false h = refl

-- what has another number is no definition of it
another : (ns : Numbers) (o : Opened) (d : Definition) → nat_eq (opened_number ns o) (opened_number ns (opened_by d)) ≡ false → defines o d ≡ false
another ns o d other = here (defines o d) refl
  where
    here : (b : Bool) → defines o d ≡ b → b ≡ false
    here true e = absurd (true≢false (sym (one_number (opened_number ns o)) ∙ ap (λ (p : Opened). nat_eq (opened_number ns o) (opened_number ns p)) (defines_one o d e) ∙ other))
    here false e = refl

pub defined_by_number : (ns : Numbers) (o : Opened) (ds : List Definition) → definition_of o (having (opened_number ns o) (numbered_definitions ns ds)) ≡ definition_of o ds
defined_by_number ns o [] = refl
defined_by_number ns o (d ∷ ds) = here (nat_eq (opened_number ns o) (opened_number ns (opened_by d))) refl (defined_by_number ns o ds)
  where
    here : (b : Bool) → nat_eq (opened_number ns o) (opened_number ns (opened_by d)) ≡ b → definition_of o (having (opened_number ns o) (numbered_definitions ns ds)) ≡ definition_of o ds
        → definition_of o (cond b (d ∷ []) [] ++ having (opened_number ns o) (numbered_definitions ns ds)) ≡ cond (defines o d) (Some d) (definition_of o ds)
    here true is h = ap (λ (x : Option Definition). cond (defines o d) (Some d) x) h
    here false is h = h ∙ ap (λ (c : Bool). cond c (Some d) (definition_of o ds)) (sym (another ns o d is))
