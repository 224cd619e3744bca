-- What is looked up by a number is found as by a scan.
use Rattle.std.proofs.Common.{◌≡◌, refl, sym, ap, ap₂, ◌∙◌, ℕ, List, [], ◌∷◌, ◌++◌, Bool, true, false, cond, not, ◌&&◌, ◌||◌, nat_eq}
use Rattle.std.proofs.lemmas.Bool.Decides.{Decides-eqb, same_from_decides}
use Rattle.es_grouped.specs.Groups.{having}
use Rattle.es_lowered.specs.DeadZones.{Body, Closures, Touch, is_arrow_of, stands_in_closure, stands_in_node}
use Rattle.es_steps.specs.References.{has_number}
use Rattle.es_steps.specs.SameMeanings.{same_list}
use Rattle.es_kept_bodies.specs.Indexed.{any_of_closure, arrows_of, numbered_bodies}
use Rattle.es_kept_bodies.specs.Kept.{any_same, is_same_body, same_touch}

-- ---- bodies

pub same_numbered : (b : Body) (cs : List Body) → any_same b (having b.number (numbered_bodies cs)) ≡ any_same b cs
same_numbered b [] = refl
same_numbered b (c ∷ cs) = here (nat_eq b.number c.number) refl (same_numbered b cs)
  where
    rest : List Body
    rest = having b.number (numbered_bodies cs)

    same_but_number : Bool
    same_but_number = (c.derives || not b.derives) && same_list same_touch b.touches c.touches

    here : (e : Bool) → nat_eq b.number c.number ≡ e → any_same b rest ≡ any_same b cs → any_same b (cond e (c ∷ []) [] ++ rest) ≡ (is_same_body b c || any_same b cs)
    here true is h = ap (λ (f : Bool). is_same_body b c || f) h
    here false is h = h ∙ ap (λ (f : Bool). (f && same_but_number) || any_same b cs) (sym is)

-- ---- closures

pub among_arrows : (n : ℕ) (cs : Closures) → has_number n (arrows_of cs) ≡ is_arrow_of n cs
among_arrows n [] = refl
among_arrows n (c ∷ cs) = ap (λ (b : Bool). nat_eq n c.1 || b) (among_arrows n cs)

either_way : (a b : ℕ) → nat_eq a b ≡ nat_eq b a
either_way a b = same_from_decides _ _ (Decides-eqb a b) (λ t. sym ((Decides-eqb b a).0 t), λ e. (Decides-eqb b a).1 (sym e))

shuffled : (a b c d : Bool) → ((a || b) || (c || d)) ≡ ((a || c) || (b || d))
shuffled true b c d = refl
shuffled false true true d = refl
shuffled false true false d = refl
shuffled false false c d = refl

none_called : (ps : List (ℕ × ℕ)) → any_of_closure [] ps ≡ false
none_called [] = refl
none_called (p ∷ ps) = none_called ps

one_more : (c : List ℕ × ℕ) (cs : Closures) (ps : List (ℕ × ℕ)) → any_of_closure (c ∷ cs) ps ≡ (stands_in_node c.1 ps || any_of_closure cs ps)
one_more c cs [] = refl
one_more c cs (p ∷ ps) =
    ap₂ (λ (e f : Bool). (e || is_arrow_of p.0 cs) || f) (either_way p.0 c.1) (one_more c cs ps)
    ∙ shuffled (nat_eq c.1 p.0) (is_arrow_of p.0 cs) (stands_in_node c.1 ps) (any_of_closure cs ps)

pub by_parts : (cs : Closures) (t : Touch) → any_of_closure cs t.held ≡ stands_in_closure cs t
by_parts [] t = none_called t.held
by_parts (c ∷ cs) t = one_more c cs t.held ∙ ap (λ (b : Bool). stands_in_node c.1 t.held || b) (by_parts cs t)
