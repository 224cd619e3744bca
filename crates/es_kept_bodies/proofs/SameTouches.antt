-- Touches that are found the same are one.
use Rattle.std.proofs.Common.{◌≡◌, refl, sym, ap, ◌∙◌, ℕ, List, [], ◌∷◌, Bool, true, false, cond, ◌&&◌, length, nat_eq}
use Rattle.std.proofs.lemmas.Bool.{and_parts, eqb-true}
use Rattle.es_by_number.proofs.Sameness.{other_length, same_viewed}
use Rattle.es_lowered.specs.DeadZones.{Touch, TouchForm, reads, names_class, reads_this, makes_class, calls_super, runs_closure, defines_field, between_parts, another}
use Rattle.es_kept_bodies.specs.Kept.{number_of, same_form, same_part, same_touch, tag_of}
use Rattle.es_marks.specs.Around.{held_parts}
use Rattle.es_marks.specs.declared.around.HeldPart.{HeldPart}
use Rattle.es_steps.specs.SameMeanings.{same_list}
use Rattle.es_touches.specs.Touches.{touch_of, touches_of}
use Rattle.es_touches.specs.declared.touch.Touch as code

-- the form of two numbers
abbrev form_by : ℕ → ℕ → TouchForm
form_by n b =
    cond (nat_eq n 0) (reads b) (cond (nat_eq n 1) names_class (cond (nat_eq n 2) reads_this (cond (nat_eq n 3) makes_class (cond (nat_eq n 4) calls_super (cond (nat_eq n 5) (runs_closure b) (cond (nat_eq n 6) defines_field (cond (nat_eq n 7) between_parts another)))))))

by_numbers : (f : TouchForm) → form_by (tag_of f) (number_of f) ≡ f
by_numbers (reads b) = refl
by_numbers names_class = refl
by_numbers reads_this = refl
by_numbers makes_class = refl
by_numbers calls_super = refl
by_numbers (runs_closure k) = refl
by_numbers defines_field = refl
by_numbers between_parts = refl
by_numbers another = refl

one_form : (f g : TouchForm) → same_form f g ≡ true → f ≡ g
one_form f g e =
    let parts = and_parts (nat_eq (tag_of f) (tag_of g)) (nat_eq (number_of f) (number_of g)) e in
    sym (by_numbers f)
    ∙ ap (λ n. form_by n (number_of f)) (eqb-true (tag_of f) (tag_of g) parts.0)
    ∙ ap (form_by (tag_of g)) (eqb-true (number_of f) (number_of g) parts.1)
    ∙ by_numbers g

one_part : (p q : ℕ × ℕ) → same_part p q ≡ true → p ≡ q
one_part p q e =
    let parts = and_parts (nat_eq p.0 q.0) (nat_eq p.1 q.1) e in
    ap (λ m. (m, p.1)) (eqb-true p.0 q.0 parts.0) ∙ ap (λ k. (q.0, k)) (eqb-true p.1 q.1 parts.1)

one_by_one : {A : Type 0} (same : A → A → Bool) → ((x y : A) → same x y ≡ true → x ≡ y) → (xs ys : List A) → same_list same xs ys ≡ true → xs ≡ ys
one_by_one same one [] [] e = refl
one_by_one same one [] (y ∷ ys) e = absurd (cc)
one_by_one same one (x ∷ xs) [] e = absurd (cc)
one_by_one {A} same one (x ∷ xs) (y ∷ ys) e =
    let parts = and_parts (same x y) (same_list same xs ys) e in
    ap (λ z. z ∷ xs) (one x y parts.0) ∙ ap (λ (zs : List A). y ∷ zs) (one_by_one same one xs ys parts.1)

abbrev touch : ℕ → TouchForm → List (ℕ × ℕ) → Touch
touch n f hs = record { number = n; form = f; held = hs }

one_touch : (t u : Touch) → same_touch t u ≡ true → t ≡ u
one_touch t u e =
    let first = and_parts (nat_eq t.number u.number) (same_form t.form u.form && same_list same_part t.held u.held) e in
    let second = and_parts (same_form t.form u.form) (same_list same_part t.held u.held) first.1 in
    ap (λ n. touch n t.form t.held) (eqb-true t.number u.number first.0)
    ∙ ap (λ f. touch u.number f t.held) (one_form t.form u.form second.0)
    ∙ ap (touch u.number u.form) (one_by_one same_part one_part t.held u.held second.1)

pub one_list : (ts us : List Touch) → same_list same_touch ts us ≡ true → ts ≡ us
one_list = one_by_one same_touch one_touch

-- ---- lists of two lengths are two

pub other_touches : (xs ys : List code.Touch) → (length xs ≡ length ys → ⊥) → same_list same_touch (touches_of xs) (touches_of ys) ≡ false
other_touches xs ys other = sym (same_viewed same_touch touch_of xs ys) ∙ other_length (λ x y. same_touch (touch_of x) (touch_of y)) xs ys other

abbrev pair_of : HeldPart → ℕ × ℕ
pair_of x = (x.node, x.part)

pub other_parts : (xs ys : List HeldPart) → (length xs ≡ length ys → ⊥) → same_list same_part (held_parts xs) (held_parts ys) ≡ false
other_parts xs ys other = sym (same_viewed same_part pair_of xs ys) ∙ other_length (λ x y. same_part (pair_of x) (pair_of y)) xs ys other
