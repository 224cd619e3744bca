-- The list of shapes, one after another.
use Rattle.std.proofs.Common.{◌≡◌, refl, ap, ◌∙◌, List, [], ◌++◌, append_assoc, Bool, true, false}
use Rattle.es_base.specs.declared.shape.Shape.{Shape}
use Rattle.es_steps.specs.Shapes.{if_has}

one : (b : Bool) (s : Shape) (rest : List Shape) → if_has b s [] ++ rest ≡ if_has b s rest
one true s rest = refl
one false s rest = refl

next : (before : List Shape) (b : Bool) (s : Shape) (rest : List Shape) → (before ++ if_has b s []) ++ rest ≡ before ++ if_has b s rest
next before b s rest = append_assoc before (if_has b s []) rest ∙ ap (λ (xs : List Shape). before ++ xs) (one b s rest)

-- seven of them
pub in_order : (xs : List Shape) (b2 b3 b4 b5 b6 b7 b8 : Bool) → ((((((xs ++ if_has b2 Shape.S2 []) ++ if_has b3 Shape.S3 []) ++ if_has b4 Shape.S4 []) ++ if_has b5 Shape.S5 []) ++ if_has b6 Shape.S6 []) ++ if_has b7 Shape.S7 []) ++ if_has b8 Shape.S8 []
    ≡ xs ++ if_has b2 Shape.S2 (if_has b3 Shape.S3 (if_has b4 Shape.S4 (if_has b5 Shape.S5 (if_has b6 Shape.S6 (if_has b7 Shape.S7 (if_has b8 Shape.S8 []))))))
in_order xs b2 b3 b4 b5 b6 b7 b8 =
    let l8 = if_has b8 Shape.S8 [] in
    let l7 = if_has b7 Shape.S7 l8 in
    let l6 = if_has b6 Shape.S6 l7 in
    let l5 = if_has b5 Shape.S5 l6 in
    let l4 = if_has b4 Shape.S4 l5 in
    let l3 = if_has b3 Shape.S3 l4 in
    next (((((xs ++ if_has b2 Shape.S2 []) ++ if_has b3 Shape.S3 []) ++ if_has b4 Shape.S4 []) ++ if_has b5 Shape.S5 []) ++ if_has b6 Shape.S6 []) b7 Shape.S7 l8
    ∙ next ((((xs ++ if_has b2 Shape.S2 []) ++ if_has b3 Shape.S3 []) ++ if_has b4 Shape.S4 []) ++ if_has b5 Shape.S5 []) b6 Shape.S6 l7
    ∙ next (((xs ++ if_has b2 Shape.S2 []) ++ if_has b3 Shape.S3 []) ++ if_has b4 Shape.S4 []) b5 Shape.S5 l6
    ∙ next ((xs ++ if_has b2 Shape.S2 []) ++ if_has b3 Shape.S3 []) b4 Shape.S4 l5
    ∙ next (xs ++ if_has b2 Shape.S2 []) b3 Shape.S3 l4
    ∙ next xs b2 Shape.S2 l3

-- S1 in front
pub with_first : (b : Bool) (rest : List Shape) → if_has b Shape.S1 [] ++ rest ≡ if_has b Shape.S1 rest
with_first b rest = one b Shape.S1 rest
