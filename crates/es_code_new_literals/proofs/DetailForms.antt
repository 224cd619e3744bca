-- The details of new literals, by what they are.
use Rattle.std.proofs.Common.{◌≡◌, refl, sym, ap, ◌∙◌, List, [], ◌∷◌, Bool, true, false, cond, Option, Some, None, length}
use Rattle.std.proofs.Common.{◌<◌, arith}
use Rattle.std.specs.Prelude.{◌&&◌, bytes_eq, codes}
use Rattle.std.proofs.Math.Bool.{and-false}
use Rattle.es_steps.specs.Events.{Detail, Operand, Spelled, Flag, Key, Closes}
use Rattle.es_steps.specs.GeneratedForms.{is_plain_property, only_operands}
use Rattle.es_steps.specs.Values.{String, StringOf}
use Rattle.es_code_new_literals.specs.Details.{is_operand, is_closing, is_plain, is_key, is_property, is_plain_end, behind_property, is_value_end, are_writable, is_end}

and-true : (a : Bool) → a ≡ (a && true)
and-true true = refl
and-true false = refl

pub four_details : (a b c d : Detail) → ((is_operand a && is_plain b c) && is_closing d) ≡ is_plain_end (a ∷ b ∷ c ∷ d ∷ [])
four_details Operand (Spelled kind) (Flag is_method) Closes = sym (and-true (is_plain_property kind is_method))
four_details Operand (Spelled kind) (Flag is_method) d = and-false (is_plain_property kind is_method)
four_details a b c d = refl

pub no_end : (ds : List Detail) → (length ds ≡ 4 → ⊥) → false ≡ is_plain_end ds
no_end (Operand ∷ Spelled kind ∷ Flag is_method ∷ Closes ∷ []) h = absurd (h refl)
no_end (a ∷ b ∷ c ∷ d ∷ []) h = absurd (h refl)
no_end ds h = refl

not-first : (a b : Bool) → ((a && false) && b) ≡ false
not-first true b = refl
not-first false b = refl

pub four_of_property : (s : String) (key v kind is_method : Detail) → ((is_key s key && is_operand v) && is_plain kind is_method) ≡ is_property s key v kind is_method
four_of_property s (Key (StringOf t)) Operand (Spelled kind) (Flag is_method) = ap (λ x. x && is_plain_property kind is_method) (sym (and-true (bytes_eq t s)))
four_of_property s (Key (StringOf t)) Operand kind is_method = and-false (bytes_eq t s && true)
four_of_property s (Key (StringOf t)) v kind is_method = not-first (bytes_eq t s) (is_plain kind is_method)
four_of_property s key v kind is_method = refl

-- ---- properties one by one

value-and-end : (a b c d : Detail) (ds : List Detail) → (is_property (codes "value") a b c d && is_end ds) ≡ is_value_end (a ∷ b ∷ c ∷ d ∷ ds)
value-and-end (Key (StringOf s)) Operand (Spelled k) (Flag m) (Closes ∷ []) = sym (and-true (bytes_eq s (codes "value") && is_plain_property k m))
value-and-end (Key (StringOf s)) Operand (Spelled k) (Flag m) (e ∷ f ∷ ds) = and-false (bytes_eq s (codes "value") && is_plain_property k m)
value-and-end (Key (StringOf s)) Operand (Spelled k) (Flag m) ds = and-false (bytes_eq s (codes "value") && is_plain_property k m)
value-and-end a b c d ds = refl

no-value : (ds : List Detail) → length ds < 4 → false ≡ is_value_end ds
no-value (Key (StringOf s) ∷ Operand ∷ Spelled k ∷ Flag m ∷ ds) h = absurd (omega (arith, h))
no-value (a ∷ b ∷ c ∷ d ∷ ds) h = absurd (omega (arith, h))
no-value ds h = refl

writable-and-more : (a b c d : Detail) (ds : List Detail) → (is_property (codes "writable") a b c d && is_value_end ds) ≡ are_writable (a ∷ b ∷ c ∷ d ∷ ds)
writable-and-more (Key (StringOf s)) Operand (Spelled k) (Flag m) (Key (StringOf t) ∷ Operand ∷ Spelled l ∷ Flag n ∷ Closes ∷ []) = refl
writable-and-more (Key (StringOf s)) Operand (Spelled k) (Flag m) ds = and-false (bytes_eq s (codes "writable") && is_plain_property k m)
writable-and-more a b c d ds = refl

not-writable : (ds : List Detail) → length ds < 4 → false ≡ are_writable ds
not-writable (Key (StringOf s) ∷ Operand ∷ Spelled k ∷ Flag m ∷ ds) h = absurd (omega (arith, h))
not-writable (a ∷ b ∷ c ∷ d ∷ ds) h = absurd (omega (arith, h))
not-writable ds h = refl

abbrev by : (List Detail → Bool) → Option (List Detail) → Bool
by f None = false
by f (Some ds) = f ds

by-cond : (f : List Detail → Bool) (b : Bool) (ds : List Detail) → by f (cond b (Some ds) None) ≡ (b && f ds)
by-cond f true ds = refl
by-cond f false ds = refl

value-by : (ds : List Detail) → by is_end (behind_property (codes "value") ds) ≡ is_value_end ds
value-by [] = refl
value-by (a ∷ []) = no-value (a ∷ []) (omega arith)
value-by (a ∷ b ∷ []) = no-value (a ∷ b ∷ []) (omega arith)
value-by (a ∷ b ∷ c ∷ []) = no-value (a ∷ b ∷ c ∷ []) (omega arith)
value-by (a ∷ b ∷ c ∷ d ∷ ds) = by-cond is_end (is_property (codes "value") a b c d) ds ∙ value-and-end a b c d ds

writable-by : (ds : List Detail) → by is_value_end (behind_property (codes "writable") ds) ≡ are_writable ds
writable-by [] = refl
writable-by (a ∷ []) = not-writable (a ∷ []) (omega arith)
writable-by (a ∷ b ∷ []) = not-writable (a ∷ b ∷ []) (omega arith)
writable-by (a ∷ b ∷ c ∷ []) = not-writable (a ∷ b ∷ c ∷ []) (omega arith)
writable-by (a ∷ b ∷ c ∷ d ∷ ds) = by-cond is_value_end (is_property (codes "writable") a b c d) ds ∙ writable-and-more a b c d ds

pub value_behind : (ds es : List Detail) → Some es ≡ behind_property (codes "value") ds → is_end es ≡ is_value_end ds
value_behind ds es is = ap (by is_end) is ∙ value-by ds

pub no_value_behind : (ds : List Detail) → None ≡ behind_property (codes "value") ds → false ≡ is_value_end ds
no_value_behind ds is = ap (by is_end) is ∙ value-by ds

pub writable_behind : (ds es : List Detail) → Some es ≡ behind_property (codes "writable") ds → is_value_end es ≡ are_writable ds
writable_behind ds es is = ap (by is_value_end) is ∙ writable-by ds

pub no_writable_behind : (ds : List Detail) → None ≡ behind_property (codes "writable") ds → false ≡ are_writable ds
no_writable_behind ds is = ap (by is_value_end) is ∙ writable-by ds

pub nothing_behind : (s : String) (ds : List Detail) → length ds < 4 → None ≡ behind_property s ds
nothing_behind s [] h = refl
nothing_behind s (a ∷ []) h = refl
nothing_behind s (a ∷ b ∷ []) h = refl
nothing_behind s (a ∷ b ∷ c ∷ []) h = refl
nothing_behind s (a ∷ b ∷ c ∷ d ∷ ds) h = absurd (omega (arith, h))

-- ---- the elements of an array

pub one_end : (d : Detail) → is_closing d ≡ is_end (d ∷ [])
one_end d = refl

pub more_than_an_end : (ds : List Detail) → (length ds ≡ 1 → ⊥) → false ≡ is_end ds
more_than_an_end [] h = refl
more_than_an_end (d ∷ []) h = absurd (h refl)
more_than_an_end (d ∷ e ∷ ds) h = refl

pub behind_operand : (d : Detail) (ds : List Detail) → is_operand d ≡ true → only_operands (d ∷ ds) ≡ only_operands ds
behind_operand Operand ds h = refl
behind_operand d ds h = cc

pub stopped : (d : Detail) (ds : List Detail) → is_operand d ≡ false → only_operands (d ∷ ds) ≡ is_end (d ∷ ds)
stopped Operand ds h = cc
stopped Closes [] h = refl
stopped Closes (e ∷ ds) h = refl
stopped d [] h = refl
stopped d (e ∷ ds) h = refl

pub none_left : only_operands [] ≡ is_end []
none_left = refl
