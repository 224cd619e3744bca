-- The strings of templates, one more at the end or in front, and private keys.
use Rattle.std.proofs.Common.{◌≡◌, refl, sym, ap, ◌∙◌, ℕ, zero, suc, ◌+◌, ◌-◌, ◌<◌, ◌≤◌, List, [], ◌∷◌, ◌++◌, length, take, drop, get_or, map, Option, Some, None, arith}
use Rattle.std.specs.Prelude.{insert}
use Rattle.std.specs.Str.{chars, IsUtf8, IsAscii}
use Rattle.std.proofs.lemmas.List.{map-append, take_more, drop_more}
use Rattle.std.proofs.lemmas.Str.{chars-append, chars-IsAscii, IsUtf8-from_ascii}
use Rattle.es_base.specs.declared.kind.Kind.{Kind}
use Rattle.es_steps.specs.Code as of
use Rattle.es_steps.specs.Events.{Spelled, Flag, Operate, OfKind}
use Rattle.es_steps.specs.Events as of_event
use Rattle.es_steps.specs.Evaluation.{cooked_details, template_details, tag_values, private_key}
use Rattle.es_steps.specs.Values.{String, Value, ConstantOf, TagString, ResultOf}
use Rattle.es_codes.specs.View.{detail_of, details_of}
use Rattle.es_codes.specs.CodeView.{string_of}
use Rattle.es_codes.specs.declared.code.TemplateString.{TemplateString}
use Rattle.es_codes.specs.declared.event.Detail.{Detail}
use Rattle.es_evaluation.specs.Direct.{State, ev_template, emit}
use Rattle.es_evaluation.specs.Flat.{single}
use Rattle.es_evaluator.specs.Templates.{cooked_detail, string_constant}

-- ---- the details of a template

cooked_is : (o : Option String) (ds : List of_event.Detail) → cooked_details o ds ≡ cooked_detail o ∷ ds
cooked_is None ds = refl
cooked_is (Some s) ds = refl

details_more : (ts : List of.TemplateString) (t : of.TemplateString) → template_details (ts ++ t ∷ []) ≡ template_details ts ++ (Spelled t.raw ∷ cooked_detail t.cooked ∷ Flag t.is_tail ∷ [])
details_more [] t = ap (λ (ds : List of_event.Detail). Spelled t.raw ∷ ds) (cooked_is t.cooked (Flag t.is_tail ∷ []))
details_more (u ∷ us) t =
    let more : List of_event.Detail = Spelled t.raw ∷ cooked_detail t.cooked ∷ Flag t.is_tail ∷ [] in
    ap (λ (ds : List of_event.Detail). Spelled u.raw ∷ cooked_details u.cooked (Flag u.is_tail ∷ ds)) (details_more us t)
    ∙ ap (λ (ds : List of_event.Detail). Spelled u.raw ∷ ds) (cooked_is u.cooked (Flag u.is_tail ∷ (template_details us ++ more)) ∙ ap (λ (ds : List of_event.Detail). ds ++ more) (sym (cooked_is u.cooked (Flag u.is_tail ∷ template_details us))))

three_more : (ds : List Detail) (r c f : Detail) → details_of (((ds ++ r ∷ []) ++ c ∷ []) ++ f ∷ []) ≡ details_of ds ++ (detail_of r ∷ detail_of c ∷ detail_of f ∷ [])
three_more [] r c f = refl
three_more (d ∷ ds) r c f = ap (λ (es : List of_event.Detail). detail_of d ∷ es) (three_more ds r c f)

pub details_step : (ds : List Detail) (ts : List TemplateString) (i : ℕ) (d : TemplateString) (r c f : Detail) → i < length ts → details_of ds ≡ template_details (map string_of (take i ts)) → detail_of r ≡ Spelled (get_or ts i d).raw → detail_of c ≡ cooked_detail (get_or ts i d).cooked → detail_of f ≡ Flag (get_or ts i d).is_tail → details_of (((ds ++ r ∷ []) ++ c ∷ []) ++ f ∷ []) ≡ template_details (map string_of (take (i + 1) ts))
details_step ds ts i d r c f h before raw cooked tail =
    three_more ds r c f
    ∙ ap (λ (es : List of_event.Detail). es ++ (detail_of r ∷ detail_of c ∷ detail_of f ∷ [])) before
    ∙ ap (λ (x : of_event.Detail). template_details (map string_of (take i ts)) ++ (x ∷ detail_of c ∷ detail_of f ∷ [])) raw
    ∙ ap (λ (x : of_event.Detail). template_details (map string_of (take i ts)) ++ (Spelled (get_or ts i d).raw ∷ x ∷ detail_of f ∷ [])) cooked
    ∙ ap (λ (x : of_event.Detail). template_details (map string_of (take i ts)) ++ (Spelled (get_or ts i d).raw ∷ cooked_detail (get_or ts i d).cooked ∷ x ∷ [])) tail
    ∙ sym (details_more (map string_of (take i ts)) (string_of (get_or ts i d)))
    ∙ ap template_details (sym (map-append string_of (take i ts) (get_or ts i d ∷ [])))
    ∙ ap (λ (us : List TemplateString). template_details (map string_of us)) (sym (take_more ts i d h))

-- ---- what a tag is called with

pub tag_step : (ts : List TemplateString) (vs ws : List Value) (i : ℕ) (d : TemplateString) (u : Value) → 0 < i → i ≤ length ts → vs ≡ tag_values (map string_of (drop i ts)) ws → u ≡ ConstantOf (TagString (get_or ts (i - 1) d).raw (get_or ts (i - 1) d).cooked) → insert vs 0 u ≡ tag_values (map string_of (drop (i - 1) ts)) ws
tag_step ts vs ws i d u h k before is =
    let next : (i - 1) + 1 ≡ i = omega arith in
    ap (λ (xs : List Value). u ∷ xs) before
    ∙ ap (λ (x : Value). x ∷ tag_values (map string_of (drop i ts)) ws) is
    ∙ ap (λ (j : ℕ). ConstantOf (TagString (get_or ts (i - 1) d).raw (get_or ts (i - 1) d).cooked) ∷ tag_values (map string_of (drop j ts)) ws) (sym next)
    ∙ ap (λ (us : List TemplateString). tag_values (map string_of us) ws) (sym (drop_more ts (i - 1) d (omega arith)))

pub no_tag : (ts : List TemplateString) (ws : List Value) (i : ℕ) → i ≤ 0 → tag_values (map string_of (drop i ts)) ws ≡ tag_values (map string_of ts) ws
no_tag ts ws zero h = refl
no_tag ts ws (suc i) h = absurd (omega arith)

-- ---- templates

pub template_alone : (m : ℕ) (ts : List TemplateString) (d : TemplateString) (vs : List Value) (s : State) → length ts ≡ 1 → vs ≡ [] → ev_template m (map string_of ts) vs s ≡ Some (ConstantOf (string_constant (string_of (get_or ts 0 d))), s)
template_alone m [] d vs s h e = absurd (omega arith)
template_alone m (t ∷ []) d [] s h e = refl
template_alone m (t ∷ []) d (v ∷ vs) s h e = absurd (cc)
template_alone m (t ∷ u ∷ ts) d vs s h e = absurd (omega arith)

pub template_whole : (m : ℕ) (ts : List TemplateString) (vs : List Value) (s : State) → (length ts ≡ 1 → vs ≡ [] → ⊥) → ev_template m (map string_of ts) vs s ≡ emit (single (Operate m (OfKind Kind.TemplateLiteral (template_details (map string_of ts))) vs)) (ResultOf m) s
template_whole m [] vs s h = refl
template_whole m (t ∷ []) [] s h = absurd (h refl refl)
template_whole m (t ∷ []) (v ∷ vs) s h = refl
template_whole m (t ∷ u ∷ ts) vs s h = refl

-- ---- private keys

pub key_chars : (base : List ℕ) → chars (35 ∷ base) ≡ private_key (chars base)
key_chars base = chars-append (35 ∷ []) base sign ∙ ap (λ t. t ++ chars base) (chars-IsAscii (35 ∷ []) one)
  where
    one : IsAscii (35 ∷ [])
    one zero = omega arith
    one (suc i) = omega arith

    sign : IsUtf8 (35 ∷ [])
    sign = IsUtf8-from_ascii (35 ∷ []) one
