-- The members of a written node are those of its kind.
use Rattle.std.proofs.Common.{◌≡◌, refl, ap, ap₂, ◌∙◌, ℕ, ◌+◌, nat_eq, List, [], ◌∷◌, Bool, true, false, not, Some, Ok, Err, if◌then◌else◌, is_some}
use Rattle.std.specs.Prelude.{◌&&◌, ◌||◌, codes, option_and_then}
use Rattle.std.proofs.lemmas.Bool.{and_parts, and_from}
use Rattle.serde_json.specs.Data.{Data}
use Rattle.serde_json.specs.Find.{get, as_str, as_bool, as_array}
use Rattle.serde_json.specs.Written.{has_float}
use Rattle.es_base.specs.Tree.{Part, Parts, end, more, child, absent, list, string, no_string, boolean, literal}
use Rattle.es_base.specs.Conforms.{parts_conform, part_conforms, items_conform, kind_rule, is_end, item_count as parts_count}
use Rattle.es_base.specs.Table.{Field, members_of, words_of}
use Rattle.es_base.specs.declared.kind.Kind.{Kind}
use Rattle.es_base.specs.declared.table.Place.{Place}
use Rattle.es_base.specs.declared.table.Sort.{Sort}
use Rattle.es_reading.specs.Fault.{refused, float_at}
use Rattle.es_reading.specs.Look.{u32_at}
use Rattle.es_reading.specs.Members.{is_of_sort, are_of_sorts, is_empty, is_name, is_word, is_false, item_count, counts_agree, is_one_more, are_good}
use Rattle.es_reading.specs.Reading.{known, number_of}
use Rattle.es_reading.specs.declared.fault.What.{What}
use Rattle.es_reading.specs.declared.numbers.Numbers.{Numbers}
use Rattle.es_writing.specs.Writing.{write_items}
use Rattle.es_writing.specs.Kept.{PartIsKept, AreKept}
use Rattle.es_json.proofs.Floats.{floats_of_none}
use Rattle.es_json.proofs.Stands.{there, Stands, AllStand}
use Rattle.es_json.proofs.Strings.{word_kept, name_kept}
use Rattle.es_json.proofs.Tests.{nothing_more, and_none}

list_full : (d : Data) (name : List ℕ) (ps : Parts) → get name d ≡ there (list ps) → not (is_end ps) ≡ true → (is_some (option_and_then as_array (get name d)) && not (is_empty (option_and_then as_array (get name d)))) ≡ true
list_full d name end at full = cc
list_full d name (more p ps) at full = ap (λ o. is_some (option_and_then as_array o) && not (is_empty (option_and_then as_array o))) at

good_part : (computed : Bool) (d : Data) (name : List ℕ) (sort : Sort) (p : Part) → part_conforms computed sort p ≡ true → PartIsKept p → Stands d name sort p → is_of_sort d name sort ≡ true
good_part computed d name (Sort.Child place) (child t) c kept at = ap is_some at
good_part computed d name (Sort.Key place) (child t) c kept at = ap is_some at
good_part computed d name (Sort.Nullable place) (child t) c kept at = refl
good_part computed d name (Sort.Nullable place) absent c kept at = refl
good_part computed d name (Sort.List place) (list ps) c kept at = ap (λ o. is_some (option_and_then as_array o)) at
good_part computed d name (Sort.NonEmptyList place) (list ps) c kept at = list_full d name ps at (and_parts (not (is_end ps)) (items_conform false place ps) c).0
good_part computed d name (Sort.ListWithHoles place) (list ps) c kept at = ap (λ o. is_some (option_and_then as_array o)) at
good_part computed d name Sort.Name (string s) c kept at = ap (λ o. is_name (option_and_then as_str o)) at ∙ name_kept s kept c
good_part computed d name Sort.NullableString (string s) c kept at = ap (λ o. not (is_some o) || is_some (option_and_then as_str o)) at
good_part computed d name (Sort.Word of) (string s) c kept at = ap (λ o. is_word (words_of of) (option_and_then as_str o)) at ∙ word_kept of s c
good_part computed d name Sort.Raw (string s) c kept at = at.0
good_part computed d name Sort.Cooked (string s) c kept at = at.0
good_part computed d name Sort.Type (string s) c kept at = at.0
good_part computed d name Sort.NullableString no_string c kept at = ap (λ o. not (is_some o) || is_some (option_and_then as_str o)) at
good_part computed d name Sort.Cooked no_string c kept at = at.0
good_part computed d name Sort.Boolean (boolean b) c kept at = ap (λ o. not (is_some o) || is_some (option_and_then as_bool o)) at
good_part computed d name Sort.False (boolean b) c kept at = ap (λ o. not (is_some o) || is_false (option_and_then as_bool o)) at ∙ c
good_part computed d name Sort.Literal (literal v) c kept at = at.0
good_part computed d name _ _ c kept at = cc

good_parts : (computed : Bool) (d : Data) (fs : List Field) (ps : Parts) → parts_conform computed fs ps ≡ true → AreKept ps → AllStand d fs ps → are_of_sorts d fs ≡ true
good_parts computed d [] ps c kept stands = refl
good_parts computed d (f ∷ fs) end c kept stands = cc
good_parts computed d (f ∷ fs) (more p ps) c kept stands =
    let conform = and_parts (part_conforms computed f.sort p) (parts_conform computed fs ps) c in
    and_from _ _ (good_part computed d f.name f.sort p conform.0 kept.0 stands.0) (good_parts computed d fs ps conform.1 kept.1 stands.1)

-- ---- a template has one string more than expressions

items_counted : (ps : Parts) → item_count (write_items ps) ≡ parts_count ps
items_counted end = refl
items_counted (more p ps) = ap (λ n. n + 1) (items_counted ps)

template_counts : (computed : Bool) (d : Data) (ps : Parts) → kind_rule Kind.TemplateLiteral ps ≡ true → parts_conform computed (members_of Kind.TemplateLiteral) ps ≡ true → AllStand d (members_of Kind.TemplateLiteral) ps → counts_agree Kind.TemplateLiteral d ≡ true
template_counts computed d end rule c stands = cc
template_counts computed d (more (list quasis) end) rule c stands = absurd (nothing_more (items_conform false Place.TemplateElement quasis) false refl c)
template_counts computed d (more (list quasis) (more (list expressions) end)) rule c stands =
    ap₂ (λ a b. is_one_more (option_and_then (λ ds. Some (item_count ds)) (option_and_then as_array a)) (option_and_then (λ ds. Some (item_count ds)) (option_and_then as_array b))) stands.0 stands.1.0
    ∙ ap₂ (λ a b. nat_eq a (b + 1)) (items_counted quasis) (items_counted expressions)
    ∙ rule
template_counts computed d (more (list quasis) (more (list expressions) (more q qs))) rule c stands = absurd (nothing_more (items_conform false Place.TemplateElement quasis) (items_conform false Place.Expression expressions && false) (and_none (items_conform false Place.Expression expressions)) c)
template_counts computed d (more (list quasis) (more _ qs)) rule c stands = absurd (nothing_more (items_conform false Place.TemplateElement quasis) false refl c)
template_counts computed d (more _ qs) rule c stands = cc

counts : (computed : Bool) (kind : Kind) (d : Data) (ps : Parts) → kind_rule kind ps ≡ true → parts_conform computed (members_of kind) ps ≡ true → AllStand d (members_of kind) ps → counts_agree kind d ≡ true
counts computed Kind.TemplateLiteral d ps rule c stands = template_counts computed d ps rule c stands
counts computed _ d ps rule c stands = refl

-- ---- the number is the given one

pub number_is : (computed : Bool) (kind : Kind) (d : Data) (ps : Parts) (id n : ℕ) → has_float d ≡ false → kind_rule kind ps ≡ true → parts_conform computed (members_of kind) ps ≡ true → AreKept ps → AllStand d (members_of kind) ps → u32_at (codes "node") d ≡ Some id
    → number_of Numbers.Given d kind n ≡ Ok id
number_is computed kind d ps id n whole rule c kept stands number =
    ap (λ b. if b then Err (float_at n) else (if are_good kind d then known n (u32_at (codes "node") d) else refused n What.BadMember)) (floats_of_none (members_of kind) d whole)
    ∙ ap (λ b. if b then known n (u32_at (codes "node") d) else refused n What.BadMember) (and_from _ _ (good_parts computed d (members_of kind) ps c kept stands) (counts computed kind d ps rule c stands))
    ∙ ap (known n) number
