-- Templates, by the forms of their parts.
use Rattle.std.proofs.Common.{◌≡◌, refl, sym, ap, ◌∙◌, ℕ, List, [], ◌∷◌, ◌++◌, map, append_assoc, append-nil, ◌+◌, ◌<◌, ◌≤◌, length, get_or, set, drop, arith}
use Rattle.std.proofs.lemmas.List.{drop-set-lt, drop_all}
use Rattle.es_code_members.proofs.Moved.{drop-here}
use Rattle.es_steps.specs.Expressions as spec
use Rattle.es_steps.specs.Code.{Codes}
use Rattle.es_steps.specs.Code as of
use Rattle.es_codes.proofs.Forms.{code_out, template_is, template_string_is}
use Rattle.es_codes.specs.CodeView.{code_of, target_of, callee_of, codes_of, string_of, code_step}
use Rattle.es_codes.specs.declared.code.Code.{Code}
use Rattle.es_codes.specs.declared.code.Target.{Target}
use Rattle.es_codes.specs.declared.code.Callee.{Callee}
use Rattle.es_codes.specs.declared.code.TemplateString.{TemplateString}
use Rattle.es_codes.specs.declared.code.Code.TheVariants as variants
use Rattle.es_codes.specs.declared.code.Callee.TheOpen.{Code-F}
use Rattle.es_codes.specs.declared.code.Callee.TheViews.{roll-Code, out-Code, roll-out-Code}
use Rattle.es_codes.specs.declared.code.Callee.TheFolds.{map-Code}

pub a_string : (e : Code) (string : TemplateString) → e ≡ variants.TemplateString string → spec.template_strings (of.and (code_of e) of.done) ≡ (string_of string ∷ [])
a_string e string is = ap (λ x. spec.template_strings (of.and (code_of x) of.done)) is ∙ ap (λ x. spec.template_strings (of.and x of.done)) (template_string_is string)

pub no_string : (e : Code) → ((string : TemplateString) → e ≡ variants.TemplateString string → ⊥) → spec.template_strings (of.and (code_of e) of.done) ≡ []
no_string e not_template_string = ap (λ x. spec.template_strings (of.and x of.done)) (code_out e) ∙ by (out-Code e) (roll-out-Code e)
  where
    by : (y : Code-F Callee Code Target) → roll-Code y ≡ e → spec.template_strings (of.and (code_step (map-Code Callee Code Target of.Callee of.Code of.Target callee_of code_of target_of y)) of.done) ≡ []
    by (Code-F.TemplateString string) is = absurd (not_template_string string (sym is ∙ variants.rolls-TemplateString string))
    by y is = refl

pub of_template : (m : ℕ) (f : of.Code) (e : Code) (node : ℕ) (strings : List TemplateString) (expressions : List Code) → e ≡ variants.Template node strings expressions → spec.tag_of m f (code_of e) ≡ of.tag m (spec.callee_of f) (map string_of strings) (codes_of expressions)
of_template m f e node strings expressions is = ap (λ x. spec.tag_of m f (code_of x)) is ∙ ap (λ x. spec.tag_of m f x) (template_is node strings expressions)

pub of_none : (m : ℕ) (f : of.Code) (e : Code) → ((node : ℕ) (strings : List TemplateString) (expressions : List Code) → e ≡ variants.Template node strings expressions → ⊥) → spec.tag_of m f (code_of e) ≡ of.no_rule
of_none m f e not_template = ap (λ x. spec.tag_of m f x) (code_out e) ∙ by (out-Code e) (roll-out-Code e)
  where
    by : (y : Code-F Callee Code Target) → roll-Code y ≡ e → spec.tag_of m f (code_step (map-Code Callee Code Target of.Callee of.Code of.Target callee_of code_of target_of y)) ≡ of.no_rule
    by (Code-F.Template node strings expressions) is = absurd (not_template node strings expressions (sym is ∙ variants.rolls-Template node strings expressions))
    by y is = refl

strings-more : (c : of.Code) (cs : Codes) → spec.template_strings (of.and c cs) ≡ spec.template_strings (of.and c of.done) ++ spec.template_strings cs
strings-more (of.template_string s) cs = refl
strings-more c cs = refl

strings-step : (old new : List of.TemplateString) (c : of.Code) (cs : Codes) (all : List of.TemplateString) → new ≡ old ++ spec.template_strings (of.and c of.done) → old ++ spec.template_strings (of.and c cs) ≡ all → new ++ spec.template_strings cs ≡ all
strings-step old new c cs all more before =
    ap (λ (xs : List of.TemplateString). xs ++ spec.template_strings cs) more
    ∙ append_assoc old (spec.template_strings (of.and c of.done)) (spec.template_strings cs)
    ∙ ap (λ (xs : List of.TemplateString). old ++ xs) (sym (strings-more c cs))
    ∙ before

pub strings_step : (xs : List Code) (i : ℕ) (x y : Code) (old new all : List of.TemplateString) → i < length xs → x ≡ get_or xs i x → new ≡ old ++ spec.template_strings (of.and (code_of x) of.done) → old ++ spec.template_strings (codes_of (drop i xs)) ≡ all → new ++ spec.template_strings (codes_of (drop (i + 1) (set xs i y))) ≡ all
strings_step xs i x y old new all h is more before =
    ap (λ zs. new ++ spec.template_strings (codes_of zs)) (drop-set-lt (i + 1) xs i y (omega arith))
    ∙ strings-step old new (code_of x) (codes_of (drop (i + 1) xs)) all more (ap (λ zs. old ++ spec.template_strings (codes_of zs)) (sym (drop-here xs i x h is)) ∙ before)

pub strings_ended : (xs : List Code) (i : ℕ) (now all : List of.TemplateString) → length xs ≤ i → now ++ spec.template_strings (codes_of (drop i xs)) ≡ all → now ≡ all
strings_ended xs i now all h before =
    sym (append-nil now)
    ∙ ap (λ zs. now ++ spec.template_strings (codes_of zs)) (sym (drop_all i xs h))
    ∙ before

pub one_more : (xs : List TemplateString) (x : TemplateString) → map string_of (xs ++ x ∷ []) ≡ map string_of xs ++ (string_of x ∷ [])
one_more [] x = refl
one_more (y ∷ ys) x = ap (λ (zs : List of.TemplateString). string_of y ∷ zs) (one_more ys x)

pub none_more : (xs : List of.TemplateString) → xs ≡ xs ++ []
none_more xs = sym (append-nil xs)
