-- Lists that have the same names give the same breaches.
use Rattle.std.proofs.Common.{◌≡◌, refl, ap, ◌∙◌, List, ◌++◌, false, not, ◌&&◌, ◌||◌}
use Rattle.std.specs.Prelude.{bytes_eq, codes}
use Rattle.es_base.specs.Conforms.{is_among}
use Rattle.es_base.specs.Tree.{Part, Parts, Node, end, more, child, string, boolean, literal}
use Rattle.es_base.specs.declared.kind.Kind.{Kind}
use Rattle.es_steps.specs.FirstForm.{is_plain_name, is_plain_key, is_plain_value, is_plain_field, is_field, unless, element_breaches, elements_breaches, body_breaches, helper_names, is_new_name, class_names, statement_breaches, statements_breaches}
use Rattle.es_steps.specs.Parts.{items, is_present}
use Rattle.es_steps.specs.Values.{String}
use Rattle.es_name_set.proofs.NameSets.{HaveSame-append}
use Rattle.es_name_set.specs.Names.{HaveSame}

-- ---- fields

is_plain_name-same : (xs ys : List String) → HaveSame xs ys → (s : String) → is_plain_name xs s ≡ is_plain_name ys s
is_plain_name-same xs ys same s = ap (λ b. not (b || bytes_eq s (codes "arguments"))) (same s)

is_plain_value-same : (xs ys : List String) → HaveSame xs ys → (p : Part) → is_plain_value xs p ≡ is_plain_value ys p
is_plain_value-same xs ys same (child (Node Kind.IdentifierReference m span semantic_id (more (string s) end))) = is_plain_name-same xs ys same s
is_plain_value-same xs ys same (child (Node Kind.Literal m span semantic_id (more (literal v) end))) = refl
is_plain_value-same xs ys same p = refl

is_plain_field-same : (xs ys : List String) → HaveSame xs ys → (ps : Parts) → is_plain_field xs ps ≡ is_plain_field ys ps
is_plain_field-same xs ys same (more key (more v (more (boolean false) (more (boolean false) end)))) = ap (λ b. is_plain_key key && b) (is_plain_value-same xs ys same v)
is_plain_field-same xs ys same ps = refl

is_field-same : (xs ys : List String) → HaveSame xs ys → (kind : Kind) (ps : Parts) → is_field xs kind ps ≡ is_field ys kind ps
is_field-same xs ys same Kind.PropertyDefinition ps = is_plain_field-same xs ys same ps
is_field-same xs ys same kind ps = refl

-- ---- elements and classes

element_breaches-same : (xs ys : List String) → HaveSame xs ys → (p : Part) → element_breaches xs p ≡ element_breaches ys p
element_breaches-same xs ys same (child (Node kind m span semantic_id ps)) = ap (λ b. unless b m) (is_field-same xs ys same kind ps)
element_breaches-same xs ys same p = refl

elements_breaches-same : (xs ys : List String) → HaveSame xs ys → (ps : Parts) → elements_breaches xs ps ≡ elements_breaches ys ps
elements_breaches-same xs ys same end = refl
elements_breaches-same xs ys same (more p ps) = ap (λ ns. ns ++ elements_breaches xs ps) (element_breaches-same xs ys same p) ∙ ap (λ ns. element_breaches ys p ++ ns) (elements_breaches-same xs ys same ps)

body_breaches-same : (xs ys : List String) → HaveSame xs ys → (p : Part) → body_breaches xs p ≡ body_breaches ys p
body_breaches-same xs ys same (child (Node kind m span semantic_id (more p ps))) = elements_breaches-same xs ys same (items p)
body_breaches-same xs ys same p = refl

is_new_name-same : (es fs : List String) → HaveSame es fs → (p : Part) → is_new_name es p ≡ is_new_name fs p
is_new_name-same es fs same (child (Node Kind.BindingIdentifier m span semantic_id (more (string s) end))) = ap (λ b. not (b || is_among s helper_names)) (same s)
is_new_name-same es fs same p = refl

-- ---- statements

statement_breaches-same : (es fs xs ys : List String) → HaveSame es fs → HaveSame xs ys → (p : Part) → statement_breaches es xs p ≡ statement_breaches fs ys p
statement_breaches-same es fs xs ys front same (child (Node Kind.ClassDeclaration n span semantic_id (more id (more heritage (more body end))))) =
    ap (λ b. unless (b && not (is_present heritage)) n ++ body_breaches xs body) (is_new_name-same es fs front id)
    ∙ ap (λ ns. unless (is_new_name fs id && not (is_present heritage)) n ++ ns) (body_breaches-same xs ys same body)
statement_breaches-same es fs xs ys front same p = refl

pub statements_breaches-same : (es fs xs ys : List String) → HaveSame es fs → HaveSame xs ys → (ps : Parts) → statements_breaches es xs ps ≡ statements_breaches fs ys ps
statements_breaches-same es fs xs ys front same end = refl
statements_breaches-same es fs xs ys front same (more p ps) =
    ap (λ ns. ns ++ statements_breaches (class_names (more p end) ++ es) xs ps) (statement_breaches-same es fs xs ys front same p)
    ∙ ap (λ ns. statement_breaches fs ys p ++ ns) (statements_breaches-same (class_names (more p end) ++ es) (class_names (more p end) ++ fs) xs ys (HaveSame-append (class_names (more p end)) es fs front) same ps)
