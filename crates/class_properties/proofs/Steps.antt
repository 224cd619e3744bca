-- The breaches of a list of nodes, one node at a time, and those of a program.
use Rattle.std.proofs.Common.{◌≡◌, refl, sym, ap, ◌∙◌, ℕ, ◌+◌, ◌<◌, List, [], length, drop, get_or, ◌++◌, append-nil, Bool, true, false, ◌||◌, ◌&&◌, nat_le, Option, None}
use Rattle.std.specs.Prelude.{bytes_eq, codes}
use Rattle.std.proofs.lemmas.List.{at_drop_more}
use Rattle.es_base.specs.Conforms.{is_among}
use Rattle.es_base.specs.Preorder.{nodes}
use Rattle.es_base.specs.Tree.{Tree, Part, Parts, Node, end, more, child, trees}
use Rattle.es_base.specs.Words.{source_type_string}
use Rattle.es_base.specs.declared.kind.Kind.{Kind}
use Rattle.es_base.specs.declared.operator.SourceType.{SourceType}
use Rattle.es_steps.specs.FirstForm.{most_nodes, unless, class_names, name_in, statement_breaches, statements_breaches, not_yet}
use Rattle.es_steps.specs.Values.{String}
use Rattle.es_tree.specs.Program.{program}
use Rattle.class_properties.specs.Least.{least_with}
use Rattle.es_name_set.specs.Names.{HaveSame}
use Rattle.class_properties.proofs.Leasts.{least_with_append, least_is}
use Rattle.es_name_set.proofs.NameSets.{is_among-append}
use Rattle.class_properties.proofs.SameNames.{statements_breaches-same}

-- ---- names of classes

names_behind : (p : Part) (ps : Parts) → class_names (more p ps) ≡ class_names (more p end) ++ class_names ps
names_behind (child (Node Kind.ClassDeclaration n span semantic_id (more id rest))) ps = ap (λ xs. xs ++ class_names ps) (sym (append-nil (name_in id)))
names_behind p ps = refl

or_turned : (a b c : Bool) → ((a || b) || c) ≡ (b || (a || c))
or_turned true true c = refl
or_turned true false c = refl
or_turned false b c = refl

pub next_name : (names later : List String) (ts : List Tree) (i : ℕ) (t : Tree) → i < length ts → t ≡ get_or ts i t → HaveSame later (class_names (more (child t) end) ++ names)
    → HaveSame (later ++ class_names (trees (drop (i + 1) ts))) (names ++ class_names (trees (drop i ts)))
next_name names later ts i t before is same = λ s.
    let here = class_names (more (child t) end) in
    let rest = class_names (trees (drop (i + 1) ts)) in
    is_among-append s later rest
    ∙ ap (λ b. b || is_among s rest) (same s ∙ is_among-append s here names)
    ∙ or_turned (is_among s here) (is_among s names) (is_among s rest)
    ∙ ap (λ b. is_among s names || b) (sym (is_among-append s here rest))
    ∙ sym (is_among-append s names (here ++ rest))
    ∙ ap (λ xs. is_among s (names ++ xs)) (sym (at_drop_more (λ (us : List Tree). class_names (trees us)) ts i t before ∙ ap (λ u. class_names (more (child u) (trees (drop (i + 1) ts)))) (sym is) ∙ names_behind (child t) (trees (drop (i + 1) ts))))

-- ---- statements

pub next_statement : (earlier later names : List String) (n : Option ℕ) (ts : List Tree) (i : ℕ) (t : Tree) → i < length ts → t ≡ get_or ts i t → HaveSame later (class_names (more (child t) end) ++ earlier)
    → least_with n (statements_breaches earlier names (trees (drop i ts))) ≡ least_with (least_with n (statement_breaches earlier names (child t))) (statements_breaches later names (trees (drop (i + 1) ts)))
next_statement earlier later names n ts i t before is same =
    let here = statement_breaches earlier names (child t) in
    let next = class_names (more (child t) end) ++ earlier in
    let rest = trees (drop (i + 1) ts) in
    at_drop_more (λ (us : List Tree). least_with n (statements_breaches earlier names (trees us))) ts i t before
    ∙ ap (λ u. least_with n (statement_breaches earlier names (child u) ++ statements_breaches (class_names (more (child u) end) ++ earlier) names rest)) (sym is)
    ∙ least_with_append n here (statements_breaches next names rest)
    ∙ ap (least_with (least_with n here)) (statements_breaches-same next later names names (λ s. sym (same s)) (λ s. refl) rest)

-- ---- a program

in_all : (id : ℕ) (span : Option (ℕ × ℕ)) (scope_id : Option ℕ) (source_type : SourceType) (body : List Tree) (names : List String) (foreign : List ℕ) → HaveSame names (class_names (trees body))
    → least_with (least_with (least_with None (unless (bytes_eq (source_type_string source_type) (codes "script") && nat_le (nodes (program id span scope_id source_type body)) most_nodes) id)) (statements_breaches [] names (trees body))) foreign
    ≡ not_yet (program id span scope_id source_type body) foreign
in_all id span scope_id source_type body names foreign same =
    let first = unless (bytes_eq (source_type_string source_type) (codes "script") && nat_le (nodes (program id span scope_id source_type body)) most_nodes) id in
    let all = statements_breaches [] (class_names (trees body)) (trees body) in
    ap (λ ns. least_with (least_with (least_with None first) ns) foreign) (statements_breaches-same [] [] names (class_names (trees body)) (λ s. refl) same (trees body))
    ∙ ap (λ n. least_with n foreign) (sym (least_with_append None first all))
    ∙ sym (least_with_append None (first ++ all) foreign)
    ∙ sym (least_is ((first ++ all) ++ foreign))

pub in_program : (t : Tree) (id : ℕ) (span : Option (ℕ × ℕ)) (scope_id : Option ℕ) (source_type : SourceType) (body : List Tree) (names : List String) (foreign : List ℕ) (small : Bool)
    → t ≡ program id span scope_id source_type body → small ≡ nat_le (nodes t) most_nodes → HaveSame names (class_names (trees body))
    → least_with (least_with (least_with None (unless (bytes_eq (source_type_string source_type) (codes "script") && small) id)) (statements_breaches [] names (trees body))) foreign ≡ not_yet t foreign
in_program t id span scope_id source_type body names foreign small is is_small same =
    ap (λ b. least_with (least_with (least_with None (unless (bytes_eq (source_type_string source_type) (codes "script") && b) id)) (statements_breaches [] names (trees body))) foreign) (is_small ∙ ap (λ u. nat_le (nodes u) most_nodes) is)
    ∙ in_all id span scope_id source_type body names foreign same
    ∙ ap (λ u. not_yet u foreign) (sym is)
