-- Names as names of a class.
use Rattle.std.proofs.Common.{◌≡◌, refl, sym, ap, ◌∙◌, List, [], ◌∷◌, ◌++◌, cond, Bool, true, false}
use Rattle.es_base.specs.Table.{Field, members_of}
use Rattle.es_base.specs.Tree.{Tree, Part, Parts, Node, end, more, child, absent, list, string, no_string, boolean, literal}
use Rattle.es_steps.specs.Parts.{at}
use Rattle.es_steps.specs.Scopes.{Declaration, ClassName, no_class, is_binding_identifier, binds, declaration, bound_names, bound_members, bound_part, bound_items, StatementForm, variables, function_declaration, class_declaration, imports, passes_on, nests, other_statement, statement_form, var_by, is_var, var_names, var_part, var_items}
use Rattle.es_binding_faults.specs.Hoisted.{hoisted}
use Rattle.es_binding_faults.specs.Named.{plain}
use Rattle.es_binding_faults.specs.declared.hoisted.Hoist.{Hoist}
use Rattle.es_seen_names.specs.Declarations.{all_named_as, named_as}

pub named-append : (name : ClassName) (ds es : List Declaration) → all_named_as name (ds ++ es) ≡ all_named_as name ds ++ all_named_as name es
named-append name [] es = refl
named-append name (d ∷ ds) es = ap (λ (xs : List Declaration). named_as name d ∷ xs) (named-append name ds es)

either : (name : ClassName) (b : Bool) (ds es fs gs : List Declaration) → all_named_as name ds ≡ fs → all_named_as name es ≡ gs → all_named_as name (cond b ds es) ≡ cond b fs gs
either name true ds es fs gs d e = d
either name false ds es fs gs d e = e

joined : (name : ClassName) (ds es fs gs : List Declaration) → all_named_as name ds ≡ fs → all_named_as name es ≡ gs → all_named_as name (ds ++ es) ≡ fs ++ gs
joined name ds es fs gs d e = named-append name ds es ∙ ap (λ (xs : List Declaration). xs ++ all_named_as name es) d ∙ ap (λ (xs : List Declaration). fs ++ xs) e

-- ---- bound names

mutual
  pub bound_as : (name : ClassName) (t : Tree) → all_named_as name (bound_names no_class t) ≡ bound_names name t
  bound_as name (Node kind b span semantic_id ps) = either name (is_binding_identifier kind) (declaration no_class b ps) (bound_members no_class (members_of kind) ps) (declaration name b ps) (bound_members name (members_of kind) ps) refl (bound_members_as name (members_of kind) ps)

  bound_members_as : (name : ClassName) (fs : List Field) (ps : Parts) → all_named_as name (bound_members no_class fs ps) ≡ bound_members name fs ps
  bound_members_as name fs end = refl
  bound_members_as name [] (more p ps) = refl
  bound_members_as name (f ∷ fs) (more p ps) = joined name (cond (binds f.sort) (bound_part no_class p) []) (bound_members no_class fs ps) (cond (binds f.sort) (bound_part name p) []) (bound_members name fs ps) (either name (binds f.sort) (bound_part no_class p) [] (bound_part name p) [] (bound_part_as name p) refl) (bound_members_as name fs ps)

  pub bound_part_as : (name : ClassName) (p : Part) → all_named_as name (bound_part no_class p) ≡ bound_part name p
  bound_part_as name (child t) = bound_as name t
  bound_part_as name absent = refl
  bound_part_as name (list ps) = bound_items_as name ps
  bound_part_as name (string s) = refl
  bound_part_as name no_string = refl
  bound_part_as name (boolean b) = refl
  bound_part_as name (literal v) = refl

  bound_items_as : (name : ClassName) (ps : Parts) → all_named_as name (bound_items no_class ps) ≡ bound_items name ps
  bound_items_as name end = refl
  bound_items_as name (more p ps) = joined name (bound_part no_class p) (bound_items no_class ps) (bound_part name p) (bound_items name ps) (bound_part_as name p) (bound_items_as name ps)

-- ---- the names of `var` are names of no class

again : (ds : List Declaration) → all_named_as no_class (plain ds) ≡ all_named_as no_class ds
again [] = refl
again (d ∷ ds) = ap (λ (xs : List Declaration). named_as no_class d ∷ xs) (again ds)

unnamed : (p : Part) → all_named_as no_class (plain (bound_part no_class p)) ≡ bound_part no_class p
unnamed p = again (bound_part no_class p) ∙ bound_part_as no_class p

twice : (ds es : List Declaration) → all_named_as no_class (plain ds) ≡ ds → all_named_as no_class (plain es) ≡ es → all_named_as no_class (plain (ds ++ es)) ≡ ds ++ es
twice ds es d e = again (ds ++ es) ∙ joined no_class ds es ds es (sym (again ds) ∙ d) (sym (again es) ∙ e)

by_form : (form : StatementForm) (ps : Parts) (inner : List Declaration) → all_named_as no_class (plain inner) ≡ inner → all_named_as no_class (plain (var_by form ps inner)) ≡ var_by form ps inner
by_form variables ps inner e = of_variables (is_var ps)
  where
    of_variables : (b : Bool) → all_named_as no_class (plain (cond b (bound_part no_class (at 1 ps)) [])) ≡ cond b (bound_part no_class (at 1 ps)) []
    of_variables true = unnamed (at 1 ps)
    of_variables false = refl
by_form passes_on ps inner e = e
by_form nests ps inner e = e
by_form function_declaration ps inner e = refl
by_form class_declaration ps inner e = refl
by_form imports ps inner e = refl
by_form other_statement ps inner e = refl

mutual
  pub var_as : (t : Tree) → all_named_as no_class (hoisted Hoist.Var t) ≡ var_names t
  var_as (Node kind m span semantic_id ps) = by_form (statement_form kind) ps (var_items ps) (var_items_as ps)

  var_part_as : (p : Part) → all_named_as no_class (plain (var_part p)) ≡ var_part p
  var_part_as (child t) = var_as t
  var_part_as absent = refl
  var_part_as (list ps) = var_items_as ps
  var_part_as (string s) = refl
  var_part_as no_string = refl
  var_part_as (boolean b) = refl
  var_part_as (literal v) = refl

  var_items_as : (ps : Parts) → all_named_as no_class (plain (var_items ps)) ≡ var_items ps
  var_items_as end = refl
  var_items_as (more p ps) = twice (var_part p) (var_items ps) (var_part_as p) (var_items_as ps)
