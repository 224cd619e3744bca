-- Without the classes that they may name, declarations do not depend on where they stand.
use Rattle.std.proofs.Common.{◌≡◌, refl, ap, ◌∙◌, List, [], ◌∷◌, ◌++◌, cond, Bool, true, false}
use Rattle.es_base.specs.Table.{Field, members_of}
use Rattle.es_base.specs.Tree.{Tree, Part, Parts, Node, end, more, child, absent, list, string, no_string, boolean, literal}
use Rattle.es_steps.specs.Scopes.{Declaration, ClassName, no_class, is_binding_identifier, binds, declaration, bound_names, bound_members, bound_part, bound_items}
use Rattle.es_binding_faults.specs.Named.{plain, plain_one}

pub plain-append : (ds es : List Declaration) → plain (ds ++ es) ≡ plain ds ++ plain es
plain-append [] es = refl
plain-append (d ∷ ds) es = ap (λ (xs : List Declaration). plain_one d ∷ xs) (plain-append ds es)

-- ---- bound names

pub plain-either : (b : Bool) (ds es fs gs : List Declaration) → plain ds ≡ fs → plain es ≡ gs → plain (cond b ds es) ≡ cond b fs gs
plain-either true ds es fs gs d e = d
plain-either false ds es fs gs d e = e

joined : (ds es fs gs : List Declaration) → plain ds ≡ fs → plain es ≡ gs → plain (ds ++ es) ≡ fs ++ gs
joined ds es fs gs d e = plain-append ds es ∙ ap (λ (xs : List Declaration). xs ++ plain es) d ∙ ap (λ (xs : List Declaration). fs ++ xs) e

mutual
  pub plain-bound : (name : ClassName) (t : Tree) → plain (bound_names name t) ≡ bound_names no_class t
  plain-bound name (Node kind b span semantic_id ps) = plain-either (is_binding_identifier kind) (declaration name b ps) (bound_members name (members_of kind) ps) (declaration no_class b ps) (bound_members no_class (members_of kind) ps) refl (plain-bound_members name (members_of kind) ps)

  plain-bound_members : (name : ClassName) (fs : List Field) (ps : Parts) → plain (bound_members name fs ps) ≡ bound_members no_class fs ps
  plain-bound_members name fs end = refl
  plain-bound_members name [] (more p ps) = refl
  plain-bound_members name (f ∷ fs) (more p ps) = joined (cond (binds f.sort) (bound_part name p) []) (bound_members name fs ps) (cond (binds f.sort) (bound_part no_class p) []) (bound_members no_class fs ps) (plain-either (binds f.sort) (bound_part name p) [] (bound_part no_class p) [] (plain-bound_part name p) refl) (plain-bound_members name fs ps)

  pub plain-bound_part : (name : ClassName) (p : Part) → plain (bound_part name p) ≡ bound_part no_class p
  plain-bound_part name (child t) = plain-bound name t
  plain-bound_part name absent = refl
  plain-bound_part name (list ps) = plain-bound_items name ps
  plain-bound_part name (string s) = refl
  plain-bound_part name no_string = refl
  plain-bound_part name (boolean b) = refl
  plain-bound_part name (literal v) = refl

  plain-bound_items : (name : ClassName) (ps : Parts) → plain (bound_items name ps) ≡ bound_items no_class ps
  plain-bound_items name end = refl
  plain-bound_items name (more p ps) = joined (bound_part name p) (bound_items name ps) (bound_part no_class p) (bound_items no_class ps) (plain-bound_part name p) (plain-bound_items name ps)
