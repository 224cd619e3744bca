-- Which forms the rules of reading ask for.
use Rattle.std.specs.Prelude.{ℕ, Bool, true, false, cond, not, ◌&&◌, ◌||◌, codes, bytes_eq, Option, Some, None}
use Rattle.es_base.specs.Numbered.{is_new}
use Rattle.es_base.specs.declared.kind.Kind.{Kind}
use Rattle.es_steps.specs.Code.{Code, Codes, value, spelled, private_name, binding, rest, name, super, member, super_call, template_string, template, operation, piece, logical, construct, chain, tested, pattern, takes, steps, function, new_function, new_return, class_code, from_call, from_member, helper, helper_call, bound, private_value, initializers, done, and, key_of}
use Rattle.es_steps.specs.Events.{OfKind, Delete}
use Rattle.es_steps.specs.Expressions.{the_code}
use Rattle.es_steps.specs.GeneratedForms.{is_null, is_undefined, is_null_test}
use Rattle.es_steps.specs.Values.{String}
use Rattle.es_steps.specs.Members.{Member, Members, code, list, end, more, at}

-- whether no rule asks for the form of an expression, where it does not stand at the end of a code (`ends_open`)
abbrev pub is_unasked : ℕ → Code → Bool
is_unasked first (value v) = false
is_unasked first (spelled s) = false
is_unasked first (private_name d s r) = false
is_unasked first (binding b s kind) = false
is_unasked first (rest to) = false
is_unasked first (name m s kind) = false
is_unasked first super = false
is_unasked first (member m (name k s kind) key) = false
is_unasked first (super_call m n o es) = false
is_unasked first (template_string t) = false
is_unasked first (template m ts es) = false
is_unasked first (operation m (OfKind Kind.BinaryExpression ds) (and a (and n done)) done) = not (is_null n || is_undefined n)
is_unasked first (operation m (OfKind Kind.ArrayExpression ds) es held) = false
is_unasked first (operation m (OfKind Kind.ObjectExpression ds) es held) = false
is_unasked first (operation m (OfKind Kind.SpreadElement ds) es held) = false
is_unasked first (operation m Delete es held) = false
is_unasked first (piece ds es) = false
is_unasked first (logical m op l r) = not (is_null_test (codes "===") l)
is_unasked first (construct m (name k s kind) done) = false
is_unasked first (chain m e) = not (is_new first m)
is_unasked first (tested o again e) = false
is_unasked first (pattern m to) = false
is_unasked first (takes m ds k to) = false
is_unasked first (steps es) = false
is_unasked first (function f form own_name ps body) = false
is_unasked first (new_function f form ps body) = false
is_unasked first (new_return es) = false
is_unasked first (class_code n declared h es) = false
is_unasked first (from_call (value v)) = false
is_unasked first (key_of e) = false
is_unasked first (helper h) = false
is_unasked first (helper_call m h es) = false
is_unasked first (bound f o) = false
is_unasked first (private_value s) = false
is_unasked first (initializers n) = false
is_unasked first e = true

-- ---- a hole at the end of a code, where a rule asks for a target, a callee or a chain

abbrev pub ends_open : Code → Bool
ends_open (initializers n) = true
ends_open (chain m e) = ends_open e
ends_open (tested o again e) = ends_open e
ends_open (from_member e) = ends_open e
ends_open e = false

abbrev pub none_open : Codes → Bool
none_open done = true
none_open (and c cs) = not (ends_open c) && none_open cs

-- in the head of a for-in or for-of, which may be a declaration
abbrev pub head_open : Code → Bool
head_open (steps cs) = not (none_open cs)
head_open e = false

abbrev mutual
  pub are_closed : Members → Bool
  are_closed end = true
  are_closed (more p ps) = is_closed p && are_closed ps

  pub is_closed : Member → Bool
  is_closed (code c) = not (ends_open c)
  is_closed (list ps) = are_closed ps
  is_closed p = true

-- The part of which a rule asks what it ends in, and an expression in it may not be replaced: a target, a callee, a tag, what is
-- deleted, what declares, the head of a for-in or for-of; and the expression of a chain, whose code ends as it does.
abbrev pub asked_part : Kind → String → Option ℕ
asked_part Kind.AssignmentExpression operator = Some 1
asked_part Kind.UpdateExpression operator = Some 1
asked_part Kind.UnaryExpression operator = cond (bytes_eq operator (codes "delete")) (Some 1) None
asked_part Kind.CallExpression operator = Some 0
asked_part Kind.TaggedTemplateExpression operator = Some 0
asked_part Kind.ChainExpression operator = Some 0
asked_part Kind.VariableDeclarator operator = Some 0
asked_part Kind.CatchClause operator = Some 0
asked_part Kind.ForInStatement operator = Some 0
asked_part Kind.ForOfStatement operator = Some 0
asked_part Kind.ObjectPattern operator = Some 0
asked_part Kind.ObjectAssignmentTarget operator = Some 0
asked_part Kind.ArrayPattern operator = Some 0
asked_part Kind.ArrayAssignmentTarget operator = Some 0
asked_part Kind.AssignmentPattern operator = Some 0
asked_part Kind.AssignmentTargetWithDefault operator = Some 0
asked_part Kind.RestElement operator = Some 0
asked_part Kind.AssignmentTargetRest operator = Some 0
asked_part Kind.BindingProperty operator = Some 1
asked_part Kind.AssignmentTargetProperty operator = Some 1
asked_part kind operator = None

abbrev pub is_closed_at : Option ℕ → Members → Bool
is_closed_at None ps = true
is_closed_at (Some i) ps = is_closed (at i ps)

abbrev pub heads_closed : Kind → Members → Bool
heads_closed Kind.ForInStatement ps = not (head_open (the_code (at 0 ps)))
heads_closed Kind.ForOfStatement ps = not (head_open (the_code (at 0 ps)))
heads_closed kind ps = true
