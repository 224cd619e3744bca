-- What a node says by itself stays: its strings and flags, and which of its parts are there. So what no step looks at, as what is
-- behind an access that always throws, is read by an engine as it was. (Our own.)
use Rattle.std.specs.Prelude.{ℕ, suc, Bool, true, false, not, ◌&&◌, ◌||◌, nat_eq, bytes_eq}
use Rattle.es_base.specs.Tree.{Tree, Part, Parts, Node, end, more, child, absent, list, string, no_string, boolean, literal}
use Rattle.es_base.specs.declared.kind.Kind.{Kind}
use Rattle.es_lowered.specs.HelperCalls.{is_number_key}
use Rattle.es_steps.specs.Parts.{at, is_true, is_present, string_of}
use Rattle.es_steps.specs.SameValues.{same_boolean}
use Rattle.es_steps.specs.Values.{String}

-- a name that is no reference is a word of the node around it, as a label, a key or `new.target`
abbrev pub is_this_name : String → Tree → Bool
is_this_name s (Node Kind.IdentifierName m span semantic_id ps) = bytes_eq s (string_of (at 0 ps))
is_this_name s t = false

abbrev pub same_name : Tree → Tree → Bool
same_name (Node Kind.IdentifierName m span semantic_id ps) u = is_this_name (string_of (at 0 ps)) u
same_name t u = true

-- what else parts hold is told of their own nodes, and what a literal says of `texts_stay`
abbrev pub same_word : Part → Part → Bool
same_word (child t) (child u) = same_name t u
same_word absent absent = true
same_word (list ps) (list qs) = true
same_word (string s) (string t) = bytes_eq s t
same_word no_string no_string = true
same_word (boolean b) (boolean c) = same_boolean b c
same_word (literal v) (literal w) = true
same_word p q = false

-- of all parts but those that are free
abbrev pub same_words : (ℕ → Bool) → Parts → Parts → Bool
same_words is_free end end = true
same_words is_free (more p ps) (more q qs) = (is_free 0 || same_word p q) && same_words (λ i. is_free (suc i)) ps qs
same_words is_free ps qs = false

-- what a lowering changes: a name, which `carries` and `homes` tell of; the name of a class; `?.`; the operator of an assignment;
-- `{ a }`; whether the key of a field or a property is computed; the value of a static field without one; what an export declares
abbrev pub is_free : Kind → ℕ → Bool
is_free Kind.IdentifierReference i = nat_eq i 0
is_free Kind.BindingIdentifier i = nat_eq i 0
is_free Kind.ClassDeclaration i = nat_eq i 0
is_free Kind.ClassExpression i = nat_eq i 0
is_free Kind.CallExpression i = nat_eq i 2
is_free Kind.MemberExpression i = nat_eq i 3
is_free Kind.PrivateField i = nat_eq i 3
is_free Kind.AssignmentExpression i = nat_eq i 0
is_free Kind.Property i = nat_eq i 4 || nat_eq i 5
is_free Kind.BindingProperty i = nat_eq i 4
is_free Kind.AssignmentTargetProperty i = nat_eq i 4
is_free Kind.PropertyDefinition i = nat_eq i 1 || nat_eq i 2
is_free Kind.ExportNamedDeclaration i = nat_eq i 0
is_free kind i = false

-- the key of a field may become a computed one, and that of a property, if it is a number
abbrev pub keeps_computed : Kind → Parts → Parts → Bool
keeps_computed Kind.PropertyDefinition ps qs = not (is_true (at 2 ps)) || is_true (at 2 qs)
keeps_computed Kind.Property ps qs = same_boolean (is_true (at 5 ps)) (is_true (at 5 qs)) || (is_number_key (at 0 ps) && is_true (at 5 qs))
keeps_computed kind ps qs = true

-- a static field that had no value may get one, as where static blocks run in it
abbrev pub keeps_value : Kind → Parts → Parts → Bool
keeps_value Kind.PropertyDefinition ps qs = same_word (at 1 ps) (at 1 qs) || (is_true (at 3 ps) && not (is_present (at 1 ps)))
keeps_value kind ps qs = true

abbrev pub keeps_words : Kind → Parts → Parts → Bool
keeps_words kind ps qs = same_words (is_free kind) ps qs && (keeps_computed kind ps qs && keeps_value kind ps qs)
