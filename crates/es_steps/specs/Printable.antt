-- Trees that can be printed as JavaScript: a table of those that cannot. (ECMA-262, 12: names, literals, templates,
-- directives; the rest is what no source text is read as.)
use Rattle.std.specs.Prelude.{ℕ, zero, suc, List, [], ◌∷◌, ◌++◌, Bool, true, false, cond, not, ◌&&◌, ◌||◌, nat_eq, nat_le, codes, bytes_eq, Option, Some, None}
use Rattle.es_base.specs.Conforms.{is_among}
use Rattle.es_base.specs.Preorder.{number_of, preorder}
use Rattle.es_base.specs.Tree.{Tree, Part, Parts, Node, end, more, child, absent, list, string, boolean, literal}
use Rattle.es_base.specs.declared.kind.Kind.{Kind}
use Rattle.es_base.specs.declared.literal.LiteralValue.{LiteralValue}
use Rattle.es_base.specs.declared.literal.LiteralValue.TheVariants as literal_value
use Rattle.es_steps.specs.Context.{is_constructor, is_function}
use Rattle.es_steps.specs.KeptNodes.{statement_list}
use Rattle.es_steps.specs.Parts.{at, items, string_of, is_true, is_present}
use Rattle.es_steps.specs.Repeated.{is_loop, is_arrow}
use Rattle.es_steps.specs.References.{has_number, is_for_each}
use Rattle.es_steps.specs.Reserved.{no_words, has_reserved}
use Rattle.es_steps.specs.Scopes.{is_declaring}
use Rattle.es_steps.specs.Strict.{has_use_strict, directives}
use Rattle.es_steps.specs.Values.{String}

-- ---- characters

abbrev pub is_digit : ℕ → Bool
is_digit c = nat_le 48 c && nat_le c 57

abbrev pub is_letter : ℕ → Bool
is_letter c = (nat_le 65 c && nat_le c 90) || (nat_le 97 c && nat_le c 122)

abbrev pub is_number_among : ℕ → List ℕ → Bool
is_number_among c [] = false
is_number_among c (d ∷ ds) = nat_eq c d || is_number_among c ds

-- white space and line ends from U+0080 on, and U+FEFF
abbrev pub wide_spaces : List ℕ
wide_spaces = 160 ∷ 5760 ∷ 8239 ∷ 8287 ∷ 8232 ∷ 8233 ∷ 12288 ∷ 65279 ∷ []

abbrev pub is_wide : ℕ → Bool
is_wide c = nat_le 128 c && not (is_number_among c wide_spaces || (nat_le 8192 c && nat_le c 8202))

abbrev pub begins_name : ℕ → Bool
begins_name c = is_letter c || (nat_eq c 95 || (nat_eq c 36 || is_wide c))

abbrev pub all_in_name : List ℕ → Bool
all_in_name [] = true
all_in_name (c ∷ cs) = (begins_name c || is_digit c) && all_in_name cs

abbrev pub is_line_end : ℕ → Bool
is_line_end c = is_number_among c (10 ∷ 13 ∷ 8232 ∷ 8233 ∷ [])

abbrev pub has_line_end : List ℕ → Bool
has_line_end [] = false
has_line_end (c ∷ cs) = is_line_end c || has_line_end cs

-- ---- names

abbrev pub is_name : String → Bool
is_name [] = false
is_name (c ∷ cs) = begins_name c && all_in_name cs

abbrev pub reserved_words : List String
reserved_words =
    codes "break" ∷ codes "case" ∷ codes "catch" ∷ codes "class" ∷ codes "const" ∷ codes "continue" ∷ codes "debugger" ∷ codes "default" ∷ codes "delete" ∷ codes "do" ∷ codes "else" ∷ codes "enum" ∷ codes "export" ∷ codes "extends" ∷ codes "false" ∷ codes "finally" ∷ codes "for" ∷ codes "function" ∷ codes "if" ∷ codes "import" ∷ codes "in" ∷ codes "instanceof" ∷ codes "new" ∷ codes "null" ∷ codes "return" ∷ codes "super" ∷ codes "switch" ∷ codes "this" ∷ codes "throw" ∷ codes "true" ∷ codes "try" ∷ codes "typeof" ∷ codes "var" ∷ codes "void" ∷ codes "while" ∷ codes "with" ∷ []

-- a name that is a reference, a binding, a label, or that of a function or class
abbrev pub is_bad_name : Kind → Parts → Bool
is_bad_name Kind.IdentifierReference ps = not (is_name (string_of (at 0 ps))) || is_among (string_of (at 0 ps)) reserved_words
is_bad_name Kind.BindingIdentifier ps = not (is_name (string_of (at 0 ps))) || is_among (string_of (at 0 ps)) reserved_words
is_bad_name Kind.IdentifierName ps = not (is_name (string_of (at 0 ps)))
is_bad_name Kind.PrivateIdentifier ps = not (is_name (string_of (at 0 ps)))
is_bad_name kind ps = false

abbrev pub is_bad_label_name : Part → Bool
is_bad_label_name (child (Node kind m span semantic_id ps)) = is_among (string_of (at 0 ps)) reserved_words
is_bad_label_name p = false

abbrev pub is_bad_label : Kind → Parts → Bool
is_bad_label Kind.LabeledStatement ps = is_bad_label_name (at 0 ps)
is_bad_label Kind.BreakStatement ps = is_bad_label_name (at 0 ps)
is_bad_label Kind.ContinueStatement ps = is_bad_label_name (at 0 ps)
is_bad_label kind ps = false

-- ---- numbers: digits of a base, with `_` between two of them; a fraction and an exponent

-- digits from here on, and what stands behind them, where a digit has been met or not
abbrev pub digits : (ℕ → Bool) → Bool → List ℕ → Option (List ℕ)
digits test met [] = cond met (Some []) None
digits test met (c ∷ cs) = cond (test c) (digits test true cs) (cond (nat_eq c 95 && met) (digits test false cs) (cond met (Some (c ∷ cs)) None))

abbrev pub is_hexadecimal : ℕ → Bool
is_hexadecimal c = is_digit c || ((nat_le 65 c && nat_le c 70) || (nat_le 97 c && nat_le c 102))

abbrev pub is_octal : ℕ → Bool
is_octal c = nat_le 48 c && nat_le c 55

abbrev pub is_binary : ℕ → Bool
is_binary c = nat_eq c 48 || nat_eq c 49

abbrev pub is_end : Option (List ℕ) → Bool
is_end (Some []) = true
is_end r = false

abbrev pub all_digits : (ℕ → Bool) → List ℕ → Bool
all_digits test cs = is_end (digits test false cs)

abbrev pub without_sign : List ℕ → List ℕ
without_sign [] = []
without_sign (c ∷ cs) = cond (nat_eq c 43 || nat_eq c 45) cs (c ∷ cs)

-- an exponent or nothing
abbrev pub is_exponent : List ℕ → Bool
is_exponent [] = true
is_exponent (c ∷ cs) = (nat_eq c 101 || nat_eq c 69) && all_digits is_digit (without_sign cs)

abbrev pub is_exponent_behind : Option (List ℕ) → Bool
is_exponent_behind None = false
is_exponent_behind (Some cs) = is_exponent cs

-- what stands behind a full stop, and behind the digits in front of it
abbrev pub is_fraction : List ℕ → Bool
is_fraction cs = is_exponent cs || is_exponent_behind (digits is_digit false cs)

abbrev pub is_behind_digits : Option (List ℕ) → Bool
is_behind_digits None = false
is_behind_digits (Some []) = true
is_behind_digits (Some (c ∷ cs)) = cond (nat_eq c 46) (is_fraction cs) (is_exponent (c ∷ cs))

abbrev pub is_decimal : List ℕ → Bool
is_decimal [] = false
is_decimal (c ∷ cs) = cond (nat_eq c 46) (is_exponent_behind (digits is_digit false cs)) (is_behind_digits (digits is_digit false (c ∷ cs)))

-- behind a `0`: a letter that names a base, and its digits
abbrev pub is_based : ℕ → List ℕ → Bool
is_based c cs =
    ((nat_eq c 120 || nat_eq c 88) && all_digits is_hexadecimal cs)
    || (((nat_eq c 111 || nat_eq c 79) && all_digits is_octal cs) || ((nat_eq c 98 || nat_eq c 66) && all_digits is_binary cs))

abbrev pub is_number : String → Bool
is_number (c ∷ d ∷ cs) = (nat_eq c 48 && is_based d cs) || is_decimal (c ∷ d ∷ cs)
is_number cs = is_decimal cs

abbrev pub only_digits : List ℕ → Bool
only_digits [] = true
only_digits (c ∷ cs) = is_digit c && only_digits cs

abbrev pub is_bigint : String → Bool
is_bigint [] = false
is_bigint (c ∷ []) = is_digit c
is_bigint (c ∷ d ∷ cs) = cond (nat_eq c 48) (is_based d cs) (is_digit c && only_digits (d ∷ cs))

-- ---- regular expressions: outside classes no `/` without a backslash, no open class, no backslash at the end

abbrev pub is_pattern_from : Bool → Bool → List ℕ → Bool
is_pattern_from in_class escaped [] = not (in_class || escaped)
is_pattern_from in_class true (c ∷ cs) = is_pattern_from in_class false cs
is_pattern_from true false (c ∷ cs) = is_pattern_from (not (nat_eq c 93)) (nat_eq c 92) cs
is_pattern_from false false (c ∷ cs) = not (nat_eq c 47) && is_pattern_from (nat_eq c 91) (nat_eq c 92) cs

abbrev pub is_pattern : String → Bool
is_pattern [] = false
is_pattern (c ∷ cs) = not (nat_eq c 42) && (not (has_line_end (c ∷ cs)) && is_pattern_from false false (c ∷ cs))

abbrev pub only_letters : List ℕ → Bool
only_letters [] = true
only_letters (c ∷ cs) = is_letter c && only_letters cs

abbrev pub is_good_literal : LiteralValue → Bool
is_good_literal (literal_value.Number raw) = is_number raw
is_good_literal (literal_value.BigInt s) = is_bigint s
is_good_literal (literal_value.RegExp source flags) = is_pattern source && only_letters flags
is_good_literal v = true

abbrev pub is_bad_literal : Kind → Parts → Bool
is_bad_literal Kind.Literal (more (literal v) ps) = not (is_good_literal v)
is_bad_literal kind ps = false

-- ---- templates: no backquote and no `${` without a backslash, no backslash at the end, no carriage return

abbrev pub is_raw : Bool → Bool → List ℕ → Bool
is_raw escaped dollar [] = not escaped
is_raw true dollar (c ∷ cs) = not (nat_eq c 13) && is_raw false false cs
is_raw false dollar (c ∷ cs) = not (nat_eq c 13 || (nat_eq c 96 || (dollar && nat_eq c 123))) && is_raw (nat_eq c 92) (nat_eq c 36) cs

abbrev pub tails_fit : Parts → Bool
tails_fit end = true
tails_fit (more (child (Node kind m span semantic_id ps)) end) = is_true (at 2 ps)
tails_fit (more (child (Node kind m span semantic_id ps)) rest) = not (is_true (at 2 ps)) && tails_fit rest
tails_fit (more p rest) = tails_fit rest

abbrev pub is_bad_template : Kind → Parts → Bool
is_bad_template Kind.TemplateElement ps = not (is_raw false false (string_of (at 0 ps)))
is_bad_template Kind.TemplateLiteral ps = not (tails_fit (items (at 0 ps)))
is_bad_template kind ps = false

-- a template that is no quasi of a tag has strings with a cooked form (12.8.6.1)
abbrev pub lacks_cooked : Parts → Bool
lacks_cooked end = false
lacks_cooked (more (child (Node kind m span semantic_id (more raw (more (string s) ps)))) rest) = lacks_cooked rest
lacks_cooked (more p rest) = true

abbrev pub is_uncooked : Part → Bool
is_uncooked (child (Node Kind.TemplateLiteral m span semantic_id ps)) = lacks_cooked (items (at 0 ps))
is_uncooked p = false

abbrev pub any_uncooked : Parts → Bool
any_uncooked end = false
any_uncooked (more (list ps) rest) = any_uncooked ps || any_uncooked rest
any_uncooked (more p rest) = is_uncooked p || any_uncooked rest

abbrev pub has_uncooked : Kind → Parts → Bool
has_uncooked Kind.TaggedTemplateExpression ps = is_uncooked (at 0 ps)
has_uncooked kind ps = any_uncooked ps

-- ---- directives: as their string is; one with a `"`, a backslash or a line end is one of the source (`Texts.antt`)

abbrev pub is_plain_directive : List ℕ → Bool
is_plain_directive [] = true
is_plain_directive (c ∷ cs) = not (nat_eq c 34 || (nat_eq c 92 || is_line_end c)) && is_plain_directive cs

abbrev pub is_directive_of : String → Part → Bool
is_directive_of s (child (Node Kind.Literal m span semantic_id (more (literal (literal_value.String t raw)) end))) = bytes_eq s t || not (is_plain_directive s)
is_directive_of s p = false

abbrev pub is_bad_directive : Kind → Parts → Bool
is_bad_directive Kind.ExpressionStatement (more e (more (string s) end)) = not (is_directive_of s e)
is_bad_directive kind ps = false

-- a directive behind what is none, and `"use strict"` in a function with parameters that are not all identifiers (11.2.1,
-- 15.2.1)
abbrev pub is_directive : Part → Bool
is_directive (child (Node Kind.ExpressionStatement m span semantic_id (more e (more (string s) end)))) = true
is_directive p = false

abbrev pub has_late_directive : Bool → Parts → Bool
has_late_directive late end = false
has_late_directive late (more p ps) = (late && is_directive p) || has_late_directive (late || not (is_directive p)) ps

abbrev pub are_names : Parts → Bool
are_names end = true
are_names (more p ps) = is_declaring p && are_names ps

abbrev pub is_strict_with_patterns : Part → Part → Bool
is_strict_with_patterns parameters body = not (are_names (items parameters)) && has_use_strict (directives body)

-- a string among the first statements that is no directive: a printer may write it as one
abbrev pub is_bare_string : Part → Bool
is_bare_string (child (Node Kind.ExpressionStatement m span semantic_id (more (child (Node Kind.Literal k kspan k_semantic_id (more (literal (literal_value.String s raw)) end))) (more directive end)))) = not (is_directive (child (Node Kind.ExpressionStatement m span semantic_id (more absent (more directive end)))))
is_bare_string p = false

abbrev pub has_bad_prologue : Kind → Parts → Bool
has_bad_prologue Kind.FunctionDeclaration ps = is_strict_with_patterns (at 1 ps) (at 2 ps)
has_bad_prologue Kind.FunctionExpression ps = is_strict_with_patterns (at 1 ps) (at 2 ps)
has_bad_prologue Kind.ArrowFunctionExpression ps = is_strict_with_patterns (at 0 ps) (at 1 ps)
has_bad_prologue kind ps = has_late_directive false (statement_list kind ps)

-- ---- forms

abbrev pub count : Parts → ℕ
count end = zero
count (more p ps) = suc (count ps)

abbrev pub is_kind_of : (Kind → Bool) → Part → Bool
is_kind_of test (child (Node kind m span semantic_id ps)) = test kind
is_kind_of test p = false

abbrev pub is_default : Kind → Bool
is_default Kind.AssignmentPattern = true
is_default Kind.AssignmentTargetWithDefault = true
is_default kind = false

abbrev pub is_function_expression : Kind → Bool
is_function_expression Kind.FunctionExpression = true
is_function_expression kind = false

abbrev pub is_identifier_name : Kind → Bool
is_identifier_name Kind.IdentifierName = true
is_identifier_name kind = false

abbrev pub name_of_part : Part → String
name_of_part (child (Node kind m span semantic_id ps)) = string_of (at 0 ps)
name_of_part p = []

-- the name of a shorthand's value: an identifier, or an identifier with a default value
abbrev pub shorthand_name : Part → String
shorthand_name (child (Node Kind.AssignmentPattern m span semantic_id ps)) = name_of_part (at 0 ps)
shorthand_name (child (Node Kind.AssignmentTargetWithDefault m span semantic_id ps)) = name_of_part (at 0 ps)
shorthand_name p = name_of_part p

abbrev pub has_id : Part → Bool
has_id (child (Node Kind.FunctionExpression m span semantic_id ps)) = is_present (at 0 ps)
has_id p = false

abbrev pub is_suspending : Part → Bool
is_suspending (child (Node Kind.FunctionExpression m span semantic_id ps)) = is_true (at 3 ps) || is_true (at 4 ps)
is_suspending p = false

abbrev pub is_accessor : String → Bool
is_accessor s = bytes_eq s (codes "get") || bytes_eq s (codes "set")

-- method, shorthand, getter or setter: at most one, and with a function that has no id
abbrev pub is_bad_property : Parts → Bool
is_bad_property ps =
    let kind : String = string_of (at 2 ps) in
    let method : Bool = is_true (at 3 ps) in
    let shorthand : Bool = is_true (at 4 ps) in
    (shorthand && (method || (is_accessor kind || (not (is_kind_of is_identifier_name (at 0 ps)) || (is_true (at 5 ps) || not (bytes_eq (name_of_part (at 0 ps)) (shorthand_name (at 1 ps))))))))
    || (((method && is_accessor kind) || ((method || is_accessor kind) && (not (is_kind_of is_function_expression (at 1 ps)) || has_id (at 1 ps)))) || (is_accessor kind && is_suspending (at 1 ps)))

-- an element that is no constructor, and one that is (ECMA-262, 15.7.1)
abbrev pub is_spelled : String → Part → Bool
is_spelled s (child (Node Kind.IdentifierName m span semantic_id ps)) = bytes_eq s (string_of (at 0 ps))
is_spelled s (child (Node Kind.Literal m span semantic_id (more (literal (literal_value.String t raw)) end))) = bytes_eq s t
is_spelled s p = false

abbrev pub is_bad_method : Parts → Bool
is_bad_method ps =
    let names_constructor : Bool = is_spelled (codes "constructor") (at 0 ps) && not (is_true (at 3 ps) || is_true (at 4 ps)) in
    let is_kind : Bool = is_constructor (string_of (at 2 ps)) in
    ((is_kind && not names_constructor) || (names_constructor && (not is_kind || is_suspending (at 1 ps))))
    || ((is_true (at 4 ps) && (not (is_true (at 3 ps)) && is_spelled (codes "prototype") (at 0 ps))) || (has_id (at 1 ps) || (is_accessor (string_of (at 2 ps)) && is_suspending (at 1 ps))))

abbrev pub is_bad_field : Parts → Bool
is_bad_field ps = not (is_true (at 2 ps)) && (is_spelled (codes "constructor") (at 0 ps) || (is_true (at 3 ps) && is_spelled (codes "prototype") (at 0 ps)))

abbrev pub is_meta_property : Parts → Bool
is_meta_property ps = (bytes_eq (name_of_part (at 0 ps)) (codes "new") && bytes_eq (name_of_part (at 1 ps)) (codes "target")) || (bytes_eq (name_of_part (at 0 ps)) (codes "import") && bytes_eq (name_of_part (at 1 ps)) (codes "meta"))

-- at most one default, first, and then one namespace or only named ones
abbrev pub only_named : Parts → Bool
only_named end = true
only_named (more (child (Node Kind.ImportSpecifier m span semantic_id ps)) rest) = only_named rest
only_named ps = false

abbrev pub are_behind_default : Parts → Bool
are_behind_default (more (child (Node Kind.ImportNamespaceSpecifier m span semantic_id ps)) end) = true
are_behind_default ps = only_named ps

abbrev pub are_specifiers : Parts → Bool
are_specifiers (more (child (Node Kind.ImportDefaultSpecifier m span semantic_id ps)) rest) = are_behind_default rest
are_specifiers ps = are_behind_default ps

abbrev pub is_declaration_body : Kind → Parts → Bool
is_declaration_body Kind.ClassDeclaration ps = true
is_declaration_body Kind.VariableDeclaration ps = not (bytes_eq (string_of (at 0 ps)) (codes "var"))
is_declaration_body kind ps = false

-- a class, `let` or `const` as the body of another statement
abbrev pub is_lexical_body : Part → Bool
is_lexical_body (child (Node kind m span semantic_id ps)) = is_declaration_body kind ps
is_lexical_body p = false

-- whether a statement ends in an `if` without `else`
abbrev mutual
  pub ends_open : Tree → Bool
  ends_open (Node Kind.IfStatement m span semantic_id (more t (more c (more absent end)))) = true
  ends_open (Node Kind.IfStatement m span semantic_id (more t (more c (more a end)))) = part_ends_open a
  ends_open (Node Kind.LabeledStatement m span semantic_id (more l (more b end))) = part_ends_open b
  ends_open (Node Kind.WhileStatement m span semantic_id (more t (more b end))) = part_ends_open b
  ends_open (Node Kind.WithStatement m span semantic_id (more t (more b end))) = part_ends_open b
  ends_open (Node Kind.ForStatement m span semantic_id (more i (more t (more u (more b end))))) = part_ends_open b
  ends_open (Node Kind.ForInStatement m span semantic_id (more l (more r (more b end)))) = part_ends_open b
  ends_open (Node Kind.ForOfStatement m span semantic_id (more l (more r (more b w)))) = part_ends_open b
  ends_open t = false

  pub part_ends_open : Part → Bool
  part_ends_open (child t) = ends_open t
  part_ends_open p = false

abbrev pub is_bad_if : Parts → Bool
is_bad_if ps = (is_present (at 2 ps) && part_ends_open (at 1 ps)) || (is_lexical_body (at 1 ps) || is_lexical_body (at 2 ps))

abbrev pub is_super_part : Part → Bool
is_super_part (child (Node Kind.Super m span semantic_id ps)) = true
is_super_part p = false

-- a chain without `?.` in its spine
abbrev mutual
  pub has_optional : Tree → Bool
  has_optional (Node Kind.MemberExpression m span semantic_id (more o (more k (more computed (more (boolean b) end))))) = b || part_has_optional o
  has_optional (Node Kind.PrivateField m span semantic_id (more o (more k (more computed (more (boolean b) end))))) = b || part_has_optional o
  has_optional (Node Kind.CallExpression m span semantic_id (more f (more arguments (more (boolean b) end)))) = b || part_has_optional f
  has_optional t = false

  pub part_has_optional : Part → Bool
  part_has_optional (child t) = has_optional t
  part_has_optional p = false

-- the parts of a node that are no spine of a chain around: a `?.` there is one outside a chain
abbrev pub is_spine_kind : Kind → Bool
is_spine_kind Kind.MemberExpression = true
is_spine_kind Kind.PrivateField = true
is_spine_kind Kind.CallExpression = true
is_spine_kind Kind.ChainExpression = true
is_spine_kind kind = false

abbrev pub any_optional : Parts → Bool
any_optional end = false
any_optional (more (list ps) rest) = any_optional ps || any_optional rest
any_optional (more p rest) = part_has_optional p || any_optional rest

abbrev pub behind_first : Parts → Parts
behind_first end = end
behind_first (more p ps) = ps

abbrev pub has_stray_optional : Kind → Parts → Bool
has_stray_optional kind ps = any_optional (cond (is_spine_kind kind) (behind_first ps) ps)

-- a `const`, or a pattern, without an initializer, but in the head of a for-in or for-of (14.3.1.1)
abbrev pub lacks_initializer : Bool → Parts → Bool
lacks_initializer is_const end = false
lacks_initializer is_const (more (child (Node kind m span semantic_id (more id (more absent end)))) ps) = (is_const || not (is_declaring id)) || lacks_initializer is_const ps
lacks_initializer is_const (more p ps) = lacks_initializer is_const ps

abbrev pub is_bare_declaration : Part → Bool
is_bare_declaration (child (Node Kind.VariableDeclaration m span semantic_id ps)) = lacks_initializer (bytes_eq (string_of (at 0 ps)) (codes "const")) (items (at 1 ps))
is_bare_declaration p = false

abbrev pub any_bare : Parts → Bool
any_bare end = false
any_bare (more (list ps) rest) = any_bare ps || any_bare rest
any_bare (more p rest) = is_bare_declaration p || any_bare rest

abbrev pub has_bare_declaration : Kind → Parts → Bool
has_bare_declaration kind ps = any_bare (cond (is_for_each kind) (behind_first ps) ps)

-- `export { "a" as b }` without a source (16.2.3.1)
abbrev pub is_literal_part : Part → Bool
is_literal_part (child (Node Kind.Literal m span semantic_id ps)) = true
is_literal_part p = false

abbrev pub has_string_name : Parts → Bool
has_string_name end = false
has_string_name (more (child (Node kind m span semantic_id (more local rest))) ps) = is_literal_part local || has_string_name ps
has_string_name (more p ps) = has_string_name ps

abbrev pub is_bad_form : Kind → Parts → Bool
is_bad_form Kind.Foreign ps = true
is_bad_form Kind.Property ps = is_bad_property ps
is_bad_form Kind.BindingProperty ps = is_bad_property ps
is_bad_form Kind.AssignmentTargetProperty ps = is_bad_property ps
is_bad_form Kind.MethodDefinition ps = is_bad_method ps
is_bad_form Kind.PropertyDefinition ps = is_bad_field ps
is_bad_form Kind.SequenceExpression ps = nat_le (count (items (at 0 ps))) 1
is_bad_form Kind.MetaProperty ps = not (is_meta_property ps)
is_bad_form Kind.VariableDeclaration ps = nat_eq (count (items (at 1 ps))) 0
is_bad_form Kind.VariableDeclarator ps = is_kind_of is_default (at 0 ps)
is_bad_form Kind.AssignmentPattern ps = is_kind_of is_default (at 0 ps)
is_bad_form Kind.AssignmentTargetWithDefault ps = is_kind_of is_default (at 0 ps)
is_bad_form Kind.RestElement ps = is_kind_of is_default (at 0 ps)
is_bad_form Kind.AssignmentTargetRest ps = is_kind_of is_default (at 0 ps)
is_bad_form Kind.CatchClause ps = is_kind_of is_default (at 0 ps)
is_bad_form Kind.ExportNamedDeclaration ps = (is_present (at 0 ps) && (is_present (at 2 ps) || nat_le 1 (count (items (at 1 ps))))) || (not (is_present (at 2 ps)) && has_string_name (items (at 1 ps)))
is_bad_form Kind.ImportDeclaration ps = not (are_specifiers (items (at 0 ps)))
is_bad_form Kind.IfStatement ps = is_bad_if ps
is_bad_form Kind.LabeledStatement ps = is_lexical_body (at 1 ps)
is_bad_form Kind.WhileStatement ps = is_lexical_body (at 1 ps)
is_bad_form Kind.WithStatement ps = is_lexical_body (at 1 ps)
is_bad_form Kind.DoWhileStatement ps = is_lexical_body (at 0 ps)
is_bad_form Kind.ForStatement ps = is_lexical_body (at 3 ps)
is_bad_form Kind.ForInStatement ps = is_lexical_body (at 2 ps)
is_bad_form Kind.ForOfStatement ps = is_lexical_body (at 2 ps)
is_bad_form Kind.MemberExpression ps = is_super_part (at 0 ps) && is_true (at 3 ps)
is_bad_form Kind.PrivateField ps = is_super_part (at 0 ps)
is_bad_form Kind.CallExpression ps = is_super_part (at 0 ps) && is_true (at 2 ps)
is_bad_form Kind.ChainExpression ps = not (part_has_optional (at 0 ps))
is_bad_form kind ps = false

-- a declaration without a name stands as a default export alone, and imports and exports in the body of a module alone
abbrev pub is_unnamed : Part → Bool
is_unnamed (child (Node Kind.FunctionDeclaration m span semantic_id ps)) = not (is_present (at 0 ps))
is_unnamed (child (Node Kind.ClassDeclaration m span semantic_id ps)) = not (is_present (at 0 ps))
is_unnamed p = false

abbrev pub is_module_item : Kind → Bool
is_module_item Kind.ImportDeclaration = true
is_module_item Kind.ExportNamedDeclaration = true
is_module_item Kind.ExportDefaultDeclaration = true
is_module_item Kind.ExportAllDeclaration = true
is_module_item kind = false

abbrev pub is_bad_node : Kind → Parts → Bool
is_bad_node kind ps = (is_bad_name kind ps || is_bad_label kind ps) || ((is_bad_literal kind ps || is_bad_template kind ps) || ((is_bad_directive kind ps || has_bad_prologue kind ps) || (is_bad_form kind ps || (has_stray_optional kind ps || (has_uncooked kind ps || has_bare_declaration kind ps)))))

-- a tree under a node that allows a declaration without a name or not, and imports and exports or not
abbrev pub is_default_export : Kind → Bool
is_default_export Kind.ExportDefaultDeclaration = true
is_default_export kind = false

abbrev pub is_module : Kind → Parts → Bool
is_module Kind.Program ps = bytes_eq (string_of (at 0 ps)) (codes "module")
is_module kind ps = false

abbrev pub is_declaration_without_name : Kind → Parts → Bool
is_declaration_without_name Kind.FunctionDeclaration ps = not (is_present (at 0 ps))
is_declaration_without_name Kind.ClassDeclaration ps = not (is_present (at 0 ps))
is_declaration_without_name kind ps = false

abbrev pub is_bad_in : Bool → Bool → Kind → Parts → Bool
is_bad_in in_default in_module kind ps = is_bad_node kind ps || ((is_declaration_without_name kind ps && not in_default) || (is_module_item kind && not in_module))

abbrev mutual
  pub has_bad : Bool → Bool → Tree → Bool
  has_bad in_default in_module (Node kind m span semantic_id ps) = is_bad_in in_default in_module kind ps || bad_in (is_default_export kind) (is_module kind ps) ps

  pub bad_at : Bool → Bool → Part → Bool
  bad_at in_default in_module (child t) = has_bad in_default in_module t
  bad_at in_default in_module (list ps) = bad_in in_default in_module ps
  bad_at in_default in_module p = false

  pub bad_in : Bool → Bool → Parts → Bool
  bad_in in_default in_module end = false
  bad_in in_default in_module (more p ps) = bad_at in_default in_module p || bad_in in_default in_module ps

-- ---- jumps: a `break`, `continue` or `return` without what it leaves (ECMA-262, 14.8, 14.9, 14.10)

pub record Jumps : Type 0 where
  pub breaks : Bool
  pub continues : Bool
  pub returns : Bool
  pub labels : List String
  -- the labels of loops
  pub loops : List String

abbrev pub no_jumps : Bool → Jumps
no_jumps in_function = record { breaks = false; continues = false; returns = in_function; labels = []; loops = [] }

abbrev pub is_label_among : Bool → List String → Part → Bool
is_label_among unlabelled labels absent = unlabelled
is_label_among unlabelled labels p = is_among (name_of_part p) labels

abbrev pub is_stray : Jumps → Kind → Parts → Bool
is_stray j Kind.BreakStatement ps = not (is_label_among j.breaks j.labels (at 0 ps))
is_stray j Kind.ContinueStatement ps = not (is_label_among j.continues j.loops (at 0 ps))
is_stray j Kind.ReturnStatement ps = not j.returns
is_stray j Kind.LabeledStatement ps = is_among (name_of_part (at 0 ps)) j.labels
is_stray j kind ps = false

-- whether a statement is a loop, behind its labels
abbrev mutual
  pub is_looping : Tree → Bool
  is_looping (Node Kind.LabeledStatement m span semantic_id (more l (more b end))) = part_is_looping b
  is_looping (Node kind m span semantic_id ps) = is_loop kind

  pub part_is_looping : Part → Bool
  part_is_looping (child t) = is_looping t
  part_is_looping p = false

abbrev pub labelled : Jumps → String → Bool → Jumps
labelled j s is_loop = record j { labels = s ∷ j.labels; loops = cond is_loop (s ∷ j.loops) j.loops }

abbrev pub jumps_inside : Jumps → Kind → Parts → Jumps
jumps_inside j Kind.StaticBlock ps = no_jumps false
jumps_inside j Kind.SwitchStatement ps = record j { breaks = true }
jumps_inside j Kind.LabeledStatement ps = labelled j (name_of_part (at 0 ps)) (part_is_looping (at 1 ps))
jumps_inside j kind ps = cond (is_function kind || is_arrow kind) (no_jumps true) (cond (is_loop kind) (record j { breaks = true; continues = true }) j)

abbrev mutual
  pub has_stray : Jumps → Tree → Bool
  has_stray j (Node kind m span semantic_id ps) = is_stray j kind ps || stray_in (jumps_inside j kind ps) ps

  pub stray_at : Jumps → Part → Bool
  stray_at j (child t) = has_stray j t
  stray_at j (list ps) = stray_in j ps
  stray_at j p = false

  pub stray_in : Jumps → Parts → Bool
  stray_in j end = false
  stray_in j (more p ps) = stray_at j p || stray_in j ps

-- ---- `new.target` stands in a function that is no arrow, in the value of a field, or in a static block (ECMA-262, 15.7.1, 16.1.1)

abbrev pub is_new_target : Kind → Parts → Bool
is_new_target Kind.MetaProperty ps = bytes_eq (name_of_part (at 0 ps)) (codes "new")
is_new_target kind ps = false

abbrev pub has_target : Kind → ℕ → Bool
has_target Kind.StaticBlock i = true
has_target Kind.PropertyDefinition i = nat_eq i 1
has_target kind i = is_function kind

abbrev mutual
  pub has_stray_target : Bool → Tree → Bool
  has_stray_target inside (Node kind m span semantic_id ps) = (is_new_target kind ps && not inside) || stray_target_in (λ i. inside || has_target kind i) ps

  pub stray_target_at : Bool → Part → Bool
  stray_target_at inside (child t) = has_stray_target inside t
  stray_target_at inside (list ps) = stray_target_of inside ps
  stray_target_at inside p = false

  pub stray_target_in : (ℕ → Bool) → Parts → Bool
  stray_target_in inside end = false
  stray_target_in inside (more p ps) = stray_target_at (inside 0) p || stray_target_in (λ i. inside (suc i)) ps

  pub stray_target_of : Bool → Parts → Bool
  stray_target_of inside end = false
  stray_target_of inside (more p ps) = stray_target_at inside p || stray_target_of inside ps

-- ---- strings that are printed as directives

-- the statements that the directives of a node begin
abbrev pub prologue : Kind → Parts → Parts
prologue Kind.Program ps = items (at 1 ps)
prologue Kind.FunctionDeclaration ps = directives (at 2 ps)
prologue Kind.FunctionExpression ps = directives (at 2 ps)
prologue Kind.ArrowFunctionExpression ps = directives (at 1 ps)
prologue kind ps = end

abbrev pub statement_number : Part → List ℕ
statement_number (child t) = number_of t ∷ []
statement_number p = []

-- the strings among the first statements that are no directives
abbrev pub bare_in : Parts → List ℕ
bare_in end = []
bare_in (more p ps) = cond (is_bare_string p) (statement_number p ++ bare_in ps) (cond (is_directive p) (bare_in ps) [])

abbrev pub bare_strings : List Tree → List ℕ
bare_strings [] = []
bare_strings (Node kind m span semantic_id ps ∷ ts) = bare_in (prologue kind ps) ++ bare_strings ts

abbrev pub all_among : List ℕ → List ℕ → Bool
all_among [] ks = true
all_among (n ∷ ns) ks = has_number n ks && all_among ns ks

abbrev pub is_printable : Tree → Bool
is_printable t = not (has_bad false false t || (has_stray (no_jumps false) t || (has_stray_target false t || has_reserved no_words t)))

-- what p was lowered to can be printed where p can, and those strings stood there in p: a printer that writes them as they are
-- makes directives of them in both
abbrev pub stays_printable : Tree → Tree → Bool
stays_printable p q = (not (is_printable p) || is_printable q) && all_among (bare_strings (preorder q)) (bare_strings (preorder p))
