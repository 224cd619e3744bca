-- The names that are handed down to a scope around a tree are those that `es_steps` collects for it: lexical names, `var`,
-- the names of a pattern. They are weighed, each by its number and its spelling.
use Rattle.std.proofs.Common.{◌≡◌, refl, sym, ap, subst, ◌∙◌, ℕ, suc, ◌+◌, ◌<◌, ◌≤◌, List, [], ◌∷◌, ◌++◌, Bool, true, false, true≢false, cond, ◌&&◌, nat_eq, Option, Some, None, arith}
use Rattle.std.specs.Prelude.{option_to_list, codes}
use Rattle.std.proofs.lemmas.Bool.{and_parts}
use Rattle.std.proofs.lemmas.Bool.Decides.{nat_tests, Decides-eqb}
use Rattle.es_base.specs.Conforms.{conforms, parts_conform, part_conforms, items_conform, item_conforms, key_place, place_rule, kind_rule, boolean_at}
use Rattle.es_base.specs.Table.{Field, members_of, stands_in, is_expression}
use Rattle.es_base.specs.Tree.{Tree, Part, Parts, Node, end, more, child, absent, list, string, no_string, boolean, literal}
use Rattle.es_base.specs.declared.ids.NodeId.{NodeId}
use Rattle.es_base.specs.declared.ids.ScopeId.{ScopeId}
use Rattle.es_base.specs.declared.kind.Kind.{Kind}
use Rattle.es_base.specs.declared.literal.LiteralValue.{LiteralValue}
use Rattle.es_base.specs.declared.table.Place.{Place}
use Rattle.es_base.specs.declared.table.Sort.{Sort}
use Rattle.es_base.specs.declared.table.Words.{Words}
use Rattle.es_scopes.specs.Entries.{Collected, binding, entry_of, entered, collected, collected_parts, collected_part, collected_items, nothing_yet, entries_of}
use Rattle.es_scopes.specs.Held.{weight, node_weight, scope_gets, held_weight, given_weight, IsElsewhere, IsNoBody}
use Rattle.es_scopes.specs.NodeScopes.{opens, has_scope, is_strict, scope_flags}
use Rattle.es_scopes.specs.Surroundings.{scope_place, inside, declares_in, lexical_scope, var_scope, in_scope, in_function, in_arrow, in_first, in_block, nested, is_pattern_part, passed_on, nowhere}
use Rattle.es_scopes.specs.declared.entry.Entry.{Entry}
use Rattle.es_scopes.specs.declared.entry.Entry.TheVariants as entry
use Rattle.es_scopes.specs.declared.flags.ScopeFlags.{ScopeFlags}
use Rattle.es_scopes.specs.declared.surroundings.Declarer.{Declarer}
use Rattle.es_scopes.specs.declared.surroundings.Declarer.TheVariants as declarer
use Rattle.es_scopes.specs.declared.surroundings.Declares.{Declares}
use Rattle.es_scopes.specs.declared.surroundings.Declares.TheVariants as declares
use Rattle.es_scopes.specs.declared.surroundings.Surroundings.{Surroundings}
use Rattle.es_scopes.proofs.OrderLemmas.{more_in_part}
use Rattle.es_steps.specs.Parts.{at, items, block_items, string_of}
use Rattle.es_steps.specs.Scopes.{Declaration, ClassName, no_class, declaration, is_binding_identifier, is_binding_place, binds, bound_names, bound_members, bound_part, bound_items, declarator_names, declarators_names, lexical_names, lexical_part, lexical_items, lexical_by, var_by, statement_form, other_statement, var_names, var_part, var_items, body_names, is_var, is_let, declares as class_declares, own_name as class_own}

-- ---- what a place asks of what is declared there

abbrev pub is_body_of : Place → Bool
is_body_of Place.Block = true
is_body_of Place.ArrowBody = true
is_body_of place = false

-- a pattern stands where names are bound, and the body of a function where its block does
abbrev pub fit_place : Declares → Place → Bool
fit_place (declares.Pattern holder who) place = is_binding_place place
fit_place (declares.Body s) place = is_body_of place
fit_place d place = true

abbrev pub fit_list : Declares → Place → Bool
fit_list (declares.Pattern holder who) place = is_binding_place place
fit_list (declares.Body s) place = false
fit_list d place = true

abbrev pub fit_key : Declares → Bool
fit_key (declares.Pattern holder who) = false
fit_key (declares.Body s) = false
fit_key d = true

abbrev pub fit_sort : Declares → Sort → Bool
fit_sort d (Sort.Child place) = fit_place d place
fit_sort d (Sort.Nullable place) = fit_place d place
fit_sort d (Sort.Key place) = fit_key d
fit_sort d (Sort.List place) = fit_list d place
fit_sort d (Sort.NonEmptyList place) = fit_list d place
fit_sort d (Sort.ListWithHoles place) = fit_list d place
fit_sort d sort = true

abbrev pub fit_all : (ℕ → Declares) → List Field → Bool
fit_all ds [] = true
fit_all ds (f ∷ fs) = fit_sort (ds 0) f.sort && fit_all (λ j. ds (suc j)) fs

-- what a node declares fits its parts
fit-variables : (b : Bool) (x y : Option ScopeId) → fit_all (λ j. in_scope (cond b x y)) (members_of Kind.VariableDeclaration) ≡ true
fit-variables true x y = refl
fit-variables false x y = refl

pub fit-parts : (kind : Kind) (own : ScopeId) (ps : Parts) (d : Declares) → fit_all (declares_in kind own ps d) (members_of kind) ≡ true
fit-parts Kind.VariableDeclaration own ps d = fit-variables (is_var ps) (var_scope d) (lexical_scope d)
fit-parts kind own ps declares.Nothing = refl
fit-parts kind own ps (declares.Statement lexical var) = refl
fit-parts kind own ps (declares.Body s) = refl
fit-parts kind own ps (declares.Pattern holder who) = refl

pub key-fits : (d : Declares) (place : Place) → fit_key d ≡ true → fit_place d place ≡ true
key-fits declares.Nothing place h = refl
key-fits (declares.Statement lexical var) place h = refl
key-fits (declares.Body s) place h = absurd (true≢false (sym h))
key-fits (declares.Pattern holder who) place h = absurd (true≢false (sym h))

pub list-fits : (d : Declares) (place : Place) → fit_list d place ≡ true → fit_place d place ≡ true
list-fits declares.Nothing place h = refl
list-fits (declares.Statement lexical var) place h = refl
list-fits (declares.Body s) place h = absurd (true≢false (sym h))
list-fits (declares.Pattern holder who) place h = h

-- ---- which kinds stand where

abbrev implies : Bool → Bool → Bool
implies true b = b
implies false b = true

by_implies : (a b : Bool) → implies a b ≡ true → a ≡ true → b ≡ true
by_implies true b h k = h
by_implies false b h k = absurd (true≢false (sym k))

-- kinds that declare nothing as statements
abbrev is_silent : Kind → Bool
is_silent Kind.VariableDeclaration = false
is_silent Kind.FunctionDeclaration = false
is_silent Kind.ClassDeclaration = false
is_silent Kind.ImportDeclaration = false
is_silent Kind.LabeledStatement = false
is_silent Kind.ExportNamedDeclaration = false
is_silent Kind.ExportDefaultDeclaration = false
is_silent Kind.SwitchCase = false
is_silent Kind.BlockStatement = false
is_silent Kind.WithStatement = false
is_silent Kind.IfStatement = false
is_silent Kind.SwitchStatement = false
is_silent Kind.TryStatement = false
is_silent Kind.CatchClause = false
is_silent Kind.WhileStatement = false
is_silent Kind.DoWhileStatement = false
is_silent Kind.ForStatement = false
is_silent Kind.ForInStatement = false
is_silent Kind.ForOfStatement = false
is_silent kind = true

silent-form : (kind : Kind) → is_silent kind ≡ true → statement_form kind ≡ other_statement
silent-form Kind.VariableDeclaration h = absurd (true≢false (sym h))
silent-form Kind.FunctionDeclaration h = absurd (true≢false (sym h))
silent-form Kind.ClassDeclaration h = absurd (true≢false (sym h))
silent-form Kind.ImportDeclaration h = absurd (true≢false (sym h))
silent-form Kind.LabeledStatement h = absurd (true≢false (sym h))
silent-form Kind.ExportNamedDeclaration h = absurd (true≢false (sym h))
silent-form Kind.ExportDefaultDeclaration h = absurd (true≢false (sym h))
silent-form Kind.SwitchCase h = absurd (true≢false (sym h))
silent-form Kind.BlockStatement h = absurd (true≢false (sym h))
silent-form Kind.WithStatement h = absurd (true≢false (sym h))
silent-form Kind.IfStatement h = absurd (true≢false (sym h))
silent-form Kind.SwitchStatement h = absurd (true≢false (sym h))
silent-form Kind.TryStatement h = absurd (true≢false (sym h))
silent-form Kind.CatchClause h = absurd (true≢false (sym h))
silent-form Kind.WhileStatement h = absurd (true≢false (sym h))
silent-form Kind.DoWhileStatement h = absurd (true≢false (sym h))
silent-form Kind.ForStatement h = absurd (true≢false (sym h))
silent-form Kind.ForInStatement h = absurd (true≢false (sym h))
silent-form Kind.ForOfStatement h = absurd (true≢false (sym h))
silent-form kind h = refl

abbrev IsSilentPlace : Place → Type 0
IsSilentPlace place = (kind : Kind) → implies (stands_in place kind) (is_silent kind) ≡ true

silent-pattern : IsSilentPlace Place.Pattern
silent-pattern Kind.Program = refl
silent-pattern kind = refl

silent-parameter : IsSilentPlace Place.PatternOrRest
silent-parameter Kind.Program = refl
silent-parameter kind = refl

silent-expression : IsSilentPlace Place.Expression
silent-expression Kind.Program = refl
silent-expression kind = refl

silent-element : IsSilentPlace Place.ExpressionOrSpread
silent-element Kind.Program = refl
silent-element kind = refl

silent-property : IsSilentPlace Place.ObjectMember
silent-property Kind.Program = refl
silent-property kind = refl

silent-quasi : IsSilentPlace Place.TemplateElement
silent-quasi Kind.Program = refl
silent-quasi kind = refl

-- kinds that bind, where names are bound
abbrev is_pattern_kind : Kind → Bool
is_pattern_kind Kind.BindingIdentifier = true
is_pattern_kind Kind.ObjectPattern = true
is_pattern_kind Kind.ArrayPattern = true
is_pattern_kind Kind.AssignmentPattern = true
is_pattern_kind Kind.RestElement = true
is_pattern_kind Kind.BindingProperty = true
is_pattern_kind Kind.VariableDeclarator = true
is_pattern_kind Kind.ImportSpecifier = true
is_pattern_kind Kind.ImportDefaultSpecifier = true
is_pattern_kind Kind.ImportNamespaceSpecifier = true
is_pattern_kind Kind.Foreign = true
is_pattern_kind kind = false

abbrev IsPatternPlace : Place → Type 0
IsPatternPlace place = (kind : Kind) → implies (stands_in place kind) (is_pattern_kind kind) ≡ true

binds-pattern : IsPatternPlace Place.Pattern
binds-pattern Kind.Program = refl
binds-pattern kind = refl

binds-parameter : IsPatternPlace Place.PatternOrRest
binds-parameter Kind.Program = refl
binds-parameter kind = refl

binds-member : IsPatternPlace Place.PatternMember
binds-member Kind.Program = refl
binds-member kind = refl

binds-identifier : IsPatternPlace Place.BindingIdentifier
binds-identifier Kind.Program = refl
binds-identifier kind = refl

binds-declarator : IsPatternPlace Place.VariableDeclarator
binds-declarator Kind.Program = refl
binds-declarator kind = refl

binds-import : IsPatternPlace Place.ImportMember
binds-import Kind.Program = refl
binds-import kind = refl

binds-place : (place : Place) → is_binding_place place ≡ true → IsPatternPlace place
binds-place Place.Pattern h = binds-pattern
binds-place Place.PatternOrRest h = binds-parameter
binds-place Place.PatternMember h = binds-member
binds-place Place.BindingIdentifier h = binds-identifier
binds-place Place.VariableDeclarator h = binds-declarator
binds-place Place.ImportMember h = binds-import
binds-place place h = absurd (true≢false (sym h))

-- the body of a function is a block or an expression
abbrev is_block_or_expression : Kind → Bool
is_block_or_expression Kind.BlockStatement = true
is_block_or_expression kind = is_expression kind

body-block : (kind : Kind) → implies (stands_in Place.Block kind) (is_block_or_expression kind) ≡ true
body-block Kind.Program = refl
body-block kind = refl

body-arrow : (kind : Kind) → implies (stands_in Place.ArrowBody kind) (is_block_or_expression kind) ≡ true
body-arrow Kind.Program = refl
body-arrow kind = refl

body-place : (place : Place) → is_body_of place ≡ true → (kind : Kind) → implies (stands_in place kind) (is_block_or_expression kind) ≡ true
body-place Place.Block h = body-block
body-place Place.ArrowBody h = body-arrow
body-place place h = absurd (true≢false (sym h))

-- ---- the parts of a node, one for one with its members

pub record Cons (computed : Bool) (f : Field) (fs : List Field) (ps : Parts) : Type 0 where
  pub first : Part
  pub rest : Parts
  pub is : ps ≡ more first rest
  pub fits : part_conforms computed f.sort first ≡ true
  pub others : parts_conform computed fs rest ≡ true

cons-of : (computed : Bool) (f : Field) (fs : List Field) (ps : Parts) → parts_conform computed (f ∷ fs) ps ≡ true → Cons computed f fs ps
cons-of computed f fs end h = absurd (true≢false (sym h))
cons-of computed f fs (more p ps) h = let both = and_parts (part_conforms computed f.sort p) (parts_conform computed fs ps) h in record { first = p; rest = ps; is = refl; fits = both.0; others = both.1 }

nil-of : (computed : Bool) (ps : Parts) → parts_conform computed [] ps ≡ true → ps ≡ end
nil-of computed end h = refl
nil-of computed (more p ps) h = absurd (true≢false (sym h))

-- no node and no list of nodes
abbrev IsPlain : Part → Type 0
IsPlain (child t) = ⊥
IsPlain (list ps) = ⊥
IsPlain p = Unit

word-plain : (computed : Bool) (set : Words) (p : Part) → part_conforms computed (Sort.Word set) p ≡ true → IsPlain p
word-plain computed set (child t) h = true≢false (sym h)
word-plain computed set absent h = tt
word-plain computed set (list ps) h = true≢false (sym h)
word-plain computed set (string s) h = tt
word-plain computed set no_string h = tt
word-plain computed set (boolean b) h = tt
word-plain computed set (literal v) h = tt

suc_not_zero : (j : ℕ) → nat_eq (suc j) 0 ≡ false
suc_not_zero j = grind (arith, nat_tests)

above_is_other : (m n : ℕ) → n < m → nat_eq m n ≡ false
above_is_other m n l = grind (arith, nat_tests)

abbrev is_no_list : Sort → Bool
is_no_list (Sort.List place) = false
is_no_list (Sort.NonEmptyList place) = false
is_no_list (Sort.ListWithHoles place) = false
is_no_list sort = true

abbrev first_no_list : List Field → Bool
first_no_list [] = true
first_no_list (f ∷ fs) = is_no_list f.sort

no-list-items : (computed : Bool) (sort : Sort) (p : Part) → is_no_list sort ≡ true → part_conforms computed sort p ≡ true → items p ≡ end
no-list-items computed (Sort.List place) (list ps) is h = absurd (true≢false (sym is))
no-list-items computed (Sort.NonEmptyList place) (list ps) is h = absurd (true≢false (sym is))
no-list-items computed (Sort.ListWithHoles place) (list ps) is h = absurd (true≢false (sym is))
no-list-items computed sort (list ps) is h = absurd (true≢false (sym h))
no-list-items computed sort (child t) is h = refl
no-list-items computed sort absent is h = refl
no-list-items computed sort (string s) is h = refl
no-list-items computed sort no_string is h = refl
no-list-items computed sort (boolean b) is h = refl
no-list-items computed sort (literal v) is h = refl

first-empty : (kind : Kind) (m : ℕ) (computed : Bool) (fs : List Field) (ps : Parts) → first_no_list fs ≡ true → parts_conform computed fs ps ≡ true → block_items (child (Node kind m None None ps)) ≡ end
first-empty kind m computed fs end is h = refl
first-empty kind m computed [] (more p ps) is h = absurd (true≢false (sym h))
first-empty kind m computed (f ∷ fs) (more p ps) is h = no-list-items computed f.sort p is (and_parts _ _ h).0

abbrev tree_kind : Tree → Kind
tree_kind (Node kind m span id ps) = kind

-- ---- weights

module _ (w : Declarer → ℕ → List ℕ → ℕ) (n : ℕ) where
  abbrev total : Declarer → List Declaration → ℕ
  total who ds = weight (w who) ds

  -- what scope n gets of it
  abbrev at_scope : Option ScopeId → ℕ → ℕ
  at_scope o x = scope_gets n o x

  abbrev held : List Entry → ℕ
  held es = held_weight w n es

  abbrev gives : Declares → Part → ℕ
  gives d p = given_weight w n d p

  abbrev pub gives_parts : (ℕ → Declares) → Parts → ℕ
  gives_parts ds end = 0
  gives_parts ds (more p ps) = gives (ds 0) p + gives_parts (λ j. ds (suc j)) ps

  abbrev pub gives_items : Declares → Parts → ℕ
  gives_items d end = 0
  gives_items d (more p ps) = gives d p + gives_items d ps

  total-append : (who : Declarer) (xs ys : List Declaration) → total who (xs ++ ys) ≡ total who xs + total who ys
  total-append who [] ys = omega arith
  total-append who (x ∷ xs) ys = omega (arith, total-append who xs ys)

  held-append : (es fs : List Entry) → held (es ++ fs) ≡ held es + held fs
  held-append [] fs = omega arith
  held-append (entry.Scope node parent in_parameters flags ∷ es) fs = held-append es fs
  held-append (entry.Body node ∷ es) fs = held-append es fs
  held-append (entry.Binding node holder who name flags head ∷ es) fs = omega (arith, held-append es fs)
  held-append (entry.Reference node scope in_parameters name flags ∷ es) fs = held-append es fs

  cond-zero : (b : Bool) → ◌≡◌ {A = ℕ} (cond b 0 0) 0
  cond-zero true = refl
  cond-zero false = refl

  cond-plus : (b : Bool) (x y : ℕ) → cond b (x + y) 0 ≡ cond b x 0 + cond b y 0
  cond-plus true x y = refl
  cond-plus false x y = omega arith

  at-zero : (o : Option ScopeId) → at_scope o 0 ≡ 0
  at-zero None = refl
  at-zero (Some s) = cond-zero (nat_eq s.0 n)

  at-plus : (o : Option ScopeId) (x y : ℕ) → at_scope o (x + y) ≡ at_scope o x + at_scope o y
  at-plus None x y = omega arith
  at-plus (Some s) x y = cond-plus (nat_eq s.0 n) x y

  at-append : (o : Option ScopeId) (who : Declarer) (xs ys : List Declaration) → at_scope o (total who (xs ++ ys)) ≡ at_scope o (total who xs) + at_scope o (total who ys)
  at-append o who xs ys = ap (at_scope o) (total-append who xs ys) ∙ at-plus o (total who xs) (total who ys)

  -- ---- what declares nothing in scope n

  abbrev Away : Option ScopeId → Type 0
  Away o = (x : ℕ) → at_scope o x ≡ 0

  abbrev Quiet : Declares → Type 0
  Quiet d = IsElsewhere n d

  away-none : Away None
  away-none x = refl

  away-cond : (b : Bool) (o p : Option ScopeId) → Away o → Away p → Away (cond b o p)
  away-cond true o p h k = h
  away-cond false o p h k = k

  quiet-cond : (b : Bool) (d e : Declares) → Quiet d → Quiet e → Quiet (cond b d e)
  quiet-cond true d e h k = h
  quiet-cond false d e h k = k

  pub quiet-gives : (d : Declares) (p : Part) → Quiet d → gives d p ≡ 0
  quiet-gives declares.Nothing p h = refl
  quiet-gives (declares.Statement lexical var) p h = omega (arith, h.0 (total declarer.Other (lexical_part p)), h.1 (total declarer.Other (var_part p)))
  quiet-gives (declares.Body s) p h = h (total declarer.Other (body_names (block_items p)))
  quiet-gives (declares.Pattern holder who) p h = h (total who (bound_part no_class p))

  pub quiet-parts : (ds : ℕ → Declares) (ps : Parts) → ((j : ℕ) → Quiet (ds j)) → gives_parts ds ps ≡ 0
  quiet-parts ds end h = refl
  quiet-parts ds (more p ps) h = omega (arith, quiet-gives (ds 0) p (h 0), quiet-parts (λ j. ds (suc j)) ps (λ j. h (suc j)))

  quiet-lexical : (d : Declares) → Quiet d → Away (lexical_scope d)
  quiet-lexical declares.Nothing h = away-none
  quiet-lexical (declares.Statement lexical var) h = h.0
  quiet-lexical (declares.Body s) h = away-none
  quiet-lexical (declares.Pattern holder who) h = away-none

  quiet-var : (d : Declares) → Quiet d → Away (var_scope d)
  quiet-var declares.Nothing h = away-none
  quiet-var (declares.Statement lexical var) h = h.1
  quiet-var (declares.Body s) h = away-none
  quiet-var (declares.Pattern holder who) h = away-none

  module _ (own : ScopeId) (away : Away (Some own)) where
    quiet-nested : (b : Bool) (d : Declares) → Quiet d → Quiet (nested b own d)
    quiet-nested b d h = (away-cond b _ _ away away-none, quiet-var d h)

    quiet-function : (name : Declares) (i : ℕ) → Quiet name → Quiet (in_function name own i)
    quiet-function name i h = quiet-cond (nat_eq i 0) _ _ h (quiet-cond (nat_eq i 1) _ _ away away)

    quiet-passed : (kind : Kind) (d : Declares) (i : ℕ) → Quiet d → Quiet (passed_on kind d i)
    quiet-passed kind declares.Nothing i h = tt
    quiet-passed kind (declares.Statement lexical var) i h = tt
    quiet-passed kind (declares.Body s) i h = tt
    quiet-passed kind (declares.Pattern holder who) i h = quiet-cond (is_pattern_part kind i) _ _ h tt

    quiet-block : (d : Declares) → Quiet d → Quiet (in_block own d)
    quiet-block declares.Nothing h = (away, away-none)
    quiet-block (declares.Statement lexical var) h = (away, h.1)
    quiet-block (declares.Body s) h = (h, h)
    quiet-block (declares.Pattern holder who) h = (away, away-none)

    quiet-in : (kind : Kind) (ps : Parts) (d : Declares) (i : ℕ) → Quiet d → Quiet (declares_in kind own ps d i)
    quiet-in Kind.Program ps d i h = (away, away)
    quiet-in Kind.StaticBlock ps d i h = (away, away)
    quiet-in Kind.FunctionDeclaration ps d i h = quiet-function _ i (quiet-lexical d h)
    quiet-in Kind.FunctionExpression ps d i h = quiet-function _ i away
    quiet-in Kind.ArrowFunctionExpression ps d i h = quiet-cond (nat_eq i 0) _ _ away away
    quiet-in Kind.ClassDeclaration ps d i h = quiet-cond (nat_eq i 0) _ _ (quiet-lexical d h) tt
    quiet-in Kind.ClassExpression ps d i h = quiet-cond (nat_eq i 0) _ _ away tt
    quiet-in Kind.ImportDeclaration ps d i h = quiet-cond (nat_eq i 0) _ _ (quiet-lexical d h) tt
    quiet-in Kind.VariableDeclaration ps d i h = away-cond (is_var ps) _ _ (quiet-var d h) (quiet-lexical d h)
    quiet-in Kind.LabeledStatement ps d i h = (quiet-lexical d h, quiet-var d h)
    quiet-in Kind.IfStatement ps d i h = (quiet-lexical d h, quiet-var d h)
    quiet-in Kind.SwitchCase ps d i h = (quiet-lexical d h, quiet-var d h)
    quiet-in Kind.ExportNamedDeclaration ps d i h = (quiet-lexical d h, quiet-var d h)
    quiet-in Kind.ExportDefaultDeclaration ps d i h = (quiet-lexical d h, quiet-var d h)
    quiet-in Kind.BlockStatement ps d i h = quiet-block d h
    quiet-in Kind.WithStatement ps d i h = quiet-nested false d h
    quiet-in Kind.TryStatement ps d i h = quiet-nested false d h
    quiet-in Kind.WhileStatement ps d i h = quiet-nested false d h
    quiet-in Kind.DoWhileStatement ps d i h = quiet-nested false d h
    quiet-in Kind.ForStatement ps d i h = quiet-nested (nat_eq i 0) d h
    quiet-in Kind.ForInStatement ps d i h = quiet-nested (nat_eq i 0) d h
    quiet-in Kind.ForOfStatement ps d i h = quiet-nested (nat_eq i 0) d h
    quiet-in Kind.SwitchStatement ps d i h = quiet-nested (nat_eq i 1) d h
    quiet-in Kind.CatchClause ps d i h = quiet-cond (nat_eq i 0) _ _ away (quiet-nested false d h)
    quiet-in kind ps d i h = quiet-passed kind d i h

  -- ---- the items of a list

  gives-list : (d : Declares) (ps : Parts) (place : Place) → fit_list d place ≡ true → gives_items d ps ≡ gives d (list ps)
  gives-list declares.Nothing end place h = refl
  gives-list declares.Nothing (more p ps) place h = omega (arith, gives-list declares.Nothing ps place h)
  gives-list (declares.Statement lexical var) end place h = omega (arith, at-zero lexical, at-zero var)
  gives-list (declares.Statement lexical var) (more p ps) place h = omega (arith, gives-list (declares.Statement lexical var) ps place h, at-append lexical declarer.Other (lexical_part p) (lexical_items ps), at-append var declarer.Other (var_part p) (var_items ps))
  gives-list (declares.Body s) ps place h = absurd (true≢false (sym h))
  gives-list (declares.Pattern holder who) end place h = sym (at-zero holder)
  gives-list (declares.Pattern holder who) (more p ps) place h = omega (arith, gives-list (declares.Pattern holder who) ps place h, at-append holder who (bound_part no_class p) (bound_items no_class ps))

  gives-absent : (d : Declares) → gives d absent ≡ 0
  gives-absent declares.Nothing = refl
  gives-absent (declares.Statement lexical var) = omega (arith, at-zero lexical, at-zero var)
  gives-absent (declares.Body s) = at-zero (Some s)
  gives-absent (declares.Pattern holder who) = at-zero holder

  gives-string : (d : Declares) (s : List ℕ) → gives d (string s) ≡ 0
  gives-string declares.Nothing s = refl
  gives-string (declares.Statement lexical var) s = omega (arith, at-zero lexical, at-zero var)
  gives-string (declares.Body q) s = at-zero (Some q)
  gives-string (declares.Pattern holder who) s = at-zero holder

  gives-no_string : (d : Declares) → gives d no_string ≡ 0
  gives-no_string declares.Nothing = refl
  gives-no_string (declares.Statement lexical var) = omega (arith, at-zero lexical, at-zero var)
  gives-no_string (declares.Body q) = at-zero (Some q)
  gives-no_string (declares.Pattern holder who) = at-zero holder

  gives-boolean : (d : Declares) (b : Bool) → gives d (boolean b) ≡ 0
  gives-boolean declares.Nothing b = refl
  gives-boolean (declares.Statement lexical var) b = omega (arith, at-zero lexical, at-zero var)
  gives-boolean (declares.Body q) b = at-zero (Some q)
  gives-boolean (declares.Pattern holder who) b = at-zero holder

  gives-literal : (d : Declares) (v : LiteralValue) → gives d (literal v) ≡ 0
  gives-literal declares.Nothing v = refl
  gives-literal (declares.Statement lexical var) v = omega (arith, at-zero lexical, at-zero var)
  gives-literal (declares.Body q) v = at-zero (Some q)
  gives-literal (declares.Pattern holder who) v = at-zero holder

  -- ---- statements

  statement-parts : (l v : Option ScopeId) (ps : Parts) → gives_parts (λ j. declares.Statement l v) ps ≡ at_scope l (total declarer.Other (lexical_items ps)) + at_scope v (total declarer.Other (var_items ps))
  statement-parts l v end = omega (arith, at-zero l, at-zero v)
  statement-parts l v (more p ps) = omega (arith, statement-parts l v ps, at-append l declarer.Other (lexical_part p) (lexical_items ps), at-append v declarer.Other (var_part p) (var_items ps))

  nested-parts : (ls : ℕ → Option ScopeId) (v : Option ScopeId) (ps : Parts) → ((j : ℕ) → Away (ls j)) → gives_parts (λ j. declares.Statement (ls j) v) ps ≡ at_scope v (total declarer.Other (var_items ps))
  nested-parts ls v end away = sym (at-zero v)
  nested-parts ls v (more p ps) away = omega (arith, away 0 (total declarer.Other (lexical_part p)), nested-parts (λ j. ls (suc j)) v ps (λ j. away (suc j)), at-append v declarer.Other (var_part p) (var_items ps))

  -- what a declaration binds does not depend on the class that it is said to name
  total-where : (who : Declarer) (c : ClassName) (b : ℕ) (ps : Parts) (fs : List Field) (is : Bool) → total who (bound_members c fs ps) ≡ total who (bound_members no_class fs ps) → total who (cond is (declaration c b ps) (bound_members c fs ps)) ≡ total who (cond is (declaration no_class b ps) (bound_members no_class fs ps))
  total-where who c b ps fs true h = refl
  total-where who c b ps fs false h = h

  total-member : (who : Declarer) (xs ys vs ws : List Declaration) (b : Bool) → total who xs ≡ total who ys → total who vs ≡ total who ws → total who (cond b xs [] ++ vs) ≡ total who (cond b ys [] ++ ws)
  total-member who xs ys vs ws true h k = omega (arith, total-append who xs vs, total-append who ys ws)
  total-member who xs ys vs ws false h k = k

  mutual
    total-names : (who : Declarer) (c : ClassName) (t : Tree) → total who (bound_names c t) ≡ total who (bound_names no_class t)
    total-names who c (Node kind b span semantic_id ps) = total-where who c b ps (members_of kind) (is_binding_identifier kind) (total-members who c (members_of kind) ps)

    total-members : (who : Declarer) (c : ClassName) (fs : List Field) (ps : Parts) → total who (bound_members c fs ps) ≡ total who (bound_members no_class fs ps)
    total-members who c fs end = refl
    total-members who c [] (more p ps) = refl
    total-members who c (f ∷ fs) (more p ps) = total-member who (bound_part c p) (bound_part no_class p) (bound_members c fs ps) (bound_members no_class fs ps) (binds f.sort) (total-part who c p) (total-members who c fs ps)

    total-part : (who : Declarer) (c : ClassName) (p : Part) → total who (bound_part c p) ≡ total who (bound_part no_class p)
    total-part who c (child t) = total-names who c t
    total-part who c absent = refl
    total-part who c (list ps) = total-items who c ps
    total-part who c (string s) = refl
    total-part who c no_string = refl
    total-part who c (boolean b) = refl
    total-part who c (literal v) = refl

    total-items : (who : Declarer) (c : ClassName) (ps : Parts) → total who (bound_items c ps) ≡ total who (bound_items no_class ps)
    total-items who c end = refl
    total-items who c (more p ps) = omega (arith, total-append who (bound_part c p) (bound_items c ps), total-append who (bound_part no_class p) (bound_items no_class ps), total-part who c p, total-items who c ps)

  -- the first part declares, and the others do nothing for scope n
  first-parts : (ds : ℕ → Declares) (l : Option ScopeId) (ps : Parts) → ds 0 ≡ in_scope l → ((j : ℕ) → Quiet (ds (suc j))) → gives_parts ds ps ≡ at_scope l (total declarer.Other (bound_part no_class (at 0 ps)))
  first-parts ds l end is quiet = sym (at-zero l)
  first-parts ds l (more p ps) is quiet = omega (arith, ap (λ d. gives d p) is, quiet-parts (λ j. ds (suc j)) ps quiet)

  -- ---- what stands where no statement does declares nothing as a statement

  abbrev Silent : Kind → Type 0
  Silent kind = statement_form kind ≡ other_statement

  silent-lexical : (kind : Kind) (m : ℕ) (ps : Parts) (ds : List Declaration) → Silent kind → lexical_by (statement_form kind) m ps ds ≡ []
  silent-lexical kind m ps ds h = ap (λ form. lexical_by form m ps ds) h

  silent-var : (kind : Kind) (ps : Parts) (ds : List Declaration) → Silent kind → var_by (statement_form kind) ps ds ≡ []
  silent-var kind ps ds h = ap (λ form. var_by form ps ds) h

  -- a part that declares nothing as a statement
  abbrev Mute : Part → Type 0
  Mute p = (total declarer.Other (lexical_part p) ≡ 0) × (total declarer.Other (var_part p) ≡ 0)

  mute-tree : (t : Tree) → Silent (tree_kind t) → Mute (child t)
  mute-tree (Node kind m span id ps) h = (ap (total declarer.Other) (silent-lexical kind m ps (lexical_items ps) h), ap (total declarer.Other) (silent-var kind ps (var_items ps) h))

  mute-absent : Mute absent
  mute-absent = (refl, refl)

  mute-items : (holes : Bool) (place : Place) (ps : Parts) → IsSilentPlace place → items_conform holes place ps ≡ true → (total declarer.Other (lexical_items ps) ≡ 0) × (total declarer.Other (var_items ps) ≡ 0)
  mute-items holes place end silent h = (refl, refl)
  mute-items holes place (more p ps) silent h =
      let both = and_parts (item_conforms holes place p) _ h in
      let more = mute-items holes place ps silent (and_parts _ _ both.1).1 in
      let here = mute-item p both.0 in
      (omega (arith, total-append declarer.Other (lexical_part p) (lexical_items ps), here.0, more.0), omega (arith, total-append declarer.Other (var_part p) (var_items ps), here.1, more.1))
    where
      mute-item : (p : Part) → item_conforms holes place p ≡ true → Mute p
      mute-item (child (Node kind m span id qs)) h = mute-tree (Node kind m span id qs) (silent-form kind (by_implies (stands_in place kind) (is_silent kind) (silent kind) (and_parts _ _ h).0))
      mute-item absent h = (refl, refl)
      mute-item (list qs) h = absurd (true≢false (sym h))
      mute-item (string s) h = absurd (true≢false (sym h))
      mute-item no_string h = absurd (true≢false (sym h))
      mute-item (boolean b) h = absurd (true≢false (sym h))
      mute-item (literal v) h = absurd (true≢false (sym h))

  body-total : (ps : Parts) → total declarer.Other (body_names ps) ≡ total declarer.Other (lexical_items ps) + total declarer.Other (var_items ps)
  body-total end = omega arith
  body-total (more p ps) = omega (arith, total-append declarer.Other (lexical_part p ++ var_part p) (body_names ps), total-append declarer.Other (lexical_part p) (var_part p), total-append declarer.Other (lexical_part p) (lexical_items ps), total-append declarer.Other (var_part p) (var_items ps), body-total ps)

  plain-bound : (p : Part) → IsPlain p → total declarer.Other (bound_part no_class p) ≡ 0
  plain-bound (child t) h = absurd h
  plain-bound absent h = refl
  plain-bound (list ps) h = absurd h
  plain-bound (string s) h = refl
  plain-bound no_string h = refl
  plain-bound (boolean b) h = refl
  plain-bound (literal v) h = refl

  -- ---- variable declarations

  declarator-shape : (m k : ℕ) (is : Bool) (span : Option (ℕ × ℕ)) (sid : Option ℕ) (id init : Part) → total declarer.Other (declarator_names m is (child (Node Kind.VariableDeclarator k span sid (more id (more init end))))) ≡ total declarer.Other (bound_names no_class (Node Kind.VariableDeclarator k span sid (more id (more init end))))
  declarator-shape m k is span sid (child (Node Kind.BindingIdentifier b bspan bid bs)) init = refl
  declarator-shape m k is span sid (child (Node kind b bspan bid bs)) init = refl
  declarator-shape m k is span sid absent init = refl
  declarator-shape m k is span sid (list ps) init = refl
  declarator-shape m k is span sid (string s) init = refl
  declarator-shape m k is span sid no_string init = refl
  declarator-shape m k is span sid (boolean b) init = refl
  declarator-shape m k is span sid (literal v) init = refl

  declarator-parts : (m k : ℕ) (is : Bool) (span : Option (ℕ × ℕ)) (sid : Option ℕ) (ps : Parts) → parts_conform (boolean_at (codes "computed") (members_of Kind.VariableDeclarator) ps) (members_of Kind.VariableDeclarator) ps ≡ true → total declarer.Other (declarator_names m is (child (Node Kind.VariableDeclarator k span sid ps))) ≡ total declarer.Other (bound_names no_class (Node Kind.VariableDeclarator k span sid ps))
  declarator-parts m k is span sid ps h =
      let a = cons-of _ _ _ ps h in
      let b = cons-of _ _ _ a.rest a.others in
      let shape : ps ≡ more a.first (more b.first end) = a.is ∙ ap (more a.first) (b.is ∙ ap (more b.first) (nil-of _ b.rest b.others)) in
      subst (λ (qs : Parts). total declarer.Other (declarator_names m is (child (Node Kind.VariableDeclarator k span sid qs))) ≡ total declarer.Other (bound_names no_class (Node Kind.VariableDeclarator k span sid qs))) (sym shape) (declarator-shape m k is span sid a.first b.first)

  declarator-total : (m : ℕ) (is : Bool) (p : Part) → item_conforms false Place.VariableDeclarator p ≡ true → total declarer.Other (declarator_names m is p) ≡ total declarer.Other (bound_part no_class p)
  declarator-total m is (child (Node Kind.VariableDeclarator k span sid ps)) h =
      let rules : (place_rule Place.VariableDeclarator Kind.VariableDeclarator ps && (kind_rule Kind.VariableDeclarator ps && parts_conform (boolean_at (codes "computed") (members_of Kind.VariableDeclarator) ps) (members_of Kind.VariableDeclarator) ps)) ≡ true = h in
      declarator-parts m k is span sid ps (and_parts (kind_rule Kind.VariableDeclarator ps) _ (and_parts (place_rule Place.VariableDeclarator Kind.VariableDeclarator ps) _ rules).1).1
  declarator-total m is (child (Node kind k span sid ps)) h = absurd (true≢false (sym h))
  declarator-total m is absent h = absurd (true≢false (sym h))
  declarator-total m is (list ps) h = absurd (true≢false (sym h))
  declarator-total m is (string s) h = absurd (true≢false (sym h))
  declarator-total m is no_string h = absurd (true≢false (sym h))
  declarator-total m is (boolean b) h = absurd (true≢false (sym h))
  declarator-total m is (literal v) h = absurd (true≢false (sym h))

  declarators-total : (m : ℕ) (is : Bool) (ps : Parts) → items_conform false Place.VariableDeclarator ps ≡ true → total declarer.Other (declarators_names m is ps) ≡ total declarer.Other (bound_items no_class ps)
  declarators-total m is end h = refl
  declarators-total m is (more p ps) h =
      let both = and_parts (item_conforms false Place.VariableDeclarator p) _ h in
      omega (arith, total-append declarer.Other (declarator_names m is p) (declarators_names m is ps), total-append declarer.Other (bound_part no_class p) (bound_items no_class ps), declarator-total m is p both.0, declarators-total m is ps (and_parts _ _ both.1).1)

  declarations-total : (m : ℕ) (is computed : Bool) (p : Part) → part_conforms computed (Sort.List Place.VariableDeclarator) p ≡ true → total declarer.Other (declarators_names m is (items p)) ≡ total declarer.Other (bound_part no_class p)
  declarations-total m is computed (list ps) h = declarators-total m is ps h
  declarations-total m is computed (child t) h = absurd (true≢false (sym h))
  declarations-total m is computed absent h = absurd (true≢false (sym h))
  declarations-total m is computed (string s) h = absurd (true≢false (sym h))
  declarations-total m is computed no_string h = absurd (true≢false (sym h))
  declarations-total m is computed (boolean b) h = absurd (true≢false (sym h))
  declarations-total m is computed (literal v) h = absurd (true≢false (sym h))

  variables-where : (l v : Option ScopeId) (b : Bool) (xs ys : List Declaration) → total declarer.Other xs ≡ total declarer.Other ys → at_scope (cond b v l) (total declarer.Other ys) ≡ at_scope l (total declarer.Other (cond b [] xs)) + at_scope v (total declarer.Other (cond b ys []))
  variables-where l v true xs ys h = omega (arith, at-zero l)
  variables-where l v false xs ys h = omega (arith, at-zero v, ap (at_scope l) h)

  variables-shape : (m : ℕ) (l v : Option ScopeId) (b is computed : Bool) (p q : Part) → IsPlain p → part_conforms computed (Sort.List Place.VariableDeclarator) q ≡ true
      → gives_parts (λ j. in_scope (cond b v l)) (more p (more q end)) ≡ at_scope l (total declarer.Other (cond b [] (declarators_names m is (items q)))) + at_scope v (total declarer.Other (cond b (bound_part no_class q) []))
  variables-shape m l v b is computed p q plain h = omega (arith, ap (at_scope (cond b v l)) (plain-bound p plain), at-zero (cond b v l), variables-where l v b (declarators_names m is (items q)) (bound_part no_class q) (declarations-total m is computed q h))

  -- ---- a node, as what it declares says

  abbrev Parts_conform : Kind → Parts → Type 0
  Parts_conform kind ps = parts_conform (boolean_at (codes "computed") (members_of kind) ps) (members_of kind) ps ≡ true

  -- the identifier itself
  abbrev own_held : Kind → ℕ → Parts → Declares → ℕ
  own_held Kind.BindingIdentifier m ps (declares.Pattern holder who) = at_scope holder (w who m (string_of (at 0 ps)))
  own_held kind m ps d = 0

  nothing-parts : (ps : Parts) → gives_parts (λ j. declares.Nothing) ps ≡ 0
  nothing-parts ps = quiet-parts (λ j. declares.Nothing) ps (λ j. tt)

  -- a pattern
  abbrev PatternGoal : Kind → Option ScopeId → Declarer → ℕ → Parts → Type 0
  PatternGoal kind holder who m ps = own_held kind m ps (declares.Pattern holder who) + gives_parts (passed_on kind (declares.Pattern holder who)) ps ≡ at_scope holder (total who (bound_names no_class (Node kind m None None ps)))

  one-part : (kind : Kind) (holder : Option ScopeId) (who : Declarer) (m : ℕ) (ps : Parts) (computed : Bool) (f : Field) → parts_conform computed (f ∷ []) ps ≡ true → ((p : Part) → PatternGoal kind holder who m (more p end)) → PatternGoal kind holder who m ps
  one-part kind holder who m ps computed f h k =
      let a = cons-of computed f [] ps h in
      subst (λ (qs : Parts). PatternGoal kind holder who m qs) (sym (a.is ∙ ap (more a.first) (nil-of computed a.rest a.others))) (k a.first)

  two-parts : (kind : Kind) (holder : Option ScopeId) (who : Declarer) (m : ℕ) (ps : Parts) (computed : Bool) (f g : Field) → parts_conform computed (f ∷ g ∷ []) ps ≡ true → ((p q : Part) → PatternGoal kind holder who m (more p (more q end))) → PatternGoal kind holder who m ps
  two-parts kind holder who m ps computed f g h k =
      let a = cons-of computed f (g ∷ []) ps h in
      let b = cons-of computed g [] a.rest a.others in
      subst (λ (qs : Parts). PatternGoal kind holder who m qs) (sym (a.is ∙ ap (more a.first) (b.is ∙ ap (more b.first) (nil-of computed b.rest b.others)))) (k a.first b.first)

  six-parts : (kind : Kind) (holder : Option ScopeId) (who : Declarer) (m : ℕ) (ps : Parts) (computed : Bool) (f g i j k l : Field) → parts_conform computed (f ∷ g ∷ i ∷ j ∷ k ∷ l ∷ []) ps ≡ true → ((p q r s t u : Part) → PatternGoal kind holder who m (more p (more q (more r (more s (more t (more u end))))))) → PatternGoal kind holder who m ps
  six-parts kind holder who m ps computed f g i j k l h goal =
      let a = cons-of computed f (g ∷ i ∷ j ∷ k ∷ l ∷ []) ps h in
      let b = cons-of computed g (i ∷ j ∷ k ∷ l ∷ []) a.rest a.others in
      let c = cons-of computed i (j ∷ k ∷ l ∷ []) b.rest b.others in
      let d = cons-of computed j (k ∷ l ∷ []) c.rest c.others in
      let e = cons-of computed k (l ∷ []) d.rest d.others in
      let o = cons-of computed l [] e.rest e.others in
      let shape : ps ≡ more a.first (more b.first (more c.first (more d.first (more e.first (more o.first end))))) =
      a.is ∙ ap (more a.first) (b.is ∙ ap (more b.first) (c.is ∙ ap (more c.first) (d.is ∙ ap (more d.first) (e.is ∙ ap (more e.first) (o.is ∙ ap (more o.first) (nil-of computed o.rest o.others)))))) in
      subst (λ (qs : Parts). PatternGoal kind holder who m qs) (sym shape) (goal a.first b.first c.first d.first e.first o.first)

  plus-zero : (o : Option ScopeId) (x : ℕ) → at_scope o x ≡ at_scope o (x + 0)
  plus-zero o x = let e : x ≡ x + 0 = omega arith in ap (at_scope o) e

  bound-alone : (o : Option ScopeId) (who : Declarer) (xs : List Declaration) → at_scope o (total who xs) ≡ at_scope o (total who (xs ++ []))
  bound-alone o who xs = omega (arith, at-append o who xs [], at-zero o)

  pattern-kinds : (kind : Kind) (holder : Option ScopeId) (who : Declarer) (m : ℕ) (ps : Parts) → is_pattern_kind kind ≡ true → Parts_conform kind ps → PatternGoal kind holder who m ps
  pattern-kinds Kind.BindingIdentifier holder who m ps is h = omega (arith, nothing-parts ps, plus-zero holder (w who m (string_of (at 0 ps))))
  pattern-kinds Kind.ObjectPattern holder who m ps is h = one-part Kind.ObjectPattern holder who m ps _ _ h (λ p. omega (arith, bound-alone holder who (bound_part no_class p)))
  pattern-kinds Kind.ArrayPattern holder who m ps is h = one-part Kind.ArrayPattern holder who m ps _ _ h (λ p. omega (arith, bound-alone holder who (bound_part no_class p)))
  pattern-kinds Kind.RestElement holder who m ps is h = one-part Kind.RestElement holder who m ps _ _ h (λ p. omega (arith, bound-alone holder who (bound_part no_class p)))
  pattern-kinds Kind.ImportDefaultSpecifier holder who m ps is h = one-part Kind.ImportDefaultSpecifier holder who m ps _ _ h (λ p. omega (arith, bound-alone holder who (bound_part no_class p)))
  pattern-kinds Kind.ImportNamespaceSpecifier holder who m ps is h = one-part Kind.ImportNamespaceSpecifier holder who m ps _ _ h (λ p. omega (arith, bound-alone holder who (bound_part no_class p)))
  pattern-kinds Kind.Foreign holder who m ps is h = one-part Kind.Foreign holder who m ps _ _ h (λ p. omega (arith, at-zero holder))
  pattern-kinds Kind.VariableDeclarator holder who m ps is h = two-parts Kind.VariableDeclarator holder who m ps _ _ _ h (λ p q. omega (arith, bound-alone holder who (bound_part no_class p)))
  pattern-kinds Kind.AssignmentPattern holder who m ps is h = two-parts Kind.AssignmentPattern holder who m ps _ _ _ h (λ p q. omega (arith, bound-alone holder who (bound_part no_class p)))
  pattern-kinds Kind.ImportSpecifier holder who m ps is h = two-parts Kind.ImportSpecifier holder who m ps _ _ _ h (λ p q. omega (arith, bound-alone holder who (bound_part no_class q)))
  pattern-kinds Kind.BindingProperty holder who m ps is h = six-parts Kind.BindingProperty holder who m ps _ _ _ _ _ _ _ h (λ p q r s t u. omega (arith, bound-alone holder who (bound_part no_class q)))
  pattern-kinds kind holder who m ps is h = absurd (true≢false (sym is))

  -- such a node passes on what it declares
  pattern-node : (kind : Kind) (holder : Option ScopeId) (who : Declarer) (m : ℕ) (ps : Parts) (own : ScopeId) → is_pattern_kind kind ≡ true → Parts_conform kind ps → own_held kind m ps (declares.Pattern holder who) + gives_parts (declares_in kind own ps (declares.Pattern holder who)) ps ≡ gives (declares.Pattern holder who) (child (Node kind m None None ps))
  pattern-node Kind.BindingIdentifier holder who m ps own is h = pattern-kinds Kind.BindingIdentifier holder who m ps is h
  pattern-node Kind.ObjectPattern holder who m ps own is h = pattern-kinds Kind.ObjectPattern holder who m ps is h
  pattern-node Kind.ArrayPattern holder who m ps own is h = pattern-kinds Kind.ArrayPattern holder who m ps is h
  pattern-node Kind.AssignmentPattern holder who m ps own is h = pattern-kinds Kind.AssignmentPattern holder who m ps is h
  pattern-node Kind.RestElement holder who m ps own is h = pattern-kinds Kind.RestElement holder who m ps is h
  pattern-node Kind.BindingProperty holder who m ps own is h = pattern-kinds Kind.BindingProperty holder who m ps is h
  pattern-node Kind.VariableDeclarator holder who m ps own is h = pattern-kinds Kind.VariableDeclarator holder who m ps is h
  pattern-node Kind.ImportSpecifier holder who m ps own is h = pattern-kinds Kind.ImportSpecifier holder who m ps is h
  pattern-node Kind.ImportDefaultSpecifier holder who m ps own is h = pattern-kinds Kind.ImportDefaultSpecifier holder who m ps is h
  pattern-node Kind.ImportNamespaceSpecifier holder who m ps own is h = pattern-kinds Kind.ImportNamespaceSpecifier holder who m ps is h
  pattern-node Kind.Foreign holder who m ps own is h = pattern-kinds Kind.Foreign holder who m ps is h
  pattern-node kind holder who m ps own is h = absurd (true≢false (sym is))

  -- a statement
  abbrev StatementGoal : Kind → ScopeId → ℕ → Parts → Option ScopeId → Option ScopeId → Type 0
  StatementGoal kind own m ps l v = own_held kind m ps (declares.Statement l v) + gives_parts (declares_in kind own ps (declares.Statement l v)) ps ≡ gives (declares.Statement l v) (child (Node kind m None None ps))

  mute-nullable : (computed : Bool) (p : Part) → part_conforms computed (Sort.Nullable Place.Pattern) p ≡ true → total declarer.Other (var_part p) ≡ 0
  mute-nullable computed (child (Node kind m span id qs)) h = (mute-tree (Node kind m span id qs) (silent-form kind (by_implies (stands_in Place.Pattern kind) (is_silent kind) (silent-pattern kind) (and_parts _ _ h).0))).1
  mute-nullable computed absent h = refl
  mute-nullable computed (list ps) h = absurd (true≢false (sym h))
  mute-nullable computed (string s) h = refl
  mute-nullable computed no_string h = refl
  mute-nullable computed (boolean b) h = refl
  mute-nullable computed (literal v) h = refl

  quiet-after : (d e : Declares) (j : ℕ) → Quiet e → Quiet (cond (nat_eq (suc j) 0) d e)
  quiet-after d e j h = subst (λ (b : Bool). Quiet (cond b d e)) (sym (suc_not_zero j)) h

  module _ (own : ScopeId) (away : Away (Some own)) (m : ℕ) (l v : Option ScopeId) where
    nested-kinds : (ls : ℕ → Option ScopeId) (ps : Parts) → ((j : ℕ) → Away (ls j)) → 0 + gives_parts (λ j. declares.Statement (ls j) v) ps ≡ at_scope l 0 + at_scope v (total declarer.Other (var_items ps))
    nested-kinds ls ps h = omega (arith, nested-parts ls v ps h, at-zero l)

    catch-shape : (p q : Part) → total declarer.Other (var_part p) ≡ 0 → gives_parts (λ j. cond (nat_eq j 0) (in_scope (Some own)) (declares.Statement None v)) (more p (more q end)) ≡ at_scope v (total declarer.Other (var_items (more p (more q end))))
    catch-shape p q mute = omega (arith, away (total declarer.Other (bound_part no_class p)), at-append v declarer.Other (var_part p) (var_items (more q end)), at-append v declarer.Other (var_part q) (var_items end), at-zero v, ap (at_scope v) mute)

    statement-kinds : (kind : Kind) (ps : Parts) → Parts_conform kind ps → StatementGoal kind own m ps l v
    statement-kinds Kind.LabeledStatement ps h = omega (arith, statement-parts l v ps)
    statement-kinds Kind.IfStatement ps h = omega (arith, statement-parts l v ps)
    statement-kinds Kind.SwitchCase ps h = omega (arith, statement-parts l v ps)
    statement-kinds Kind.ExportNamedDeclaration ps h = omega (arith, statement-parts l v ps)
    statement-kinds Kind.ExportDefaultDeclaration ps h = omega (arith, statement-parts l v ps)
    statement-kinds Kind.WithStatement ps h = nested-kinds (λ j. None) ps (λ j. away-none)
    statement-kinds Kind.TryStatement ps h = nested-kinds (λ j. None) ps (λ j. away-none)
    statement-kinds Kind.WhileStatement ps h = nested-kinds (λ j. None) ps (λ j. away-none)
    statement-kinds Kind.DoWhileStatement ps h = nested-kinds (λ j. None) ps (λ j. away-none)
    statement-kinds Kind.ForStatement ps h = nested-kinds (λ j. cond (nat_eq j 0) (Some own) None) ps (λ j. away-cond (nat_eq j 0) _ _ away away-none)
    statement-kinds Kind.ForInStatement ps h = nested-kinds (λ j. cond (nat_eq j 0) (Some own) None) ps (λ j. away-cond (nat_eq j 0) _ _ away away-none)
    statement-kinds Kind.ForOfStatement ps h = nested-kinds (λ j. cond (nat_eq j 0) (Some own) None) ps (λ j. away-cond (nat_eq j 0) _ _ away away-none)
    statement-kinds Kind.SwitchStatement ps h = nested-kinds (λ j. cond (nat_eq j 1) (Some own) None) ps (λ j. away-cond (nat_eq j 1) _ _ away away-none)
    statement-kinds Kind.BlockStatement ps h = nested-kinds (λ j. Some own) ps (λ j. away)
    statement-kinds Kind.CatchClause ps h =
        let a = cons-of _ _ _ ps h in
        let b = cons-of _ _ _ a.rest a.others in
        let shape : ps ≡ more a.first (more b.first end) = a.is ∙ ap (more a.first) (b.is ∙ ap (more b.first) (nil-of _ b.rest b.others)) in
        subst (λ (qs : Parts). StatementGoal Kind.CatchClause own m qs l v) (sym shape) (omega (arith, catch-shape a.first b.first (mute-nullable _ a.first a.fits), at-zero l))
    statement-kinds Kind.FunctionDeclaration ps h = omega (arith, first-parts (in_function (in_scope l) own) l ps refl (λ j. quiet-after _ _ j (quiet-cond (nat_eq (suc j) 1) _ _ away away)), at-zero v)
    statement-kinds Kind.ClassDeclaration ps h = omega (arith, first-parts (in_first (in_scope l)) l ps refl (λ j. quiet-after _ _ j tt), at-zero v, ap (at_scope l) (total-part declarer.Other (class_declares m) (at 0 ps)))
    statement-kinds Kind.ImportDeclaration ps h = omega (arith, first-parts (in_first (in_scope l)) l ps refl (λ j. quiet-after _ _ j tt), at-zero v)
    statement-kinds Kind.VariableDeclaration ps h =
        let a = cons-of _ _ _ ps h in
        let b = cons-of _ _ _ a.rest a.others in
        let shape : ps ≡ more a.first (more b.first end) = a.is ∙ ap (more a.first) (b.is ∙ ap (more b.first) (nil-of _ b.rest b.others)) in
        subst (λ (qs : Parts). StatementGoal Kind.VariableDeclaration own m qs l v) (sym shape)
        (omega (arith, variables-shape m l v (is_var (more a.first (more b.first end))) (is_let (more a.first (more b.first end))) _ a.first b.first (word-plain _ _ a.first a.fits) b.fits))
    statement-kinds kind ps h = omega (arith, quiet-parts (declares_in kind own ps (declares.Statement l v)) ps (λ j. quiet-in own away kind ps declares.Nothing j tt), at-zero l, at-zero v)

    nothing-kinds : (kind : Kind) (ps : Parts) → own_held kind m ps declares.Nothing + gives_parts (declares_in kind own ps declares.Nothing) ps ≡ 0
    nothing-kinds Kind.BindingIdentifier ps = omega (arith, quiet-parts (declares_in Kind.BindingIdentifier own ps declares.Nothing) ps (λ j. quiet-in own away Kind.BindingIdentifier ps declares.Nothing j tt))
    nothing-kinds kind ps = omega (arith, quiet-parts (declares_in kind own ps declares.Nothing) ps (λ j. quiet-in own away kind ps declares.Nothing j tt))

  -- the body of a function
  abbrev BodyGoal : Kind → ScopeId → ℕ → Parts → ScopeId → Type 0
  BodyGoal kind own m ps q = own_held kind m ps (declares.Body q) + gives_parts (declares_in kind own ps (declares.Body q)) ps ≡ at_scope (Some q) (total declarer.Other (body_names (block_items (child (Node kind m None None ps)))))

  both-zero : (xs : Parts) → (total declarer.Other (lexical_items xs) ≡ 0) × (total declarer.Other (var_items xs) ≡ 0) → total declarer.Other (body_names xs) ≡ 0
  both-zero xs h = omega (arith, body-total xs, h.0, h.1)

  mute-list : (computed : Bool) (place : Place) (p : Part) → IsSilentPlace place → part_conforms computed (Sort.List place) p ≡ true → total declarer.Other (body_names (items p)) ≡ 0
  mute-list computed place (list ps) silent h = both-zero ps (mute-items false place ps silent h)
  mute-list computed place (child t) silent h = refl
  mute-list computed place absent silent h = refl
  mute-list computed place (string s) silent h = refl
  mute-list computed place no_string silent h = refl
  mute-list computed place (boolean b) silent h = refl
  mute-list computed place (literal v) silent h = refl

  mute-some : (computed : Bool) (place : Place) (p : Part) → IsSilentPlace place → part_conforms computed (Sort.NonEmptyList place) p ≡ true → total declarer.Other (body_names (items p)) ≡ 0
  mute-some computed place (list ps) silent h = both-zero ps (mute-items false place ps silent (and_parts _ _ h).1)
  mute-some computed place (child t) silent h = refl
  mute-some computed place absent silent h = refl
  mute-some computed place (string s) silent h = refl
  mute-some computed place no_string silent h = refl
  mute-some computed place (boolean b) silent h = refl
  mute-some computed place (literal v) silent h = refl

  mute-holes : (computed : Bool) (place : Place) (p : Part) → IsSilentPlace place → part_conforms computed (Sort.ListWithHoles place) p ≡ true → total declarer.Other (body_names (items p)) ≡ 0
  mute-holes computed place (list ps) silent h = both-zero ps (mute-items true place ps silent h)
  mute-holes computed place (child t) silent h = refl
  mute-holes computed place absent silent h = refl
  mute-holes computed place (string s) silent h = refl
  mute-holes computed place no_string silent h = refl
  mute-holes computed place (boolean b) silent h = refl
  mute-holes computed place (literal v) silent h = refl

  block-body : (q : ScopeId) (computed : Bool) (p : Part) → part_conforms computed (Sort.List Place.Statement) p ≡ true → at_scope (Some q) (total declarer.Other (lexical_part p)) + at_scope (Some q) (total declarer.Other (var_part p)) ≡ at_scope (Some q) (total declarer.Other (body_names (items p)))
  block-body q computed (list ps) h = omega (arith, at-plus (Some q) (total declarer.Other (lexical_items ps)) (total declarer.Other (var_items ps)), ap (at_scope (Some q)) (body-total ps))
  block-body q computed (child t) h = absurd (true≢false (sym h))
  block-body q computed absent h = omega (arith, at-zero (Some q))
  block-body q computed (string s) h = omega (arith, at-zero (Some q))
  block-body q computed no_string h = omega (arith, at-zero (Some q))
  block-body q computed (boolean b) h = omega (arith, at-zero (Some q))
  block-body q computed (literal v) h = omega (arith, at-zero (Some q))

  -- a body whose first part declares nothing
  silent-body : (kind : Kind) (own q : ScopeId) (m : ℕ) (ps : Parts) → own_held kind m ps (declares.Body q) + gives_parts (declares_in kind own ps (declares.Body q)) ps ≡ 0 → total declarer.Other (body_names (block_items (child (Node kind m None None ps)))) ≡ 0 → BodyGoal kind own m ps q
  silent-body kind own q m ps left right = omega (arith, left, ap (at_scope (Some q)) right, at-zero (Some q))

  module _ (own : ScopeId) (away : Away (Some own)) (m : ℕ) (q : ScopeId) where
    first-mute : (kind : Kind) (ps : Parts) (computed : Bool) (f : Field) (fs : List Field) → parts_conform computed (f ∷ fs) ps ≡ true → ((p : Part) → part_conforms computed f.sort p ≡ true → total declarer.Other (body_names (items p)) ≡ 0) → total declarer.Other (body_names (block_items (child (Node kind m None None ps)))) ≡ 0
    first-mute kind ps computed f fs h k =
        let a = cons-of computed f fs ps h in
        subst (λ (qs : Parts). total declarer.Other (body_names (block_items (child (Node kind m None None qs)))) ≡ 0) (sym a.is) (k a.first a.fits)

    body-kinds : (kind : Kind) (ps : Parts) → is_block_or_expression kind ≡ true → Parts_conform kind ps → BodyGoal kind own m ps q
    body-kinds Kind.BlockStatement ps is h =
        let a = cons-of _ _ _ ps h in
        let shape : ps ≡ more a.first end = a.is ∙ ap (more a.first) (nil-of _ a.rest a.others) in
        subst (λ (qs : Parts). BodyGoal Kind.BlockStatement own m qs q) (sym shape) (omega (arith, block-body q _ a.first a.fits))
    body-kinds Kind.ArrayExpression ps is h = silent-body Kind.ArrayExpression own q m ps (omega (arith, nothing-parts ps)) (first-mute Kind.ArrayExpression ps _ _ _ h (λ p fits. mute-holes _ Place.ExpressionOrSpread p silent-element fits))
    body-kinds Kind.ObjectExpression ps is h = silent-body Kind.ObjectExpression own q m ps (omega (arith, nothing-parts ps)) (first-mute Kind.ObjectExpression ps _ _ _ h (λ p fits. mute-list _ Place.ObjectMember p silent-property fits))
    body-kinds Kind.TemplateLiteral ps is h = silent-body Kind.TemplateLiteral own q m ps (omega (arith, nothing-parts ps)) (first-mute Kind.TemplateLiteral ps _ _ _ h (λ p fits. mute-list _ Place.TemplateElement p silent-quasi fits))
    body-kinds Kind.SequenceExpression ps is h = silent-body Kind.SequenceExpression own q m ps (omega (arith, nothing-parts ps)) (first-mute Kind.SequenceExpression ps _ _ _ h (λ p fits. mute-some _ Place.Expression p silent-expression fits))
    body-kinds Kind.ArrowFunctionExpression ps is h = silent-body Kind.ArrowFunctionExpression own q m ps (omega (arith, quiet-parts (in_arrow own) ps (λ j. quiet-in own away Kind.ArrowFunctionExpression ps declares.Nothing j tt))) (first-mute Kind.ArrowFunctionExpression ps _ _ _ h (λ p fits. mute-list _ Place.PatternOrRest p silent-parameter fits))
    body-kinds kind ps is h =
        silent-body kind own q m ps (omega (arith, quiet-parts (declares_in kind own ps (declares.Body q)) ps (λ j. quiet-in own away kind ps declares.Nothing j tt)))
        (ap (λ (qs : Parts). total declarer.Other (body_names qs)) (first-empty kind m _ (members_of kind) ps (by_implies (is_expression kind) (first_no_list (members_of kind)) refl is) h))

  -- ---- a tree

  below-after : (b : Bool) (m : ℕ) → n < m → n < cond b (m + 1) m
  below-after true m l = omega arith
  below-after false m l = omega arith

  below-more : (m k : ℕ) → n < m → m ≤ k → n < k
  below-more m k l le = omega arith

  own-away : (m : ℕ) → n < m → Away (Some (record { 0 = m }))
  own-away m l x = ap (λ b. cond b x 0) (above_is_other m n l)

  of-binding : (m : NodeId) (ps : Parts) (s : Surroundings) (d : Declares) → held (binding d m (string_of (at 0 ps)) s ∷ []) ≡ own_held Kind.BindingIdentifier m.0 ps d
  of-binding m ps s declares.Nothing = refl
  of-binding m ps s (declares.Statement lexical var) = refl
  of-binding m ps s (declares.Body q) = refl
  of-binding m ps s (declares.Pattern holder who) = omega arith

  of-scope : (m : NodeId) (s : Surroundings) (a b : Bool) (f : ScopeFlags) → held (option_to_list (cond a (Some (cond b (entry.Scope m s.scope s.in_parameters f) (entry.Body m))) None)) ≡ 0
  of-scope m s true true f = refl
  of-scope m s true false f = refl
  of-scope m s false b f = refl

  entry-held : (kind : Kind) (m : NodeId) (ps : Parts) (s : Surroundings) → held (option_to_list (entry_of kind m ps s)) ≡ own_held kind m.0 ps s.declares
  entry-held Kind.BindingIdentifier m ps s = of-binding m ps s s.declares
  entry-held Kind.IdentifierReference m ps s = refl
  entry-held kind m ps s = of-scope m s (has_scope kind) (opens kind (scope_place s)) (scope_flags kind s.given.0 (is_strict kind ps (scope_place s)))

  node-gives : (kind : Kind) (m next : ℕ) (ps : Parts) (place : Place) (d : Declares) → n < next → stands_in place kind ≡ true → fit_place d place ≡ true → Parts_conform kind ps → own_held kind m ps d + gives_parts (declares_in kind (record { 0 = next }) ps d) ps ≡ gives d (child (Node kind m None None ps))
  node-gives kind m next ps place declares.Nothing l stands fit h = nothing-kinds (record { 0 = next }) (own-away next l) m None None kind ps
  node-gives kind m next ps place (declares.Statement lexical var) l stands fit h = statement-kinds (record { 0 = next }) (own-away next l) m lexical var kind ps h
  node-gives kind m next ps place (declares.Body q) l stands fit h = body-kinds (record { 0 = next }) (own-away next l) m q kind ps (by_implies (stands_in place kind) (is_block_or_expression kind) (body-place place fit kind) stands) h
  node-gives kind m next ps place (declares.Pattern holder who) l stands fit h = pattern-node kind holder who m ps (record { 0 = next }) (by_implies (stands_in place kind) (is_pattern_kind kind) (binds-place place fit kind) stands) h

  -- where it stands, and its semantic id, are no part of it
  gives-anywhere : (d : Declares) (kind : Kind) (m : ℕ) (span : Option (ℕ × ℕ)) (id : Option ℕ) (ps : Parts) → gives d (child (Node kind m None None ps)) ≡ gives d (child (Node kind m span id ps))
  gives-anywhere declares.Nothing kind m span id ps = refl
  gives-anywhere (declares.Statement lexical var) kind m span id ps = refl
  gives-anywhere (declares.Body q) kind m span id end = refl
  gives-anywhere (declares.Body q) kind m span id (more p ps) = refl
  gives-anywhere (declares.Pattern holder who) kind m span id ps = refl

  joined : (x e o g t r : ℕ) → r ≡ e + g → e ≡ x + o → o + g ≡ t → r ≡ x + t
  joined x e o g t r a b d = omega arith

  mutual
    pub held-tree : (place : Place) (s : Surroundings) (c : Collected) (t : Tree) → conforms place t ≡ true → fit_place s.declares place ≡ true → n < c.next → held (collected s c t).entries ≡ held c.entries + gives s.declares (child t)
    held-tree place s c (Node kind m span id ps) h fit l =
        let rules = and_parts (stands_in place kind) _ h in
        let parts = (and_parts (kind_rule kind ps) _ (and_parts (place_rule place kind ps) _ rules.1).1).1 in
        let own : ScopeId = record { 0 = c.next } in
        joined (held c.entries) (held (entered kind (record { 0 = m }) ps s c).entries) (own_held kind m ps s.declares) (gives_parts (declares_in kind own ps s.declares) ps) (gives s.declares (child (Node kind m span id ps))) (held (collected s c (Node kind m span id ps)).entries)
        (held-parts (inside kind own ps s) 0 (entered kind (record { 0 = m }) ps s c) _ (members_of kind) ps (declares_in kind own ps s.declares) (λ j. let same : 0 + j ≡ j = omega arith in ap (declares_in kind own ps s.declares) (sym same)) parts (fit-parts kind own ps s.declares) (below-after (opens kind (scope_place s)) c.next l))
        (held-append c.entries (option_to_list (entry_of kind (record { 0 = m }) ps s)) ∙ ap (λ x. held c.entries + x) (entry-held kind (record { 0 = m }) ps s))
        (node-gives kind m c.next ps place s.declares l rules.0 fit parts ∙ gives-anywhere s.declares kind m span id ps)

    pub held-parts : (f : ℕ → Surroundings) (i : ℕ) (c : Collected) (computed : Bool) (fs : List Field) (ps : Parts) (ds : ℕ → Declares) → ((j : ℕ) → ds j ≡ (f (i + j)).declares) → parts_conform computed fs ps ≡ true → fit_all ds fs ≡ true → n < c.next → held (collected_parts f i c ps).entries ≡ held c.entries + gives_parts ds ps
    held-parts f i c computed fs end ds same h fit l = omega arith
    held-parts f i c computed [] (more p ps) ds same h fit l = absurd (true≢false (sym h))
    held-parts f i c computed (g ∷ fs) (more p ps) ds same h fit l =
        let both = and_parts (part_conforms computed g.sort p) (parts_conform computed fs ps) h in
        let fits = and_parts (fit_sort (ds 0) g.sort) (fit_all (λ j. ds (suc j)) fs) fit in
        let zero_th : i + 0 ≡ i = omega arith in
        let here : ds 0 ≡ (f i).declares = same 0 ∙ ap (λ (k : ℕ). (f k).declares) zero_th in
        omega (
          arith,
          held-part (f i) c computed g.sort p both.0 (ap (λ d. fit_sort d g.sort) (sym here) ∙ fits.0) l,
          ap (λ d. gives d p) here,
          held-parts f (i + 1) (collected_part (f i) c p) computed fs ps (λ j. ds (suc j)) (λ j. same (suc j) ∙ (let next : i + suc j ≡ (i + 1) + j = omega arith in ap (λ (k : ℕ). (f k).declares) next)) both.1 fits.1 (below-more c.next (collected_part (f i) c p).next l (more_in_part (f i) c p)),
        )

    pub held-part : (s : Surroundings) (c : Collected) (computed : Bool) (sort : Sort) (p : Part) → part_conforms computed sort p ≡ true → fit_sort s.declares sort ≡ true → n < c.next → held (collected_part s c p).entries ≡ held c.entries + gives s.declares p
    held-part s c computed (Sort.Child place) (child t) h fit l = held-tree place s c t h fit l
    held-part s c computed (Sort.Nullable place) (child t) h fit l = held-tree place s c t h fit l
    held-part s c computed (Sort.Key place) (child t) h fit l = held-tree (key_place computed place) s c t h (key-fits s.declares (key_place computed place) fit) l
    held-part s c computed sort (child t) h fit l = absurd (true≢false (sym h))
    held-part s c computed (Sort.List place) (list ps) h fit l = omega (arith, held-items s c false place ps h fit l, gives-list s.declares ps place fit)
    held-part s c computed (Sort.NonEmptyList place) (list ps) h fit l = omega (arith, held-items s c false place ps (and_parts _ _ h).1 fit l, gives-list s.declares ps place fit)
    held-part s c computed (Sort.ListWithHoles place) (list ps) h fit l = omega (arith, held-items s c true place ps h fit l, gives-list s.declares ps place fit)
    held-part s c computed sort (list ps) h fit l = absurd (true≢false (sym h))
    held-part s c computed sort absent h fit l = omega (arith, gives-absent s.declares)
    held-part s c computed sort (string b) h fit l = omega (arith, gives-string s.declares b)
    held-part s c computed sort no_string h fit l = omega (arith, gives-no_string s.declares)
    held-part s c computed sort (boolean b) h fit l = omega (arith, gives-boolean s.declares b)
    held-part s c computed sort (literal v) h fit l = omega (arith, gives-literal s.declares v)

    pub held-items : (s : Surroundings) (c : Collected) (holes : Bool) (place : Place) (ps : Parts) → items_conform holes place ps ≡ true → fit_list s.declares place ≡ true → n < c.next → held (collected_items s c ps).entries ≡ held c.entries + gives_items s.declares ps
    held-items s c holes place end h fit l = omega arith
    held-items s c holes place (more p ps) h fit l =
        let both = and_parts (item_conforms holes place p) _ h in
        omega (
          arith,
          held-item s c holes place p both.0 (list-fits s.declares place fit) l,
          held-items s (collected_part s c p) holes place ps (and_parts _ _ both.1).1 fit (below-more c.next (collected_part s c p).next l (more_in_part s c p)),
        )

    held-item : (s : Surroundings) (c : Collected) (holes : Bool) (place : Place) (p : Part) → item_conforms holes place p ≡ true → fit_place s.declares place ≡ true → n < c.next → held (collected_part s c p).entries ≡ held c.entries + gives s.declares p
    held-item s c holes place (child t) h fit l = held-tree place s c t h fit l
    held-item s c holes place absent h fit l = omega (arith, gives-absent s.declares)
    held-item s c holes place (list ps) h fit l = absurd (true≢false (sym h))
    held-item s c holes place (string b) h fit l = absurd (true≢false (sym h))
    held-item s c holes place no_string h fit l = absurd (true≢false (sym h))
    held-item s c holes place (boolean b) h fit l = absurd (true≢false (sym h))
    held-item s c holes place (literal v) h fit l = absurd (true≢false (sym h))

  -- ---- the scope of a node itself

  at-own : (x : ℕ) → at_scope (Some (record { 0 = n })) x ≡ x
  at-own x = ap (λ b. cond b x 0) ((Decides-eqb n n).1 refl)

  total-alone : (xs : List Declaration) → total declarer.Other (xs ++ []) ≡ total declarer.Other xs
  total-alone xs = omega (arith, total-append declarer.Other xs [])

  plain-mute : (p : Part) → IsPlain p → Mute p
  plain-mute (child t) h = absurd h
  plain-mute absent h = (refl, refl)
  plain-mute (list ps) h = absurd h
  plain-mute (string s) h = (refl, refl)
  plain-mute no_string h = (refl, refl)
  plain-mute (boolean b) h = (refl, refl)
  plain-mute (literal v) h = (refl, refl)

  plain-body : (p : Part) → IsPlain p → total declarer.Other (body_names (block_items p)) ≡ 0
  plain-body (child t) h = absurd h
  plain-body absent h = refl
  plain-body (list ps) h = absurd h
  plain-body (string s) h = refl
  plain-body no_string h = refl
  plain-body (boolean b) h = refl
  plain-body (literal v) h = refl

  list-lexical : (computed : Bool) (place : Place) (p : Part) → part_conforms computed (Sort.List place) p ≡ true → total declarer.Other (lexical_part p) ≡ total declarer.Other (lexical_items (items p))
  list-lexical computed place (list ps) h = refl
  list-lexical computed place (child t) h = absurd (true≢false (sym h))
  list-lexical computed place absent h = refl
  list-lexical computed place (string s) h = refl
  list-lexical computed place no_string h = refl
  list-lexical computed place (boolean b) h = refl
  list-lexical computed place (literal v) h = refl

  -- what the scope of a node holds, and what its parts declare there
  abbrev OwnGoal : Kind → ℕ → Parts → Declares → Type 0
  OwnGoal kind m ps d = gives_parts (declares_in kind (record { 0 = n }) ps d) ps ≡ node_weight w (Node kind m None None ps)

  abbrev mine : Option ScopeId
  mine = Some (record { 0 = n })

  program-own : (m : ℕ) (d : Declares) (computed : Bool) (a b : Part) → IsPlain a → part_conforms computed (Sort.List Place.Statement) b ≡ true → OwnGoal Kind.Program m (more a (more b end)) d
  program-own m d computed a b plain h = omega (arith, ap (at_scope mine) (plain-mute a plain).0, ap (at_scope mine) (plain-mute a plain).1, at-zero mine, block-body (record { 0 = n }) computed b h, at-own (total declarer.Other (body_names (items b))))

  static-own : (m : ℕ) (d : Declares) (computed : Bool) (a : Part) → part_conforms computed (Sort.List Place.Statement) a ≡ true → OwnGoal Kind.StaticBlock m (more a end) d
  static-own m d computed a h = omega (arith, block-body (record { 0 = n }) computed a h, at-own (total declarer.Other (body_names (items a))))

  declaration-own : (m : ℕ) (d : Declares) (a b c e f : Part) → Quiet d → IsPlain e → IsPlain f → OwnGoal Kind.FunctionDeclaration m (more a (more b (more c (more e (more f end))))) d
  declaration-own m d a b c e f quiet is_e is_f = omega (
    arith,
    quiet-lexical d quiet (total declarer.Other (bound_part no_class a)),
    at-own (total declarer.Parameter (bound_part no_class b)),
    at-own (total declarer.Other (body_names (block_items c))),
    at-own (total declarer.Other (body_names (block_items e))),
    plain-body e is_e,
    at-own (total declarer.Other (body_names (block_items f))),
    plain-body f is_f,
  )

  expression-own : (m : ℕ) (d : Declares) (a b c e f : Part) → IsPlain e → IsPlain f → OwnGoal Kind.FunctionExpression m (more a (more b (more c (more e (more f end))))) d
  expression-own m d a b c e f is_e is_f = omega (
    arith,
    at-own (total declarer.OwnName (bound_part no_class a)),
    at-own (total declarer.Parameter (bound_part no_class b)),
    at-own (total declarer.Other (body_names (block_items c))),
    at-own (total declarer.Other (body_names (block_items e))),
    plain-body e is_e,
    at-own (total declarer.Other (body_names (block_items f))),
    plain-body f is_f,
  )

  arrow-own : (m : ℕ) (d : Declares) (a b c : Part) → IsPlain c → OwnGoal Kind.ArrowFunctionExpression m (more a (more b (more c end))) d
  arrow-own m d a b c is_c = omega (
    arith,
    at-own (total declarer.Parameter (bound_part no_class a)),
    at-own (total declarer.Other (body_names (block_items b))),
    at-own (total declarer.Other (body_names (block_items c))),
    plain-body c is_c,
  )

  away-later : (j : ℕ) → Away (cond (nat_eq (suc j) 0) mine None)
  away-later j = subst (λ (b : Bool). Away (cond b mine None)) (sym (suc_not_zero j)) away-none

  loop-own : (v : Option ScopeId) (ps : Parts) → Away v → gives_parts (λ j. declares.Statement (cond (nat_eq j 0) mine None) v) ps ≡ total declarer.Other (lexical_part (at 0 ps))
  loop-own v end away = refl
  loop-own v (more p ps) away = omega (arith, at-own (total declarer.Other (lexical_part p)), away (total declarer.Other (var_part p)), quiet-parts (λ j. declares.Statement (cond (nat_eq (suc j) 0) mine None) v) ps (λ j. (away-later j, away)))

  switch-own : (v : Option ScopeId) (a b : Part) → Away v → gives_parts (λ j. declares.Statement (cond (nat_eq j 1) mine None) v) (more a (more b end)) ≡ total declarer.Other (lexical_part b)
  switch-own v a b away = omega (arith, away (total declarer.Other (var_part a)), at-own (total declarer.Other (lexical_part b)), away (total declarer.Other (var_part b)))

  block-own : (v : Option ScopeId) (computed : Bool) (a : Part) → Away v → part_conforms computed (Sort.List Place.Statement) a ≡ true → gives_parts (λ j. declares.Statement mine v) (more a end) ≡ total declarer.Other (lexical_items (items a))
  block-own v computed a away h = omega (arith, at-own (total declarer.Other (lexical_part a)), away (total declarer.Other (var_part a)), list-lexical computed Place.Statement a h)

  catch-own : (v : Option ScopeId) (a b : Part) → Away v → gives_parts (λ j. cond (nat_eq j 0) (in_scope mine) (declares.Statement None v)) (more a (more b end)) ≡ total declarer.Other (bound_part no_class a)
  catch-own v a b away = omega (arith, at-own (total declarer.Other (bound_part no_class a)), away (total declarer.Other (var_part b)))

  boolean-plain : (computed : Bool) (p : Part) → part_conforms computed Sort.Boolean p ≡ true → IsPlain p
  boolean-plain computed (child t) h = true≢false (sym h)
  boolean-plain computed absent h = tt
  boolean-plain computed (list ps) h = true≢false (sym h)
  boolean-plain computed (string s) h = tt
  boolean-plain computed no_string h = tt
  boolean-plain computed (boolean b) h = tt
  boolean-plain computed (literal v) h = tt

  abbrev NoBody : Declares → Type 0
  NoBody d = IsNoBody d

  block-kinds : (m : ℕ) (d : Declares) (computed : Bool) (a : Part) → Quiet d → NoBody d → part_conforms computed (Sort.List Place.Statement) a ≡ true → OwnGoal Kind.BlockStatement m (more a end) d
  block-kinds m declares.Nothing computed a quiet none h = omega (arith, block-own None computed a away-none h)
  block-kinds m (declares.Statement lexical var) computed a quiet none h = omega (arith, block-own var computed a quiet.1 h)
  block-kinds m (declares.Body s) computed a quiet none h = absurd none
  block-kinds m (declares.Pattern holder who) computed a quiet none h = omega (arith, block-own None computed a away-none h)

  own-kinds : (kind : Kind) (m : ℕ) (ps : Parts) (d : Declares) → has_scope kind ≡ true → Quiet d → (kind ≡ Kind.BlockStatement → NoBody d) → Parts_conform kind ps → OwnGoal kind m ps d
  own-kinds Kind.Program m ps d is quiet none h =
      let a = cons-of _ _ _ ps h in
      let b = cons-of _ _ _ a.rest a.others in
      let shape : ps ≡ more a.first (more b.first end) = a.is ∙ ap (more a.first) (b.is ∙ ap (more b.first) (nil-of _ b.rest b.others)) in
      subst (λ (qs : Parts). OwnGoal Kind.Program m qs d) (sym shape) (program-own m d _ a.first b.first (word-plain _ _ a.first a.fits) b.fits)
  own-kinds Kind.StaticBlock m ps d is quiet none h =
      let a = cons-of _ _ _ ps h in
      let shape : ps ≡ more a.first end = a.is ∙ ap (more a.first) (nil-of _ a.rest a.others) in
      subst (λ (qs : Parts). OwnGoal Kind.StaticBlock m qs d) (sym shape) (static-own m d _ a.first a.fits)
  own-kinds Kind.FunctionDeclaration m ps d is quiet none h =
      let a = cons-of _ _ _ ps h in
      let b = cons-of _ _ _ a.rest a.others in
      let c = cons-of _ _ _ b.rest b.others in
      let e = cons-of _ _ _ c.rest c.others in
      let f = cons-of _ _ _ e.rest e.others in
      let shape : ps ≡ more a.first (more b.first (more c.first (more e.first (more f.first end)))) = a.is ∙ ap (more a.first) (b.is ∙ ap (more b.first) (c.is ∙ ap (more c.first) (e.is ∙ ap (more e.first) (f.is ∙ ap (more f.first) (nil-of _ f.rest f.others))))) in
      subst (λ (qs : Parts). OwnGoal Kind.FunctionDeclaration m qs d) (sym shape) (declaration-own m d a.first b.first c.first e.first f.first quiet (boolean-plain _ e.first e.fits) (boolean-plain _ f.first f.fits))
  own-kinds Kind.FunctionExpression m ps d is quiet none h =
      let a = cons-of _ _ _ ps h in
      let b = cons-of _ _ _ a.rest a.others in
      let c = cons-of _ _ _ b.rest b.others in
      let e = cons-of _ _ _ c.rest c.others in
      let f = cons-of _ _ _ e.rest e.others in
      let shape : ps ≡ more a.first (more b.first (more c.first (more e.first (more f.first end)))) = a.is ∙ ap (more a.first) (b.is ∙ ap (more b.first) (c.is ∙ ap (more c.first) (e.is ∙ ap (more e.first) (f.is ∙ ap (more f.first) (nil-of _ f.rest f.others))))) in
      subst (λ (qs : Parts). OwnGoal Kind.FunctionExpression m qs d) (sym shape) (expression-own m d a.first b.first c.first e.first f.first (boolean-plain _ e.first e.fits) (boolean-plain _ f.first f.fits))
  own-kinds Kind.ArrowFunctionExpression m ps d is quiet none h =
      let a = cons-of _ _ _ ps h in
      let b = cons-of _ _ _ a.rest a.others in
      let c = cons-of _ _ _ b.rest b.others in
      let shape : ps ≡ more a.first (more b.first (more c.first end)) = a.is ∙ ap (more a.first) (b.is ∙ ap (more b.first) (c.is ∙ ap (more c.first) (nil-of _ c.rest c.others))) in
      subst (λ (qs : Parts). OwnGoal Kind.ArrowFunctionExpression m qs d) (sym shape) (arrow-own m d a.first b.first c.first (boolean-plain _ c.first c.fits))
  own-kinds Kind.ClassDeclaration m ps d is quiet none h = omega (arith, quiet-parts (in_first (in_scope (lexical_scope d))) ps (λ j. quiet-cond (nat_eq j 0) _ _ (quiet-lexical d quiet) tt))
  own-kinds Kind.ClassExpression m ps d is quiet none h = omega (arith, first-parts (in_first (in_scope mine)) mine ps refl (λ j. quiet-after _ _ j tt), at-own (total declarer.Other (bound_part no_class (at 0 ps))), total-part declarer.Other (class_own m) (at 0 ps))
  own-kinds Kind.BlockStatement m ps d is quiet none h =
      let a = cons-of _ _ _ ps h in
      let shape : ps ≡ more a.first end = a.is ∙ ap (more a.first) (nil-of _ a.rest a.others) in
      subst (λ (qs : Parts). OwnGoal Kind.BlockStatement m qs d) (sym shape) (block-kinds m d _ a.first quiet (none refl) a.fits)
  own-kinds Kind.ForStatement m ps d is quiet none h = omega (arith, loop-own (var_scope d) ps (quiet-var d quiet))
  own-kinds Kind.ForInStatement m ps d is quiet none h = omega (arith, loop-own (var_scope d) ps (quiet-var d quiet))
  own-kinds Kind.ForOfStatement m ps d is quiet none h = omega (arith, loop-own (var_scope d) ps (quiet-var d quiet))
  own-kinds Kind.SwitchStatement m ps d is quiet none h =
      let a = cons-of _ _ _ ps h in
      let b = cons-of _ _ _ a.rest a.others in
      let shape : ps ≡ more a.first (more b.first end) = a.is ∙ ap (more a.first) (b.is ∙ ap (more b.first) (nil-of _ b.rest b.others)) in
      subst (λ (qs : Parts). OwnGoal Kind.SwitchStatement m qs d) (sym shape) (omega (arith, switch-own (var_scope d) a.first b.first (quiet-var d quiet)))
  own-kinds Kind.CatchClause m ps d is quiet none h =
      let a = cons-of _ _ _ ps h in
      let b = cons-of _ _ _ a.rest a.others in
      let shape : ps ≡ more a.first (more b.first end) = a.is ∙ ap (more a.first) (b.is ∙ ap (more b.first) (nil-of _ b.rest b.others)) in
      subst (λ (qs : Parts). OwnGoal Kind.CatchClause m qs d) (sym shape) (omega (arith, catch-own (var_scope d) a.first b.first (quiet-var d quiet)))
  own-kinds kind m ps d is quiet none h = absurd (true≢false (sym is))

  -- a node with a scope is no identifier
  own-plus : (kind : Kind) (m : ℕ) (ps : Parts) (d : Declares) (x y : ℕ) → has_scope kind ≡ true → x ≡ y → own_held kind m ps d + x ≡ y
  own-plus Kind.BindingIdentifier m ps d x y is e = absurd (true≢false (sym is))
  own-plus kind m ps d x y is e = omega arith

  -- the scope of a node gets the names that `es_steps` collects for it
  pub own-tree : (place : Place) (s : Surroundings) (c : Collected) (kind : Kind) (m : ℕ) (span : Option (ℕ × ℕ)) (id : Option ℕ) (ps : Parts) → conforms place (Node kind m span id ps) ≡ true → has_scope kind ≡ true → opens kind (scope_place s) ≡ true → c.next ≡ n → Quiet s.declares → (kind ≡ Kind.BlockStatement → NoBody s.declares) → held (collected s c (Node kind m span id ps)).entries ≡ held c.entries + node_weight w (Node kind m span id ps)
  own-tree place s c kind m span id ps h has is_open next quiet none =
      let rules = and_parts (stands_in place kind) _ h in
      let parts = (and_parts (kind_rule kind ps) _ (and_parts (place_rule place kind ps) _ rules.1).1).1 in
      let own : ScopeId = record { 0 = c.next } in
      let after : n < cond (opens kind (scope_place s)) (c.next + 1) c.next = subst (λ (b : Bool). n < cond b (c.next + 1) c.next) (sym is_open) (omega (arith, next)) in
      joined (held c.entries) (held (entered kind (record { 0 = m }) ps s c).entries) (own_held kind m ps s.declares) (gives_parts (declares_in kind own ps s.declares) ps) (node_weight w (Node kind m span id ps)) (held (collected s c (Node kind m span id ps)).entries)
      (held-parts (inside kind own ps s) 0 (entered kind (record { 0 = m }) ps s c) _ (members_of kind) ps (declares_in kind own ps s.declares) (λ j. let same : 0 + j ≡ j = omega arith in ap (declares_in kind own ps s.declares) (sym same)) parts (fit-parts kind own ps s.declares) after)
      (held-append c.entries (option_to_list (entry_of kind (record { 0 = m }) ps s)) ∙ ap (λ x. held c.entries + x) (entry-held kind (record { 0 = m }) ps s))
      (own-plus kind m ps s.declares _ _ has (ap (λ (q : ℕ). gives_parts (declares_in kind (record { 0 = q }) ps s.declares) ps) next ∙ own-kinds kind m ps s.declares has quiet none parts))

pub program-names : (w : Declarer → ℕ → List ℕ → ℕ) (m : ℕ) (span : Option (ℕ × ℕ)) (id : Option ℕ) (ps : Parts) → conforms Place.Program (Node Kind.Program m span id ps) ≡ true → held_weight w 0 (entries_of (Node Kind.Program m span id ps)) ≡ node_weight w (Node Kind.Program m span id ps)
program-names w m span id ps h = own-tree w 0 Place.Program nowhere nothing_yet Kind.Program m span id ps h refl refl refl tt (λ e. tt) ∙ omega arith

statement-given : (w : Declarer → ℕ → List ℕ → ℕ) (n : ℕ) (d : Declares) (lexical var : Option ScopeId) (t : Tree) → d ≡ declares.Statement lexical var → given_weight w n d (child t) ≡ scope_gets n lexical (weight (w declarer.Other) (lexical_names t)) + scope_gets n var (weight (w declarer.Other) (var_names t))
statement-given w n d lexical var t is = ap (λ e. given_weight w n e (child t)) is

pub statement-names : (w : Declarer → ℕ → List ℕ → ℕ) (n : ℕ) (s : Surroundings) (c : Collected) (lexical var : Option ScopeId) (t : Tree) → conforms Place.Statement t ≡ true → s.declares ≡ declares.Statement lexical var → n < c.next → held_weight w n (collected s c t).entries ≡ held_weight w n c.entries + (scope_gets n lexical (weight (w declarer.Other) (lexical_names t)) + scope_gets n var (weight (w declarer.Other) (var_names t)))
statement-names w n s c lexical var t h is l = held-tree w n Place.Statement s c t h (ap (λ d. fit_place d Place.Statement) is) l ∙ ap (λ x. held_weight w n c.entries + x) (statement-given w n s.declares lexical var t is)
