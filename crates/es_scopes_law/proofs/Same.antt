-- What does not see semantic ids: the entries of a tree, conformity, and the numbers of nodes.
use Rattle.std.proofs.Common.{◌≡◌, refl, sym, ap, ◌∙◌, ℕ, zero, suc, ◌+◌, List, [], ◌∷◌, ◌++◌, map, nat_eq, Bool, true, false, cond, ◌&&◌, ◌||◌, not, Option, Some, None}
use Rattle.std.specs.Prelude.{codes, bytes_eq, option_to_list}
use Rattle.std.proofs.lemmas.List.{map-append}
use Rattle.es_base.specs.Conforms.{conforms, parts_conform, part_conforms, items_conform, item_conforms, place_rule, kind_rule, boolean_at, is_key_literal, is_target_place, item_count, is_pattern_child, local_rule, local_rules, is_rest, is_end, key_place}
use Rattle.es_base.specs.Numbered.{numbers}
use Rattle.es_base.specs.Preorder.{preorder, preorder_of, preorder_of_part, number_of, one_if}
use Rattle.es_base.specs.Table.{Field, members_of, stands_in}
use Rattle.es_base.specs.Tree.{Tree, Part, Parts, Node, end, more, child, absent, list, string, no_string, boolean, literal}
use Rattle.es_base.specs.declared.ids.NodeId.{NodeId}
use Rattle.es_base.specs.declared.ids.ScopeId.{ScopeId}
use Rattle.es_base.specs.declared.kind.Kind.{Kind}
use Rattle.es_base.specs.declared.literal.LiteralValue.{LiteralValue}
use Rattle.es_base.specs.declared.literal.LiteralValue.TheVariants as value
use Rattle.es_base.specs.declared.table.Place.{Place}
use Rattle.es_base.specs.declared.table.Sort.{Sort}
use Rattle.es_node.specs.Bearing.{bears_semantic_id}
use Rattle.es_scopes.specs.Built.{built_table}
use Rattle.es_scopes.specs.Entries.{Collected, scope_entry, entry_of, entered, collected, collected_parts, collected_part, collected_items, nothing_yet, entries_of, binding}
use Rattle.es_scopes.specs.NodeBindings.{flags_in, in_head, variable_flags}
use Rattle.es_scopes.specs.NodeReferences.{use_in, assignment_flags}
use Rattle.es_scopes.specs.NodeScopes.{opens, has_scope, value_flags, flags_of_word}
use Rattle.es_steps.specs.Strict.{is_use_strict, has_use_strict, directives, makes_strict}
use Rattle.es_scopes.specs.Surroundings.{scope_place, inside, declares_in, in_scope, var_scope, lexical_scope, nowhere}
use Rattle.es_scopes.specs.Tables.{numbering_of}
use Rattle.es_scopes.specs.declared.entry.Entry.{Entry}
use Rattle.es_scopes.specs.declared.entry.Entry.TheVariants as entry
use Rattle.es_scopes.specs.declared.surroundings.Declares.{Declares}
use Rattle.es_scopes.specs.declared.surroundings.Surroundings.{Surroundings}
use Rattle.es_scopes_law.specs.Build.{built_tree}
use Rattle.es_scopes_law.specs.Written.{written, written_part, written_parts, bearers_of_part}
use Rattle.es_steps.specs.Parts.{at, items, string_of}

module _ (ids : List (Option ℕ)) where
  -- ---- strings and directives

  string-part : (n : ℕ) (p : Part) → string_of (written_part ids n p) ≡ string_of p
  string-part n (child t) = refl
  string-part n absent = refl
  string-part n (list ps) = refl
  string-part n (string s) = refl
  string-part n no_string = refl
  string-part n (boolean b) = refl
  string-part n (literal v) = refl

  string-at : (i n : ℕ) (ps : Parts) → string_of (at i (written_parts ids n ps)) ≡ string_of (at i ps)
  string-at i n end = refl
  string-at zero n (more p ps) = string-part n p
  string-at (suc i) n (more p ps) = string-at i (n + bearers_of_part p) ps

  directive-part : (n : ℕ) (p : Part) → is_use_strict (written_part ids n p) ≡ is_use_strict p
  directive-part n (child (Node Kind.ExpressionStatement m span id ps)) = ap (λ s. bytes_eq s (codes "use strict")) (string-at 1 (n + one_if (bears_semantic_id Kind.ExpressionStatement)) ps)
  directive-part n (child (Node kind m span id ps)) = refl
  directive-part n absent = refl
  directive-part n (list ps) = refl
  directive-part n (string s) = refl
  directive-part n no_string = refl
  directive-part n (boolean b) = refl
  directive-part n (literal v) = refl

  directives-parts : (n : ℕ) (ps : Parts) → has_use_strict (written_parts ids n ps) ≡ has_use_strict ps
  directives-parts n end = refl
  directives-parts n (more p ps) = λ i. directive-part n p i || directives-parts (n + bearers_of_part p) ps i

  directives-items : (n : ℕ) (p : Part) → has_use_strict (items (written_part ids n p)) ≡ has_use_strict (items p)
  directives-items n (list ps) = directives-parts n ps
  directives-items n (child t) = refl
  directives-items n absent = refl
  directives-items n (string s) = refl
  directives-items n no_string = refl
  directives-items n (boolean b) = refl
  directives-items n (literal v) = refl

  items-at : (i n : ℕ) (ps : Parts) → has_use_strict (items (at i (written_parts ids n ps))) ≡ has_use_strict (items (at i ps))
  items-at i n end = refl
  items-at zero n (more p ps) = directives-items n p
  items-at (suc i) n (more p ps) = items-at i (n + bearers_of_part p) ps

  body-part : (n : ℕ) (p : Part) → has_use_strict (directives (written_part ids n p)) ≡ has_use_strict (directives p)
  body-part n (child (Node Kind.BlockStatement m span id ps)) = items-at 0 (n + one_if (bears_semantic_id Kind.BlockStatement)) ps
  body-part n (child (Node kind m span id ps)) = refl
  body-part n absent = refl
  body-part n (list ps) = refl
  body-part n (string s) = refl
  body-part n no_string = refl
  body-part n (boolean b) = refl
  body-part n (literal v) = refl

  body-at : (i n : ℕ) (ps : Parts) → has_use_strict (directives (at i (written_parts ids n ps))) ≡ has_use_strict (directives (at i ps))
  body-at i n end = refl
  body-at zero n (more p ps) = body-part n p
  body-at (suc i) n (more p ps) = body-at i (n + bearers_of_part p) ps

  strict-same : (kind : Kind) (n : ℕ) (ps : Parts) → makes_strict kind (written_parts ids n ps) ≡ makes_strict kind ps
  strict-same Kind.Program n ps = λ i. bytes_eq (string-at 0 n ps i) (codes "module") || items-at 1 n ps i
  strict-same Kind.FunctionDeclaration n ps = body-at 2 n ps
  strict-same Kind.FunctionExpression n ps = body-at 2 n ps
  strict-same Kind.ArrowFunctionExpression n ps = body-at 1 n ps
  strict-same kind n ps = refl

  -- ---- what is known in the parts

  declares-same : (kind : Kind) (own : ScopeId) (n : ℕ) (ps : Parts) (d : Declares) (i : ℕ) → declares_in kind own (written_parts ids n ps) d i ≡ declares_in kind own ps d i
  declares-same Kind.VariableDeclaration own n ps d i = ap (λ s. in_scope (cond (bytes_eq s (codes "var")) (var_scope d) (lexical_scope d))) (string-at 0 n ps)
  declares-same kind own n ps d i = refl

  value-same : (kind : Kind) (n : ℕ) (ps : Parts) (i : ℕ) → value_flags kind (written_parts ids n ps) i ≡ value_flags kind ps i
  value-same Kind.MethodDefinition n ps i = ap (λ s. cond (nat_eq i 1) (flags_of_word s) 0) (string-at 2 n ps)
  value-same Kind.Property n ps i = ap (λ s. cond (nat_eq i 1) (flags_of_word s) 0) (string-at 2 n ps)
  value-same kind n ps i = refl

  flags-same : (kind : Kind) (n : ℕ) (ps : Parts) (around i : ℕ) → flags_in kind (written_parts ids n ps) around i ≡ flags_in kind ps around i
  flags-same Kind.VariableDeclaration n ps around i = ap variable_flags (string-at 0 n ps)
  flags-same kind n ps around i = refl

  head-same : (kind : Kind) (n : ℕ) (ps : Parts) (around : Bool) (i : ℕ) → in_head kind (written_parts ids n ps) around i ≡ in_head kind ps around i
  head-same Kind.VariableDeclaration n ps around i = ap (λ s. around && bytes_eq s (codes "var")) (string-at 0 n ps)
  head-same kind n ps around i = refl

  use-same : (kind : Kind) (n : ℕ) (ps : Parts) (around i : ℕ) → use_in kind (written_parts ids n ps) around i ≡ use_in kind ps around i
  use-same Kind.AssignmentExpression n ps around i = ap (λ s. cond (nat_eq i 1) (assignment_flags s) 1) (string-at 0 n ps)
  use-same kind n ps around i = refl

  inside-same : (kind : Kind) (own : ScopeId) (n : ℕ) (ps : Parts) (s : Surroundings) → inside kind own (written_parts ids n ps) s ≡ inside kind own ps s
  inside-same kind own n ps s = λ k i. record {
    scope = (inside kind own ps s i).scope;
    in_parameters = (inside kind own ps s i).in_parameters;
    declares = declares-same kind own n ps s.declares i k;
    strict = s.strict || strict-same kind n ps k;
    is_body = (inside kind own ps s i).is_body;
    given = record { 0 = value-same kind n ps i k };
    symbol_flags = record { 0 = flags-same kind n ps s.symbol_flags.0 i k };
    head_var = head-same kind n ps s.head_var i k;
    usage = record { 0 = use-same kind n ps s.usage.0 i k };
  }

  entry-same : (kind : Kind) (m : NodeId) (n : ℕ) (ps : Parts) (s : Surroundings) → entry_of kind m (written_parts ids n ps) s ≡ entry_of kind m ps s
  entry-same Kind.BindingIdentifier m n ps s = ap (λ x. Some (binding s.declares m x s)) (string-at 0 n ps)
  entry-same Kind.IdentifierReference m n ps s = ap (λ x. Some (entry.Reference m s.scope s.in_parameters x s.usage)) (string-at 0 n ps)
  entry-same kind m n ps s = ap (λ b. cond (has_scope kind) (Some (scope_entry kind m (s.strict || b) s)) None) (strict-same kind n ps)

  entered-same : (kind : Kind) (m : NodeId) (n : ℕ) (ps : Parts) (s : Surroundings) (c : Collected) → entered kind m (written_parts ids n ps) s c ≡ entered kind m ps s c
  entered-same kind m n ps s c = ap (λ e. record { entries = c.entries ++ option_to_list e; next = cond (opens kind (scope_place s)) (c.next + 1) c.next }) (entry-same kind m n ps s)

  mutual
    collected-same : (s : Surroundings) (c : Collected) (n : ℕ) (t : Tree) → collected s c (written ids n t) ≡ collected s c t
    collected-same s c n (Node kind m span id ps) =
        let k = n + one_if (bears_semantic_id kind) in
        (λ i. collected_parts (inside-same kind (record { 0 = c.next }) k ps s i) 0 (entered-same kind (record { 0 = m }) k ps s c i) (written_parts ids k ps))
        ∙ parts-same (inside kind (record { 0 = c.next }) ps s) 0 (entered kind (record { 0 = m }) ps s c) k ps

    parts-same : (f : ℕ → Surroundings) (i : ℕ) (c : Collected) (n : ℕ) (ps : Parts) → collected_parts f i c (written_parts ids n ps) ≡ collected_parts f i c ps
    parts-same f i c n end = refl
    parts-same f i c n (more p ps) = ap (λ (x : Collected). collected_parts f (i + 1) x (written_parts ids (n + bearers_of_part p) ps)) (part-same (f i) c n p) ∙ parts-same f (i + 1) (collected_part (f i) c p) (n + bearers_of_part p) ps

    part-same : (s : Surroundings) (c : Collected) (n : ℕ) (p : Part) → collected_part s c (written_part ids n p) ≡ collected_part s c p
    part-same s c n (child t) = collected-same s c n t
    part-same s c n absent = refl
    part-same s c n (list ps) = items-same s c n ps
    part-same s c n (string b) = refl
    part-same s c n no_string = refl
    part-same s c n (boolean b) = refl
    part-same s c n (literal v) = refl

    items-same : (s : Surroundings) (c : Collected) (n : ℕ) (ps : Parts) → collected_items s c (written_parts ids n ps) ≡ collected_items s c ps
    items-same s c n end = refl
    items-same s c n (more p ps) = ap (λ (x : Collected). collected_items s x (written_parts ids (n + bearers_of_part p) ps)) (part-same s c n p) ∙ items-same s (collected_part s c p) (n + bearers_of_part p) ps

  -- ---- conformity

  boolean-same : (name : List ℕ) (fs : List Field) (n : ℕ) (ps : Parts) → boolean_at name fs (written_parts ids n ps) ≡ boolean_at name fs ps
  boolean-same name [] n end = refl
  boolean-same name [] n (more p ps) = refl
  boolean-same name (f ∷ fs) n end = refl
  boolean-same name (f ∷ fs) n (more (boolean b) ps) = ap (λ r. (bytes_eq f.name name && b) || r) (boolean-same name fs (n + 0) ps)
  boolean-same name (f ∷ fs) n (more (child t) ps) = boolean-same name fs (n + bearers_of_part (child t)) ps
  boolean-same name (f ∷ fs) n (more absent ps) = boolean-same name fs (n + 0) ps
  boolean-same name (f ∷ fs) n (more (list qs) ps) = boolean-same name fs (n + bearers_of_part (list qs)) ps
  boolean-same name (f ∷ fs) n (more (string s) ps) = boolean-same name fs (n + 0) ps
  boolean-same name (f ∷ fs) n (more no_string ps) = boolean-same name fs (n + 0) ps
  boolean-same name (f ∷ fs) n (more (literal v) ps) = boolean-same name fs (n + 0) ps

  key-same : (n : ℕ) (ps : Parts) → is_key_literal (written_parts ids n ps) ≡ is_key_literal ps
  key-same n end = refl
  key-same n (more (literal v) ps) = literal-same v
    where
      literal-same : (v : LiteralValue) → is_key_literal (more (literal v) (written_parts ids (n + 0) ps)) ≡ is_key_literal (more (literal v) ps)
      literal-same (value.String s raw) = refl
      literal-same v = refl
  key-same n (more (child t) ps) = refl
  key-same n (more p ps) = refl

  place-same : (p : Place) (kind : Kind) (n : ℕ) (ps : Parts) → place_rule p kind (written_parts ids n ps) ≡ place_rule p kind ps
  place-same Place.PropertyKey Kind.Literal n ps = key-same n ps
  place-same Place.ClassKey Kind.Literal n ps = key-same n ps
  place-same p kind n ps = ap (λ b. not (is_target_place p && b)) (boolean-same (codes "optional") (members_of kind) n ps)

  count-same : (n : ℕ) (ps : Parts) → item_count (written_parts ids n ps) ≡ item_count ps
  count-same n end = refl
  count-same n (more p ps) = ap (λ (k : ℕ). k + 1) (count-same (n + bearers_of_part p) ps)

  pattern-same : (n : ℕ) (p : Part) → is_pattern_child (written_part ids n p) ≡ is_pattern_child p
  pattern-same n (child (Node Kind.Program m span id ps)) = refl
  pattern-same n (child (Node kind m span id ps)) = refl
  pattern-same n p = refl

  local-same : (k n : ℕ) (p source : Part) → local_rule (written_part ids k p) (written_part ids n source) ≡ local_rule p source
  local-same k n (child (Node Kind.ExportSpecifier m span id (more (child (Node Kind.IdentifierReference a b c qs)) rest))) absent = refl
  local-same k n (child (Node Kind.ExportSpecifier m span id (more (child (Node Kind.IdentifierReference a b c qs)) rest))) (child t) = refl
  local-same k n (child (Node Kind.ExportSpecifier m span id (more (child (Node Kind.IdentifierReference a b c qs)) rest))) p = refl
  local-same k n (child (Node Kind.ExportSpecifier m span id (more (child (Node Kind.IdentifierName a b c qs)) rest))) absent = refl
  local-same k n (child (Node Kind.ExportSpecifier m span id (more (child (Node Kind.IdentifierName a b c qs)) rest))) (child t) = refl
  local-same k n (child (Node Kind.ExportSpecifier m span id (more (child (Node Kind.IdentifierName a b c qs)) rest))) p = refl
  local-same k n (child (Node Kind.ExportSpecifier m span id (more (child (Node kind a b c qs)) rest))) source = refl
  local-same k n (child (Node Kind.ExportSpecifier m span id (more p rest))) source = refl
  local-same k n (child (Node Kind.ExportSpecifier m span id end)) source = refl
  local-same k n (child (Node kind m span id ps)) source = refl
  local-same k n p source = refl

  locals-same : (k n : ℕ) (ps : Parts) (source : Part) → local_rules (written_parts ids k ps) (written_part ids n source) ≡ local_rules ps source
  locals-same k n end source = refl
  locals-same k n (more p ps) source = λ i. local-same k n p source i && locals-same (k + bearers_of_part p) n ps source i

  kind-same : (kind : Kind) (n : ℕ) (ps : Parts) → kind_rule kind (written_parts ids n ps) ≡ kind_rule kind ps
  kind-same Kind.TemplateLiteral n (more (list quasis) (more (list expressions) end)) = λ i. nat_eq (count-same n quasis i) (count-same (n + bearers_of_part (list quasis)) expressions i + 1)
  kind-same Kind.AssignmentExpression n (more (string operator) (more left rest)) = ap (λ b. bytes_eq operator (codes "=") || not b) (pattern-same (n + 0) left)
  kind-same Kind.ExportNamedDeclaration n (more declaration (more (list specifiers) (more source end))) = locals-same (n + bearers_of_part declaration) ((n + bearers_of_part declaration) + bearers_of_part (list specifiers)) specifiers source
  kind-same kind n ps = refl

  rest-same : (n : ℕ) (p : Part) → is_rest (written_part ids n p) ≡ is_rest p
  rest-same n (child (Node Kind.Program m span id ps)) = refl
  rest-same n (child (Node kind m span id ps)) = refl
  rest-same n p = refl

  end-same : (n : ℕ) (ps : Parts) → is_end (written_parts ids n ps) ≡ is_end ps
  end-same n end = refl
  end-same n (more p ps) = refl

  mutual
    conforms-same : (p : Place) (n : ℕ) (t : Tree) → conforms p (written ids n t) ≡ conforms p t
    conforms-same p n (Node kind m span id ps) =
        let k = n + one_if (bears_semantic_id kind) in
        (λ i. stands_in p kind && (place-same p kind k ps i && (kind-same kind k ps i && parts_conform (boolean-same (codes "computed") (members_of kind) k ps i) (members_of kind) (written_parts ids k ps))))
        ∙ ap (λ b. stands_in p kind && (place_rule p kind ps && (kind_rule kind ps && b))) (parts-conform-same (boolean_at (codes "computed") (members_of kind) ps) (members_of kind) k ps)

    parts-conform-same : (computed : Bool) (fs : List Field) (n : ℕ) (ps : Parts) → parts_conform computed fs (written_parts ids n ps) ≡ parts_conform computed fs ps
    parts-conform-same computed fs n end = refl
    parts-conform-same computed [] n (more p ps) = refl
    parts-conform-same computed (f ∷ fs) n (more p ps) = λ i. part-conforms-same computed f.sort n p i && parts-conform-same computed fs (n + bearers_of_part p) ps i

    part-conforms-same : (computed : Bool) (sort : Sort) (n : ℕ) (p : Part) → part_conforms computed sort (written_part ids n p) ≡ part_conforms computed sort p
    part-conforms-same computed (Sort.Child place) n (child t) = conforms-same place n t
    part-conforms-same computed (Sort.Nullable place) n (child t) = conforms-same place n t
    part-conforms-same computed (Sort.Key place) n (child t) = conforms-same (key_place computed place) n t
    part-conforms-same computed sort n (child t) = refl
    part-conforms-same computed (Sort.List place) n (list ps) = items-conform-same false place n ps
    part-conforms-same computed (Sort.NonEmptyList place) n (list ps) = λ i. not (end-same n ps i) && items-conform-same false place n ps i
    part-conforms-same computed (Sort.ListWithHoles place) n (list ps) = items-conform-same true place n ps
    part-conforms-same computed sort n (list ps) = refl
    part-conforms-same computed sort n absent = refl
    part-conforms-same computed sort n (string s) = refl
    part-conforms-same computed sort n no_string = refl
    part-conforms-same computed sort n (boolean b) = refl
    part-conforms-same computed sort n (literal v) = refl

    items-conform-same : (holes : Bool) (place : Place) (n : ℕ) (ps : Parts) → items_conform holes place (written_parts ids n ps) ≡ items_conform holes place ps
    items-conform-same holes place n end = refl
    items-conform-same holes place n (more p ps) = λ i. item-conforms-same holes place n p i && ((not (rest-same n p i) || end-same (n + bearers_of_part p) ps i) && items-conform-same holes place (n + bearers_of_part p) ps i)

    item-conforms-same : (holes : Bool) (place : Place) (n : ℕ) (p : Part) → item_conforms holes place (written_part ids n p) ≡ item_conforms holes place p
    item-conforms-same holes place n (child t) = conforms-same place n t
    item-conforms-same holes place n absent = refl
    item-conforms-same holes place n (list ps) = refl
    item-conforms-same holes place n (string s) = refl
    item-conforms-same holes place n no_string = refl
    item-conforms-same holes place n (boolean b) = refl
    item-conforms-same holes place n (literal v) = refl

  -- ---- numbers

  mutual
    numbers-same : (n : ℕ) (t : Tree) → map number_of (preorder (written ids n t)) ≡ map number_of (preorder t)
    numbers-same n (Node kind m span id ps) = ap (λ l. m ∷ l) (numbers-parts (n + one_if (bears_semantic_id kind)) ps)

    numbers-parts : (n : ℕ) (ps : Parts) → map number_of (preorder_of (written_parts ids n ps)) ≡ map number_of (preorder_of ps)
    numbers-parts n end = refl
    numbers-parts n (more p ps) =
        map-append number_of (preorder_of_part (written_part ids n p)) (preorder_of (written_parts ids (n + bearers_of_part p) ps))
        ∙ (λ i. numbers-part n p i ++ numbers-parts (n + bearers_of_part p) ps i)
        ∙ sym (map-append number_of (preorder_of_part p) (preorder_of ps))

    numbers-part : (n : ℕ) (p : Part) → map number_of (preorder_of_part (written_part ids n p)) ≡ map number_of (preorder_of_part p)
    numbers-part n (child t) = numbers-same n t
    numbers-part n absent = refl
    numbers-part n (list ps) = numbers-parts n ps
    numbers-part n (string s) = refl
    numbers-part n no_string = refl
    numbers-part n (boolean b) = refl
    numbers-part n (literal v) = refl

-- ---- a built tree

pub entries-built : (t : Tree) → entries_of (built_tree t) ≡ entries_of t
entries-built t = ap (λ (c : Collected). c.entries) (collected-same (numbering_of (entries_of t)).ids nowhere nothing_yet 0 t)

pub table-built : (t : Tree) → built_table (built_tree t) ≡ built_table t
table-built t = ap (λ (es : List Entry). (numbering_of es).declarations.scoping) (entries-built t)

pub conforms-built : (p : Place) (t : Tree) → conforms p (built_tree t) ≡ conforms p t
conforms-built p t = conforms-same (numbering_of (entries_of t)).ids p 0 t

pub numbers-built : (t : Tree) → numbers (built_tree t) ≡ numbers t
numbers-built t = numbers-same (numbering_of (entries_of t)).ids 0 t
