-- Each entry of a tree names scopes that stand before it.
use Rattle.std.proofs.Common.{◌≡◌, refl, sym, subst, ℕ, ◌+◌, ◌<◌, ◌≤◌, List, [], ◌∷◌, ◌++◌, Bool, true, false, true≢false, cond, not, nat_eq, Option, Some, None, arith}
use Rattle.std.specs.Prelude.{option_to_list}
use Rattle.std.proofs.lemmas.Bool.{and_parts}
use Rattle.std.proofs.lemmas.Bool.Decides.{Decides-eqb}
use Rattle.es_base.specs.Tree.{Tree, Node, Part, Parts, end, more, child, absent, list, string, no_string, boolean, literal}
use Rattle.es_base.specs.declared.ids.NodeId.{NodeId}
use Rattle.es_base.specs.declared.ids.ScopeId.{ScopeId}
use Rattle.es_base.specs.declared.kind.Kind.{Kind}
use Rattle.es_scopes.specs.NodeScopes.{opens, has_scope, is_body_place, scope_flags, is_strict}
use Rattle.es_steps.specs.Parts.{at, string_of}
use Rattle.es_steps.specs.Scopes.{is_var}
use Rattle.es_scopes.specs.Entries.{Collected, binding, scope_entry, entry_of, entered, collected, collected_parts, collected_part, collected_items, nothing_yet, entries_of}
use Rattle.es_scopes.specs.Surroundings.{scope_place, inside, declares_in, lexical_scope, var_scope, in_scope, in_function, in_first, in_block, nested, is_in_own, is_pattern_part, passed_on, nowhere}
use Rattle.es_scopes.specs.Tables.{Fits, AreOrdered, scope_count, scopes_in}
use Rattle.es_scopes.specs.declared.entry.Entry.{Entry}
use Rattle.es_scopes.specs.declared.entry.Entry.TheVariants as entry
use Rattle.es_scopes.specs.declared.surroundings.Declares.{Declares}
use Rattle.es_scopes.specs.declared.surroundings.Declares.TheVariants as declares
use Rattle.es_scopes.specs.declared.surroundings.Surroundings.{Surroundings}

-- a scope that is known is among the first n
abbrev pub Known : ℕ → Option ScopeId → Type 0
Known n o = (s : ScopeId) → o ≡ Some s → s.0 < n

known-le : (n m : ℕ) (o : Option ScopeId) → n ≤ m → Known n o → Known m o
known-le n m o le h s e = let k = h s e in omega arith

known-none : (n : ℕ) → Known n None
known-none n s e = cc

known-own : (n m : ℕ) → n < m → Known m (Some (record { 0 = n }))
known-own n m l s e = let same : n ≡ s.0 = cc in omega arith

known-cond : (n : ℕ) (b : Bool) (x y : Option ScopeId) → (b ≡ true → Known n x) → Known n y → Known n (cond b x y)
known-cond n true x y h k = h refl
known-cond n false x y h k = k

-- ---- what stands around names scopes that are known

abbrev pub Holds : ℕ → Declares → Type 0
Holds n declares.Nothing = Unit
Holds n (declares.Statement lexical var) = Known n lexical × Known n var
Holds n (declares.Body s) = s.0 < n
Holds n (declares.Pattern holder who) = Known n holder

abbrev pub IsBody : Declares → Type 0
IsBody (declares.Body s) = Unit
IsBody d = ⊥

pub record Within (n : ℕ) (s : Surroundings) : Type 0 where
  pub scope : Known n s.scope
  pub holders : Holds n s.declares
  pub body : s.is_body ≡ true → IsBody s.declares

holds-le : (n m : ℕ) (d : Declares) → n ≤ m → Holds n d → Holds m d
holds-le n m declares.Nothing le h = tt
holds-le n m (declares.Statement lexical var) le h = (known-le n m lexical le h.0, known-le n m var le h.1)
holds-le n m (declares.Body s) le h = omega arith
holds-le n m (declares.Pattern holder who) le h = known-le n m holder le h

holds-cond : (n : ℕ) (b : Bool) (x y : Declares) → Holds n x → Holds n y → Holds n (cond b x y)
holds-cond n true x y h k = h
holds-cond n false x y h k = k

lexical-known : (n : ℕ) (d : Declares) → Holds n d → Known n (lexical_scope d)
lexical-known n declares.Nothing h = known-none n
lexical-known n (declares.Statement lexical var) h = h.0
lexical-known n (declares.Body s) h = known-none n
lexical-known n (declares.Pattern holder who) h = known-none n

var-known : (n : ℕ) (d : Declares) → Holds n d → Known n (var_scope d)
var-known n declares.Nothing h = known-none n
var-known n (declares.Statement lexical var) h = h.1
var-known n (declares.Body s) h = known-none n
var-known n (declares.Pattern holder who) h = known-none n

-- a node gives its own scope to what it declares
abbrev needs_own : Kind → Declares → Bool
needs_own Kind.BlockStatement (declares.Body s) = false
needs_own kind d = has_scope kind

module _ (n m : ℕ) (ps : Parts) (le : n ≤ m) where
  nested-known : (holds : Bool) (d : Declares) → (holds ≡ true → n < m) → Holds n d → Holds m (nested holds (record { 0 = n }) d)
  nested-known holds d k h = (known-cond m holds _ _ (λ e. known-own n m (k e)) (known-none m), known-le n m _ le (var-known n d h))

  function-known : (name : Declares) (i : ℕ) → n < m → Holds m name → Holds m (in_function name (record { 0 = n }) i)
  function-known name i l h = holds-cond m (nat_eq i 0) _ _ h (holds-cond m (nat_eq i 1) _ _ (known-own n m l) l)

  first-known : (d : Declares) (i : ℕ) → Holds m d → Holds m (in_first d i)
  first-known d i h = holds-cond m (nat_eq i 0) _ _ h tt

  lexical-holds : (d : Declares) → Holds n d → Holds m (in_scope (lexical_scope d))
  lexical-holds d h = known-le n m _ le (lexical-known n d h)

  statement-known : (d : Declares) → Holds n d → Holds m (declares.Statement (lexical_scope d) (var_scope d))
  statement-known d h = (known-le n m _ le (lexical-known n d h), known-le n m _ le (var-known n d h))

  passed-known : (kind : Kind) (d : Declares) (i : ℕ) → Holds n d → Holds m (passed_on kind d i)
  passed-known kind declares.Nothing i h = tt
  passed-known kind (declares.Statement lexical var) i h = tt
  passed-known kind (declares.Body s) i h = tt
  passed-known kind (declares.Pattern holder who) i h = holds-cond m (is_pattern_part kind i) _ _ (known-le n m holder le h) tt

  block-known : (d : Declares) → (needs_own Kind.BlockStatement d ≡ true → n < m) → Holds n d → Holds m (in_block (record { 0 = n }) d)
  block-known declares.Nothing k h = (known-own n m (k refl), known-none m)
  block-known (declares.Statement lexical var) k h = (known-own n m (k refl), known-le n m var le h.1)
  block-known (declares.Body s) k h = (known-own s.0 m (omega arith), known-own s.0 m (omega arith))
  block-known (declares.Pattern holder who) k h = (known-own n m (k refl), known-none m)

  variables-known : (d : Declares) → Holds n d → Holds m (in_scope (cond (is_var ps) (var_scope d) (lexical_scope d)))
  variables-known d h = known-cond m (is_var ps) _ _ (λ e. known-le n m _ le (var-known n d h)) (known-le n m _ le (lexical-known n d h))

  declares-known : (kind : Kind) (d : Declares) (i : ℕ) → (needs_own kind d ≡ true → n < m) → Holds n d → Holds m (declares_in kind (record { 0 = n }) ps d i)
  declares-known Kind.Program d i k h = (known-own n m (k refl), known-own n m (k refl))
  declares-known Kind.StaticBlock d i k h = (known-own n m (k refl), known-own n m (k refl))
  declares-known Kind.FunctionDeclaration d i k h = function-known _ i (k refl) (lexical-holds d h)
  declares-known Kind.FunctionExpression d i k h = function-known _ i (k refl) (known-own n m (k refl))
  declares-known Kind.ArrowFunctionExpression d i k h = holds-cond m (nat_eq i 0) _ _ (known-own n m (k refl)) (k refl)
  declares-known Kind.ClassDeclaration d i k h = first-known _ i (lexical-holds d h)
  declares-known Kind.ClassExpression d i k h = first-known _ i (known-own n m (k refl))
  declares-known Kind.ImportDeclaration d i k h = first-known _ i (lexical-holds d h)
  declares-known Kind.VariableDeclaration d i k h = variables-known d h
  declares-known Kind.LabeledStatement d i k h = statement-known d h
  declares-known Kind.IfStatement d i k h = statement-known d h
  declares-known Kind.SwitchCase d i k h = statement-known d h
  declares-known Kind.ExportNamedDeclaration d i k h = statement-known d h
  declares-known Kind.ExportDefaultDeclaration d i k h = statement-known d h
  declares-known Kind.BlockStatement d i k h = block-known d k h
  declares-known Kind.WithStatement d i k h = nested-known false d (λ e. absurd (true≢false (sym e))) h
  declares-known Kind.TryStatement d i k h = nested-known false d (λ e. absurd (true≢false (sym e))) h
  declares-known Kind.WhileStatement d i k h = nested-known false d (λ e. absurd (true≢false (sym e))) h
  declares-known Kind.DoWhileStatement d i k h = nested-known false d (λ e. absurd (true≢false (sym e))) h
  declares-known Kind.ForStatement d i k h = nested-known (nat_eq i 0) d (λ e. k refl) h
  declares-known Kind.ForInStatement d i k h = nested-known (nat_eq i 0) d (λ e. k refl) h
  declares-known Kind.ForOfStatement d i k h = nested-known (nat_eq i 0) d (λ e. k refl) h
  declares-known Kind.SwitchStatement d i k h = nested-known (nat_eq i 1) d (λ e. k refl) h
  declares-known Kind.CatchClause d i k h = holds-cond m (nat_eq i 0) _ _ (known-own n m (k refl)) (nested-known false d (λ e. absurd (true≢false (sym e))) h)
  declares-known kind d i k h = passed-known kind d i h

body-is : (kind : Kind) (own : ScopeId) (ps : Parts) (d : Declares) (i : ℕ) → is_body_place kind i ≡ true → IsBody (declares_in kind own ps d i)
body-is Kind.FunctionDeclaration own ps d i e = let two : i ≡ 2 = (Decides-eqb i 2).0 e in subst (λ (j : ℕ). IsBody (declares_in Kind.FunctionDeclaration own ps d j)) (sym two) tt
body-is Kind.FunctionExpression own ps d i e = let two : i ≡ 2 = (Decides-eqb i 2).0 e in subst (λ (j : ℕ). IsBody (declares_in Kind.FunctionExpression own ps d j)) (sym two) tt
body-is Kind.ArrowFunctionExpression own ps d i e = let one : i ≡ 1 = (Decides-eqb i 1).0 e in subst (λ (j : ℕ). IsBody (declares_in Kind.ArrowFunctionExpression own ps d j)) (sym one) tt
body-is kind own ps d i e = absurd (true≢false (sym e))

-- a node that gives its own scope has one
opens-needed : (kind : Kind) (s : Surroundings) → (s.is_body ≡ true → IsBody s.declares) → needs_own kind s.declares ≡ true → opens kind (scope_place s) ≡ true
opens-needed Kind.BlockStatement s body k = of_block s.declares s.is_body body k
  where
    of_block : (d : Declares) (b : Bool) → (b ≡ true → IsBody d) → needs_own Kind.BlockStatement d ≡ true → not b ≡ true
    of_block d false body k = refl
    of_block declares.Nothing true body k = absurd (body refl)
    of_block (declares.Statement lexical var) true body k = absurd (body refl)
    of_block (declares.Body s) true body k = k
    of_block (declares.Pattern holder who) true body k = absurd (body refl)
opens-needed kind s body k = k

-- after a node that has a scope or not
abbrev pub after : Kind → Surroundings → ℕ → ℕ
after kind s n = cond (opens kind (scope_place s)) (n + 1) n

after-le : (b : Bool) (n : ℕ) → n ≤ cond b (n + 1) n
after-le true n = omega arith
after-le false n = omega arith

after-opens : (b : Bool) (n : ℕ) → b ≡ true → n < cond b (n + 1) n
after-opens true n e = omega arith
after-opens false n e = absurd (true≢false (sym e))

pub inside-within : (kind : Kind) (n : ℕ) (ps : Parts) (s : Surroundings) (i : ℕ) → Within n s → Within (after kind s n) (inside kind (record { 0 = n }) ps s i)
inside-within kind n ps s i h =
    let le : n ≤ after kind s n = after-le (opens kind (scope_place s)) n in
    record {
      scope = known-cond (after kind s n) (is_in_own kind s i) _ _ (λ e. known-own n _ (after-opens (opens kind (scope_place s)) n (and_parts _ _ e).0)) (known-le n _ _ le h.scope);
      holders = declares-known n (after kind s n) ps le kind s.declares i (λ k. after-opens (opens kind (scope_place s)) n (opens-needed kind s h.body k)) h.holders;
      body = λ e. body-is kind _ ps s.declares i e;
    }

-- ---- the entries

pub within-le : (n m : ℕ) (s : Surroundings) → n ≤ m → Within n s → Within m s
within-le n m s le h = record { scope = known-le n m _ le h.scope; holders = holds-le n m _ le h.holders; body = h.body }

-- the entries so far are in order, and their scopes are counted
pub record Counts (c : Collected) : Type 0 where
  pub ordered : AreOrdered 0 c.entries
  pub count : scopes_in c.entries ≡ c.next

scopes-append : (es fs : List Entry) → scopes_in (es ++ fs) ≡ scopes_in es + scopes_in fs
scopes-append [] fs = omega arith
scopes-append (e ∷ es) fs = omega (arith, scopes-append es fs)

ordered-append : (n : ℕ) (es fs : List Entry) → AreOrdered n es → AreOrdered (n + scopes_in es) fs → AreOrdered n (es ++ fs)
ordered-append n [] fs h k = let same : n + 0 ≡ n = omega arith in subst (λ (m : ℕ). AreOrdered m fs) same k
ordered-append n (e ∷ es) fs h k = let same : n + (scope_count e + scopes_in es) ≡ (n + scope_count e) + scopes_in es = omega arith in (h.0, ordered-append (n + scope_count e) es fs h.1 (subst (λ (m : ℕ). AreOrdered m fs) same k))

-- of the entry of a node
entry-fits : (kind : Kind) (m : NodeId) (ps : Parts) (n : ℕ) (s : Surroundings) → Within n s → AreOrdered n (option_to_list (entry_of kind m ps s))
entry-fits Kind.BindingIdentifier m ps n s h = (of_binding s.declares h.holders, tt)
  where
    of_binding : (d : Declares) → Holds n d → Fits n (binding d m (string_of (at 0 ps)) s)
    of_binding declares.Nothing k = known-none n
    of_binding (declares.Statement lexical var) k = known-none n
    of_binding (declares.Body q) k = known-none n
    of_binding (declares.Pattern holder who) k = k
entry-fits Kind.IdentifierReference m ps n s h = (h.scope, tt)
entry-fits kind m ps n s h = of_scope (has_scope kind)
  where
    of_entry : (b strict : Bool) → Fits n (cond b (entry.Scope m s.scope s.in_parameters (scope_flags kind s.given.0 strict)) (entry.Body m))
    of_entry true strict = h.scope
    of_entry false strict = tt

    of_scope : (b : Bool) → AreOrdered n (option_to_list (cond b (Some (scope_entry kind m (is_strict kind ps (scope_place s)) s)) None))
    of_scope true = (of_entry (opens kind (scope_place s)) (is_strict kind ps (scope_place s)), tt)
    of_scope false = tt

entry-count : (kind : Kind) (m : NodeId) (ps : Parts) (n : ℕ) (s : Surroundings) → n + scopes_in (option_to_list (entry_of kind m ps s)) ≡ after kind s n
entry-count Kind.BindingIdentifier m ps n s = of_binding s.declares
  where
    of_binding : (d : Declares) → n + scopes_in (binding d m (string_of (at 0 ps)) s ∷ []) ≡ n
    of_binding declares.Nothing = omega arith
    of_binding (declares.Statement lexical var) = omega arith
    of_binding (declares.Body q) = omega arith
    of_binding (declares.Pattern holder who) = omega arith
entry-count Kind.IdentifierReference m ps n s = omega arith
entry-count Kind.BlockStatement m ps n s = of_entry (not s.is_body) (is_strict Kind.BlockStatement ps (scope_place s))
  where
    of_entry : (b strict : Bool) → n + scopes_in (cond b (entry.Scope m s.scope s.in_parameters (scope_flags Kind.BlockStatement s.given.0 strict)) (entry.Body m) ∷ []) ≡ cond b (n + 1) n
    of_entry true strict = omega arith
    of_entry false strict = omega arith
entry-count kind m ps n s = of_scope (has_scope kind) (is_strict kind ps (scope_place s))
  where
    of_scope : (b strict : Bool) → n + scopes_in (option_to_list (cond b (Some (cond b (entry.Scope m s.scope s.in_parameters (scope_flags kind s.given.0 strict)) (entry.Body m))) None)) ≡ cond b (n + 1) n
    of_scope true strict = omega arith
    of_scope false strict = omega arith

pub entered-counts : (kind : Kind) (m : NodeId) (ps : Parts) (s : Surroundings) (c : Collected) → Counts c → Within c.next s → Counts (entered kind m ps s c)
entered-counts kind m ps s c h k = record {
  ordered = ordered-append 0 c.entries (option_to_list (entry_of kind m ps s)) h.ordered (let same : c.next ≡ 0 + scopes_in c.entries = omega (arith, h.count) in subst (λ (q : ℕ). AreOrdered q (option_to_list (entry_of kind m ps s))) same (entry-fits kind m ps c.next s k));
  count = omega (arith, scopes-append c.entries (option_to_list (entry_of kind m ps s)), h.count, entry-count kind m ps c.next s);
}

mutual
  pub more_scopes : (s : Surroundings) (c : Collected) (t : Tree) → c.next ≤ (collected s c t).next
  more_scopes s c (Node kind id span semantic_id ps) = omega (arith, after-le (opens kind (scope_place s)) c.next, more_in_parts (inside kind (record { 0 = c.next }) ps s) 0 (entered kind (record { 0 = id }) ps s c) ps)

  pub more_in_parts : (inner : ℕ → Surroundings) (i : ℕ) (c : Collected) (ps : Parts) → c.next ≤ (collected_parts inner i c ps).next
  more_in_parts inner i c end = omega arith
  more_in_parts inner i c (more p ps) = omega (arith, more_in_part (inner i) c p, more_in_parts inner (i + 1) (collected_part (inner i) c p) ps)

  pub more_in_part : (s : Surroundings) (c : Collected) (p : Part) → c.next ≤ (collected_part s c p).next
  more_in_part s c (child t) = more_scopes s c t
  more_in_part s c absent = omega arith
  more_in_part s c (list ps) = more_in_items s c ps
  more_in_part s c (string b) = omega arith
  more_in_part s c no_string = omega arith
  more_in_part s c (boolean b) = omega arith
  more_in_part s c (literal v) = omega arith

  pub more_in_items : (s : Surroundings) (c : Collected) (ps : Parts) → c.next ≤ (collected_items s c ps).next
  more_in_items s c end = omega arith
  more_in_items s c (more p ps) = omega (arith, more_in_part s c p, more_in_items s (collected_part s c p) ps)

mutual
  pub collected-counts : (s : Surroundings) (c : Collected) (t : Tree) → Counts c → Within c.next s → Counts (collected s c t)
  collected-counts s c (Node kind id span semantic_id ps) h k = parts-count (inside kind (record { 0 = c.next }) ps s) 0 (entered kind (record { 0 = id }) ps s c) ps (entered-counts kind (record { 0 = id }) ps s c h k) (λ i. inside-within kind c.next ps s i k)

  parts-count : (inner : ℕ → Surroundings) (i : ℕ) (c : Collected) (ps : Parts) → Counts c → ((j : ℕ) → Within c.next (inner j)) → Counts (collected_parts inner i c ps)
  parts-count inner i c end h k = h
  parts-count inner i c (more p ps) h k = parts-count inner (i + 1) (collected_part (inner i) c p) ps (part-counts (inner i) c p h (k i)) (λ j. within-le c.next _ (inner j) (more_in_part (inner i) c p) (k j))

  pub part-counts : (s : Surroundings) (c : Collected) (p : Part) → Counts c → Within c.next s → Counts (collected_part s c p)
  part-counts s c (child t) h k = collected-counts s c t h k
  part-counts s c absent h k = h
  part-counts s c (list ps) h k = items-count s c ps h k
  part-counts s c (string b) h k = h
  part-counts s c no_string h k = h
  part-counts s c (boolean b) h k = h
  part-counts s c (literal v) h k = h

  items-count : (s : Surroundings) (c : Collected) (ps : Parts) → Counts c → Within c.next s → Counts (collected_items s c ps)
  items-count s c end h k = h
  items-count s c (more p ps) h k = items-count s (collected_part s c p) ps (part-counts s c p h k) (within-le c.next _ s (more_in_part s c p) k)

-- those of a program
pub entries-ordered : (t : Tree) → AreOrdered 0 (entries_of t)
entries-ordered t = (collected-counts nowhere nothing_yet t (record { ordered = tt; count = refl }) (record { scope = known-none 0; holders = tt; body = λ e. absurd (true≢false (sym e)) })).ordered
