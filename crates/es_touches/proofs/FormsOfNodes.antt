-- Forms of nodes, node by node.
use Rattle.std.proofs.Common.{◌≡◌, refl, ap, ℕ, zero, suc, ◌+◌, List, [], ◌∷◌, Bool, true, false, ◌&&◌, ◌||◌, length, get_or, cond, bytes_eq, codes, Option, None, arith}
use Rattle.es_base.specs.Tree.{Tree, Part, Parts, Node, end, more, child, absent, list, string, trees}
use Rattle.es_base.specs.declared.kind.Kind.{Kind}
use Rattle.es_lowered.specs.DeadZones.{defines, defines_by, ends_in_throw, is_member, is_named_or_this, is_pattern, is_setter_slot, is_still, is_value_slot, is_writer, sets_member, throws_always}
use Rattle.es_lowered.specs.Definitions.{property_value, spelling, writable_part}
use Rattle.es_node.specs.View.{kind_of, parts_in}
use Rattle.es_steps.specs.NameScopes.{is_any_function}
use Rattle.es_steps.specs.Parts.{at, is_present, string_of}
use Rattle.es_steps.specs.Values.{String}
use Rattle.es_touches.specs.Forms.{are_writable, has_value, is_plain, is_throw_name, is_throwing_callee, is_writer_name, names_key}

pub still_kind : (kind : Kind) → is_still kind ≡ (is_plain kind || is_any_function kind)
still_kind Kind.Program = refl
still_kind Kind.Literal = refl
still_kind Kind.IdentifierName = refl
still_kind Kind.PrivateIdentifier = refl
still_kind Kind.TemplateElement = refl
still_kind Kind.ClassDeclaration = refl
still_kind Kind.ClassExpression = refl
still_kind Kind.ClassBody = refl
still_kind Kind.Property = refl
still_kind Kind.BindingProperty = refl
still_kind Kind.AssignmentTargetProperty = refl
still_kind Kind.PropertyDefinition = refl
still_kind Kind.MethodDefinition = refl
still_kind Kind.StaticBlock = refl
still_kind Kind.SequenceExpression = refl
still_kind Kind.ExpressionStatement = refl
still_kind Kind.EmptyStatement = refl
still_kind Kind.VariableDeclaration = refl
still_kind Kind.VariableDeclarator = refl
still_kind Kind.ExportNamedDeclaration = refl
still_kind kind = refl

-- ---- targets

pub member_node : (t : Tree) → is_member (child t) ≡ is_member (child (Node (kind_of t) 0 None None end))
member_node (Node Kind.MemberExpression m span semantic_id ps) = refl
member_node (Node Kind.PrivateField m span semantic_id ps) = refl
member_node (Node kind m span semantic_id ps) = refl

pub pattern_node : (t : Tree) → is_pattern (child t) ≡ is_pattern (child (Node (kind_of t) 0 None None end))
pattern_node (Node Kind.ArrayAssignmentTarget m span semantic_id ps) = refl
pattern_node (Node Kind.ObjectAssignmentTarget m span semantic_id ps) = refl
pattern_node (Node kind m span semantic_id ps) = refl

pub named_node : (t : Tree) → is_named_or_this (child t) ≡ is_named_or_this (child (Node (kind_of t) 0 None None end))
named_node (Node Kind.IdentifierReference m span semantic_id ps) = refl
named_node (Node Kind.ThisExpression m span semantic_id ps) = refl
named_node (Node kind m span semantic_id ps) = refl

pub slot_name : (t : Tree) → kind_of t ≡ Kind.IdentifierName → is_value_slot (child t) ≡ bytes_eq (string_of (at 0 (parts_in t))) (codes "_")
slot_name (Node kind m span semantic_id ps) is = ap (λ k. is_value_slot (child (Node k m span semantic_id ps))) is

pub no_slot : (t : Tree) → (kind_of t ≡ Kind.IdentifierName → ⊥) → is_value_slot (child t) ≡ false
no_slot (Node Kind.IdentifierName m span semantic_id ps) other = absurd (other refl)
no_slot (Node kind m span semantic_id ps) other = refl

pub sets_none : (t : Tree) → (kind_of t ≡ Kind.MemberExpression → ⊥) → sets_member (child t) ≡ false
sets_none (Node Kind.MemberExpression m span semantic_id ps) other = absurd (other refl)
sets_none (Node kind m span semantic_id ps) other = refl

pub slot_of_call : (m : ℕ) (span : Option (ℕ × ℕ)) (semantic_id : Option ℕ) (o k : Tree) (rest : Parts) → kind_of o ≡ Kind.CallExpression → is_setter_slot (child (Node Kind.MemberExpression m span semantic_id (more (child o) (more (child k) rest)))) ≡ is_value_slot (child k)
slot_of_call m span semantic_id (Node Kind.CallExpression n nspan n_semantic_id ns) k rest is = refl
slot_of_call m span semantic_id (Node kind n nspan n_semantic_id ns) k rest is = absurd (cc)

pub slot_of_none : (m : ℕ) (span : Option (ℕ × ℕ)) (semantic_id : Option ℕ) (o k : Tree) (rest : Parts) → (kind_of o ≡ Kind.CallExpression → ⊥) → is_setter_slot (child (Node Kind.MemberExpression m span semantic_id (more (child o) (more (child k) rest)))) ≡ false
slot_of_none m span semantic_id (Node Kind.CallExpression n nspan n_semantic_id ns) k rest other = absurd (other refl)
slot_of_none m span semantic_id (Node kind n nspan n_semantic_id ns) k rest other = refl

pub setter_none : (t : Tree) → (kind_of t ≡ Kind.MemberExpression → ⊥) → is_setter_slot (child t) ≡ false
setter_none (Node Kind.MemberExpression m span semantic_id ps) other = absurd (other refl)
setter_none (Node kind m span semantic_id ps) other = refl

-- ---- what writes behind an operation

pub writer_named : (m : ℕ) (span : Option (ℕ × ℕ)) (semantic_id : Option ℕ) (o k : Tree) (rest : Parts) → kind_of k ≡ Kind.IdentifierName → is_writer (child (Node Kind.MemberExpression m span semantic_id (more (child o) (more (child k) rest)))) ≡ (bytes_eq (spelling (child o)) (codes "babelHelpers") && is_writer_name (string_of (at 0 (parts_in k))))
writer_named m span semantic_id o (Node Kind.IdentifierName n nspan n_semantic_id ns) rest is = refl
writer_named m span semantic_id o (Node kind n nspan n_semantic_id ns) rest is = absurd (cc)

pub writer_unnamed : (m : ℕ) (span : Option (ℕ × ℕ)) (semantic_id : Option ℕ) (o k : Tree) (rest : Parts) → (kind_of k ≡ Kind.IdentifierName → ⊥) → is_writer (child (Node Kind.MemberExpression m span semantic_id (more (child o) (more (child k) rest)))) ≡ false
writer_unnamed m span semantic_id o (Node Kind.IdentifierName n nspan n_semantic_id ns) rest other = absurd (other refl)
writer_unnamed m span semantic_id o (Node kind n nspan n_semantic_id ns) rest other = refl

pub writer_none : (t : Tree) → (kind_of t ≡ Kind.MemberExpression → ⊥) → is_writer (child t) ≡ false
writer_none (Node Kind.MemberExpression m span semantic_id ps) other = absurd (other refl)
writer_none (Node kind m span semantic_id ps) other = refl

-- ---- what always throws

pub throwing_named : (m : ℕ) (span : Option (ℕ × ℕ)) (semantic_id : Option ℕ) (o : Part) (k : Tree) (rest : Parts) → kind_of k ≡ Kind.IdentifierName → is_throwing_callee (child (Node Kind.MemberExpression m span semantic_id (more o (more (child k) rest)))) ≡ is_throw_name (string_of (at 0 (parts_in k)))
throwing_named m span semantic_id o (Node Kind.IdentifierName n nspan n_semantic_id ns) rest is = refl
throwing_named m span semantic_id o (Node kind n nspan n_semantic_id ns) rest is = absurd (cc)

pub throwing_unnamed : (m : ℕ) (span : Option (ℕ × ℕ)) (semantic_id : Option ℕ) (o : Part) (k : Tree) (rest : Parts) → (kind_of k ≡ Kind.IdentifierName → ⊥) → is_throwing_callee (child (Node Kind.MemberExpression m span semantic_id (more o (more (child k) rest)))) ≡ false
throwing_unnamed m span semantic_id o (Node Kind.IdentifierName n nspan n_semantic_id ns) rest other = absurd (other refl)
throwing_unnamed m span semantic_id o (Node kind n nspan n_semantic_id ns) rest other = refl

pub throwing_none : (t : Tree) → (kind_of t ≡ Kind.MemberExpression → ⊥) → is_throwing_callee (child t) ≡ false
throwing_none (Node Kind.MemberExpression m span semantic_id ps) other = absurd (other refl)
throwing_none (Node kind m span semantic_id ps) other = refl

pub throws_call : (m : ℕ) (span : Option (ℕ × ℕ)) (semantic_id : Option ℕ) (t : Tree) (rest : Parts) → throws_always (child (Node Kind.CallExpression m span semantic_id (more (child t) rest))) ≡ is_throwing_callee (child t)
throws_call m span semantic_id (Node Kind.MemberExpression k kspan k_semantic_id (more o (more (child (Node Kind.IdentifierName n nspan n_semantic_id ns)) ps))) rest = refl
throws_call m span semantic_id t rest = refl

pub throws_none : (t : Tree) → (kind_of t ≡ Kind.CallExpression → ⊥) → throws_always (child t) ≡ false
throws_none (Node Kind.CallExpression m span semantic_id ps) other = absurd (other refl)
throws_none (Node kind m span semantic_id ps) other = refl

pub ends_at : (ts : List Tree) (n : ℕ) (d : Tree) → length ts ≡ n + 1 → ends_in_throw (trees ts) ≡ throws_always (child (get_or ts n d))
ends_at [] n d is = absurd (omega arith)
ends_at (t ∷ []) zero d is = refl
ends_at (t ∷ []) (suc n) d is = absurd (omega arith)
ends_at (t ∷ (u ∷ ts)) zero d is = absurd (omega arith)
ends_at (t ∷ (u ∷ ts)) (suc n) d is = let e : length (u ∷ ts) ≡ n + 1 = omega arith in ends_at (u ∷ ts) n d e

-- ---- calls that define fields

pub no_key : (s : String) (t : Tree) → (kind_of t ≡ Kind.IdentifierName → ⊥) → names_key s t ≡ false
no_key s (Node Kind.IdentifierName m span semantic_id ps) other = absurd (other refl)
no_key s (Node kind m span semantic_id ps) other = refl

pub no_value : (s : String) (t : Tree) → (kind_of t ≡ Kind.Property → ⊥) → has_value s (child t) ≡ false
no_value s (Node Kind.Property m span semantic_id ps) other = absurd (other refl)
no_value s (Node kind m span semantic_id ps) other = refl

present_if : (b : Bool) (v : Tree) → is_present (cond b (child v) absent) ≡ b
present_if true v = refl
present_if false v = refl

pub value_node : (s : String) (m : ℕ) (span : Option (ℕ × ℕ)) (semantic_id : Option ℕ) (k v : Tree) (rest : Parts) → has_value s (child (Node Kind.Property m span semantic_id (more (child k) (more (child v) rest)))) ≡ names_key s k
value_node s m span semantic_id (Node Kind.IdentifierName k kspan k_semantic_id (more (string t) end)) v rest = present_if (bytes_eq s t) v
value_node s m span semantic_id k v rest = refl

pub not_writable : (ts : List Tree) → (length ts ≡ 2 → ⊥) → are_writable (trees ts) ≡ false
not_writable [] other = refl
not_writable (t ∷ []) other = refl
not_writable (t ∷ (u ∷ [])) other = absurd (other refl)
not_writable (t ∷ (u ∷ (v ∷ ts))) other = refl

present_both : (b : Bool) (p : Part) → is_present (cond b p absent) ≡ (b && is_present p)
present_both true p = refl
present_both false p = refl

pub writable_node : (m : ℕ) (span : Option (ℕ × ℕ)) (semantic_id : Option ℕ) (ps : Parts) → is_present (writable_part (child (Node Kind.ObjectExpression m span semantic_id (more (list ps) end)))) ≡ are_writable ps
writable_node m span semantic_id end = refl
writable_node m span semantic_id (more w end) = refl
writable_node m span semantic_id (more w (more v end)) = present_both (has_value (codes "writable") w) (property_value (codes "value") v)
writable_node m span semantic_id (more w (more v (more u rest))) = refl

pub no_writable : (t : Tree) → (kind_of t ≡ Kind.ObjectExpression → ⊥) → is_present (writable_part (child t)) ≡ false
no_writable (Node Kind.ObjectExpression m span semantic_id ps) other = absurd (other refl)
no_writable (Node kind m span semantic_id ps) other = refl

regrouped : (a c d e : Bool) → (a || (c && (d && e))) ≡ (a || ((c && d) && e))
regrouped true c d e = refl
regrouped false true d e = refl
regrouped false false d e = refl

pub defines_three : (o h : String) (x k v : Tree) → defines_by o h (trees (x ∷ (k ∷ (v ∷ [])))) ≡ ((bytes_eq o (codes "babelHelpers") && (bytes_eq h (codes "defineProperty") || bytes_eq h (codes "classPrivateFieldInitSpec"))) || ((bytes_eq o (codes "Object") && bytes_eq h (codes "defineProperty")) && is_present (writable_part (child v))))
defines_three o h x k v = regrouped (bytes_eq o (codes "babelHelpers") && (bytes_eq h (codes "defineProperty") || bytes_eq h (codes "classPrivateFieldInitSpec"))) (bytes_eq o (codes "Object")) (bytes_eq h (codes "defineProperty")) (is_present (writable_part (child v)))

pub defines_not_three : (o h : String) (ts : List Tree) → (length ts ≡ 3 → ⊥) → defines_by o h (trees ts) ≡ false
defines_not_three o h [] other = refl
defines_not_three o h (t ∷ []) other = refl
defines_not_three o h (t ∷ (u ∷ [])) other = refl
defines_not_three o h (t ∷ (u ∷ (v ∷ []))) other = absurd (other refl)
defines_not_three o h (t ∷ (u ∷ (v ∷ (w ∷ ts)))) other = refl

pub defines_named : (m : ℕ) (span : Option (ℕ × ℕ)) (semantic_id : Option ℕ) (o k : Tree) (rest arguments : Parts) → kind_of k ≡ Kind.IdentifierName → defines (child (Node Kind.MemberExpression m span semantic_id (more (child o) (more (child k) rest)))) arguments ≡ defines_by (spelling (child o)) (string_of (at 0 (parts_in k))) arguments
defines_named m span semantic_id o (Node Kind.IdentifierName n nspan n_semantic_id ns) rest arguments is = refl
defines_named m span semantic_id o (Node kind n nspan n_semantic_id ns) rest arguments is = absurd (cc)

pub defines_unnamed : (m : ℕ) (span : Option (ℕ × ℕ)) (semantic_id : Option ℕ) (o k : Tree) (rest arguments : Parts) → (kind_of k ≡ Kind.IdentifierName → ⊥) → defines (child (Node Kind.MemberExpression m span semantic_id (more (child o) (more (child k) rest)))) arguments ≡ false
defines_unnamed m span semantic_id o (Node Kind.IdentifierName n nspan n_semantic_id ns) rest arguments other = absurd (other refl)
defines_unnamed m span semantic_id o (Node kind n nspan n_semantic_id ns) rest arguments other = refl

pub defines_none : (t : Tree) (arguments : Parts) → (kind_of t ≡ Kind.MemberExpression → ⊥) → defines (child t) arguments ≡ false
defines_none (Node Kind.MemberExpression m span semantic_id ps) arguments other = absurd (other refl)
defines_none (Node kind m span semantic_id ps) arguments other = refl
