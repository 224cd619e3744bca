-- The forms that generated names are given, by the kind of a node.
use Rattle.std.proofs.Common.{◌≡◌, refl, sym, ℕ, List, [], ◌∷◌, Bool, true, false, cond, ◌&&◌, bytes_eq, codes, Option, None}
use Rattle.std.proofs.Math.Bool.{and_assoc, and-false}
use Rattle.std.specs.Prelude.{is_some}
use Rattle.es_base.specs.Numbered.{is_new}
use Rattle.es_base.specs.Tree.{Tree, Parts, Node, end, more, child, absent, list, string, trees, nullable}
use Rattle.es_base.specs.declared.kind.Kind.{Kind}
use Rattle.es_node.specs.View.{kind_of}
use Rattle.es_owed_initialized.specs.Forms.{has_none, is_babel_helpers, is_property_named, is_reference_named, only_tree}
use Rattle.es_lowered.specs.Definitions.{field_part, property_value}
use Rattle.es_lowered.specs.HelperCalls.{is_helper_callee}
use Rattle.es_lowered.specs.Lowered.{is_function_part, is_key_call, is_new_of}
use Rattle.es_steps.specs.Parts.{is_present}
use Rattle.es_steps.specs.Values.{String}

-- ---- `new WeakMap()`

pub new_of : (s : String) (m : ℕ) (span : Option (ℕ × ℕ)) (semantic_id : Option ℕ) (t : Tree) (ts : List Tree) → is_new_of s (child (Node Kind.NewExpression m span semantic_id (more (child t) (more (list (trees ts)) end)))) ≡ (has_none ts && is_reference_named s t)
new_of s m span semantic_id (Node Kind.IdentifierReference b bspan b_semantic_id (more (string t) end)) [] = refl
new_of s m span semantic_id (Node Kind.IdentifierReference b bspan b_semantic_id (more (string t) end)) (u ∷ us) = refl
new_of s m span semantic_id t [] = refl
new_of s m span semantic_id t (u ∷ us) = refl

pub no_new : (s : String) (t : Tree) → (kind_of t ≡ Kind.NewExpression → ⊥) → is_new_of s (child t) ≡ false
no_new s (Node Kind.NewExpression m span semantic_id ps) other = absurd (other refl)
no_new s (Node kind m span semantic_id ps) other = refl

pub no_reference : (s : String) (t : Tree) → (kind_of t ≡ Kind.IdentifierReference → ⊥) → is_reference_named s t ≡ false
no_reference s (Node Kind.IdentifierReference m span semantic_id ps) other = absurd (other refl)
no_reference s (Node kind m span semantic_id ps) other = refl

-- ---- functions

pub function_by_kind : (t : Tree) → is_function_part (child t) ≡ is_function_part (child (Node (kind_of t) 0 None None end))
function_by_kind (Node Kind.FunctionExpression m span semantic_id ps) = refl
function_by_kind (Node Kind.ArrowFunctionExpression m span semantic_id ps) = refl
function_by_kind (Node kind m span semantic_id ps) = refl

-- ---- calls of helpers

pub key_call : (first m : ℕ) (span : Option (ℕ × ℕ)) (semantic_id : Option ℕ) (f : Tree) (ts : List Tree) (rest : Parts) → is_key_call first (child (Node Kind.CallExpression m span semantic_id (more (child f) (more (list (trees ts)) rest)))) ≡ (is_some (only_tree ts) && is_helper_callee first (codes "classPrivateFieldLooseKey") (child f))
key_call first m span semantic_id f [] rest = refl
key_call first m span semantic_id f (t ∷ []) rest = refl
key_call first m span semantic_id f (t ∷ (u ∷ ts)) rest = refl

pub no_key_call : (first : ℕ) (t : Tree) → (kind_of t ≡ Kind.CallExpression → ⊥) → is_key_call first (child t) ≡ false
no_key_call first (Node Kind.CallExpression m span semantic_id ps) other = absurd (other refl)
no_key_call first (Node kind m span semantic_id ps) other = refl

helpers_of : (first : ℕ) (h : String) (m : ℕ) (span : Option (ℕ × ℕ)) (semantic_id : Option ℕ) (b : ℕ) (bspan : Option (ℕ × ℕ)) (b_semantic_id : Option ℕ) (s : String) (u : Tree) (rest : Parts)
    → is_helper_callee first h (child (Node Kind.MemberExpression m span semantic_id (more (child (Node Kind.IdentifierReference b bspan b_semantic_id (more (string s) end))) (more (child u) rest)))) ≡ ((is_new first b && bytes_eq s (codes "babelHelpers")) && is_property_named h u)
helpers_of first h m span semantic_id b bspan b_semantic_id s (Node Kind.IdentifierName k kspan k_semantic_id (more (string t) end)) rest = sym (and_assoc (is_new first b) (bytes_eq s (codes "babelHelpers")) (bytes_eq h t))
helpers_of first h m span semantic_id b bspan b_semantic_id s u rest = sym (and-false (is_new first b && bytes_eq s (codes "babelHelpers")))

pub callee_of : (first : ℕ) (h : String) (m : ℕ) (span : Option (ℕ × ℕ)) (semantic_id : Option ℕ) (t u : Tree) (rest : Parts) → is_helper_callee first h (child (Node Kind.MemberExpression m span semantic_id (more (child t) (more (child u) rest)))) ≡ (is_babel_helpers first t && is_property_named h u)
callee_of first h m span semantic_id (Node Kind.IdentifierReference b bspan b_semantic_id (more (string s) end)) u rest = helpers_of first h m span semantic_id b bspan b_semantic_id s u rest
callee_of first h m span semantic_id t u rest = refl

pub no_callee : (first : ℕ) (h : String) (t : Tree) → (kind_of t ≡ Kind.MemberExpression → ⊥) → is_helper_callee first h (child t) ≡ false
no_callee first h (Node Kind.MemberExpression m span semantic_id ps) other = absurd (other refl)
no_callee first h (Node kind m span semantic_id ps) other = refl

pub no_helpers : (first : ℕ) (t : Tree) → (kind_of t ≡ Kind.IdentifierReference → ⊥) → is_babel_helpers first t ≡ false
no_helpers first (Node Kind.IdentifierReference m span semantic_id ps) other = absurd (other refl)
no_helpers first (Node kind m span semantic_id ps) other = refl

pub no_property_name : (s : String) (t : Tree) → (kind_of t ≡ Kind.IdentifierName → ⊥) → is_property_named s t ≡ false
no_property_name s (Node Kind.IdentifierName m span semantic_id ps) other = absurd (other refl)
no_property_name s (Node kind m span semantic_id ps) other = refl

-- ---- `{ _: 1 }`

pub field_object : (m : ℕ) (span : Option (ℕ × ℕ)) (semantic_id : Option ℕ) (ts : List Tree) → field_part (child (Node Kind.ObjectExpression m span semantic_id (more (list (trees ts)) end))) ≡ property_value (codes "_") (nullable (only_tree ts))
field_object m span semantic_id [] = refl
field_object m span semantic_id (t ∷ []) = refl
field_object m span semantic_id (t ∷ (u ∷ ts)) = refl

pub no_object : (t : Tree) → (kind_of t ≡ Kind.ObjectExpression → ⊥) → is_present (field_part (child t)) ≡ false
no_object (Node Kind.ObjectExpression m span semantic_id ps) other = absurd (other refl)
no_object (Node kind m span semantic_id ps) other = refl

present : (b : Bool) (v : Tree) → is_present (cond b (child v) absent) ≡ b
present true v = refl
present false v = refl

pub property_of : (s : String) (m : ℕ) (span : Option (ℕ × ℕ)) (semantic_id : Option ℕ) (k v : Tree) (rest : Parts) → is_present (property_value s (child (Node Kind.Property m span semantic_id (more (child k) (more (child v) rest))))) ≡ is_property_named s k
property_of s m span semantic_id (Node Kind.IdentifierName k kspan k_semantic_id (more (string t) end)) v rest = present (bytes_eq s t) v
property_of s m span semantic_id k v rest = refl

pub no_property : (s : String) (t : Tree) → (kind_of t ≡ Kind.Property → ⊥) → is_present (property_value s (child t)) ≡ false
no_property s (Node Kind.Property m span semantic_id ps) other = absurd (other refl)
no_property s (Node kind m span semantic_id ps) other = refl
