-- Blocks that move: what the kind of a node says, and elements one by one.
use Rattle.std.proofs.Common.{◌≡◌, refl, ap, sym, ◌∙◌, List, [], ◌∷◌, ◌++◌, Bool, true, false, cond, not, ◌&&◌, ◌||◌}
use Rattle.es_base.specs.Tree.{Tree, Parts, Node, more, child}
use Rattle.es_base.specs.declared.kind.Kind.{Kind}
use Rattle.es_node.specs.View.{kind_of}
use Rattle.es_steps.specs.LoweredClasses.{Element, any_element, element_of, elements_in}
use Rattle.es_steps.specs.NameScopes.{is_anonymous, is_string_key, is_identifier_key, is_static_field, ends_in_blocks, has_trailing_blocks, is_suspended_scope}
use Rattle.es_shapes.specs.NameScopes.{trails_with}

pub no_declaration : (kind : Kind) (ps : Parts) → (kind ≡ Kind.ClassDeclaration → ⊥) → is_suspended_scope kind ps ≡ false
no_declaration Kind.ClassDeclaration ps other = absurd (other refl)
no_declaration kind ps other = refl

pub no_anonymous : (t : Tree) → (kind_of t ≡ Kind.ArrowFunctionExpression → ⊥) → (kind_of t ≡ Kind.FunctionExpression → ⊥) → (kind_of t ≡ Kind.ClassExpression → ⊥) → is_anonymous (child t) ≡ false
no_anonymous (Node Kind.ArrowFunctionExpression m span semantic_id ps) arrow function class = absurd (arrow refl)
no_anonymous (Node Kind.FunctionExpression m span semantic_id ps) arrow function class = absurd (function refl)
no_anonymous (Node Kind.ClassExpression m span semantic_id ps) arrow function class = absurd (class refl)
no_anonymous (Node kind m span semantic_id ps) arrow function class = refl

pub no_name_key : (t : Tree) → (kind_of t ≡ Kind.Literal → ⊥) → (kind_of t ≡ Kind.IdentifierName → ⊥) → (is_string_key (child t) || is_identifier_key (child t)) ≡ false
no_name_key (Node Kind.Literal m span semantic_id ps) string name = absurd (string refl)
no_name_key (Node Kind.IdentifierName m span semantic_id ps) string name = absurd (name refl)
no_name_key (Node kind m span semantic_id ps) string name = refl

pub any-append : (test : Element → Bool) (es fs : List Element) → any_element test (es ++ fs) ≡ (any_element test es || any_element test fs)
any-append test [] fs = refl
any-append test (e ∷ es) fs = ap (λ b. test e || b) (any-append test es fs) ∙ or_or (test e)
  where
    or_or : (a : Bool) → (a || (any_element test es || any_element test fs)) ≡ ((a || any_element test es) || any_element test fs)
    or_or true = refl
    or_or false = refl

pub any_first : (test : Element → Bool) (t : Tree) (ts : Parts) → any_element test (elements_in (more (child t) ts)) ≡ (any_element test (element_of (child t)) || any_element test (elements_in ts))
any_first test t ts = any-append test (element_of (child t)) (elements_in ts)

pub first_element : (t : Tree) (ts : Parts) → elements_in (more (child t) ts) ≡ (element_of (child t) ++ elements_in ts)
first_element t ts = refl

-- ---- blocks behind all static fields

or_none : (b : Bool) → (b || false) ≡ b
or_none true = refl
or_none false = refl

or_true : (b : Bool) → (b || true) ≡ true
or_true true = refl
or_true false = refl

and_false : (b : Bool) → (b && false) ≡ false
and_false true = refl
and_false false = refl

or_twice : (a b : Bool) → (a || (a || b)) ≡ (a || b)
or_twice true b = refl
or_twice false b = refl

-- what ends in blocks has some behind all static fields
ends_trail : (es : List Element) → (ends_in_blocks es || has_trailing_blocks es) ≡ has_trailing_blocks es
ends_trail [] = refl
ends_trail (e ∷ es) = or_twice (ends_in_blocks (e ∷ es)) (has_trailing_blocks es)

or_swapped : (a b : Bool) → (a || b) ≡ (b || a)
or_swapped true true = refl
or_swapped true false = refl
or_swapped false true = refl
or_swapped false false = refl

met : (no_field trailing : Bool) → ((no_field || trailing) || no_field) ≡ (trailing || no_field)
met true true = refl
met true false = refl
met false true = refl
met false false = refl

-- one element more, which is a static field or not and a block or not, with the blocks and static fields among the rest
step : (is_field is_block before blocks fields trailing : Bool) → ((blocks && not fields) || trailing) ≡ trailing
    → ((((is_block || blocks) && not (is_field || fields)) || trailing) || ((before || (is_block || blocks)) && not (is_field || fields))) ≡ (trailing || ((cond is_field false (before || is_block) || blocks) && not fields))
step true is_block before blocks fields trailing e =
    ap (λ b. (b || trailing) || ((before || (is_block || blocks)) && false)) (and_false (is_block || blocks))
    ∙ ap (λ b. trailing || b) (and_false (before || (is_block || blocks)))
    ∙ or_none trailing ∙ sym e ∙ or_swapped (blocks && not fields) trailing
step false true before blocks fields trailing e =
    ap (λ b. ((not fields || trailing) || (b && not fields))) (or_true before)
    ∙ met (not fields) trailing
    ∙ ap (λ b. trailing || ((b || blocks) && not fields)) (sym (or_true before))
step false false before blocks fields trailing e =
    ap (λ b. b || ((before || blocks) && not fields)) e
    ∙ ap (λ b. trailing || ((b || blocks) && not fields)) (sym (or_none before))

pub trails_step : (blocks : Bool) (e : Element) (es : List Element) → trails_with blocks (e ∷ es) ≡ trails_with (cond (is_static_field e) false (blocks || e.is_block)) es
trails_step blocks e es = step (is_static_field e) e.is_block blocks (any_element (λ e. e.is_block) es) (any_element is_static_field es) (has_trailing_blocks es) (ends_trail es)

pub trails_static : (blocks : Bool) (t : Tree) (e : Element) (rest : Parts) → (e ∷ []) ≡ element_of (child t) → is_static_field e ≡ true → trails_with blocks (elements_in (more (child t) rest)) ≡ trails_with false (elements_in rest)
trails_static blocks t e rest is static =
    ap (λ es. trails_with blocks (es ++ elements_in rest)) (sym is)
    ∙ trails_step blocks e (elements_in rest)
    ∙ ap (λ b. trails_with (cond b false (blocks || e.is_block)) (elements_in rest)) static

pub trails_none : (blocks : Bool) → trails_with blocks [] ≡ blocks
trails_none true = refl
trails_none false = refl

pub trails_all : (es : List Element) → trails_with false es ≡ has_trailing_blocks es
trails_all es = or_swapped (has_trailing_blocks es) (ends_in_blocks es) ∙ ends_trail es
