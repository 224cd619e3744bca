-- Words, and what they are the words of.
use Rattle.std.proofs.Common.{◌≡◌, ◌≤◌, refl, sym, ap, ◌∙◌, arith, ℕ, List, [], ◌∷◌, length, Bool, true, false, Option, None}
use Rattle.std.specs.Prelude.{codes}
use Rattle.std.specs.Str.{chars}
use Rattle.es_base.specs.Tree.{Tree, Node}
use Rattle.es_base.specs.declared.kind.Kind.{Kind}
use Rattle.es_base.specs.declared.operator.BinaryOperator.{BinaryOperator}
use Rattle.es_expression.specs.Expression.{binary_expression}
use Rattle.es_expression.specs.Identifier.{identifier_reference}
use Rattle.es_node.specs.View.{kind_of, number_in, span_in, parts_in, parts_of}
use Rattle.es_node.specs.declared.node.Part as code
use Rattle.walk_tests.specs.Hoist.{is_none, is_this, replaced}
use Rattle.walk_tests.specs.Power.{is_power}

pub math_word : chars (codes "Math") ≡ codes "Math"
unfolding chars
math_word = refl

pub pow_word : chars (codes "pow") ≡ codes "pow"
unfolding chars
pow_word = refl

pub this_word : chars (codes "_this") ≡ codes "_this"
unfolding chars
this_word = refl

abbrev pub is_exponential : BinaryOperator → Bool
is_exponential BinaryOperator.Exponential = true
is_exponential operator = false

exponential : (i : ℕ) (sp : Option (ℕ × ℕ)) (operator : BinaryOperator) (l r : Tree) → is_exponential operator ≡ is_power (binary_expression i sp operator l r)
exponential i sp BinaryOperator.Exponential l r = refl
exponential i sp operator l r = refl

pub power_is : (t : Tree) (i : ℕ) (sp : Option (ℕ × ℕ)) (operator : BinaryOperator) (l r : Tree) → t ≡ binary_expression i sp operator l r → is_exponential operator ≡ is_power t
power_is t i sp operator l r is = exponential i sp operator l r ∙ sym (ap is_power is)

pub no_power : (t : Tree) → (kind_of t ≡ Kind.BinaryExpression → ⊥) → is_power t ≡ false
no_power (Node Kind.BinaryExpression i sp si ps) other = absurd (other refl)
no_power (Node k i sp si ps) other = refl

pub this_is : (t : Tree) (ps : List code.Part) → kind_of t ≡ Kind.ThisExpression → parts_in t ≡ parts_of ps → is_none (parts_of ps) ≡ is_this t
this_is (Node k i sp si qs) ps is are = ap is_none (sym are) ∙ sym (ap (λ l. is_this (Node l i sp si qs)) is)

pub no_this : (t : Tree) → (kind_of t ≡ Kind.ThisExpression → ⊥) → is_this t ≡ false
no_this (Node Kind.ThisExpression i sp si ps) other = absurd (other refl)
no_this (Node k i sp si ps) other = refl

pub some_parts : (ps : List code.Part) → 1 ≤ length ps → is_none (parts_of ps) ≡ false
some_parts [] some = absurd (omega arith)
some_parts (p ∷ ps) some = refl

pub named_is : (t : Tree) → identifier_reference (number_in t) (span_in t) None (codes "_this") ≡ replaced true t
named_is (Node k i sp si ps) = refl
