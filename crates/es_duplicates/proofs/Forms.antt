-- Templates: those without expressions, and copies of them.
use Rattle.std.proofs.Math.Dec.{eqb-suc-zero}
use Rattle.std.proofs.Common.{◌≡◌, refl, sym, ap, ℕ, List, [], ◌∷◌, map, length, nat_eq, Option, None}
use Rattle.es_base.specs.Numbered.{unnumbered}
use Rattle.es_base.specs.Tree.{Tree, Node, more, end, child, list, trees}
use Rattle.es_base.specs.declared.kind.Kind.{Kind}
use Rattle.es_duplicates.specs.Copies.{copy_of, items_without_number, without_number}
use Rattle.es_expression.specs.Expression.{template_literal}
use Rattle.es_steps.specs.LoweredClasses.{has_no_items}

pub no_expressions : (ts : List Tree) → has_no_items (list (trees ts)) ≡ nat_eq (length ts) 0
no_expressions [] = refl
no_expressions (t ∷ ts) = sym (eqb-suc-zero (length ts))

strings_copied : (ts : List Tree) → trees (map without_number ts) ≡ items_without_number (trees ts)
strings_copied [] = refl
strings_copied (t ∷ ts) = ap (more (child (without_number t))) (strings_copied ts)

pub template_copied : (m : ℕ) (span : Option (ℕ × ℕ)) (strings expressions : List Tree) → template_literal unnumbered span (map without_number strings) expressions ≡ copy_of (template_literal m span strings expressions)
template_copied m span strings expressions = ap (λ ps. Node Kind.TemplateLiteral unnumbered span None (more (list ps) (more (list (trees expressions)) end))) (strings_copied strings)
