-- Keys that need a temporary: what the kind of a node says.
use Rattle.std.proofs.Math.Dec.{eqb-suc-zero}
use Rattle.std.proofs.Common.{◌≡◌, refl, ap, sym, ◌∙◌, ℕ, List, [], ◌∷◌, length, nat_eq, Bool, true, false, not, Option, Some, None}
use Rattle.es_base.specs.Tree.{Tree, Part, Node, end, more, child, list, trees}
use Rattle.es_base.specs.declared.kind.Kind.{Kind}
use Rattle.es_node.specs.View.{kind_of, number_in, parts_in}
use Rattle.es_steps.specs.LoweredClasses.{referent_of, is_fixed, is_regular_expression, needs_temporary}
use Rattle.es_steps.specs.Parts.{at}
use Rattle.es_steps.specs.References.{Reference, has_number}
use Rattle.es_steps.specs.Values.{Referent, Bound, Free}
use Rattle.es_shapes.specs.Names.{bound_number}

pub literal_needs : (written : List ℕ) (references : List Reference) (t : Tree) → kind_of t ≡ Kind.Literal → needs_temporary written references (child t) ≡ is_regular_expression (at 0 (parts_in t))
literal_needs written references (Node Kind.Literal m span semantic_id ps) is = refl
literal_needs written references (Node kind m span semantic_id ps) is = absurd (cc)

pub template_needs : (written : List ℕ) (references : List Reference) (m : ℕ) (span : Option (ℕ × ℕ)) (semantic_id : Option ℕ) (quasis : Part) (ts : List Tree) → needs_temporary written references (child (Node Kind.TemplateLiteral m span semantic_id (more quasis (more (list (trees ts)) end)))) ≡ not (nat_eq (length ts) 0)
template_needs written references m span semantic_id quasis [] = refl
template_needs written references m span semantic_id quasis (t ∷ ts) = ap not (sym (eqb-suc-zero (length ts)))

pub other_needs : (written : List ℕ) (references : List Reference) (t : Tree) → (kind_of t ≡ Kind.Literal → ⊥) → (kind_of t ≡ Kind.TemplateLiteral → ⊥) → (kind_of t ≡ Kind.IdentifierReference → ⊥) → needs_temporary written references (child t) ≡ true
other_needs written references (Node Kind.Literal m span semantic_id ps) string template name = absurd (string refl)
other_needs written references (Node Kind.TemplateLiteral m span semantic_id ps) string template name = absurd (template refl)
other_needs written references (Node Kind.IdentifierReference m span semantic_id ps) string template name = absurd (name refl)
other_needs written references (Node kind m span semantic_id ps) string template name = refl

-- a binding by its number, or none
abbrev changes : List ℕ → Option ℕ → Bool
changes written None = true
changes written (Some b) = has_number b written

not_not : (b : Bool) → not (not b) ≡ b
not_not true = refl
not_not false = refl

by_binding : (written : List ℕ) (r : Option Referent) → not (is_fixed written r) ≡ changes written (bound_number r)
by_binding written None = refl
by_binding written (Some (Bound b)) = not_not (has_number b written)
by_binding written (Some (Free s)) = refl

pub name_needs : (written : List ℕ) (references : List Reference) (t : Tree) (b : Option ℕ) → kind_of t ≡ Kind.IdentifierReference → b ≡ bound_number (referent_of (number_in t) references) → needs_temporary written references (child t) ≡ changes written b
name_needs written references (Node Kind.IdentifierReference m span semantic_id ps) b is e = by_binding written (referent_of m references) ∙ ap (changes written) (sym e)
name_needs written references (Node kind m span semantic_id ps) b is e = absurd (cc)
