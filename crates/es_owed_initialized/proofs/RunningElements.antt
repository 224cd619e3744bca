-- Elements that run with their class, by the kind of a node.
use Rattle.std.proofs.Common.{◌≡◌, refl, ap, true, false}
use Rattle.es_base.specs.Tree.{Tree, Node, child}
use Rattle.es_base.specs.declared.kind.Kind.{Kind}
use Rattle.es_lowered.specs.HelperCalls.{body_runs, runs_with_class}
use Rattle.es_node.specs.View.{kind_of, parts_in}
use Rattle.es_steps.specs.Parts.{at, is_true}

pub runs_block : (t : Tree) → kind_of t ≡ Kind.StaticBlock → runs_with_class (child t) ≡ true
runs_block (Node kind m span semantic_id ps) is = ap (λ k. runs_with_class (child (Node k m span semantic_id ps))) is

pub runs_field : (t : Tree) → kind_of t ≡ Kind.PropertyDefinition → runs_with_class (child t) ≡ is_true (at 3 (parts_in t))
runs_field (Node kind m span semantic_id ps) is = ap (λ k. runs_with_class (child (Node k m span semantic_id ps))) is

pub runs_not : (t : Tree) → (kind_of t ≡ Kind.StaticBlock → ⊥) → (kind_of t ≡ Kind.PropertyDefinition → ⊥) → runs_with_class (child t) ≡ false
runs_not (Node Kind.StaticBlock m span semantic_id ps) a b = absurd (a refl)
runs_not (Node Kind.PropertyDefinition m span semantic_id ps) a b = absurd (b refl)
runs_not (Node kind m span semantic_id ps) a b = refl

pub no_body : (t : Tree) → (kind_of t ≡ Kind.ClassBody → ⊥) → body_runs (child t) ≡ false
no_body (Node Kind.ClassBody m span semantic_id ps) other = absurd (other refl)
no_body (Node kind m span semantic_id ps) other = refl
