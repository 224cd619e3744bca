-- What a catch declares.
use Rattle.std.proofs.Common.{◌≡◌, refl, false}
use Rattle.es_base.specs.Tree.{Tree, Parts, Node, child}
use Rattle.es_base.specs.declared.kind.Kind.{Kind}
use Rattle.es_node.specs.View.{kind_of}
use Rattle.es_steps.specs.Parts.{at}
use Rattle.es_steps.specs.References.{catches_a_name}
use Rattle.es_steps.specs.Scopes.{is_binding_identifier, is_declaring}

pub caught_name : (ps : Parts) → catches_a_name Kind.CatchClause ps ≡ is_declaring (at 0 ps)
caught_name ps = refl

pub no_catch : (kind : Kind) (ps : Parts) → (kind ≡ Kind.CatchClause → ⊥) → catches_a_name kind ps ≡ false
no_catch Kind.CatchClause ps other = absurd (other refl)
no_catch kind ps other = refl

pub no_name : (t : Tree) → is_declaring (child t) ≡ is_binding_identifier (kind_of t)
no_name (Node kind b span semantic_id ps) = refl
