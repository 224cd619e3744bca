-- What the kind of a node says of what it writes.
use Rattle.std.proofs.Common.{◌≡◌, refl, true, false}
use Rattle.es_base.specs.Tree.{Tree, Parts, Node, child}
use Rattle.es_base.specs.declared.kind.Kind.{Kind}
use Rattle.es_lowered.specs.Carriers as carriers
use Rattle.es_lowered.specs.Carriers.{assigns_super, is_lowered_target, keeps_target}
use Rattle.es_node.specs.View.{kind_of, parts_in}
use Rattle.es_validity.specs.Rules.{is_super_member}

pub no_write : (kind : Kind) (ps : Parts) (other : Kind) (qs : Parts) → (kind ≡ Kind.AssignmentExpression → ⊥) → (kind ≡ Kind.UpdateExpression → ⊥) → keeps_target kind ps other qs ≡ true
no_write Kind.AssignmentExpression ps other qs a b = absurd (a refl)
no_write Kind.UpdateExpression ps other qs a b = absurd (b refl)
no_write kind ps other qs a b = refl

pub no_assignment : (kind : Kind) (ps : Parts) → (kind ≡ Kind.AssignmentExpression → ⊥) → assigns_super kind ps ≡ false
no_assignment Kind.AssignmentExpression ps a = absurd (a refl)
no_assignment kind ps a = refl

-- ---- targets

pub super_target : (t : Tree) → carriers.is_super_member (child t) ≡ is_super_member (kind_of t) (parts_in t)
super_target (Node Kind.MemberExpression m span semantic_id ps) = refl
super_target (Node kind m span semantic_id ps) = refl

pub private_target : (t : Tree) → kind_of t ≡ Kind.PrivateField → is_lowered_target (child t) ≡ true
private_target (Node Kind.PrivateField m span semantic_id ps) is = refl
private_target (Node kind m span semantic_id ps) is = absurd (cc)

pub other_target : (t : Tree) → (kind_of t ≡ Kind.PrivateField → ⊥) → is_lowered_target (child t) ≡ is_super_member (kind_of t) (parts_in t)
other_target (Node Kind.PrivateField m span semantic_id ps) other = absurd (other refl)
other_target (Node kind m span semantic_id ps) other = refl
