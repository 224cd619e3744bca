-- The spelling of a node, by its kind.
use Rattle.std.proofs.Common.{◌≡◌, refl, ap, []}
use Rattle.es_base.specs.Tree.{Tree, Node, child}
use Rattle.es_base.specs.declared.kind.Kind.{Kind}
use Rattle.es_node.specs.View.{kind_of, parts_in}
use Rattle.es_lowered.specs.Definitions.{spelling}
use Rattle.es_steps.specs.Parts.{at, string_of}

pub spelled_reference : (t : Tree) → kind_of t ≡ Kind.IdentifierReference → spelling (child t) ≡ string_of (at 0 (parts_in t))
spelled_reference (Node kind m span semantic_id ps) is = ap (λ k. spelling (child (Node k m span semantic_id ps))) is

pub spelled_binding : (t : Tree) → kind_of t ≡ Kind.BindingIdentifier → spelling (child t) ≡ string_of (at 0 (parts_in t))
spelled_binding (Node kind m span semantic_id ps) is = ap (λ k. spelling (child (Node k m span semantic_id ps))) is

pub no_spelling : (t : Tree) → (kind_of t ≡ Kind.IdentifierReference → ⊥) → (kind_of t ≡ Kind.BindingIdentifier → ⊥) → spelling (child t) ≡ []
no_spelling (Node Kind.IdentifierReference m span semantic_id ps) a b = absurd (a refl)
no_spelling (Node Kind.BindingIdentifier m span semantic_id ps) a b = absurd (b refl)
no_spelling (Node kind m span semantic_id ps) a b = refl
