-- What the kind of a node says of its `?.`.
use Rattle.std.proofs.Common.{◌≡◌, refl, false, ◌||◌}
use Rattle.std.specs.Prelude.{not}
use Rattle.es_base.specs.Tree.{Parts}
use Rattle.es_base.specs.declared.kind.Kind.{Kind}
use Rattle.es_lowered.specs.Carriers.{has_question, is_call_of, may_question}

pub no_question : (kind : Kind) (ps : Parts) → (kind ≡ Kind.MemberExpression → ⊥) → (kind ≡ Kind.PrivateField → ⊥) → (kind ≡ Kind.CallExpression → ⊥) → has_question kind ps ≡ false
no_question Kind.MemberExpression ps a b c = absurd (a refl)
no_question Kind.PrivateField ps a b c = absurd (b refl)
no_question Kind.CallExpression ps a b c = absurd (c refl)
no_question kind ps a b c = refl

pub member_question : (kind : Kind) (ps : Parts) → kind ≡ Kind.MemberExpression → may_question kind ps ≡ (not (has_question kind ps) || is_call_of ps)
member_question Kind.MemberExpression ps is = refl
member_question kind ps is = absurd (cc)

pub asks_nothing : (kind : Kind) (ps : Parts) → (kind ≡ Kind.MemberExpression → ⊥) → may_question kind ps ≡ not (has_question kind ps)
asks_nothing Kind.MemberExpression ps other = absurd (other refl)
asks_nothing Kind.PrivateField ps other = refl
asks_nothing Kind.CallExpression ps other = refl
asks_nothing kind ps other = refl
