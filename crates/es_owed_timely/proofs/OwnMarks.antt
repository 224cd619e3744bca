-- The marks that a node has by itself, by its kind.
use Rattle.std.proofs.Common.{◌≡◌, refl, ap, ℕ, List, [], ◌∷◌, ◌++◌, Option}
use Rattle.std.proofs.Math.Bool.{or-false}
use Rattle.es_base.specs.Tree.{Parts}
use Rattle.es_base.specs.declared.kind.Kind.{Kind}
use Rattle.es_lowered.specs.ClassNames.{any_among}
use Rattle.es_lowered.specs.Definitions.{spelling}
use Rattle.es_lowered.specs.Timely.{Around, MarkForm, hoists, initializes, needed_names, uses_of}
use Rattle.es_steps.specs.Parts.{at}
use Rattle.es_steps.specs.References.{has_number}
use Rattle.es_seen_names.specs.PrivateMembers.{private_members_of}
use Rattle.es_owed_timely.specs.Search.{declared_mark, initialized_mark, mark, marks_before, marks_behind}
use Rattle.es_owed_timely.specs.declared.terms.Search.{Search}

module _ (s : Search) (x : Around) (m : ℕ) (ps : Parts) where
  pub before_reference : (kind : Kind) → kind ≡ Kind.IdentifierReference → marks_before s x kind m ps ≡ marks_before s x Kind.IdentifierReference m ps
  before_reference kind is = ap (λ k. marks_before s x k m ps) is

  pub before_class : (kind : Kind) → kind ≡ Kind.ClassDeclaration → marks_before s x kind m ps ≡ uses_of x (needed_names m (private_members_of s.members.now) s.ledger.now)
  before_class kind is = ap (λ k. marks_before s x k m ps) is

  pub before_class_expression : (kind : Kind) → kind ≡ Kind.ClassExpression → marks_before s x kind m ps ≡ uses_of x (needed_names m (private_members_of s.members.now) s.ledger.now)
  before_class_expression kind is = ap (λ k. marks_before s x k m ps) is

  pub before_function : (kind : Kind) → kind ≡ Kind.FunctionDeclaration → marks_before s x kind m ps ≡ mark s x hoists (spelling (at 0 ps)) []
  before_function kind is = ap (λ k. marks_before s x k m ps) is

  pub before_none : (kind : Kind) → (kind ≡ Kind.IdentifierReference → ⊥) → (kind ≡ Kind.ClassDeclaration → ⊥) → (kind ≡ Kind.ClassExpression → ⊥) → (kind ≡ Kind.FunctionDeclaration → ⊥) → marks_before s x kind m ps ≡ []
  before_none Kind.IdentifierReference a b c d = absurd (a refl)
  before_none Kind.ClassDeclaration a b c d = absurd (b refl)
  before_none Kind.ClassExpression a b c d = absurd (c refl)
  before_none Kind.FunctionDeclaration a b c d = absurd (d refl)
  before_none kind a b c d = refl

  pub behind_assignment : (in_let : Option MarkForm) (kind : Kind) → kind ≡ Kind.AssignmentExpression → marks_behind s x in_let kind m ps ≡ mark s x initializes (spelling (at 1 ps)) []
  behind_assignment in_let kind is = ap (λ k. marks_behind s x in_let k m ps) is

  pub behind_declarator : (in_let : Option MarkForm) (kind : Kind) → kind ≡ Kind.VariableDeclarator → marks_behind s x in_let kind m ps ≡ declared_mark s x in_let (at 0 ps) ++ initialized_mark s x (at 0 ps) (at 1 ps)
  behind_declarator in_let kind is = ap (λ k. marks_behind s x in_let k m ps) is

  pub behind_class : (in_let : Option MarkForm) (kind : Kind) → kind ≡ Kind.ClassDeclaration → marks_behind s x in_let kind m ps ≡ mark s x initializes [] (m ∷ [])
  behind_class in_let kind is = ap (λ k. marks_behind s x in_let k m ps) is

  pub behind_class_expression : (in_let : Option MarkForm) (kind : Kind) → kind ≡ Kind.ClassExpression → marks_behind s x in_let kind m ps ≡ mark s x initializes [] (m ∷ [])
  behind_class_expression in_let kind is = ap (λ k. marks_behind s x in_let k m ps) is

  pub behind_none : (in_let : Option MarkForm) (kind : Kind) → (kind ≡ Kind.AssignmentExpression → ⊥) → (kind ≡ Kind.VariableDeclarator → ⊥) → (kind ≡ Kind.ClassDeclaration → ⊥) → (kind ≡ Kind.ClassExpression → ⊥) → marks_behind s x in_let kind m ps ≡ []
  behind_none in_let Kind.AssignmentExpression a b c d = absurd (a refl)
  behind_none in_let Kind.VariableDeclarator a b c d = absurd (b refl)
  behind_none in_let Kind.ClassDeclaration a b c d = absurd (c refl)
  behind_none in_let Kind.ClassExpression a b c d = absurd (d refl)
  behind_none in_let kind a b c d = refl

-- ---- what is asked

pub among_one : (ns : List ℕ) (m : ℕ) → any_among ns (m ∷ []) ≡ has_number m ns
among_one ns m = or-false (has_number m ns)
