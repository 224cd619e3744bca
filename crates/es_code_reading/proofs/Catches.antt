-- What is seen around a catch, a class and all other nodes.
use Rattle.std.proofs.Common.{◌≡◌, refl, sym, ap, ◌∙◌, ℕ, [], ◌++◌, Bool, true, false, cond}
use Rattle.es_base.specs.Tree.{Parts}
use Rattle.es_base.specs.declared.kind.Kind.{Kind}
use Rattle.es_steps.specs.Context.{inner_name}
use Rattle.es_steps.specs.References.{catches_a_name, names_around}
use Rattle.es_steps.specs.Scopes.{names_at}

pub caught : (is_body : Bool) (kind : Kind) (m : ℕ) (ps : Parts) (i : ℕ) → catches_a_name kind ps ≡ true → names_around is_body kind m ps i ≡ []
caught is_body kind m ps i e = ap (λ b. cond b [] (names_at is_body kind m ps i)) e

pub class_around : (is_body : Bool) (kind : Kind) (m : ℕ) (ps : Parts) (i : ℕ) → kind ≡ Kind.ClassDeclaration → names_around is_body kind m ps i ≡ []
class_around true Kind.ClassDeclaration m ps i is = refl
class_around false Kind.ClassDeclaration m ps i is = refl
class_around is_body kind m ps i is = cc

no-inner-name : (kind : Kind) (m : ℕ) (ps : Parts) (i : ℕ) → (kind ≡ Kind.ClassDeclaration → ⊥) → inner_name kind m ps i ≡ []
no-inner-name Kind.ClassDeclaration m ps i other = absurd (other refl)
no-inner-name kind m ps i other = refl

pub seen_around : (is_body : Bool) (kind : Kind) (m : ℕ) (ps : Parts) (i : ℕ) → catches_a_name kind ps ≡ false → (kind ≡ Kind.ClassDeclaration → ⊥) → inner_name kind m ps i ++ names_at is_body kind m ps i ≡ names_around is_body kind m ps i
seen_around is_body kind m ps i e other = ap (λ ds. ds ++ names_at is_body kind m ps i) (no-inner-name kind m ps i other) ∙ sym (ap (λ b. cond b [] (names_at is_body kind m ps i)) e)
