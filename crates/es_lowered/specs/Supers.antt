-- `super` stands where it may: `super(..)` in the constructor of a class with a heritage, a member of `super` in methods, getters,
-- setters, the values of fields and static blocks; an arrow is no border. (ECMA-262, 13.2.5.1, 13.3.7.1, 15.7.1.)
use Rattle.std.specs.Prelude.{ℕ, suc, Bool, true, false, cond, not, ◌&&◌, ◌||◌, nat_eq}
use Rattle.es_base.specs.Tree.{Tree, Part, Parts, Node, end, more, child, list}
use Rattle.es_base.specs.declared.kind.Kind.{Kind}
use Rattle.es_steps.specs.Context.{is_constructor, is_function}
use Rattle.es_steps.specs.Parts.{at, string_of, is_true, is_present}
use Rattle.es_steps.specs.Printable.{is_accessor, is_super_part}
use Rattle.es_steps.specs.PrivateNames.{is_class}

-- what may stand here, and in a function that is the next part
pub record SuperPlace : Type 0 where
  pub calls : Bool
  pub members : Bool
  pub function_calls : Bool
  pub function_members : Bool
  -- whether the class around has a heritage
  pub has_heritage : Bool

abbrev pub no_place : SuperPlace
no_place = record { calls = false; members = false; function_calls = false; function_members = false; has_heritage = false }

abbrev pub is_stray_super : SuperPlace → Kind → Parts → Bool
is_stray_super x Kind.CallExpression ps = is_super_part (at 0 ps) && not x.calls
is_stray_super x Kind.MemberExpression ps = is_super_part (at 0 ps) && not x.members
is_stray_super x kind ps = false

-- the next part is the function of no method
abbrev pub in_no_method : SuperPlace → SuperPlace
in_no_method x = record x { function_calls = false; function_members = false }

abbrev pub in_method : Bool → SuperPlace → SuperPlace
in_method calls x = record x { function_calls = calls; function_members = true }

-- where no function is around
abbrev pub in_element : SuperPlace → SuperPlace
in_element x = record (in_no_method x) { calls = false; members = true }

-- in the body of a class
abbrev pub in_class : Bool → SuperPlace → SuperPlace
in_class has_heritage x = record (in_no_method x) { has_heritage = has_heritage }

-- of the part i of a node
abbrev pub super_inside : SuperPlace → Kind → Parts → ℕ → SuperPlace
super_inside x Kind.MethodDefinition ps i = cond (nat_eq i 1) (in_method (is_constructor (string_of (at 2 ps)) && x.has_heritage) x) (in_no_method x)
super_inside x Kind.Property ps i = cond (nat_eq i 1 && (is_true (at 3 ps) || is_accessor (string_of (at 2 ps)))) (in_method false x) (in_no_method x)
super_inside x Kind.PropertyDefinition ps i = cond (nat_eq i 1) (in_element x) (in_no_method x)
super_inside x Kind.StaticBlock ps i = in_element x
super_inside x kind ps i =
    cond (is_class kind && nat_eq i 2) (in_class (is_present (at 1 ps)) x)
    (cond (is_function kind) (record (in_no_method x) { calls = x.function_calls; members = x.function_members }) (in_no_method x))

abbrev mutual
  pub has_stray_super : SuperPlace → Tree → Bool
  has_stray_super x (Node kind m span semantic_id ps) = is_stray_super x kind ps || stray_super_in (super_inside x kind ps) ps

  pub stray_super_at : SuperPlace → Part → Bool
  stray_super_at x (child t) = has_stray_super x t
  stray_super_at x (list ps) = stray_super_of x ps
  stray_super_at x p = false

  pub stray_super_in : (ℕ → SuperPlace) → Parts → Bool
  stray_super_in x end = false
  stray_super_in x (more p ps) = stray_super_at (x 0) p || stray_super_in (λ i. x (suc i)) ps

  pub stray_super_of : SuperPlace → Parts → Bool
  stray_super_of x end = false
  stray_super_of x (more p ps) = stray_super_at x p || stray_super_of x ps

-- of a program and what it was lowered to
abbrev pub supers_stay : Tree → Tree → Bool
supers_stay p q = has_stray_super no_place p || not (has_stray_super no_place q)
