-- What is known at a node from what stands around it, and how that changes on the way down a tree.
use Rattle.std.specs.Prelude.{ℕ, Bool, true, false, cond, ◌&&◌, ◌||◌, nat_eq, nat_le}
use Rattle.es_base.specs.Tree.{Part, Parts, Node, child}
use Rattle.es_base.specs.declared.kind.Kind.{Kind}
use Rattle.es_steps.specs.Context.{is_constructor, part_holds_super}
use Rattle.es_steps.specs.LoweredClasses.{is_private_key, constructor_in}
use Rattle.es_steps.specs.Parts.{at, string_of, is_true, is_present}
use Rattle.es_steps.specs.Printable.{Jumps, no_jumps, jumps_inside, is_accessor, is_module}
use Rattle.es_steps.specs.PrivateNames.{is_class}
use Rattle.es_validity.specs.declared.around.ClassAround.{ClassAround}
use Rattle.es_validity.specs.declared.around.Owner.{Owner}
use Rattle.es_validity.specs.declared.around.Position.{Position}

pub record Around : Type 0 where
  -- the nearest function that is no arrow, field value, static block or program
  pub owner : Owner
  -- the nearest class whose body is around
  pub class : ClassAround
  -- how the node stands in its parent
  pub position : Position
  -- whether `await` and `yield` may stand here
  pub awaits : Bool
  pub yields : Bool
  pub jumps : Jumps

abbrev pub no_class : ClassAround
no_class = record { has_heritage = false; super_in_parameters = false }

-- around a program
abbrev pub nothing_around : Around
nothing_around = record { owner = Owner.Program; class = no_class; position = Position.Other; awaits = false; yields = false; jumps = no_jumps false }

-- ---- the owner: keys and heritage of a class belong to what is around the class

-- of a function expression: that of a method is known by its position
abbrev pub function_owner : Position → Owner
function_owner (Position.MethodValue owner) = owner
function_owner position = Owner.Function

abbrev pub owner_in : Around → Kind → Parts → ℕ → Owner
owner_in a Kind.FunctionDeclaration ps i = Owner.Function
owner_in a Kind.FunctionExpression ps i = function_owner a.position
owner_in a Kind.PropertyDefinition ps i = cond (nat_eq i 1) (Owner.FieldValue (is_true (at 3 ps)) a.class.super_in_parameters) a.owner
owner_in a Kind.StaticBlock ps i = Owner.StaticBlock
owner_in a kind ps i = a.owner

-- ---- `await` and `yield`: arrows count as functions (ECMA-262, 15.5, 15.6, 15.8)

abbrev pub awaits_in : Around → Kind → Parts → ℕ → Bool
awaits_in a Kind.Program ps i = is_module Kind.Program ps
awaits_in a Kind.FunctionDeclaration ps i = is_true (at 3 ps)
awaits_in a Kind.FunctionExpression ps i = is_true (at 3 ps)
awaits_in a Kind.ArrowFunctionExpression ps i = is_true (at 2 ps)
awaits_in a Kind.PropertyDefinition ps i = cond (nat_eq i 1) false a.awaits
awaits_in a Kind.StaticBlock ps i = false
awaits_in a kind ps i = a.awaits

abbrev pub yields_in : Around → Kind → Parts → ℕ → Bool
yields_in a Kind.FunctionDeclaration ps i = is_true (at 4 ps)
yields_in a Kind.FunctionExpression ps i = is_true (at 4 ps)
yields_in a Kind.ArrowFunctionExpression ps i = false
yields_in a Kind.PropertyDefinition ps i = cond (nat_eq i 1) false a.yields
yields_in a Kind.StaticBlock ps i = false
yields_in a kind ps i = a.yields

-- ---- the class

abbrev pub parameters_hold_super : Part → Bool
parameters_hold_super (child (Node Kind.FunctionExpression m span semantic_id ps)) = part_holds_super (at 1 ps)
parameters_hold_super p = false

abbrev pub class_of : Parts → ClassAround
class_of ps = record { has_heritage = is_present (at 1 ps); super_in_parameters = parameters_hold_super (constructor_in (at 2 ps)) }

abbrev pub class_in : Around → Kind → Parts → ℕ → ClassAround
class_in a kind ps i = cond (is_class kind && nat_eq i 2) (class_of ps) a.class

-- ---- the position of the i-th part

abbrev pub method_owner : ClassAround → Parts → Owner
method_owner c ps = cond (is_constructor (string_of (at 2 ps))) (Owner.Constructor c.has_heritage) (Owner.Method (is_private_key (at 0 ps)))

-- `{ m() {} }`, `{ get x() {} }`
abbrev pub is_method_property : Parts → Bool
is_method_property ps = is_true (at 3 ps) || is_accessor (string_of (at 2 ps))

abbrev pub is_spine : Position → Bool
is_spine Position.Spine = true
is_spine position = false

-- the position where a test of the place holds
abbrev pub where_true : Position → Bool → Position
where_true position true = position
where_true position false = Position.Other

abbrev pub for_each_position : ℕ → Position
for_each_position i = cond (nat_eq i 0) Position.PatternTarget (where_true Position.Body (nat_eq i 2))

abbrev pub position_by_kind : Position → Kind → ℕ → Position
position_by_kind around Kind.ExportDefaultDeclaration i = Position.DefaultExport
position_by_kind around Kind.IfStatement i = where_true Position.Body (nat_le 1 i)
position_by_kind around Kind.LabeledStatement i = where_true Position.Body (nat_eq i 1)
position_by_kind around Kind.WhileStatement i = where_true Position.Body (nat_eq i 1)
position_by_kind around Kind.WithStatement i = where_true Position.Body (nat_eq i 1)
position_by_kind around Kind.DoWhileStatement i = where_true Position.Body (nat_eq i 0)
position_by_kind around Kind.ForStatement i = where_true Position.Body (nat_eq i 3)
position_by_kind around Kind.ForInStatement i = for_each_position i
position_by_kind around Kind.ForOfStatement i = for_each_position i
position_by_kind around Kind.ChainExpression i = Position.Spine
position_by_kind around Kind.MemberExpression i = where_true Position.Spine (is_spine around && nat_eq i 0)
position_by_kind around Kind.PrivateField i = where_true Position.Spine (is_spine around && nat_eq i 0)
position_by_kind around Kind.CallExpression i = where_true Position.Spine (is_spine around && nat_eq i 0)
position_by_kind around Kind.TaggedTemplateExpression i = where_true Position.Tag (nat_eq i 0)
position_by_kind around Kind.AssignmentExpression i = where_true Position.Target (nat_eq i 1)
position_by_kind around Kind.UpdateExpression i = where_true Position.Target (nat_eq i 1)
position_by_kind around Kind.AssignmentTargetProperty i = where_true Position.PatternTarget (nat_eq i 1)
position_by_kind around Kind.ArrayAssignmentTarget i = Position.PatternTarget
position_by_kind around Kind.AssignmentTargetWithDefault i = where_true Position.PatternTarget (nat_eq i 0)
position_by_kind around Kind.AssignmentTargetRest i = Position.PatternTarget
position_by_kind around kind i = Position.Other

abbrev pub position_in : Around → Kind → Parts → ℕ → Position
position_in a Kind.Program ps i = where_true Position.ModuleItem (is_module Kind.Program ps)
position_in a Kind.MethodDefinition ps i = cond (nat_eq i 1) (Position.MethodValue (method_owner a.class ps)) Position.Other
position_in a Kind.Property ps i = cond (nat_eq i 1 && is_method_property ps) (Position.MethodValue (Owner.Method false)) Position.Other
position_in a kind ps i = position_by_kind a.position kind i

-- ---- all of it

-- around the parts of a node, where a `break`, `continue` or `return` stands
abbrev pub behind : Around → Kind → Parts → Around
behind a kind ps = record a { jumps = jumps_inside a.jumps kind ps }

-- around the i-th part of a node
abbrev pub inside : Around → Kind → Parts → ℕ → Around
inside a kind ps i = record {
  owner = owner_in a kind ps i;
  class = class_in a kind ps i;
  position = position_in a kind ps i;
  awaits = awaits_in a kind ps i;
  yields = yields_in a kind ps i;
  jumps = a.jumps;
}
