-- What the kind of a node says of the tests of nodes: each looks at few kinds, and says no of all others.
use Rattle.std.proofs.Common.{◌≡◌, refl, ap, ◌||◌, ℕ, [], true, false, not, None}
use Rattle.es_base.specs.Tree.{Tree, Part, Parts, Node, end, more, child, absent}
use Rattle.es_base.specs.declared.kind.Kind.{Kind}
use Rattle.es_node.specs.View.{kind_of, parts_in}
use Rattle.es_steps.specs.Context.{is_super_call, holds_super, parts_hold_super}
use Rattle.es_steps.specs.LoweredClasses.{is_private_key, constructor_function, constructor_in}
use Rattle.es_steps.specs.Printable as jumps
use Rattle.es_steps.specs.Printable.{has_id, is_suspending, is_spelled, is_super_part, has_optional, is_declaration_body, is_declaration_without_name, is_stray, is_looping}
use Rattle.es_steps.specs.Repeated.{is_loop}
use Rattle.es_steps.specs.Values.{String}
use Rattle.es_steps.specs.declared.options.Options.{Options}
use Rattle.es_validity.specs.Around.{Around, parameters_hold_super, position_by_kind, inside}
use Rattle.es_validity.specs.Faults.{extra_constructors, is_constructor_element}
use Rattle.es_validity.specs.Rules.{breaks_constructor_form, breaks_private_constructor, is_super_member, is_super_member_part, breaks_super_private, is_private_field, ends_in_private, breaks_delete_private, breaks_own_arguments, breaks_await_yield, breaks_chain_form, takes_helper_name, is_loose_method, is_super_form}

-- a node of this kind, of which nothing else is asked
abbrev of_kind : Kind → Part
of_kind kind = child (Node kind 0 None None end)

-- ---- tests of the kind alone

pub super_kind : (t : Tree) → is_super_part (child t) ≡ is_super_part (of_kind (kind_of t))
super_kind (Node Kind.Super m span semantic_id ps) = refl
super_kind (Node kind m span semantic_id ps) = refl

pub private_key_kind : (t : Tree) → is_private_key (child t) ≡ is_private_key (of_kind (kind_of t))
private_key_kind (Node Kind.PrivateIdentifier m span semantic_id ps) = refl
private_key_kind (Node kind m span semantic_id ps) = refl

pub private_field_kind : (t : Tree) → is_private_field (child t) ≡ is_private_field (of_kind (kind_of t))
private_field_kind (Node Kind.PrivateField m span semantic_id ps) = refl
private_field_kind (Node kind m span semantic_id ps) = refl

pub private_end : (t : Tree) → kind_of t ≡ Kind.PrivateField → ends_in_private (child t) ≡ true
private_end (Node Kind.PrivateField m span semantic_id ps) is = refl
private_end (Node kind m span semantic_id ps) is = absurd (cc)

pub await_kind : (a : Around) (kind : Kind) (ps : Parts) → kind ≡ Kind.AwaitExpression → breaks_await_yield a kind ps ≡ not a.awaits
await_kind a Kind.AwaitExpression ps is = refl
await_kind a kind ps is = absurd (cc)

pub yield_kind : (a : Around) (kind : Kind) (ps : Parts) → kind ≡ Kind.YieldExpression → breaks_await_yield a kind ps ≡ not a.yields
yield_kind a Kind.YieldExpression ps is = refl
yield_kind a kind ps is = absurd (cc)

pub class_body_kind : (kind : Kind) (ps : Parts) → kind ≡ Kind.ClassDeclaration → is_declaration_body kind ps ≡ true
class_body_kind Kind.ClassDeclaration ps is = refl
class_body_kind kind ps is = absurd (cc)

pub return_kind : (j : jumps.Jumps) (kind : Kind) (ps : Parts) → kind ≡ Kind.ReturnStatement → is_stray j kind ps ≡ not j.returns
return_kind j Kind.ReturnStatement ps is = refl
return_kind j kind ps is = absurd (cc)

-- ---- parts

pub no_private_end : (t : Tree) → (kind_of t ≡ Kind.PrivateField → ⊥) → (kind_of t ≡ Kind.ChainExpression → ⊥) → ends_in_private (child t) ≡ false
no_private_end (Node Kind.PrivateField m span semantic_id ps) other another = absurd (other refl)
no_private_end (Node Kind.ChainExpression m span semantic_id ps) other another = absurd (another refl)
no_private_end (Node kind m span semantic_id ps) other another = refl

pub no_super_member : (kind : Kind) (ps : Parts) → (kind ≡ Kind.MemberExpression → ⊥) → is_super_member kind ps ≡ false
no_super_member Kind.MemberExpression ps other = absurd (other refl)
no_super_member kind ps other = refl

pub super_member_part : (t : Tree) → is_super_member_part (child t) ≡ is_super_member (kind_of t) (parts_in t)
super_member_part (Node kind m span semantic_id ps) = refl

pub no_id : (t : Tree) → (kind_of t ≡ Kind.FunctionExpression → ⊥) → has_id (child t) ≡ false
no_id (Node Kind.FunctionExpression m span semantic_id ps) other = absurd (other refl)
no_id (Node kind m span semantic_id ps) other = refl

pub no_suspending : (t : Tree) → (kind_of t ≡ Kind.FunctionExpression → ⊥) → is_suspending (child t) ≡ false
no_suspending (Node Kind.FunctionExpression m span semantic_id ps) other = absurd (other refl)
no_suspending (Node kind m span semantic_id ps) other = refl

pub no_spelled : (s : String) (t : Tree) → (kind_of t ≡ Kind.IdentifierName → ⊥) → (kind_of t ≡ Kind.Literal → ⊥) → is_spelled s (child t) ≡ false
no_spelled s (Node Kind.IdentifierName m span semantic_id ps) other another = absurd (other refl)
no_spelled s (Node Kind.Literal m span semantic_id ps) other another = absurd (another refl)
no_spelled s (Node kind m span semantic_id ps) other another = refl

pub no_optional : (t : Tree) → (kind_of t ≡ Kind.MemberExpression → ⊥) → (kind_of t ≡ Kind.PrivateField → ⊥) → (kind_of t ≡ Kind.CallExpression → ⊥) → has_optional t ≡ false
no_optional (Node Kind.MemberExpression m span semantic_id ps) one two three = absurd (one refl)
no_optional (Node Kind.PrivateField m span semantic_id ps) one two three = absurd (two refl)
no_optional (Node Kind.CallExpression m span semantic_id ps) one two three = absurd (three refl)
no_optional (Node kind m span semantic_id ps) one two three = refl

-- ---- rules

pub no_constructor_form : (kind : Kind) (ps : Parts) → (kind ≡ Kind.MethodDefinition → ⊥) → (kind ≡ Kind.PropertyDefinition → ⊥) → breaks_constructor_form kind ps ≡ false
no_constructor_form Kind.MethodDefinition ps other another = absurd (other refl)
no_constructor_form Kind.PropertyDefinition ps other another = absurd (another refl)
no_constructor_form kind ps other another = refl

pub no_private_constructor : (kind : Kind) (ps : Parts) → (kind ≡ Kind.PrivateIdentifier → ⊥) → breaks_private_constructor kind ps ≡ false
no_private_constructor Kind.PrivateIdentifier ps other = absurd (other refl)
no_private_constructor kind ps other = refl

pub no_super_private : (kind : Kind) (ps : Parts) → (kind ≡ Kind.PrivateField → ⊥) → breaks_super_private kind ps ≡ false
no_super_private Kind.PrivateField ps other = absurd (other refl)
no_super_private kind ps other = refl

pub no_delete_private : (kind : Kind) (ps : Parts) → (kind ≡ Kind.UnaryExpression → ⊥) → breaks_delete_private kind ps ≡ false
no_delete_private Kind.UnaryExpression ps other = absurd (other refl)
no_delete_private kind ps other = refl

pub no_own_arguments : (a : Around) (kind : Kind) (ps : Parts) → (kind ≡ Kind.IdentifierReference → ⊥) → breaks_own_arguments a kind ps ≡ false
no_own_arguments a Kind.IdentifierReference ps other = absurd (other refl)
no_own_arguments a kind ps other = refl

pub no_await_yield : (a : Around) (kind : Kind) (ps : Parts) → (kind ≡ Kind.AwaitExpression → ⊥) → (kind ≡ Kind.ForOfStatement → ⊥) → (kind ≡ Kind.YieldExpression → ⊥) → breaks_await_yield a kind ps ≡ false
no_await_yield a Kind.AwaitExpression ps one two three = absurd (one refl)
no_await_yield a Kind.ForOfStatement ps one two three = absurd (two refl)
no_await_yield a Kind.YieldExpression ps one two three = absurd (three refl)
no_await_yield a kind ps one two three = refl

pub no_declaration : (kind : Kind) (ps : Parts) → (kind ≡ Kind.FunctionDeclaration → ⊥) → (kind ≡ Kind.ClassDeclaration → ⊥) → is_declaration_without_name kind ps ≡ false
no_declaration Kind.FunctionDeclaration ps other another = absurd (other refl)
no_declaration Kind.ClassDeclaration ps other another = absurd (another refl)
no_declaration kind ps other another = refl

pub no_chain_form : (a : Around) (kind : Kind) (ps : Parts) → (kind ≡ Kind.MemberExpression → ⊥) → (kind ≡ Kind.PrivateField → ⊥) → (kind ≡ Kind.CallExpression → ⊥) → (kind ≡ Kind.ChainExpression → ⊥) → breaks_chain_form a kind ps ≡ false
no_chain_form a Kind.MemberExpression ps one two three four = absurd (one refl)
no_chain_form a Kind.PrivateField ps one two three four = absurd (two refl)
no_chain_form a Kind.CallExpression ps one two three four = absurd (three refl)
no_chain_form a Kind.ChainExpression ps one two three four = absurd (four refl)
no_chain_form a kind ps one two three four = refl

pub no_declaration_body : (kind : Kind) (ps : Parts) → (kind ≡ Kind.ClassDeclaration → ⊥) → (kind ≡ Kind.VariableDeclaration → ⊥) → is_declaration_body kind ps ≡ false
no_declaration_body Kind.ClassDeclaration ps other another = absurd (other refl)
no_declaration_body Kind.VariableDeclaration ps other another = absurd (another refl)
no_declaration_body kind ps other another = refl

-- ---- forms that are left out

pub no_helper_name : (a : Around) (kind : Kind) (ps : Parts) → (kind ≡ Kind.BindingIdentifier → ⊥) → (kind ≡ Kind.IdentifierReference → ⊥) → takes_helper_name a kind ps ≡ false
no_helper_name a Kind.BindingIdentifier ps other another = absurd (other refl)
no_helper_name a Kind.IdentifierReference ps other another = absurd (another refl)
no_helper_name a kind ps other another = refl

pub no_loose_method : (o : Options) (kind : Kind) (ps : Parts) → (kind ≡ Kind.MethodDefinition → ⊥) → is_loose_method o kind ps ≡ false
no_loose_method o Kind.MethodDefinition ps other = absurd (other refl)
no_loose_method o kind ps other = refl

pub no_super_form : (a : Around) (kind : Kind) (ps : Parts) → (kind ≡ Kind.MemberExpression → ⊥) → (kind ≡ Kind.CallExpression → ⊥) → (kind ≡ Kind.UnaryExpression → ⊥) → is_super_form a kind ps ≡ false
no_super_form a Kind.MemberExpression ps one two three = absurd (one refl)
no_super_form a Kind.CallExpression ps one two three = absurd (two refl)
no_super_form a Kind.UnaryExpression ps one two three = absurd (three refl)
no_super_form a kind ps one two three = refl

-- ---- jumps

pub no_stray : (j : jumps.Jumps) (kind : Kind) (ps : Parts) → (kind ≡ Kind.BreakStatement → ⊥) → (kind ≡ Kind.ContinueStatement → ⊥) → (kind ≡ Kind.ReturnStatement → ⊥) → (kind ≡ Kind.LabeledStatement → ⊥) → is_stray j kind ps ≡ false
no_stray j Kind.BreakStatement ps one two three four = absurd (one refl)
no_stray j Kind.ContinueStatement ps one two three four = absurd (two refl)
no_stray j Kind.ReturnStatement ps one two three four = absurd (three refl)
no_stray j Kind.LabeledStatement ps one two three four = absurd (four refl)
no_stray j kind ps one two three four = refl

pub no_label_looping : (t : Tree) → (kind_of t ≡ Kind.LabeledStatement → ⊥) → is_looping t ≡ is_loop (kind_of t)
no_label_looping (Node Kind.LabeledStatement m span semantic_id ps) other = absurd (other refl)
no_label_looping (Node kind m span semantic_id ps) other = refl

-- ---- classes

pub super_call_part : (t : Tree) (rest : Parts) → is_super_call Kind.CallExpression (more (child t) rest) ≡ is_super_part (child t)
super_call_part (Node Kind.Super m span semantic_id ps) rest = refl
super_call_part (Node kind m span semantic_id ps) rest = refl

pub no_super_call : (kind : Kind) (ps : Parts) → (kind ≡ Kind.CallExpression → ⊥) → is_super_call kind ps ≡ false
no_super_call Kind.CallExpression ps other = absurd (other refl)
no_super_call kind ps other = refl

pub no_class_body : (t : Tree) → (kind_of t ≡ Kind.ClassBody → ⊥) → constructor_in (child t) ≡ absent
no_class_body (Node Kind.ClassBody m span semantic_id ps) other = absurd (other refl)
no_class_body (Node kind m span semantic_id ps) other = refl

pub no_constructor : (t : Tree) (rest : Parts) → (kind_of t ≡ Kind.MethodDefinition → ⊥) → constructor_function (more (child t) rest) ≡ constructor_function rest
no_constructor (Node Kind.MethodDefinition m span semantic_id ps) rest other = absurd (other refl)
no_constructor (Node kind m span semantic_id ps) rest other = refl

pub no_function : (t : Tree) → (kind_of t ≡ Kind.FunctionExpression → ⊥) → parameters_hold_super (child t) ≡ false
no_function (Node Kind.FunctionExpression m span semantic_id ps) other = absurd (other refl)
no_function (Node kind m span semantic_id ps) other = refl

pub no_constructor_element : (t : Tree) → (kind_of t ≡ Kind.MethodDefinition → ⊥) → is_constructor_element (child t) ≡ false
no_constructor_element (Node Kind.MethodDefinition m span semantic_id ps) other = absurd (other refl)
no_constructor_element (Node kind m span semantic_id ps) other = refl

pub no_extra_constructors : (kind : Kind) (ps : Parts) → (kind ≡ Kind.ClassBody → ⊥) → extra_constructors kind ps ≡ []
no_extra_constructors Kind.ClassBody ps other = absurd (other refl)
no_extra_constructors kind ps other = refl

pub holds_elsewhere : (t : Tree) → is_super_call (kind_of t) (parts_in t) ≡ false → (kind_of t ≡ Kind.FunctionDeclaration → ⊥) → (kind_of t ≡ Kind.FunctionExpression → ⊥) → holds_super t ≡ parts_hold_super (parts_in t)
holds_elsewhere (Node Kind.FunctionDeclaration m span semantic_id ps) none one two = absurd (one refl)
holds_elsewhere (Node Kind.FunctionExpression m span semantic_id ps) none one two = absurd (two refl)
holds_elsewhere (Node kind m span semantic_id ps) none one two = ap (λ b. b || parts_hold_super ps) none

-- ---- on the way down

pub inside_by_kind : (a : Around) (kind : Kind) (ps : Parts) (i : ℕ)
    → (kind ≡ Kind.Program → ⊥) → (kind ≡ Kind.FunctionDeclaration → ⊥) → (kind ≡ Kind.FunctionExpression → ⊥) → (kind ≡ Kind.ArrowFunctionExpression → ⊥) → (kind ≡ Kind.ClassDeclaration → ⊥)
    → (kind ≡ Kind.ClassExpression → ⊥) → (kind ≡ Kind.MethodDefinition → ⊥) → (kind ≡ Kind.PropertyDefinition → ⊥) → (kind ≡ Kind.StaticBlock → ⊥) → (kind ≡ Kind.Property → ⊥)
    → inside a kind ps i ≡ record a { position = position_by_kind a.position kind i }
inside_by_kind a Kind.Program ps i n1 n2 n3 n4 n5 n6 n7 n8 n9 n10 = absurd (n1 refl)
inside_by_kind a Kind.FunctionDeclaration ps i n1 n2 n3 n4 n5 n6 n7 n8 n9 n10 = absurd (n2 refl)
inside_by_kind a Kind.FunctionExpression ps i n1 n2 n3 n4 n5 n6 n7 n8 n9 n10 = absurd (n3 refl)
inside_by_kind a Kind.ArrowFunctionExpression ps i n1 n2 n3 n4 n5 n6 n7 n8 n9 n10 = absurd (n4 refl)
inside_by_kind a Kind.ClassDeclaration ps i n1 n2 n3 n4 n5 n6 n7 n8 n9 n10 = absurd (n5 refl)
inside_by_kind a Kind.ClassExpression ps i n1 n2 n3 n4 n5 n6 n7 n8 n9 n10 = absurd (n6 refl)
inside_by_kind a Kind.MethodDefinition ps i n1 n2 n3 n4 n5 n6 n7 n8 n9 n10 = absurd (n7 refl)
inside_by_kind a Kind.PropertyDefinition ps i n1 n2 n3 n4 n5 n6 n7 n8 n9 n10 = absurd (n8 refl)
inside_by_kind a Kind.StaticBlock ps i n1 n2 n3 n4 n5 n6 n7 n8 n9 n10 = absurd (n9 refl)
inside_by_kind a Kind.Property ps i n1 n2 n3 n4 n5 n6 n7 n8 n9 n10 = absurd (n10 refl)
inside_by_kind a kind ps i n1 n2 n3 n4 n5 n6 n7 n8 n9 n10 = refl
