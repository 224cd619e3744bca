-- The forms of nodes, group by group.
use Rattle.std.proofs.Common.{◌≡◌, refl, Bool, true, false, ◌&&◌, ◌||◌}
use Rattle.es_base.specs.Tree.{Parts}
use Rattle.es_base.specs.declared.kind.Kind.{Kind}
use Rattle.es_steps.specs.Printable.{is_bad_form}
use Rattle.es_printable.specs.Members.{has_body, is_chain_form, is_declaration_form, is_element_form}

first : (x : Bool) → x ≡ ((true && x) || ((false && x) || ((false && x) || (false && x))))
first true = refl
first false = refl

second : (x : Bool) → x ≡ ((false && x) || ((true && x) || ((false && x) || (false && x))))
second true = refl
second false = refl

third : (x : Bool) → x ≡ ((false && x) || ((false && x) || ((true && x) || (false && x))))
third true = refl
third false = refl

pub by_group : (kind : Kind) (ps : Parts) → is_bad_form kind ps ≡ ((has_body kind && is_bad_form kind ps) || ((is_chain_form kind && is_bad_form kind ps) || ((is_element_form kind && is_bad_form kind ps) || (is_declaration_form kind && is_bad_form kind ps))))
by_group Kind.IfStatement ps = first (is_bad_form Kind.IfStatement ps)
by_group Kind.LabeledStatement ps = first (is_bad_form Kind.LabeledStatement ps)
by_group Kind.WhileStatement ps = first (is_bad_form Kind.WhileStatement ps)
by_group Kind.WithStatement ps = first (is_bad_form Kind.WithStatement ps)
by_group Kind.DoWhileStatement ps = first (is_bad_form Kind.DoWhileStatement ps)
by_group Kind.ForStatement ps = first (is_bad_form Kind.ForStatement ps)
by_group Kind.ForInStatement ps = first (is_bad_form Kind.ForInStatement ps)
by_group Kind.ForOfStatement ps = first (is_bad_form Kind.ForOfStatement ps)
by_group Kind.Foreign ps = second (is_bad_form Kind.Foreign ps)
by_group Kind.SequenceExpression ps = second (is_bad_form Kind.SequenceExpression ps)
by_group Kind.MetaProperty ps = second (is_bad_form Kind.MetaProperty ps)
by_group Kind.MemberExpression ps = second (is_bad_form Kind.MemberExpression ps)
by_group Kind.PrivateField ps = second (is_bad_form Kind.PrivateField ps)
by_group Kind.CallExpression ps = second (is_bad_form Kind.CallExpression ps)
by_group Kind.ChainExpression ps = second (is_bad_form Kind.ChainExpression ps)
by_group Kind.Property ps = third (is_bad_form Kind.Property ps)
by_group Kind.BindingProperty ps = third (is_bad_form Kind.BindingProperty ps)
by_group Kind.AssignmentTargetProperty ps = third (is_bad_form Kind.AssignmentTargetProperty ps)
by_group Kind.MethodDefinition ps = third (is_bad_form Kind.MethodDefinition ps)
by_group Kind.PropertyDefinition ps = third (is_bad_form Kind.PropertyDefinition ps)
by_group Kind.VariableDeclarator ps = third (is_bad_form Kind.VariableDeclarator ps)
by_group Kind.AssignmentPattern ps = third (is_bad_form Kind.AssignmentPattern ps)
by_group Kind.AssignmentTargetWithDefault ps = third (is_bad_form Kind.AssignmentTargetWithDefault ps)
by_group Kind.RestElement ps = third (is_bad_form Kind.RestElement ps)
by_group Kind.AssignmentTargetRest ps = third (is_bad_form Kind.AssignmentTargetRest ps)
by_group Kind.CatchClause ps = third (is_bad_form Kind.CatchClause ps)
by_group kind ps = refl
