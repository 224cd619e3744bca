-- Printed by tools/tree.py from tools/kinds.py.
-- The characters of a word are its bytes: words are ASCII.
use Rattle.std.proofs.Common.{◌≡◌, refl}
use Rattle.std.specs.Str.{chars}
use Rattle.es_base.specs.Words.{word_string}
use Rattle.es_base.specs.declared.operator.SourceType.{SourceType}
use Rattle.es_base.specs.declared.operator.VariableDeclarationKind.{VariableDeclarationKind}
use Rattle.es_base.specs.declared.operator.MethodDefinitionKind.{MethodDefinitionKind}
use Rattle.es_base.specs.declared.operator.PropertyKind.{PropertyKind}
use Rattle.es_base.specs.declared.operator.UnaryOperator.{UnaryOperator}
use Rattle.es_base.specs.declared.operator.UpdateOperator.{UpdateOperator}
use Rattle.es_base.specs.declared.operator.BinaryOperator.{BinaryOperator}
use Rattle.es_base.specs.declared.operator.LogicalOperator.{LogicalOperator}
use Rattle.es_base.specs.declared.operator.AssignmentOperator.{AssignmentOperator}
use Rattle.es_base.specs.declared.operator.Word.{Word}

pub chars-word_string : (w : Word) → chars (word_string w) ≡ word_string w
unfolding chars
chars-word_string (Word.SourceType SourceType.Script) = refl
chars-word_string (Word.SourceType SourceType.Module) = refl
chars-word_string (Word.VariableDeclarationKind VariableDeclarationKind.Var) = refl
chars-word_string (Word.VariableDeclarationKind VariableDeclarationKind.Let) = refl
chars-word_string (Word.VariableDeclarationKind VariableDeclarationKind.Const) = refl
chars-word_string (Word.MethodDefinitionKind MethodDefinitionKind.Constructor) = refl
chars-word_string (Word.MethodDefinitionKind MethodDefinitionKind.Method) = refl
chars-word_string (Word.MethodDefinitionKind MethodDefinitionKind.Get) = refl
chars-word_string (Word.MethodDefinitionKind MethodDefinitionKind.Set) = refl
chars-word_string (Word.PropertyKind PropertyKind.Init) = refl
chars-word_string (Word.PropertyKind PropertyKind.Get) = refl
chars-word_string (Word.PropertyKind PropertyKind.Set) = refl
chars-word_string (Word.UnaryOperator UnaryOperator.Minus) = refl
chars-word_string (Word.UnaryOperator UnaryOperator.Plus) = refl
chars-word_string (Word.UnaryOperator UnaryOperator.Not) = refl
chars-word_string (Word.UnaryOperator UnaryOperator.BitNot) = refl
chars-word_string (Word.UnaryOperator UnaryOperator.Typeof) = refl
chars-word_string (Word.UnaryOperator UnaryOperator.Void) = refl
chars-word_string (Word.UnaryOperator UnaryOperator.Delete) = refl
chars-word_string (Word.UpdateOperator UpdateOperator.Increment) = refl
chars-word_string (Word.UpdateOperator UpdateOperator.Decrement) = refl
chars-word_string (Word.BinaryOperator BinaryOperator.Equality) = refl
chars-word_string (Word.BinaryOperator BinaryOperator.Inequality) = refl
chars-word_string (Word.BinaryOperator BinaryOperator.StrictEquality) = refl
chars-word_string (Word.BinaryOperator BinaryOperator.StrictInequality) = refl
chars-word_string (Word.BinaryOperator BinaryOperator.LessThan) = refl
chars-word_string (Word.BinaryOperator BinaryOperator.LessEqualThan) = refl
chars-word_string (Word.BinaryOperator BinaryOperator.GreaterThan) = refl
chars-word_string (Word.BinaryOperator BinaryOperator.GreaterEqualThan) = refl
chars-word_string (Word.BinaryOperator BinaryOperator.ShiftLeft) = refl
chars-word_string (Word.BinaryOperator BinaryOperator.ShiftRight) = refl
chars-word_string (Word.BinaryOperator BinaryOperator.ShiftRightZeroFill) = refl
chars-word_string (Word.BinaryOperator BinaryOperator.Addition) = refl
chars-word_string (Word.BinaryOperator BinaryOperator.Subtraction) = refl
chars-word_string (Word.BinaryOperator BinaryOperator.Multiplication) = refl
chars-word_string (Word.BinaryOperator BinaryOperator.Division) = refl
chars-word_string (Word.BinaryOperator BinaryOperator.Remainder) = refl
chars-word_string (Word.BinaryOperator BinaryOperator.Exponential) = refl
chars-word_string (Word.BinaryOperator BinaryOperator.BitwiseOr) = refl
chars-word_string (Word.BinaryOperator BinaryOperator.BitwiseXor) = refl
chars-word_string (Word.BinaryOperator BinaryOperator.BitwiseAnd) = refl
chars-word_string (Word.BinaryOperator BinaryOperator.In) = refl
chars-word_string (Word.BinaryOperator BinaryOperator.Instanceof) = refl
chars-word_string (Word.LogicalOperator LogicalOperator.Or) = refl
chars-word_string (Word.LogicalOperator LogicalOperator.And) = refl
chars-word_string (Word.LogicalOperator LogicalOperator.Coalesce) = refl
chars-word_string (Word.AssignmentOperator AssignmentOperator.Assign) = refl
chars-word_string (Word.AssignmentOperator AssignmentOperator.Addition) = refl
chars-word_string (Word.AssignmentOperator AssignmentOperator.Subtraction) = refl
chars-word_string (Word.AssignmentOperator AssignmentOperator.Multiplication) = refl
chars-word_string (Word.AssignmentOperator AssignmentOperator.Division) = refl
chars-word_string (Word.AssignmentOperator AssignmentOperator.Remainder) = refl
chars-word_string (Word.AssignmentOperator AssignmentOperator.Exponential) = refl
chars-word_string (Word.AssignmentOperator AssignmentOperator.ShiftLeft) = refl
chars-word_string (Word.AssignmentOperator AssignmentOperator.ShiftRight) = refl
chars-word_string (Word.AssignmentOperator AssignmentOperator.ShiftRightZeroFill) = refl
chars-word_string (Word.AssignmentOperator AssignmentOperator.BitwiseOr) = refl
chars-word_string (Word.AssignmentOperator AssignmentOperator.BitwiseXor) = refl
chars-word_string (Word.AssignmentOperator AssignmentOperator.BitwiseAnd) = refl
chars-word_string (Word.AssignmentOperator AssignmentOperator.LogicalOr) = refl
chars-word_string (Word.AssignmentOperator AssignmentOperator.LogicalAnd) = refl
chars-word_string (Word.AssignmentOperator AssignmentOperator.LogicalNullish) = refl
chars-word_string Word.In = refl
chars-word_string Word.Init = refl
