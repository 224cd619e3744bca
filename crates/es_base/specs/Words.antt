-- Printed by tools/tree.py from tools/kinds.py.
-- The words that members hold (ECMA-262, and ESTree for the kinds of declarations and members).
use Rattle.std.specs.Prelude.{ℕ, List, [], ◌∷◌, Bool, true, false, codes}
use Rattle.es_base.specs.declared.operator.SourceType.{SourceType}
use Rattle.es_base.specs.declared.operator.VariableDeclarationKind.{VariableDeclarationKind}
use Rattle.es_base.specs.declared.operator.MethodDefinitionKind.{MethodDefinitionKind}
use Rattle.es_base.specs.declared.operator.PropertyKind.{PropertyKind}
use Rattle.es_base.specs.declared.operator.UnaryOperator.{UnaryOperator}
use Rattle.es_base.specs.declared.operator.UpdateOperator.{UpdateOperator}
use Rattle.es_base.specs.declared.operator.BinaryOperator.{BinaryOperator}
use Rattle.es_base.specs.declared.operator.LogicalOperator.{LogicalOperator}
use Rattle.es_base.specs.declared.operator.AssignmentOperator.{AssignmentOperator}
use Rattle.es_base.specs.declared.operator.Word.{Word}
use Rattle.es_base.specs.declared.table.Words.{Words}

abbrev pub source_type_string : SourceType → List ℕ
source_type_string SourceType.Script = codes "script"
source_type_string SourceType.Module = codes "module"

abbrev pub variable_declaration_kind_string : VariableDeclarationKind → List ℕ
variable_declaration_kind_string VariableDeclarationKind.Var = codes "var"
variable_declaration_kind_string VariableDeclarationKind.Let = codes "let"
variable_declaration_kind_string VariableDeclarationKind.Const = codes "const"

abbrev pub method_definition_kind_string : MethodDefinitionKind → List ℕ
method_definition_kind_string MethodDefinitionKind.Constructor = codes "constructor"
method_definition_kind_string MethodDefinitionKind.Method = codes "method"
method_definition_kind_string MethodDefinitionKind.Get = codes "get"
method_definition_kind_string MethodDefinitionKind.Set = codes "set"

abbrev pub property_kind_string : PropertyKind → List ℕ
property_kind_string PropertyKind.Init = codes "init"
property_kind_string PropertyKind.Get = codes "get"
property_kind_string PropertyKind.Set = codes "set"

abbrev pub unary_operator_string : UnaryOperator → List ℕ
unary_operator_string UnaryOperator.Minus = codes "-"
unary_operator_string UnaryOperator.Plus = codes "+"
unary_operator_string UnaryOperator.Not = codes "!"
unary_operator_string UnaryOperator.BitNot = codes "~"
unary_operator_string UnaryOperator.Typeof = codes "typeof"
unary_operator_string UnaryOperator.Void = codes "void"
unary_operator_string UnaryOperator.Delete = codes "delete"

abbrev pub update_operator_string : UpdateOperator → List ℕ
update_operator_string UpdateOperator.Increment = codes "++"
update_operator_string UpdateOperator.Decrement = codes "--"

abbrev pub binary_operator_string : BinaryOperator → List ℕ
binary_operator_string BinaryOperator.Equality = codes "=="
binary_operator_string BinaryOperator.Inequality = codes "!="
binary_operator_string BinaryOperator.StrictEquality = codes "==="
binary_operator_string BinaryOperator.StrictInequality = codes "!=="
binary_operator_string BinaryOperator.LessThan = codes "<"
binary_operator_string BinaryOperator.LessEqualThan = codes "<="
binary_operator_string BinaryOperator.GreaterThan = codes ">"
binary_operator_string BinaryOperator.GreaterEqualThan = codes ">="
binary_operator_string BinaryOperator.ShiftLeft = codes "<<"
binary_operator_string BinaryOperator.ShiftRight = codes ">>"
binary_operator_string BinaryOperator.ShiftRightZeroFill = codes ">>>"
binary_operator_string BinaryOperator.Addition = codes "+"
binary_operator_string BinaryOperator.Subtraction = codes "-"
binary_operator_string BinaryOperator.Multiplication = codes "*"
binary_operator_string BinaryOperator.Division = codes "/"
binary_operator_string BinaryOperator.Remainder = codes "%"
binary_operator_string BinaryOperator.Exponential = codes "**"
binary_operator_string BinaryOperator.BitwiseOr = codes "|"
binary_operator_string BinaryOperator.BitwiseXor = codes "^"
binary_operator_string BinaryOperator.BitwiseAnd = codes "&"
binary_operator_string BinaryOperator.In = codes "in"
binary_operator_string BinaryOperator.Instanceof = codes "instanceof"

abbrev pub logical_operator_string : LogicalOperator → List ℕ
logical_operator_string LogicalOperator.Or = codes "||"
logical_operator_string LogicalOperator.And = codes "&&"
logical_operator_string LogicalOperator.Coalesce = codes "??"

abbrev pub assignment_operator_string : AssignmentOperator → List ℕ
assignment_operator_string AssignmentOperator.Assign = codes "="
assignment_operator_string AssignmentOperator.Addition = codes "+="
assignment_operator_string AssignmentOperator.Subtraction = codes "-="
assignment_operator_string AssignmentOperator.Multiplication = codes "*="
assignment_operator_string AssignmentOperator.Division = codes "/="
assignment_operator_string AssignmentOperator.Remainder = codes "%="
assignment_operator_string AssignmentOperator.Exponential = codes "**="
assignment_operator_string AssignmentOperator.ShiftLeft = codes "<<="
assignment_operator_string AssignmentOperator.ShiftRight = codes ">>="
assignment_operator_string AssignmentOperator.ShiftRightZeroFill = codes ">>>="
assignment_operator_string AssignmentOperator.BitwiseOr = codes "|="
assignment_operator_string AssignmentOperator.BitwiseXor = codes "^="
assignment_operator_string AssignmentOperator.BitwiseAnd = codes "&="
assignment_operator_string AssignmentOperator.LogicalOr = codes "||="
assignment_operator_string AssignmentOperator.LogicalAnd = codes "&&="
assignment_operator_string AssignmentOperator.LogicalNullish = codes "??="

-- the string that a word is written as
abbrev pub word_string : Word → List ℕ
word_string (Word.SourceType w) = source_type_string w
word_string (Word.VariableDeclarationKind w) = variable_declaration_kind_string w
word_string (Word.MethodDefinitionKind w) = method_definition_kind_string w
word_string (Word.PropertyKind w) = property_kind_string w
word_string (Word.UnaryOperator w) = unary_operator_string w
word_string (Word.UpdateOperator w) = update_operator_string w
word_string (Word.BinaryOperator w) = binary_operator_string w
word_string (Word.LogicalOperator w) = logical_operator_string w
word_string (Word.AssignmentOperator w) = assignment_operator_string w
word_string Word.In = codes "in"
word_string Word.Init = codes "init"

-- whether a word is of this set
abbrev pub is_of_set : Words → Word → Bool
is_of_set Words.SourceType (Word.SourceType w) = true
is_of_set Words.VariableDeclarationKind (Word.VariableDeclarationKind w) = true
is_of_set Words.MethodDefinitionKind (Word.MethodDefinitionKind w) = true
is_of_set Words.PropertyKind (Word.PropertyKind w) = true
is_of_set Words.UnaryOperator (Word.UnaryOperator w) = true
is_of_set Words.UpdateOperator (Word.UpdateOperator w) = true
is_of_set Words.BinaryOperator (Word.BinaryOperator w) = true
is_of_set Words.LogicalOperator (Word.LogicalOperator w) = true
is_of_set Words.AssignmentOperator (Word.AssignmentOperator w) = true
is_of_set Words.In Word.In = true
is_of_set Words.Init Word.Init = true
is_of_set set w = false

-- the words of a set
abbrev pub all_of_set : Words → List Word
all_of_set Words.SourceType = Word.SourceType SourceType.Script ∷ Word.SourceType SourceType.Module ∷ []
all_of_set Words.VariableDeclarationKind = Word.VariableDeclarationKind VariableDeclarationKind.Var ∷ Word.VariableDeclarationKind VariableDeclarationKind.Let ∷ Word.VariableDeclarationKind VariableDeclarationKind.Const ∷ []
all_of_set Words.MethodDefinitionKind = Word.MethodDefinitionKind MethodDefinitionKind.Constructor ∷ Word.MethodDefinitionKind MethodDefinitionKind.Method ∷ Word.MethodDefinitionKind MethodDefinitionKind.Get ∷ Word.MethodDefinitionKind MethodDefinitionKind.Set ∷ []
all_of_set Words.PropertyKind = Word.PropertyKind PropertyKind.Init ∷ Word.PropertyKind PropertyKind.Get ∷ Word.PropertyKind PropertyKind.Set ∷ []
all_of_set Words.UnaryOperator = Word.UnaryOperator UnaryOperator.Minus ∷ Word.UnaryOperator UnaryOperator.Plus ∷ Word.UnaryOperator UnaryOperator.Not ∷ Word.UnaryOperator UnaryOperator.BitNot ∷ Word.UnaryOperator UnaryOperator.Typeof ∷ Word.UnaryOperator UnaryOperator.Void ∷ Word.UnaryOperator UnaryOperator.Delete ∷ []
all_of_set Words.UpdateOperator = Word.UpdateOperator UpdateOperator.Increment ∷ Word.UpdateOperator UpdateOperator.Decrement ∷ []
all_of_set Words.BinaryOperator = Word.BinaryOperator BinaryOperator.Equality ∷ Word.BinaryOperator BinaryOperator.Inequality ∷ Word.BinaryOperator BinaryOperator.StrictEquality ∷ Word.BinaryOperator BinaryOperator.StrictInequality ∷ Word.BinaryOperator BinaryOperator.LessThan ∷ Word.BinaryOperator BinaryOperator.LessEqualThan ∷ Word.BinaryOperator BinaryOperator.GreaterThan ∷ Word.BinaryOperator BinaryOperator.GreaterEqualThan ∷ Word.BinaryOperator BinaryOperator.ShiftLeft ∷ Word.BinaryOperator BinaryOperator.ShiftRight ∷ Word.BinaryOperator BinaryOperator.ShiftRightZeroFill ∷ Word.BinaryOperator BinaryOperator.Addition ∷ Word.BinaryOperator BinaryOperator.Subtraction ∷ Word.BinaryOperator BinaryOperator.Multiplication ∷ Word.BinaryOperator BinaryOperator.Division ∷ Word.BinaryOperator BinaryOperator.Remainder ∷ Word.BinaryOperator BinaryOperator.Exponential ∷ Word.BinaryOperator BinaryOperator.BitwiseOr ∷ Word.BinaryOperator BinaryOperator.BitwiseXor ∷ Word.BinaryOperator BinaryOperator.BitwiseAnd ∷ Word.BinaryOperator BinaryOperator.In ∷ Word.BinaryOperator BinaryOperator.Instanceof ∷ []
all_of_set Words.LogicalOperator = Word.LogicalOperator LogicalOperator.Or ∷ Word.LogicalOperator LogicalOperator.And ∷ Word.LogicalOperator LogicalOperator.Coalesce ∷ []
all_of_set Words.AssignmentOperator = Word.AssignmentOperator AssignmentOperator.Assign ∷ Word.AssignmentOperator AssignmentOperator.Addition ∷ Word.AssignmentOperator AssignmentOperator.Subtraction ∷ Word.AssignmentOperator AssignmentOperator.Multiplication ∷ Word.AssignmentOperator AssignmentOperator.Division ∷ Word.AssignmentOperator AssignmentOperator.Remainder ∷ Word.AssignmentOperator AssignmentOperator.Exponential ∷ Word.AssignmentOperator AssignmentOperator.ShiftLeft ∷ Word.AssignmentOperator AssignmentOperator.ShiftRight ∷ Word.AssignmentOperator AssignmentOperator.ShiftRightZeroFill ∷ Word.AssignmentOperator AssignmentOperator.BitwiseOr ∷ Word.AssignmentOperator AssignmentOperator.BitwiseXor ∷ Word.AssignmentOperator AssignmentOperator.BitwiseAnd ∷ Word.AssignmentOperator AssignmentOperator.LogicalOr ∷ Word.AssignmentOperator AssignmentOperator.LogicalAnd ∷ Word.AssignmentOperator AssignmentOperator.LogicalNullish ∷ []
all_of_set Words.In = Word.In ∷ []
all_of_set Words.Init = Word.Init ∷ []
