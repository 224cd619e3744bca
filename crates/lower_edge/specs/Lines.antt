-- The lines that programs share, as bytes, each with its line feed.
use Rattle.std.specs.Prelude.{List, [], ◌∷◌, ◌++◌, ℕ, codes, decimal}
use Rattle.es_validity.specs.declared.error.LowerError.{LowerError}
use Rattle.es_validity.specs.declared.fault.LeftOut.{LeftOut}
use Rattle.es_validity.specs.declared.fault.TreeRule.{TreeRule}

abbrev pub line : List ℕ → List ℕ
line text = text ++ 10 ∷ []

abbrev pub bad_arguments_line : List ℕ
bad_arguments_line = line (codes "bad words")

abbrev pub read_fault_line : List ℕ
read_fault_line = line (codes "read fault")

abbrev pub too_long_line : List ℕ
too_long_line = line (codes "too long")

abbrev pub too_deep_line : List ℕ
too_deep_line = line (codes "too deep")

-- ---- refusals

abbrev pub rule_name : TreeRule → List ℕ
rule_name TreeRule.TwoConstructors = codes "TwoConstructors"
rule_name TreeRule.ConstructorForm = codes "ConstructorForm"
rule_name TreeRule.PrivateConstructor = codes "PrivateConstructor"
rule_name TreeRule.SuperCall = codes "SuperCall"
rule_name TreeRule.SuperMember = codes "SuperMember"
rule_name TreeRule.SuperPrivate = codes "SuperPrivate"
rule_name TreeRule.DeletePrivate = codes "DeletePrivate"
rule_name TreeRule.RepeatedName = codes "RepeatedName"
rule_name TreeRule.StrayJump = codes "StrayJump"
rule_name TreeRule.OwnArguments = codes "OwnArguments"
rule_name TreeRule.AwaitYield = codes "AwaitYield"
rule_name TreeRule.NoName = codes "NoName"
rule_name TreeRule.ChainForm = codes "ChainForm"
rule_name TreeRule.DeclarationPlace = codes "DeclarationPlace"
rule_name TreeRule.ModuleItem = codes "ModuleItem"

abbrev pub left_out_name : LeftOut → List ℕ
left_out_name LeftOut.Foreign = codes "Foreign"
left_out_name LeftOut.With = codes "With"
left_out_name LeftOut.Eval = codes "Eval"
left_out_name LeftOut.HelperName = codes "HelperName"
left_out_name LeftOut.LooseMethod = codes "LooseMethod"
left_out_name LeftOut.LooseIn = codes "LooseIn"
left_out_name LeftOut.SuperForm = codes "SuperForm"
left_out_name LeftOut.SuperInInitializer = codes "SuperInInitializer"

-- the line that says why a program is refused; there is none for want of memory
abbrev pub refusal_line : LowerError → List ℕ
refusal_line LowerError.NoMemory = []
refusal_line (LowerError.Unsupported node what) = line (codes "refused: Unsupported " ++ (left_out_name what ++ (codes " at " ++ decimal node.0)))
refusal_line (LowerError.UndeclaredPrivate node) = line (codes "refused: UndeclaredPrivate at " ++ decimal node.0)
refusal_line (LowerError.DuplicatePrivate node) = line (codes "refused: DuplicatePrivate at " ++ decimal node.0)
refusal_line (LowerError.BadTree node rule) = line (codes "refused: BadTree " ++ (rule_name rule ++ (codes " at " ++ decimal node.0)))
refusal_line (LowerError.TooLarge n) = line (codes "refused: TooLarge " ++ decimal n)
refusal_line (LowerError.NotYet node) = line (codes "refused: NotYet at " ++ decimal node.0)
