-- The identifiers that declare a symbol: what each gives to the flags of its symbol, and which symbols are marked.
use Rattle.std.specs.Prelude.{ℕ, suc, List, [], ◌∷◌, ◌++◌, Bool, false, cond, ◌||◌, ◌&&◌, codes, bytes_eq, nat_eq, nat_le, bit_or, length}
use Rattle.std.specs.List.{list_any}
use Rattle.es_base.specs.Tree.{Tree, Part, Parts, Node, end, more, child, absent, list, string, no_string, boolean, literal}
use Rattle.es_base.specs.declared.kind.Kind.{Kind}
use Rattle.es_scopes.specs.declared.flags.SymbolFlags.{SymbolFlags}
use Rattle.es_scopes.specs.declared.flags.TheConstants.SymbolFlags as flag
use Rattle.es_steps.specs.Parts.{at, string_of}

abbrev pub variable_flags : List ℕ → ℕ
variable_flags word = cond (bytes_eq word (codes "var")) flag.VAR.0 (cond (bytes_eq word (codes "let")) flag.LET.0 flag.CONST.0)

-- the flags of the names that the i-th part declares, where `around` are those of the names that the node declares
abbrev pub flags_in : Kind → Parts → ℕ → ℕ → ℕ
flags_in Kind.VariableDeclaration ps around i = variable_flags (string_of (at 0 ps))
flags_in Kind.FunctionDeclaration ps around i = cond (nat_eq i 0) flag.FUNCTION.0 flag.PARAM.0
flags_in Kind.FunctionExpression ps around i = cond (nat_eq i 0) flag.FUNCTION.0 flag.PARAM.0
flags_in Kind.ArrowFunctionExpression ps around i = flag.PARAM.0
flags_in Kind.ClassDeclaration ps around i = flag.CLASS.0
flags_in Kind.ClassExpression ps around i = flag.CLASS.0
flags_in Kind.CatchClause ps around i = flag.CATCH.0
flags_in Kind.ImportDeclaration ps around i = flag.IMPORT.0
flags_in kind ps around i = around

-- the i-th part declares a `var` in the head of a for-in or for-of, where `around` says whether the node does
abbrev pub in_head : Kind → Parts → Bool → ℕ → Bool
in_head Kind.ForInStatement ps around i = nat_eq i 0
in_head Kind.ForOfStatement ps around i = nat_eq i 0
in_head Kind.VariableDeclaration ps around i = around && bytes_eq (string_of (at 0 ps)) (codes "var")
in_head Kind.VariableDeclarator ps around i = around && nat_eq i 0
in_head Kind.ObjectPattern ps around i = around
in_head Kind.BindingProperty ps around i = around && nat_eq i 1
in_head Kind.ArrayPattern ps around i = around
in_head Kind.AssignmentPattern ps around i = around && nat_eq i 0
in_head Kind.RestElement ps around i = around
in_head kind ps around i = false

-- an identifier that declares: its number, the flag that it gives, and whether it is a `var` of such a head
pub record NodeBinding : Type 0 where
  pub node : ℕ
  pub name : List ℕ
  pub flags : ℕ
  pub head_var : Bool

abbrev pub own_binding : Kind → ℕ → Parts → ℕ → Bool → List NodeBinding
own_binding Kind.BindingIdentifier m ps flags head = record { node = m; name = string_of (at 0 ps); flags = flags; head_var = head } ∷ []
own_binding kind m ps flags head = []

-- in preorder
abbrev mutual
  pub node_bindings : ℕ → Bool → Tree → List NodeBinding
  node_bindings flags head (Node kind m span id ps) = own_binding kind m ps flags head ++ bindings_of_parts (flags_in kind ps flags) (in_head kind ps head) ps

  pub bindings_of_parts : (ℕ → ℕ) → (ℕ → Bool) → Parts → List NodeBinding
  bindings_of_parts flags head end = []
  bindings_of_parts flags head (more p ps) = bindings_of_part (flags 0) (head 0) p ++ bindings_of_parts (λ i. flags (suc i)) (λ i. head (suc i)) ps

  pub bindings_of_part : ℕ → Bool → Part → List NodeBinding
  bindings_of_part flags head (child t) = node_bindings flags head t
  bindings_of_part flags head absent = []
  bindings_of_part flags head (list all) = bindings_of_items flags head all
  bindings_of_part flags head (string s) = []
  bindings_of_part flags head no_string = []
  bindings_of_part flags head (boolean b) = []
  bindings_of_part flags head (literal v) = []

  pub bindings_of_items : ℕ → Bool → Parts → List NodeBinding
  bindings_of_items flags head end = []
  bindings_of_items flags head (more p ps) = bindings_of_part flags head p ++ bindings_of_items flags head ps

abbrev pub bindings_of : Tree → List NodeBinding
bindings_of program = node_bindings 0 false program

-- ---- a symbol, by the identifiers that declare it

-- the flags of all its declarations
abbrev pub all_flags : List NodeBinding → ℕ
all_flags [] = 0
all_flags (b ∷ bs) = bit_or b.flags (all_flags bs)

abbrev pub symbol_flags : List NodeBinding → SymbolFlags
symbol_flags declaring = record { 0 = all_flags declaring }

-- it is marked if more than one identifier declares it, or if it is a `var` in the head of a for-in or for-of
abbrev pub is_marked : List NodeBinding → Bool
is_marked declaring = nat_le 2 (length declaring) || list_any (λ b. b.head_var) declaring
