-- What is wrong with a tree: the faults of its nodes, and which of them comes first.
use Rattle.std.specs.Prelude.{ℕ, ◌+◌, List, [], ◌∷◌, ◌++◌, map, Bool, false, cond, ◌&&◌, ◌||◌, nat_eq, nat_lt, Option, Some, None}
use Rattle.es_base.specs.Tree.{Tree, Part, Parts, Node, end, more, child, list}
use Rattle.es_base.specs.declared.kind.Kind.{Kind}
use Rattle.es_steps.specs.Context.{is_constructor}
use Rattle.es_steps.specs.Parts.{at, items, string_of}
use Rattle.es_steps.specs.declared.options.Options.{Options}
use Rattle.es_validity.specs.Around.{Around, nothing_around, behind, inside}
use Rattle.es_validity.specs.Rules.{cause_at}
use Rattle.es_validity.specs.declared.fault.Cause.{Cause}
use Rattle.es_validity.specs.declared.fault.LeftOut.{LeftOut}
use Rattle.es_validity.specs.declared.fault.TreeRule.{TreeRule}

-- ---- their order: by the number of the node, and at one node as the rules are listed

pub record FaultAt : Type 0 where
  pub number : ℕ
  pub cause : Cause

abbrev pub fault_at : Cause → ℕ → FaultAt
fault_at cause m = record { number = m; cause = cause }

abbrev pub rule_rank : TreeRule → ℕ
rule_rank TreeRule.TwoConstructors = 0
rule_rank TreeRule.ConstructorForm = 1
rule_rank TreeRule.PrivateConstructor = 2
rule_rank TreeRule.SuperCall = 3
rule_rank TreeRule.SuperMember = 4
rule_rank TreeRule.SuperPrivate = 5
rule_rank TreeRule.DeletePrivate = 6
rule_rank TreeRule.RepeatedName = 7
rule_rank TreeRule.StrayJump = 8
rule_rank TreeRule.OwnArguments = 9
rule_rank TreeRule.AwaitYield = 10
rule_rank TreeRule.NoName = 11
rule_rank TreeRule.ChainForm = 12
rule_rank TreeRule.DeclarationPlace = 13
rule_rank TreeRule.ModuleItem = 14

abbrev pub left_out_rank : LeftOut → ℕ
left_out_rank LeftOut.Foreign = 17
left_out_rank LeftOut.With = 18
left_out_rank LeftOut.Eval = 19
left_out_rank LeftOut.HelperName = 20
left_out_rank LeftOut.LooseMethod = 21
left_out_rank LeftOut.LooseIn = 22
left_out_rank LeftOut.SuperForm = 23
left_out_rank LeftOut.SuperInInitializer = 24

abbrev pub rank_of : Cause → ℕ
rank_of (Cause.BadTree rule) = rule_rank rule
rank_of Cause.DuplicatePrivate = 15
rank_of Cause.UndeclaredPrivate = 16
rank_of (Cause.Unsupported what) = left_out_rank what

abbrev pub is_before : FaultAt → FaultAt → Bool
is_before f g = nat_lt f.number g.number || (nat_eq f.number g.number && nat_lt (rank_of f.cause) (rank_of g.cause))

abbrev pub earlier : Option FaultAt → FaultAt → Option FaultAt
earlier None g = Some g
earlier (Some f) g = Some (cond (is_before g f) g f)

-- the first of these and the one that was first before
abbrev pub first_with : Option FaultAt → List FaultAt → Option FaultAt
first_with f [] = f
first_with f (g ∷ gs) = first_with (earlier f g) gs

abbrev pub first_of_all : List FaultAt → Option FaultAt
first_of_all fs = first_with None fs

-- ---- second constructors of a class body (ECMA-262, 15.7.1)

abbrev pub is_constructor_element : Part → Bool
is_constructor_element (child (Node Kind.MethodDefinition m span semantic_id ps)) = is_constructor (string_of (at 2 ps))
is_constructor_element p = false

abbrev pub numbers_in : Part → List ℕ
numbers_in (child (Node kind m span semantic_id ps)) = m ∷ []
numbers_in p = []

-- those behind elements among which is a constructor or not
abbrev pub second_constructors : Bool → Parts → List ℕ
second_constructors found end = []
second_constructors found (more p ps) = cond (found && is_constructor_element p) (numbers_in p) [] ++ second_constructors (found || is_constructor_element p) ps

abbrev pub extra_constructors : Kind → Parts → List ℕ
extra_constructors Kind.ClassBody ps = second_constructors false (items (at 0 ps))
extra_constructors kind ps = []

-- ---- the faults of a tree, but for those of names

abbrev pub if_some : Option Cause → ℕ → List FaultAt
if_some None m = []
if_some (Some cause) m = fault_at cause m ∷ []

module _ (o : Options) where
  abbrev pub node_faults : Around → Kind → ℕ → Parts → List FaultAt
  node_faults a kind m ps = if_some (cause_at o a kind ps) m ++ map (fault_at (Cause.BadTree TreeRule.TwoConstructors)) (extra_constructors kind ps)

  abbrev mutual
    pub faults : Around → Tree → List FaultAt
    faults a (Node kind m span semantic_id ps) = node_faults a kind m ps ++ faults_from (inside (behind a kind ps) kind ps) 0 ps

    -- of the parts from the i-th on
    pub faults_from : (ℕ → Around) → ℕ → Parts → List FaultAt
    faults_from a i end = []
    faults_from a i (more p ps) = part_faults (a i) p ++ faults_from a (i + 1) ps

    pub part_faults : Around → Part → List FaultAt
    part_faults a (child t) = faults a t
    part_faults a (list ps) = item_faults a ps
    part_faults a p = []

    pub item_faults : Around → Parts → List FaultAt
    item_faults a end = []
    item_faults a (more p ps) = part_faults a p ++ item_faults a ps

  abbrev pub tree_faults : Tree → List FaultAt
  tree_faults t = faults nothing_around t
