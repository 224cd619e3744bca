-- The table of a list of entries: first the scopes and the names that they hold, then the references, which may mean what
-- is declared behind them. (ECMA-262, 9.1: a reference means the nearest scope that holds its name.)
use Rattle.std.specs.Prelude.{ℕ, ◌+◌, ◌<◌, List, [], ◌∷◌, ◌++◌, length, Bool, true, false, cond, not, ◌||◌, Option, Some, None, slice_get, option_map, unwrap_or, bit_or}
use Rattle.std.specs.Option.{ForSome}
use Rattle.es_base.specs.Carried.{symbol_number}
use Rattle.es_base.specs.declared.ids.ScopeId.{ScopeId}
use Rattle.es_base.specs.declared.ids.SymbolId.{SymbolId}
use Rattle.es_scopes.specs.Table.{Table, HasScope, symbol_at, scope_ancestors, get_binding, or_else, changed_at, with_new_scope, with_binding, with_symbol_flags, with_mark, with_created_reference}
use Rattle.es_scopes.specs.declared.flags.ScopeFlags.{ScopeFlags}
use Rattle.es_scopes.specs.declared.flags.SymbolFlags.{SymbolFlags}
use Rattle.es_scopes.specs.declared.declare.Declarations.{Declarations}
use Rattle.es_scopes.specs.declared.refer.Numbering.{Numbering}
use Rattle.es_scopes.specs.declared.entry.Entry.{Entry}
use Rattle.es_scopes.specs.declared.entry.Entry.TheVariants as entry
use Rattle.es_scopes.specs.declared.surroundings.Declarer.{Declarer}
use Rattle.es_scopes.specs.declared.surroundings.Declarer.TheVariants as declarer

-- ---- names

-- with the mark of a symbol, or as before
abbrev pub marked_if : Bool → SymbolId → Table → Table
marked_if true y t = with_mark t y
marked_if false y t = t

-- the flags of a symbol
abbrev pub flags_of : Table → SymbolId → SymbolFlags
flags_of t y = unwrap_or (option_map (λ x. x.flags) (symbol_at t y)) (record { 0 = 0 })

-- as what the identifiers of a symbol declare it
abbrev pub declarer_at : List Declarer → SymbolId → Declarer
declarer_at who y = unwrap_or (slice_get who y.0) declarer.Other

-- as what they declare it with one more: as a parameter, where they differ
abbrev pub joined : Declarer → Declarer → Declarer
joined declarer.OwnName declarer.OwnName = declarer.OwnName
joined declarer.Other declarer.Other = declarer.Other
joined who also = declarer.Parameter

-- the flags of all; the own name of a function expression counts where no other identifier declares the symbol
abbrev pub flags_with : Declarer → Declarer → SymbolFlags → SymbolFlags → SymbolFlags
flags_with declarer.OwnName declarer.OwnName before flags = record { 0 = bit_or before.0 flags.0 }
flags_with declarer.OwnName who before flags = flags
flags_with old declarer.OwnName before flags = before
flags_with old who before flags = record { 0 = bit_or before.0 flags.0 }

-- two identifiers declare a name, of which neither is the own name of a function expression
abbrev pub is_own_name : Declarer → Bool
is_own_name declarer.OwnName = true
is_own_name who = false

abbrev pub repeats : Declarer → Declarer → Bool
repeats old who = not (is_own_name old || is_own_name who)

-- the first identifier of a name in a scope
abbrev pub bound_first : Declarations → ScopeId → Declarer → List ℕ → SymbolFlags → Bool → Declarations
bound_first d s who name flags head = record d { scoping = marked_if head (record { 0 = length d.scoping.symbols }) (with_binding d.scoping s name flags); declarers = d.declarers ++ who ∷ [] }

-- a further identifier of a symbol
abbrev pub bound_again : Declarations → SymbolId → Declarer → SymbolFlags → Bool → Declarations
bound_again d y who flags head = record d {
  scoping = marked_if (head || repeats (declarer_at d.declarers y) who) y (with_symbol_flags d.scoping y (flags_with (declarer_at d.declarers y) who (flags_of d.scoping y) flags));
  declarers = changed_at (joined who) y.0 d.declarers;
}

abbrev pub bound_where : Option SymbolId → Declarations → ScopeId → Declarer → List ℕ → SymbolFlags → Bool → Declarations
bound_where None d s who name flags head = bound_first d s who name flags head
bound_where (Some y) d s who name flags head = bound_again d y who flags head

abbrev pub bound : Declarations → ScopeId → Declarer → List ℕ → SymbolFlags → Bool → Declarations
bound d s who name flags head = bound_where (get_binding d.scoping s name) d s who name flags head

-- ---- scopes and names

abbrev pub opened : Declarations → Option ScopeId → Bool → ScopeFlags → Declarations
opened d parent in_parameters flags = record d { scoping = with_new_scope d.scoping parent flags; in_parameters = d.in_parameters ++ in_parameters ∷ [] }

abbrev pub declare : Declarations → Entry → Declarations
declare d (entry.Scope node parent in_parameters flags) = opened d parent in_parameters flags
declare d (entry.Binding node (Some s) who name flags head) = bound d s who name flags head
declare d e = d

abbrev pub declared : Declarations → List Entry → Declarations
declared d [] = d
declared d (e ∷ es) = declared (declare d e) es

abbrev pub none_declared : Declarations
none_declared = record { scoping = record { scopes = []; symbols = []; references = [] }; in_parameters = []; declarers = [] }

-- ---- what a name means

abbrev pub is_other : Declarer → Bool
is_other declarer.Other = true
is_other who = false

-- a name that the body of a function alone declares is not seen from its parameters
abbrev pub visible : Declarations → Bool → Option SymbolId → Option SymbolId
visible d in_parameters None = None
visible d false (Some y) = Some y
visible d true (Some y) = cond (is_other (declarer_at d.declarers y)) None (Some y)

-- a scope stands in the parameters of the function whose scope is around it
abbrev pub is_in_parameters : Declarations → ScopeId → Bool
is_in_parameters d s = unwrap_or (slice_get d.in_parameters s.0) false

-- the symbol of the first of these scopes where the name is seen, from the parameters of the first or not
abbrev pub first_seen : Declarations → List ℕ → Bool → List ScopeId → Option SymbolId
first_seen d name in_parameters [] = None
first_seen d name in_parameters (s ∷ ss) = or_else (visible d in_parameters (get_binding d.scoping s name)) (first_seen d name (is_in_parameters d s) ss)

-- what a name means that stands in this scope
abbrev pub meant : Declarations → Option ScopeId → Bool → List ℕ → Option SymbolId
meant d None in_parameters name = None
meant d (Some s) in_parameters name = first_seen d name in_parameters (scope_ancestors d.scoping s)

-- ---- references, and the semantic ids of all entries

abbrev pub scope_count : Entry → ℕ
scope_count (entry.Scope node parent in_parameters flags) = 1
scope_count e = 0

abbrev pub scopes_in : List Entry → ℕ
scopes_in [] = 0
scopes_in (e ∷ es) = scope_count e + scopes_in es

-- the symbol that a scope holds for a name
abbrev pub held_symbol : Table → Option ScopeId → List ℕ → Option ℕ
held_symbol t None name = None
held_symbol t (Some s) name = symbol_number (get_binding t s name)

abbrev pub id_of : Numbering → Entry → Option ℕ
id_of n (entry.Scope node parent in_parameters flags) = Some n.next_scope
id_of n (entry.Body node) = None
id_of n (entry.Binding node holder who name flags head) = held_symbol n.declarations.scoping holder name
id_of n (entry.Reference node scope in_parameters name flags) = Some (length n.declarations.scoping.references)

abbrev pub referred : Declarations → Entry → Declarations
referred d (entry.Reference node scope in_parameters name flags) = record d { scoping = with_created_reference d.scoping (meant d scope in_parameters name) flags }
referred d e = d

abbrev pub number : Numbering → Entry → Numbering
number n e = record { declarations = referred n.declarations e; ids = n.ids ++ id_of n e ∷ []; next_scope = n.next_scope + scope_count e }

abbrev pub numbered : Numbering → List Entry → Numbering
numbered n [] = n
numbered n (e ∷ es) = numbered (number n e) es

-- the table of entries, with their ids
abbrev pub numbering_of : List Entry → Numbering
numbering_of es = numbered (record { declarations = declared none_declared es; ids = []; next_scope = 0 }) es

-- ---- what holds of the entries of a tree

-- the scopes that an entry names are among the first n
abbrev pub Fits : ℕ → Entry → Type 0
Fits n (entry.Scope node parent in_parameters flags) = ForSome parent (λ s. s.0 < n)
Fits n (entry.Body node) = Unit
Fits n (entry.Binding node holder who name flags head) = ForSome holder (λ s. s.0 < n)
Fits n (entry.Reference node scope in_parameters name flags) = ForSome scope (λ s. s.0 < n)

-- each entry names scopes that stand before it, where n stand before the first
abbrev pub AreOrdered : ℕ → List Entry → Type 0
AreOrdered n [] = Unit
AreOrdered n (e ∷ es) = Fits n e × AreOrdered (n + scope_count e) es

-- no scope of a table was removed
abbrev pub IsWhole : Table → Type 0
IsWhole t = (s : ScopeId) → s.0 < length t.scopes → HasScope t s
