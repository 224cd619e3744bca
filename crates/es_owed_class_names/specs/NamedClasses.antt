-- References to names of classes, each with the class: what declares them are these classes, cs of an identifier.
use Rattle.std.specs.Prelude.{ℕ, List, [], ◌∷◌, ◌++◌, cond, Option, Some}
use Rattle.es_base.specs.Tree.{Tree, Node}
use Rattle.es_base.specs.declared.kind.Kind.{Kind}
use Rattle.es_base.specs.declared.ledger.GeneratedKind.{GeneratedKind}
use Rattle.es_base.specs.declared.ledger.LedgerEntry.{LedgerEntry}
use Rattle.es_lowered.specs.ClassNames.{is_written_at}
use Rattle.es_steps.specs.Context.{generated_as}
use Rattle.es_steps.specs.LoweredClasses.{referent_of}
use Rattle.es_steps.specs.Parts.{at, string_of}
use Rattle.es_steps.specs.References.{Reference, has_number}
use Rattle.es_steps.specs.Values.{Referent, Bound, String}

-- ---- identifiers, each with the class that it declares

abbrev pub declared_by : ℕ → List ℕ → List (ℕ × ℕ)
declared_by n [] = []
declared_by n (b ∷ bs) = (b, n) ∷ declared_by n bs

abbrev pub declared : (ℕ → List ℕ) → List ℕ → List (ℕ × ℕ)
declared identifiers [] = []
declared identifiers (n ∷ ns) = declared_by n (identifiers n) ++ declared identifiers ns

-- ---- the classes that a reference names

abbrev pub temporary_class : Option GeneratedKind → List ℕ
temporary_class (Some (GeneratedKind.ClassTemp k)) = k.0 ∷ []
temporary_class g = []

abbrev pub bound_classes : (ℕ → List ℕ) → Option Referent → List ℕ
bound_classes cs (Some (Bound b)) = cs b
bound_classes cs r = []

abbrev pub meant : List LedgerEntry → List Reference → (ℕ → List ℕ) → ℕ → String → List ℕ
meant ledger rs cs m s = temporary_class (generated_as s ledger) ++ bound_classes cs (referent_of m rs)

-- each of these once, with m
abbrev pub each : List ℕ → ℕ → List (ℕ × ℕ)
each [] m = []
each (k ∷ ks) m = cond (has_number k ks) [] ((k, m) ∷ []) ++ each ks m

abbrev pub named_at : List LedgerEntry → List Reference → (ℕ → List ℕ) → Tree → List (ℕ × ℕ)
named_at ledger rs cs (Node Kind.IdentifierReference m span semantic_id ps) = cond (is_written_at m rs) [] (each (meant ledger rs cs m (string_of (at 0 ps))) m)
named_at ledger rs cs t = []

abbrev pub named : List LedgerEntry → List Reference → (ℕ → List ℕ) → List Tree → List (ℕ × ℕ)
named ledger rs cs [] = []
named ledger rs cs (t ∷ ts) = named_at ledger rs cs t ++ named ledger rs cs ts
