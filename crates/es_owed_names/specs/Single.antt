-- Generated names, each the only one of its spelling and of what it stands for.
use Rattle.std.specs.Prelude.{ℕ, List, [], ◌∷◌, ◌++◌, Bool, true, false, cond, not, ◌&&◌, ◌||◌, bytes_eq, Option, Some, None}
use Rattle.es_base.specs.Tree.{Tree}
use Rattle.es_base.specs.declared.ledger.GeneratedKind.{GeneratedKind}
use Rattle.es_base.specs.declared.ledger.LedgerEntry.{LedgerEntry}
use Rattle.es_lowered.specs.Lowered.{declared_by_kind, same_space, same_subject}
use Rattle.es_steps.specs.KeptNodes.{is_underscored}

abbrev pub all_declared : ℕ → Tree → List LedgerEntry → Bool
all_declared first q [] = true
all_declared first q (e ∷ es) = declared_by_kind first q e.name e.kind && all_declared first q es

-- whether one of these passes a test, and a second one, unless one was found before
abbrev pub another : {A : Type 0} → (A → Bool) → Bool → List A → Bool
another test found [] = false
another test found (x ∷ xs) = cond (test x) (found || another test true xs) (another test found xs)

abbrev pub same_name : LedgerEntry → LedgerEntry → Bool
same_name e x = same_space e.kind x.kind && bytes_eq e.name x.name

abbrev pub stands_for : GeneratedKind → LedgerEntry → Bool
stands_for g x = same_subject g x.kind

-- of a name of a ledger, whose names and what these stand for are given
abbrev pub is_single : LedgerEntry → List LedgerEntry → List LedgerEntry → Bool
is_single e names subjects = is_underscored e.name && not (another (same_name e) false names || another (stands_for e.kind) false subjects)

abbrev pub are_single : List LedgerEntry → List LedgerEntry → List LedgerEntry → Bool
are_single [] names subjects = true
are_single (e ∷ es) names subjects = is_single e names subjects && are_single es names subjects

-- ---- what names stand for

abbrev pub subject_number : GeneratedKind → Option ℕ
subject_number (GeneratedKind.WeakMap d) = Some d.0
subject_number (GeneratedKind.StaticField d) = Some d.0
subject_number (GeneratedKind.Brand n) = Some n.0
subject_number (GeneratedKind.Method d) = Some d.0
subject_number (GeneratedKind.LooseKey d) = Some d.0
subject_number g = None

abbrev pub with_number : Option ℕ → GeneratedKind → List (ℕ × GeneratedKind)
with_number None g = []
with_number (Some n) g = (n, g) ∷ []

abbrev pub subjects : List LedgerEntry → List (ℕ × GeneratedKind)
subjects [] = []
subjects (e ∷ es) = with_number (subject_number e.kind) e.kind ++ subjects es
