-- Generated names with the numbers of the classes in front of which they have to be given.
use Rattle.std.proofs.Common.{Bor}
use Rattle.std.specs.Prelude.{ℕ, List, [], ◌∷◌, ◌++◌, map}
use Rattle.es_base.specs.declared.ledger.LedgerEntry.{LedgerEntry}
use Rattle.es_lowered.specs.Temporaries.{class_before}
use Rattle.es_steps.specs.PrivateNames.{PrivateMember}
use Rattle.es_steps.specs.Values.{String}

abbrev pub name_of : Bor LedgerEntry → String
name_of e = e.now.name

abbrev pub names_of : List (Bor LedgerEntry) → List String
names_of es = map name_of es

abbrev pub with_numbers : List ℕ → String → List (ℕ × String)
with_numbers ns s = map (λ n. (n, s)) ns

abbrev pub with_class : List PrivateMember → LedgerEntry → List (ℕ × String)
with_class members e = with_numbers (class_before e.kind members) e.name

abbrev pub with_classes : List PrivateMember → List LedgerEntry → List (ℕ × String)
with_classes members [] = []
with_classes members (e ∷ es) = with_class members e ++ with_classes members es
