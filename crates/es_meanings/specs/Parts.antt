-- What of the entry of one number differs between two meanings.
use Rattle.std.specs.Prelude.{◌≡◌, ℕ, List, [], ◌∷◌, cond, nat_eq, Option, Some, None}
use Rattle.std.proofs.Common.{Bor}
use Rattle.es_entries.specs.Entered.{IsEntry}
use Rattle.es_entries.specs.declared.entry.Entry as code
use Rattle.es_meanings.specs.declared.part.EntryPart.{EntryPart}
use Rattle.es_steps.specs.Entries.{Entry, FunctionEntry, ClassEntry, Method}
use Rattle.es_steps.specs.Values.{Value}

-- the first entry of this number
abbrev pub entry_at : ℕ → List (ℕ × Entry) → Option Entry
entry_at n [] = None
entry_at n (e ∷ es) = cond (nat_eq n e.0) (Some e.1) (entry_at n es)

-- an entry in code is this one, where there is one
abbrev pub MayBe : Option (Bor code.Entry) → Option Entry → Type 0
MayBe (Some x) (Some e) = IsEntry x.now e
MayBe None None = Unit {0}
MayBe x e = ⊥

-- classes that are declared alike, with the same heritage and methods
pub record HaveSameHead (d e : Option ℕ) (h k : Option Value) (ms ns : List Method) : Type 0 where
  pub declared : d ≡ e
  pub heritage : h ≡ k
  pub methods : ms ≡ ns

abbrev pub IsPart : EntryPart → Option Entry → Option Entry → Type 0
IsPart EntryPart.Construction (Some (ClassEntry d h ms f ps l)) (Some (ClassEntry e k ns g qs j)) = HaveSameHead d e h k ms ns
IsPart EntryPart.Class (Some (ClassEntry d h ms f ps l)) (Some (ClassEntry e k ns g qs j)) = HaveSameHead d e h k ms ns → ⊥
IsPart EntryPart.Class (Some (ClassEntry d h ms f ps l)) other = Unit {0}
IsPart EntryPart.Class None (Some (ClassEntry e k ns g qs j)) = Unit {0}
IsPart EntryPart.Class None None = Unit {0}
IsPart EntryPart.Function (Some (FunctionEntry f a ps l)) other = Unit {0}
IsPart EntryPart.Function None (Some (FunctionEntry f a ps l)) = Unit {0}
IsPart part e g = ⊥
