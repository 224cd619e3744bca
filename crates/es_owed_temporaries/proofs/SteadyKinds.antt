-- Steady names, by their kinds.
use Rattle.std.proofs.Common.{◌≡◌, refl, ℕ, List}
use Rattle.es_base.specs.declared.ledger.GeneratedKind.{GeneratedKind}
use Rattle.es_lowered.specs.Temporaries.{Touch, gifts_of, is_steady_name, reads_of}
use Rattle.es_steps.specs.PrivateNames.{PrivateMember}
use Rattle.es_steps.specs.Values.{String}
use Rattle.es_owed_temporaries.specs.Steady.{steady_by_kind}

pub steady_name : (places : List (ℕ × ℕ)) (members : List PrivateMember) (g : GeneratedKind) (s : String) (ts : List Touch) → is_steady_name places members g s ts ≡ steady_by_kind places members g (gifts_of s ts) (reads_of s ts)
steady_name places members GeneratedKind.Temp s ts = refl
steady_name places members GeneratedKind.Param s ts = refl
steady_name places members GeneratedKind.Closure s ts = refl
steady_name places members (GeneratedKind.SuperFn n) s ts = refl
steady_name places members g s ts = refl
