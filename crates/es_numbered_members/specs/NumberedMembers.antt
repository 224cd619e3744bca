-- Private members with the numbers of their keys.
use Rattle.std.specs.Prelude.{ℕ, List, map}
use Rattle.es_base.specs.declared.ledger.GeneratedKind.{GeneratedKind}
use Rattle.es_seen_names.specs.declared.private_member.PrivateMember.{PrivateMember}

abbrev pub numbered_members : List PrivateMember → List (ℕ × PrivateMember)
numbered_members xs = map (λ x. (x.node, x)) xs

-- of the member that a name of this kind stands for in front of its class
abbrev pub key_number : GeneratedKind → ℕ
key_number (GeneratedKind.WeakMap d) = d.0
key_number (GeneratedKind.Method d) = d.0
key_number (GeneratedKind.LooseKey d) = d.0
key_number g = 0
