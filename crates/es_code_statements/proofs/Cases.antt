-- A first member alone: its details and its operands; and no member at all.
use Rattle.std.proofs.Common.{◌≡◌, sym, ap, ◌∙◌, ◌<◌, List, [], ◌∷◌, ◌++◌, length, append-nil, arith}
use Rattle.es_steps.specs.Code.{Codes, done, joined}
use Rattle.es_steps.specs.Events.{Detail}
use Rattle.es_steps.specs.Members.{operands, codes_in, before, from}
use Rattle.es_code_members.proofs.Chaining.{joined-done}
use Rattle.es_code_members.specs.MembersView.{members_of}
use Rattle.es_code_members.specs.declared.member.Member.{Member}

pub details_alone : (ds : List Detail) → ds ≡ ds ++ []
details_alone ds = sym (append-nil ds)

pub operands_alone : (cs : Codes) → cs ≡ joined cs done
operands_alone cs = sym (joined-done cs)

pub added_alone : (old new cs : Codes) → new ≡ joined old cs → new ≡ joined old (joined cs done)
added_alone old new cs more = more ∙ ap (joined old) (sym (joined-done cs))

pub none_first : (cs : Codes) (members : List Member) → length members < 1 → cs ≡ joined cs (operands (before 1 (members_of members)))
none_first cs [] h = sym (joined-done cs)
none_first cs (m ∷ ms) h = absurd (omega (arith, h))

pub none_behind : (cs : Codes) (members : List Member) → length members < 1 → cs ≡ joined cs (codes_in (from 1 (members_of members)))
none_behind cs [] h = sym (joined-done cs)
none_behind cs (m ∷ ms) h = absurd (omega (arith, h))
