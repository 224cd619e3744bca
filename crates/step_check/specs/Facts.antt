-- The terms that two programs are read under.
use Rattle.std.specs.Prelude.{List, []}
use Rattle.es_base.specs.declared.ledger.LedgerEntry.{LedgerEntry}
use Rattle.es_seen_names.specs.PrivateMembers.{private_members_of}
use Rattle.es_steps.specs.Meaning.{Terms}
use Rattle.step_check.specs.declared.compare.Facts as code

-- with these generated names
abbrev pub terms_with : code.Facts → List LedgerEntry → Terms
terms_with f es = record { first_new = f.first_new; options = f.options; ledger = es; members = private_members_of f.members.now; named = f.named.now; late = [] }

-- the source, which has no generated name, and the lowered program
abbrev pub before : code.Facts → Terms
before f = terms_with f []

abbrev pub behind : code.Facts → Terms
behind f = terms_with f f.ledger.now
