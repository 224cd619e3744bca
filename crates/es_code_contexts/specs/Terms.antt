-- What a tree is read under, in code.
use Rattle.std.specs.Prelude.{[]}
use Rattle.es_base.specs.Tree.{Tree}
use Rattle.es_code_reading.specs.declared.context.Terms.{Terms}
use Rattle.es_seen_names.specs.PrivateMembers.{private_members_of}
use Rattle.es_steps.specs.Meaning as spec

abbrev pub terms_of : Terms → spec.Terms
terms_of t = record { first_new = t.first_new; options = t.options; ledger = t.ledger.now; members = private_members_of t.members.now; named = t.named.now; late = [] }

-- the tree that is read
abbrev pub program_of : Terms → Tree
program_of t = t.names.now.program.now
