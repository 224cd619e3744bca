-- What stands for `super(..)`, as code tests it.
use Rattle.std.specs.Prelude.{ℕ, List, Bool, true, false, not, ◌&&◌, bytes_eq}
use Rattle.es_base.specs.Tree.{Tree, Node, end, more, list}
use Rattle.es_base.specs.declared.kind.Kind.{Kind}
use Rattle.es_base.specs.declared.ledger.LedgerEntry.{LedgerEntry}
use Rattle.es_lowered.specs.Definitions.{are_constructions}
use Rattle.es_steps.specs.References.{Reference}
use Rattle.es_steps.specs.Values.{String}
use Rattle.es_steps.specs.declared.options.Options.{Options}

abbrev pub is_this : Kind → Bool
is_this Kind.ThisExpression = true
is_this kind = false

-- `(super(..), .., this)` with definitions alone
abbrev pub is_plain_body : ℕ → Options → List LedgerEntry → Tree → Bool
is_plain_body first o ledger (Node Kind.SequenceExpression m span semantic_id (more (list es) end)) = are_constructions first o ledger es
is_plain_body first o ledger t = false

abbrev pub reads_name : String → Reference → Bool
reads_name s r = bytes_eq s r.spelling && not r.writes
