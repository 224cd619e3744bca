use Rattle.std.proofs.Common.{◌≡◌, ◌++◌, drop}
use Rattle.es_owed_calls.specs.StaticKeys.{key_views}
use Rattle.es_owed_calls.specs.Strings.{strings}
use Rattle.es_owed_calls.specs.Tests.{behind}
use Rattle.es_owed_calls.proofs.name_tests.keys_not_among.Given as goal

abbrev pub invariant-loop-key : goal.invariant-loop-key
invariant-loop-key l = key_views l.left.items ++ behind (strings l.tested) (key_views (drop l.key-index l.keys)) ≡ behind (strings l.tested) (key_views l.keys)
