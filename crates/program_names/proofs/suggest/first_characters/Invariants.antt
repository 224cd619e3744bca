use Rattle.std.proofs.Common.{◌≡◌, ◌≤◌, length, take}
use Rattle.std.specs.Str.{chars, encode_utf8_all}
use Rattle.std.specs.String.{string_bytes}
use Rattle.program_names.proofs.suggest.first_characters.Given as goal

abbrev pub invariant-loop-c : goal.invariant-loop-c
invariant-loop-c l = (l.count ≡ length l.yielded) × (l.count ≤ 20) × (string_bytes l.first ≡ encode_utf8_all (take l.count (chars l.string)))
