use Rattle.std.proofs.Common.{string_bytes}
use Rattle.es_writing.proofs.Comparing.{sign_put}
use Rattle.es_writing.proofs.generated.signed_name.Goals as goal

pub returns : goal.returns
returns c = sign_put c.args.entry.now (string_bytes c.in_ok-string.string) c.as_str.result.now (string_bytes c.push_str.new.self) c.requires c.as_str.utf8 c.as_str.ensures c.in_ok-string.ensures.ok c.in_ok-push_str.ensures.bytes
