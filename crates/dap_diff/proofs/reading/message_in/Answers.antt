use Rattle.std.proofs.Common.{◌≡◌, [], rules}
use Rattle.dap_diff.proofs.Texts.{left_record}
use Rattle.dap_diff.proofs.reading.message_in.Goals as goal

pub message_of-requires-clause-is_record : goal.message_of-requires-clause-is_record
message_of-requires-clause-is_record c =
    let some : c.args.text.now ≡ [] → ⊥ = search rules in
    left_record c.args.limits c.args.text.now some c.requires.is_left
