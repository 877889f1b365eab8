use Rattle.std.proofs.Common.{◌≡◌, rules}
use Rattle.dap_tokens.specs.Models.{labels_of}
use Rattle.dap_naming.proofs.TextUtf8.{written_utf8}
use Rattle.dap_naming.proofs.texts.name_text.Goals as goal

pub unwrap-requires : goal.unwrap-requires
unwrap-requires c =
    let same : c.as_bytes.result.now ≡ c.args.text.now = search rules in
    c.from_utf8.ensures.succeeds
    (written_utf8 c.args.numbers.now c.name_bytes.new.numbers (labels_of c.args.labels.now)
    c.args.text.now c.in_ok-named.named.items c.as_bytes.result.now c.requires c.utf8.text same
    c.in_ok-named.ensures.writes)
