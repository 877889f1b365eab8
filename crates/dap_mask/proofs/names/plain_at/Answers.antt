use Rattle.std.proofs.Common.{◌∙◌, sym, subst, IsUtf8}
use Rattle.dap_mask.proofs.Lines.{plain_utf8}
use Rattle.dap_mask.proofs.names.plain_at.Goals as goal

pub unwrap-requires : goal.unwrap-requires
unwrap-requires c =
    c.from_utf8.ensures.succeeds
    (subst IsUtf8 (sym (c.in_ok-name.ensures.items ∙ c.split_run.ensures.front))
    (plain_utf8 c.args.text.now))
