use Rattle.json.proofs.Printed.Plain.{escape_on_plain}
use Rattle.dap_flat.proofs.plain.is_plain.Goals as goal

pub returns-then-text-lt32 : goal.returns-then-text-lt32
returns-then-text-lt32 c = escape_on_plain c.plain_short.result c.args.text.now c.plain_short.ensures

pub returns-else-text-lt32 : goal.returns-else-text-lt32
returns-else-text-lt32 c = escape_on_plain c.plain_long.result c.args.text.now c.plain_long.ensures
