use Rattle.std.proofs.Common.{◌∙◌, sym, ap, subst}
use Rattle.dap_tree.specs.Doc.{is_sound}
use Rattle.dap_tree.specs.View.{view}
use Rattle.dap_mask.specs.KeptRules.{mask_of}
use Rattle.dap_mask.specs.Omissions.{omitted}
use Rattle.dap_mask.specs.Promises.{IsRedactedAs}
use Rattle.dap_mask.specs.Redacted.{redacted}
use Rattle.dap_mask.proofs.LooseReading.{content_redacted, one_reading}
use Rattle.dap_mask.proofs.loose.read_masked.Goals as goal

pub returns-then-sound-clause-masked : goal.returns-then-sound-clause-masked
returns-then-sound-clause-masked c d read =
    let mask = mask_of c.args.rules.now in
    let list = c.args.rules.now.list in
    let bytes = c.args.content.now in
    let same = one_reading mask bytes d (view c.in_ok-tree.tree) read c.in_ok-tree.ensures.ok in
    let is = c.omit.ensures.omitted ∙ ap (omitted mask.omissions) c.mask.ensures.masked in
    subst (IsRedactedAs mask d) (ap (redacted mask) same ∙ sym is)
    (content_redacted mask bytes d list.safe list.settled list.leave read)

pub returns-then-is_dropped-clause-ok : goal.returns-then-is_dropped-clause-ok
returns-then-is_dropped-clause-ok c = (
  view c.in_ok-tree.tree,
  c.in_ok-tree.ensures.ok,
  sym c.is_dropped.ensures ∙ c.if-is_dropped.true,
)

pub returns-then-sound-clause-ok : goal.returns-then-sound-clause-ok
returns-then-sound-clause-ok c = (
  view c.in_ok-tree.tree,
  c.in_ok-tree.ensures.ok,
  (
    sym c.is_dropped.ensures ∙ c.if-is_dropped.false,
    c.omit.ensures.omitted
        ∙ ap (omitted (mask_of c.args.rules.now).omissions) c.mask.ensures.masked,
    sym c.sound.ensures ∙ c.if-sound.true,
  ),
)

pub returns-else-sound-clause-err : goal.returns-else-sound-clause-err
returns-else-sound-clause-err c = (
  view c.in_ok-tree.tree,
  c.in_ok-tree.ensures.ok,
  (
    sym c.is_dropped.ensures ∙ c.if-is_dropped.false,
    ap is_sound (sym (c.omit.ensures.omitted
        ∙ ap (omitted (mask_of c.args.rules.now).omissions) c.mask.ensures.masked))
        ∙ sym c.sound.ensures ∙ c.if-sound.false,
  ),
)
