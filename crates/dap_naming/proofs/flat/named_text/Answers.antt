use Rattle.std.proofs.Common.{◌≡◌, ◌∙◌, ap, false, sym}
use Rattle.dap_tokens.specs.Models.{labels_of}
use Rattle.dap_naming.specs.Flat.{may_have_tokens}
use Rattle.dap_naming.proofs.FlatTexts.{no_labels_within, no_tokens}
use Rattle.dap_naming.proofs.Unlabelled.{equal_none}
use Rattle.dap_naming.proofs.flat.named_text.Goals as goal
use Rattle.dap_naming.proofs.flat.named_text.Goals.{then-eq-via-then-eq}
use Rattle.dap_naming.proofs.flat.named_text.Goals.{then-eq-via-else-eq+then-not-may_have_tokens}

pub returns-then-eq-clause-names : goal.returns-then-eq-clause-names
returns-then-eq-clause-names c =
    let labels = labels_of c.args.labels.now in
    elim c.then-eq.branch [
      | then-eq-via-then-eq w ↦ no_labels_within labels c.args.numbers.now c.args.text.now
          (equal_none _ c.args.labels.now c.none.result c.none.ensures c.eq.result w.if-eq.true
          c.eq.ensures)
      | then-eq-via-else-eq+then-not-may_have_tokens w ↦ (
          let none : may_have_tokens labels c.args.text.now ≡ false =
          ap (may_have_tokens labels) (sym w.as_bytes.ensures.value)
          ∙ sym w.may_have_tokens.ensures ∙ w.if-not-may_have_tokens.true in
          no_tokens labels c.args.numbers.now c.args.text.now none)
    ]
