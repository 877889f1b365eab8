use Rattle.std.proofs.Common.{◌∙◌, ap, refl, rules}
use Rattle.dap_device.specs.Memory.{GivenBytes}
use Rattle.dap_golden.specs.GoldenFiles.{IsNotNormal}
use Rattle.dap_golden.proofs.ComparedTexts.{differs, differs_at, differs_not_normal, normalises}
use Rattle.dap_golden.proofs.ComparedTexts.{not_refused_text, refused_file}
use Rattle.dap_golden.proofs.comparing.compare_golden.Goals as goal

pub unreachable-requires : goal.unreachable-requires
unreachable-requires c =
    not_refused_text c.args.limits c.args.mode c.requires.limits c.args.golden.now
    c.args.text.now.bytes.items c.requires.text c.new-reader_a.result c.diff.new.reader_a
    c.new-reader_b.result c.diff.new.reader_b
    (ap (λ (s : GivenBytes). s.left) c.new-reader_a.ensures)
    (ap (λ (s : GivenBytes). s.left) c.new-reader_b.ensures ∙ c.as_slice-text.ensures.value)
    c.diff.result c.diff.ensures.outcome c.in-Err-Input-B-default.field-0-1 (cc)

pub returns-in-Ok-Same-clause-not_normal : goal.returns-in-Ok-Same-clause-not_normal
returns-in-Ok-Same-clause-not_normal c =
    let is : IsNotNormal c.args.limits c.args.mode c.args.golden.now c.args.text.now.bytes.items =
    record {
      normalises = normalises c.args.limits c.args.mode c.requires.limits c.args.golden.now
          c.args.text.now.bytes.items c.requires.text c.new-reader_a.result c.diff.new.reader_a
          c.new-reader_b.result c.diff.new.reader_b
          (ap (λ (s : GivenBytes). s.left) c.new-reader_a.ensures)
          (ap (λ (s : GivenBytes). s.left) c.new-reader_b.ensures ∙ c.as_slice-text.ensures.value)
          c.diff.result c.diff.ensures.outcome (cc);
      other = search rules;
    } in
    ((λ same. is), (λ same. refl))

pub returns-in-Ok-Same-clause-verdict : goal.returns-in-Ok-Same-clause-verdict
returns-in-Ok-Same-clause-verdict c = record {
  normalises = normalises c.args.limits c.args.mode c.requires.limits c.args.golden.now
      c.args.text.now.bytes.items c.requires.text c.new-reader_a.result c.diff.new.reader_a
      c.new-reader_b.result c.diff.new.reader_b
      (ap (λ (s : GivenBytes). s.left) c.new-reader_a.ensures)
      (ap (λ (s : GivenBytes). s.left) c.new-reader_b.ensures ∙ c.as_slice-text.ensures.value)
      c.diff.result c.diff.ensures.outcome (cc);
  other = search rules;
}

pub returns-in-Ok-Differ-clause-not_normal : goal.returns-in-Ok-Differ-clause-not_normal
returns-in-Ok-Differ-clause-not_normal c = (
  (λ same. absurd (let equal = same in cc)),
  (λ is. absurd (differs_not_normal c.args.limits c.args.mode c.requires.limits c.args.golden.now
      c.args.text.now.bytes.items c.requires.text c.in-Ok-Differ.record
      (differs c.args.limits c.args.mode c.requires.limits c.args.golden.now
      c.args.text.now.bytes.items c.requires.text c.new-reader_a.result c.diff.new.reader_a
      c.new-reader_b.result c.diff.new.reader_b
      (ap (λ (s : GivenBytes). s.left) c.new-reader_a.ensures)
      (ap (λ (s : GivenBytes). s.left) c.new-reader_b.ensures ∙ c.as_slice-text.ensures.value)
      c.diff.result c.diff.ensures.outcome c.in-Ok-Differ.record c.in-Ok-Differ.lines (cc))
      is.normalises)),
)

pub returns-in-Ok-Differ-clause-verdict : goal.returns-in-Ok-Differ-clause-verdict
returns-in-Ok-Differ-clause-verdict c =
    differs_at c.args.limits c.args.mode c.requires.limits c.args.golden.now
    c.args.text.now.bytes.items c.requires.text c.new-reader_a.result c.diff.new.reader_a
    c.new-reader_b.result c.diff.new.reader_b
    (ap (λ (s : GivenBytes). s.left) c.new-reader_a.ensures)
    (ap (λ (s : GivenBytes). s.left) c.new-reader_b.ensures ∙ c.as_slice-text.ensures.value)
    c.diff.result c.diff.ensures.outcome c.in-Ok-Differ.record c.in-Ok-Differ.lines (cc)

pub returns-in-Err-Input-A-default-clause-err : goal.returns-in-Err-Input-A-default-clause-err
returns-in-Err-Input-A-default-clause-err c =
    refused_file c.args.limits c.args.mode c.requires.limits c.args.golden.now
    c.args.text.now.bytes.items c.requires.text c.new-reader_a.result c.diff.new.reader_a
    c.new-reader_b.result c.diff.new.reader_b
    (ap (λ (s : GivenBytes). s.left) c.new-reader_a.ensures)
    (ap (λ (s : GivenBytes). s.left) c.new-reader_b.ensures ∙ c.as_slice-text.ensures.value)
    c.diff.result c.diff.ensures.outcome c.in-Err-Input-A-default.refused (cc)
