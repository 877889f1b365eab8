use Rattle.std.proofs.Common.{⊎_elim, inl, inr, sym, subst, ap, ◌∙◌, ℕ, List, Some}
use Rattle.dap_device.specs.Crash.{Content, LeavesOnly}
use Rattle.dap_golden.specs.Golden.{mask_given}
use Rattle.dap_golden.specs.GoldenSteps.{bytes_of}
use Rattle.dap_golden.specs.GoldenUpdates.{Compares, RunsOn, Updates}
use Rattle.dap_rename.specs.declared.mode.Mode.{Mode}
use Rattle.dap_golden.proofs.updates.golden_file.Goals as goal

-- Every content that a crash leaves has a property, if it has one that implies it.
leaves_either : {F : Type 0} (moment : F → ℕ) (left_since : F → ℕ → Content → Type 0)
    (P Q : Content → Type 0) (old new : F) → LeavesOnly moment left_since P old new
    → ((c : Content) → P c → Q c) → LeavesOnly moment left_since Q old new
leaves_either moment left_since P Q old new so_far follows = record {
  later = so_far.later;
  each = λ c left. follows c (so_far.each c left);
  before = λ t c le left. ⊎_elim inl (λ has. inr (follows c has)) (so_far.before t c le left);
}

pub returns-then-request-clause-outcome : goal.returns-then-request-clause-outcome
returns-then-request-clause-outcome g c =
    let made = c.in_ok-made.made in
    inr (
      made.text,
      bytes_of made,
      c.in_ok-made.ensures.ok,
      subst (λ update. RunsOn g.F.Replaceable c.args.limits (mask_given c.args.rules)
          c.args.request c.args.input.items update made.text (bytes_of made)
          c.args.file.now c.update_file.new.file c.update_file.result) (sym c.if-request.true)
          (subst (λ (bytes : List ℕ). Updates g.F.Replaceable c.args.file.now
          c.update_file.new.file c.args.limits.input bytes made.text.records
          c.update_file.result) c.as_slice.ensures c.update_file.ensures.updates),
    )

pub returns-then-request-clause-any_moment : goal.returns-then-request-clause-any_moment
returns-then-request-clause-any_moment g c = λ known. leaves_either _ _ _ _ _ _
    (c.update_file.ensures.any_moment known)
    (λ content left. ⊎_elim inl
    (λ is. inr (
      c.if-request.true,
      (
        c.in_ok-made.made.text,
        bytes_of c.in_ok-made.made,
        c.in_ok-made.ensures.ok,
        is ∙ ap (λ (bytes : List ℕ). Some bytes) c.as_slice.ensures,
      ),
    )) left)

pub returns-clause-outcome : goal.returns-clause-outcome
returns-clause-outcome g c =
    let made = c.in_ok-made.made in
    inr (
      made.text,
      bytes_of made,
      c.in_ok-made.ensures.ok,
      subst (λ update. RunsOn g.F.Replaceable c.args.limits (mask_given c.args.rules)
          c.args.request c.args.input.items update made.text (bytes_of made)
          c.args.file.now c.compare_file.new.file c.compare_file.result) (sym c.if-request.false)
          (subst (λ (mode : Mode). Compares g.F.Replaceable c.args.file.now
          c.compare_file.new.file c.args.limits mode c.args.request.form made.text.bytes.items
          (bytes_of made) c.compare_file.result) c.mode_given-mode.ensures
          c.compare_file.ensures.compares),
    )
