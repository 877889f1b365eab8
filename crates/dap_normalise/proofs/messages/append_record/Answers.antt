use Rattle.std.proofs.Common.{◌≡◌, ◌+◌, ◌-◌, ◌≤◌, ◌++◌, ◌∙◌, ℕ, List, ⊎_elim, ap, ap₂, arith}
use Rattle.std.proofs.Common.{length, length-append, subst, sym}
use Rattle.std.proofs.lemmas.Bool.{cases_lt}
use Rattle.dap_recording.specs.Recording.{record_text}
use Rattle.dap_normalise.specs.JudgingSteps.{record_of}
use Rattle.dap_normalise.proofs.messages.append_record.Goals as goal

-- the appended bytes are as many as the text has grown by
counted : (old added new : List ℕ) (written before after : ℕ) → new ≡ old ++ added
    → before ≡ length old → after ≡ length new → written + (after - before) ≡ written + length added
counted old added new written before after is first last =
    omega (arith, first, last, ap length is, length-append old added)

pub returns-clause-writes : goal.returns-clause-writes
returns-clause-writes c message side text =
    let wrote =
    c.in-Ok.ensures.ok
    ∙ ap₂ (λ s bytes. c.args.out.now.items ++ record_text s bytes) (sym side) (sym text) in
    let short : length c.args.content.now ≤ c.args.limits.frame.content =
    ⊎_elim (λ long. absurd (let reported = c.in-Ok.ensures.too_long.1 long in cc))
    (λ le. le) (cases_lt c.args.limits.frame.content (length c.args.content.now)) in (
      subst (λ bytes. length bytes ≤ c.args.limits.frame.content) (sym text) short,
      wrote,
      counted c.args.out.now.items (record_of message)
          c.write_record.new.out.items c.args.written c.len-before.result c.len.result wrote
          (c.len-before.ensures ∙ c.args.out.now.ok.0) (c.len.ensures
          ∙ c.write_record.new.out.ok.0),
      c.if-limits-after.false,
    )
