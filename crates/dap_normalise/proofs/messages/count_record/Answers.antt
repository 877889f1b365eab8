use Rattle.std.proofs.Common.{◌+◌, ◌<◌, ◌≤◌, inl, inr, refl, sym, arith, length, subst, ap}
use Rattle.dap_tree.specs.Json.{text_of}
use Rattle.dap_normalise.proofs.messages.count_record.Goals as goal

pub record_len-requires : goal.record_len-requires
record_len-requires c =
    omega (arith, c.if-content_len-limits.false, c.requires.sound.frame.content_high)

pub overflow_add-after : goal.overflow_add-after
overflow_add-after c =
    omega (arith, c.requires.short, c.requires.sound.input, c.record_len.ensures.short)

pub returns-then-content_len-limits-clause-counts : goal.returns-then-content_len-limits-clause-counts
returns-then-content_len-limits-clause-counts c message is = (
  refl,
  inl (subst (λ n. c.args.limits.frame.content < n) (sym is) c.if-content_len-limits.true),
)

pub returns-then-after-limits-clause-counts : goal.returns-then-after-limits-clause-counts
returns-then-after-limits-clause-counts c message is =
    let long = c.record_len.ensures.len message.side (text_of message.doc) is in (
      refl,
      inr (subst (λ n. c.args.limits.input < c.args.written + n) long c.if-after-limits.true),
    )

pub returns-clause-counts : goal.returns-clause-counts
returns-clause-counts c message is =
    let long = c.record_len.ensures.len message.side (text_of message.doc) is in (
      omega (arith, is, c.if-content_len-limits.false),
      refl,
      ap (λ n. c.args.written + n) long,
      c.if-after-limits.false,
    )
