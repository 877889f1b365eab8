use Rattle.std.proofs.Common.{◌++◌, [], ◌∙◌, ap, sym, inr, Err}
use Rattle.std.proofs.lemmas.Result.{err_from_is_err_and}
use Rattle.dap_frame.specs.Frame.{frame_text}
use Rattle.dap_frame.specs.Reading.{limits_of}
use Rattle.callers.proofs.ReadBack.{only_memory, same_content, some_content, whole_frame}
use Rattle.callers.proofs.frame_and_back.write_and_read.Goals as goal

pub returns-in_err-read-clause-too_long : goal.returns-in_err-read-clause-too_long
returns-in_err-read-clause-too_long c =
    let because = err_from_is_err_and c.from_residual-in_err-read.result
    c.from_residual-in_err-read.ensures.1 in
    let memory = only_memory (limits_of c.new-framer.result) c.as_slice.result.now
    c.args.content.now
    (whole_frame c.written_is_frame.ensures c.args.limits (limits_of c.new-framer.result) c.requires
    c.new-framer.ensures.limits c.args.content.now c.as_slice.result.now
    (λ long. absurd (let reported = c.in_ok-write_frame.ensures.too_long.1 long in cc))
    (c.as_slice.ensures.value ∙ c.in_ok-write_frame.ensures.ok
    ∙ ap (λ xs. xs ++ frame_text c.args.content.now) c.new-frame.ensures.items))
    c.feed.new.self c.one_outcome.ensures.frame_not_faulty c.in_err-read.field-0.0
    (c.in_err-read.ensures.gives [] c.new-framer.ensures.represents) in (
      (λ reported. absurd
          (let other = sym reported ∙ because.1 ∙ ap Err (because.2 ∙ memory) in cc)),
      (λ long. absurd (let reported = c.in_ok-write_frame.ensures.too_long.1 long in cc)),
    )

pub returns-in_err-read-clause-only : goal.returns-in_err-read-clause-only
returns-in_err-read-clause-only c =
    let because = err_from_is_err_and c.from_residual-in_err-read.result
    c.from_residual-in_err-read.ensures.1 in
    let memory = only_memory (limits_of c.new-framer.result) c.as_slice.result.now
    c.args.content.now
    (whole_frame c.written_is_frame.ensures c.args.limits (limits_of c.new-framer.result) c.requires
    c.new-framer.ensures.limits c.args.content.now c.as_slice.result.now
    (λ long. absurd (let reported = c.in_ok-write_frame.ensures.too_long.1 long in cc))
    (c.as_slice.ensures.value ∙ c.in_ok-write_frame.ensures.ok
    ∙ ap (λ xs. xs ++ frame_text c.args.content.now) c.new-frame.ensures.items))
    c.feed.new.self c.one_outcome.ensures.frame_not_faulty c.in_err-read.field-0.0
    (c.in_err-read.ensures.gives [] c.new-framer.ensures.represents) in
    rw because.1 (inr (because.2 ∙ memory))

pub unreachable-requires : goal.unreachable-requires
unreachable-requires c =
    some_content (limits_of c.new-framer.result) c.as_slice.result.now c.args.content.now
    (whole_frame c.written_is_frame.ensures c.args.limits (limits_of c.new-framer.result) c.requires
    c.new-framer.ensures.limits c.args.content.now c.as_slice.result.now
    (λ long. absurd (let reported = c.in_ok-write_frame.ensures.too_long.1 long in cc))
    (c.as_slice.ensures.value ∙ c.in_ok-write_frame.ensures.ok
    ∙ ap (λ xs. xs ++ frame_text c.args.content.now) c.new-frame.ensures.items))
    c.feed.new.self c.one_outcome.ensures.frame_not_open c.in_ok-read.ensures.limits
    c.in_ok-read.field-0 (c.in_ok-read.ensures.gives [] c.new-framer.ensures.represents)
    c.in-None.is

pub returns-clause-same : goal.returns-clause-same
returns-clause-same c =
    c.in-Some.read-is
    ∙ same_content (limits_of c.new-framer.result) c.as_slice.result.now c.args.content.now
    (whole_frame c.written_is_frame.ensures c.args.limits (limits_of c.new-framer.result) c.requires
    c.new-framer.ensures.limits c.args.content.now c.as_slice.result.now
    (λ long. absurd (let reported = c.in_ok-write_frame.ensures.too_long.1 long in cc))
    (c.as_slice.ensures.value ∙ c.in_ok-write_frame.ensures.ok
    ∙ ap (λ xs. xs ++ frame_text c.args.content.now) c.new-frame.ensures.items))
    c.feed.new.self c.one_frame.ensures.one c.in_ok-read.field-0
    (c.in_ok-read.ensures.gives [] c.new-framer.ensures.represents) c.in-Some.read c.in-Some.is
