use Rattle.std.proofs.Common.{◌≡◌, ◌+◌, [], ◌∷◌, ◌++◌, ◌∙◌, ap, sym, subst, map, rules}
use Rattle.std.proofs.Common.{append-nil, append_assoc}
use Rattle.std.proofs.lemmas.List.{length-map, length_push, map-append}
use Rattle.std.proofs.lemmas.Result.{err_from_is_err_and}
use Rattle.std.specs.Vec.Iter.{into_iter_items}
use Rattle.dap_tree.proofs.ReadTrees.{nil_from}
use Rattle.dap_stored.specs.Sessions.{stored_sent}
use Rattle.dap_recording.specs.Recording.{recording_text}
use Rattle.dap_normalise.specs.{Accepting.IsAccepted, RecordTexts.{BeginWith, Contain}}
use Rattle.dap_normalise.proofs.RecordTexts.{HasWritten, begin_at, judge_refuses, last_at}
use Rattle.dap_normalise.proofs.RecordTexts.{none_written, written_on, written_session}
use Rattle.dap_normalise.proofs.sessions.write_messages.Goals as goal

pub loop-message-init : goal.loop-message-init
loop-message-init g c = record {
  all = search rules;
  records = search rules;
  written = λ front contain.
      none_written c.requires.represents c.requires.limits_are c.requires.mode_is
      c.new-bytes.ensures.items contain;
}

pub loop-message-preserved : goal.loop-message-preserved
loop-message-preserved g c =
    let so_far = c.loop-message.yielded in
    let message = c.in-Some.message in
    let rest = into_iter_items c.next.new.self in
    let before = map stored_sent so_far in
    let pushed = map-append stored_sent so_far (message ∷ []) in
    record {
      all = c.loop-message.invariant.all ∙ ap (λ xs. so_far ++ xs) c.in-Some.ensures.steps.0
          ∙ sym (append_assoc so_far (message ∷ []) rest);
      records = ap (λ n. n + 1) c.loop-message.invariant.records
          ∙ sym (length_push so_far message);
      written = λ front contain.
          let last = last_at c.args.limits before (stored_sent message) front
          (subst (λ ms. Contain c.args.limits ms front) pushed contain) in
          let here = last.0 in
          let written = c.loop-message.invariant.written here.front here.contain in
          let was = written.judged in
          subst (λ ms. HasWritten g.T.NameTable.numbers g.T.NameTable.limit c.args.limits
          c.args.mode c.judge_message.new.self front ms c.judge_message.new.out.items) (sym pushed)
          (written_on c.args.limits c.args.mode c.requires.limits before (stored_sent message) front
          here was last.1 c.in_ok-judge_message.ensures.limits c.in_ok-judge_message.ensures.mode
          written.text_is
          (c.in_ok-judge_message.ensures.judges before was.normal here.held was.represents
          here.is_message));
    }

pub returns-in_err-judge_message-clause-err : goal.returns-in_err-judge_message-clause-err
returns-in_err-judge_message-clause-err g c = λ held begins.
    let because = err_from_is_err_and c.from_residual.result c.from_residual.ensures.1 in
    let so_far = c.loop-message.yielded in
    let message = c.in-Some.message in
    let rest = into_iter_items c.next.new.self in
    let before = map stored_sent so_far in
    let split : map stored_sent c.args.messages.items
    ≡ before ++ stored_sent message ∷ map stored_sent rest =
    ap (map stored_sent) (c.loop-message.invariant.all
    ∙ ap (λ xs. so_far ++ xs) c.in-Some.ensures.steps.0)
    ∙ map-append stored_sent so_far (message ∷ rest) in
    let here = begin_at c.args.limits before (stored_sent message) (map stored_sent rest) held
    (subst (λ ms. BeginWith c.args.limits ms held) split begins) in
    let was = (c.loop-message.invariant.written here.front here.contain).judged in
    rw (because.1, because.2)
    (judge_refuses c.args.limits c.args.mode c.requires.limits before (stored_sent message) held
    here was (c.loop-message.records + 1)
    (ap (λ n. n + 1) (c.loop-message.invariant.records ∙ sym (length-map so_far stored_sent))) _
    (c.in_err-judge_message.ensures.judges before was.normal here.held was.represents
    here.is_message))

pub returns-clause-ok : goal.returns-clause-ok
returns-clause-ok g c = λ held contain.
    let so_far = c.loop-message.yielded in
    let none = nil_from (into_iter_items c.loop-message.message-iterator)
    (search (rules, c.in-None.ensures.steps.0)) in
    let all : c.args.messages.items ≡ so_far =
    c.loop-message.invariant.all ∙ ap (λ xs. so_far ++ xs) none ∙ append-nil so_far in
    let written = c.loop-message.invariant.written held
    (subst (λ ms. Contain c.args.limits (map stored_sent ms) held) all contain) in
    written_session c.requires.limits _ written (record {
      records = c.loop-message.invariant.records ∙ sym (length-map so_far stored_sent);
      client = c.open.ensures _ _ written.judged.represents;
      adapter = c.open-2.ensures _ _ written.judged.represents;
    })

pub returns-clause-accepted : goal.returns-clause-accepted
returns-clause-accepted g c = λ held contain.
    let so_far = c.loop-message.yielded in
    let none = nil_from (into_iter_items c.loop-message.message-iterator)
    (search (rules, c.in-None.ensures.steps.0)) in
    let all : c.args.messages.items ≡ so_far =
    c.loop-message.invariant.all ∙ ap (λ xs. so_far ++ xs) none ∙ append-nil so_far in
    let written = c.loop-message.invariant.written held
    (subst (λ ms. Contain c.args.limits (map stored_sent ms) held) all contain) in
    subst (λ ms. IsAccepted c.args.limits c.args.mode (recording_text held) (map stored_sent ms))
    (sym all) written.judged.accepted
