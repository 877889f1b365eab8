use Rattle.std.proofs.Common.{◌≡◌, ◌<◌, true, false, get_or, length, refl, sym, ◌∙◌, arith}
use Rattle.std.specs.Char.{is_ascii_hexdigit}
use Rattle.dap_words.specs.Long.{long}
use Rattle.dap_words.proofs.LongSteps.{whole_more, digit_more, whole_ended, digit_none}
use Rattle.dap_words.proofs.long_runs.shorten_runs.Goals as goal
use Rattle.dap_words.proofs.long_runs.shorten_runs.Goals.{then-is_ascii_hexdigit}
use Rattle.dap_words.proofs.long_runs.shorten_runs.Goals.{else-is_ascii_hexdigit}

pub loop-i-preserved : goal.loop-i-preserved
loop-i-preserved c =
    let l = c.loop-i in
    let b = get_or l.bytes l.i 0 in
    let within : l.i < length l.bytes = omega arith in
    let room : l.kept < length l.bytes = omega arith in
    elim c.if-is_ascii_hexdigit.branch [
      | then-is_ascii_hexdigit w ↦ (let digit : is_ascii_hexdigit b ≡ true =
          sym c.is_ascii_hexdigit.ensures.value ∙ w.if-is_ascii_hexdigit.true in
          let step = whole_more l.bytes l.start l.kept l.i b (long c.args.bytes.now)
          l.invariant.begun l.invariant.within within refl digit l.invariant.whole in
          let decimal = digit_more l.bytes l.start l.kept b l.decimal l.invariant.begun room
          l.invariant.digit in
          record {
            same = omega arith;
            begun = omega arith;
            within = omega arith;
            digit = cc;
            whole = cc;
          })
      | else-is_ascii_hexdigit w ↦ (let other : is_ascii_hexdigit b ≡ false =
          sym c.is_ascii_hexdigit.ensures.value ∙ w.if-is_ascii_hexdigit.false in
          let ended = w.end_run-kept.new.bytes in
          let now = w.end_run-kept.result in
          let size : length ended ≡ length l.bytes = omega arith in
          let step = whole_ended l.bytes ended l.start l.kept now l.i b (long c.args.bytes.now)
          l.invariant.begun l.invariant.within w.end_run-kept.ensures.len within size refl other
          w.end_run-kept.ensures.run w.end_run-kept.ensures.rest l.invariant.whole in
          let decimal = digit_none ended now b (omega arith) in
          record {
            same = omega arith;
            begun = omega arith;
            within = omega arith;
            digit = cc;
            whole = cc;
          })
    ]
