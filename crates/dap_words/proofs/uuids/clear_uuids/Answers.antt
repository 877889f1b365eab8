use Rattle.std.proofs.Common.{◌≡◌, ◌<◌, get_or, drop, length, refl, ap, ◌∙◌, arith}
use Rattle.std.proofs.lemmas.List.{take_rest}
use Rattle.dap_words.specs.Placed.{place_at}
use Rattle.dap_words.specs.Uuids.{nil_uuid, uuid}
use Rattle.dap_words.proofs.UuidSteps.{step_in, step_out, place_within}
use Rattle.dap_words.proofs.uuids.clear_uuids.Goals as goal
use Rattle.dap_words.proofs.uuids.clear_uuids.Goals.{then-place-lt36, else-place-lt36}

pub loop-i-preserved : goal.loop-i-preserved
loop-i-preserved c =
    let l = c.loop-i in
    let p = c.place_at-place.result in
    let at : p ≡ place_at l.place l.after_digit (drop l.i l.bytes) = c.place_at-place.ensures
    ∙ ap (place_at l.place l.after_digit) (take_rest l.bytes l.i) in
    let most = place_within l.place p l.after_digit (drop l.i l.bytes) l.invariant.within at in
    let within : l.i < length l.bytes = omega arith in
    elim c.if-place-lt36.branch [
      | then-place-lt36 w ↦ (let step = step_in l.bytes l.i l.after_digit l.place p
          (get_or nil_uuid p 0) (uuid c.args.bytes.now) within at
          w.if-place-lt36.true refl l.invariant.whole in
          record { same = omega arith; within = omega arith; whole = cc })
      | else-place-lt36 w ↦ (let step = step_out l.bytes l.i l.after_digit l.place p
          (get_or l.bytes l.i 0) (uuid c.args.bytes.now) within l.invariant.within
          at w.if-place-lt36.false refl l.invariant.whole in
          record { same = omega arith; within = omega arith; whole = cc })
    ]
