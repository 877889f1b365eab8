use Rattle.std.proofs.Common.{◌≡◌, ◌+◌, ℕ, List, [], sym, subst, arith}
use Rattle.std.proofs.lemmas.List.{nil_from_length}
use Rattle.dap_frame.specs.declared.header_scan.HeaderScan.{HeaderScan}
use Rattle.dap_frame.specs.declared.limits.FrameLimits.{FrameLimits}
use Rattle.dap_frame.specs.HeaderScan.{IsScanOf}
use Rattle.dap_frame.specs.Progress.{GoesOn, HasEnded, ShowsInHeader}
use Rattle.dap_frame.proofs.UsualNames.{goes_on, has_ended, is_behind, name_text}
use Rattle.dap_frame.proofs.UsualNames.{shows_fault}
use Rattle.dap_frame.proofs.progress.take_header.Goals as goal

pub scan_header-requires-clause-scan : goal.scan_header-requires-clause-scan
scan_header-requires-clause-scan c =
    let low = c.requires.sound.header_low in
    (name_text, c.behind_name.ensures c.args.limits, omega (arith, low))

-- if the count is 0, no bytes have arrived
nothing_came : (limits : FrameLimits) (rest : List ℕ) (scan : HeaderScan)
    → IsScanOf limits rest scan → scan.count ≡ 0 → rest ≡ []
nothing_came limits rest scan scanned none =
    let count = scanned.count in nil_from_length rest (omega (arith, count))

pub overflow_add-result : goal.overflow_add-result
overflow_add-result c =
    let within = c.in-Some-plain_length.ensures.within in
    let long = c.in-Some.ensures.cases.2 in
    omega (arith, within, long)

pub returns-in-Some-plain_length : goal.returns-in-Some-plain_length
returns-in-Some-plain_length c = λ rest scanned short.
    let plain = c.in-Some-plain_length.plain in
    subst (λ r. HasEnded c.args.limits r c.args.piece.now (plain.used + 16) plain.content_len
    (plain.used + 16))
    (sym (nothing_came c.args.limits rest c.args.scan scanned c.if-scan-eq0.true))
    (has_ended c.args.limits c.args.piece.now c.in-Some.behind.now
    (is_behind c.args.piece.now c.in-Some.behind c.in-Some.ensures.cases) (plain.used + 16)
    plain.content_len plain.used c.in-Some-plain_length.ensures)

pub overflow_add-result-in-Ok-Ended : goal.overflow_add-result-in-Ok-Ended
overflow_add-result-in-Ok-Ended c =
    let low = c.requires.sound.header_low in
    let took = (rw c.in-Ok-Ended.field-0-is at c.in-Ok-Ended.ensures) name_text
    (c.behind_name.ensures c.args.limits) (omega (arith, low)) in
    let within = took.within in
    let long = c.in-Some.ensures.cases.2 in
    omega (arith, within, long)

pub returns-in-Ok-Ended : goal.returns-in-Ok-Ended
returns-in-Ok-Ended c = λ rest scanned short.
    let low = c.requires.sound.header_low in
    let took = (rw c.in-Ok-Ended.field-0-is at c.in-Ok-Ended.ensures) name_text
    (c.behind_name.ensures c.args.limits) (omega (arith, low)) in
    subst (λ r. HasEnded c.args.limits r c.args.piece.now c.in-Ok-Ended.header_len
    c.in-Ok-Ended.content_len (c.in-Ok-Ended.used + 16))
    (sym (nothing_came c.args.limits rest c.args.scan scanned c.if-scan-eq0.true))
    (has_ended c.args.limits c.args.piece.now c.in-Some.behind.now
    (is_behind c.args.piece.now c.in-Some.behind c.in-Some.ensures.cases) c.in-Ok-Ended.header_len
    c.in-Ok-Ended.content_len c.in-Ok-Ended.used took)

pub returns-in-Ok-Unfinished : goal.returns-in-Ok-Unfinished
returns-in-Ok-Unfinished c = λ rest scanned short.
    let low = c.requires.sound.header_low in
    let took = (rw c.in-Ok-Unfinished.field-0-is at c.in-Ok-Unfinished.ensures) name_text
    (c.behind_name.ensures c.args.limits) (omega (arith, low)) in
    subst (λ r. GoesOn c.args.limits r c.args.piece.now c.in-Ok-Unfinished.scan)
    (sym (nothing_came c.args.limits rest c.args.scan scanned c.if-scan-eq0.true))
    (goes_on c.args.limits c.args.piece.now c.in-Some.behind.now
    (is_behind c.args.piece.now c.in-Some.behind c.in-Some.ensures.cases) c.in-Ok-Unfinished.scan
    took)

pub returns-in-Err : goal.returns-in-Err
returns-in-Err c = λ rest scanned short.
    let low = c.requires.sound.header_low in
    let took = c.in-Err.ensures name_text (c.behind_name.ensures c.args.limits)
    (omega (arith, low)) in
    subst (λ r. ShowsInHeader c.args.limits r c.args.piece.now c.in-Err.fault)
    (sym (nothing_came c.args.limits rest c.args.scan scanned c.if-scan-eq0.true))
    (shows_fault c.args.limits c.args.piece.now c.in-Some.behind.now
    (is_behind c.args.piece.now c.in-Some.behind c.in-Some.ensures.cases) c.in-Err.fault took)
