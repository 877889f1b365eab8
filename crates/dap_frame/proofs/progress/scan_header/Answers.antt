use Rattle.std.proofs.Common.{◌≡◌, ◌++◌, length, take, arith, ap, subst}
use Rattle.std.proofs.lemmas.List.{take_all}
use Rattle.dap_frame.specs.HeaderScan.{IsScanOf}
use Rattle.dap_frame.proofs.HeaderSteps.{gives_more, has_ended, header_fault, header_too_long}
use Rattle.dap_frame.proofs.progress.scan_header.Goals as goal

pub step-requires : goal.step-requires
step-requires c =
    let inv = c.loop-i.invariant c.requires.scan.0 c.requires.scan.1 c.requires.scan.2 in
    let high = c.requires.sound.header_high in
    omega (arith, inv.0.count, inv.1, high)

pub loop-i-preserved : goal.loop-i-preserved
loop-i-preserved c = λ rest scanned short.
    let inv = c.loop-i.invariant rest scanned short in
    let next = gives_more c.args.limits rest c.args.piece.now c.loop-i.i c.loop-i.scan (omega arith)
    inv.0 c.in-Unfinished.next c.in-Unfinished.ensures in
    (next, omega (arith, next.count))

pub returns-in-Ended : goal.returns-in-Ended
returns-in-Ended c = λ rest scanned short.
    let inv = c.loop-i.invariant rest scanned short in
    has_ended c.args.limits rest c.args.piece.now c.loop-i.i c.loop-i.scan (omega arith) inv.0 inv.1
    c.in-Ended.findings c.in-Ok.content_len c.in-Ended.ensures (c.in-Ok.ensures c.args.limits)

pub returns-in-Err : goal.returns-in-Err
returns-in-Err c = λ rest scanned short.
    let inv = c.loop-i.invariant rest scanned short in
    header_fault c.args.limits rest c.args.piece.now c.loop-i.i c.loop-i.scan (omega arith) inv.0
    inv.1 c.in-Ended.findings c.in-Err.fault c.in-Ended.ensures (c.in-Err.ensures c.args.limits)

pub returns-then-limits-next : goal.returns-then-limits-next
returns-then-limits-next c = λ rest scanned short.
    let inv = c.loop-i.invariant rest scanned short in
    header_too_long c.args.limits rest c.args.piece.now c.loop-i.i c.loop-i.scan (omega arith) inv.0
    inv.1 c.in-Unfinished.next c.in-Unfinished.ensures (omega arith)

pub returns : goal.returns
returns c = λ rest scanned short.
    let inv = c.loop-i.invariant rest scanned short in
    let all : rest ++ take c.loop-i.i c.args.piece.now ≡ rest ++ c.args.piece.now =
    ap (λ xs. rest ++ xs) (take_all c.loop-i.i c.args.piece.now (omega arith)) in
    record {
      scanned = subst (λ bytes. IsScanOf c.args.limits bytes c.loop-i.scan) all inv.0;
      short = omega (arith, ap length all, inv.1);
    }
