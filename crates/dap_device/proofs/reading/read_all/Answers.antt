use Rattle.std.proofs.Common.{◌≡◌, ◌+◌, ◌-◌, ◌++◌, length, drop, take, sym, ap, ◌∙◌, subst, arith}
use Rattle.std.proofs.lemmas.List.{length-take-le}
use Rattle.std.proofs.lemmas.Result.{err_from_is_err_and}
use Rattle.std.proofs.Common.{take-add, length-drop}
use Rattle.std.specs.Io.KnownBytes.{Consumes}
use Rattle.std.proofs.KnownBytes.{Consumes-trans}
use Rattle.dap_device.proofs.reading.read_all.Goals as goal

pub loop-count-preserved : goal.loop-count-preserved
loop-count-preserved g c =
    let read = c.in-Ok.ensures.read in
    let before = c.loop-count.invariant in
    let room = c.in_ok-make_room.ensures in
    let bytes = c.read_from.new.bytes.items in
    let rest : length (drop c.loop-count.count bytes) ≡ length bytes - c.loop-count.count =
    length-drop c.loop-count.count bytes in
    let prefix : take c.loop-count.count bytes ≡ take c.loop-count.count c.loop-count.bytes.items =
    c.in-Ok.ensures.prefix ∙ room.prefix in
    let come : take (c.loop-count.count + c.in-Ok.more) bytes
    ≡ take c.loop-count.count c.loop-count.bytes.items
    ++ take c.in-Ok.more (drop c.loop-count.count bytes) =
    take-add c.loop-count.count c.in-Ok.more bytes
    ∙ ap (λ xs. xs ++ take c.in-Ok.more (drop c.loop-count.count bytes)) prefix in
    record {
      read = omega (arith, read.fits, rest, c.in-Ok.ensures.len, room.room);
      within = omega (arith, c.in-Ok.ensures.len, room.within);
      piece = omega (arith, c.in-Ok.ensures.len, room.piece);
      came = subst (Consumes (g.R.Source.left c.args.reader.now)
          (g.R.Source.left c.read_from.new.reader)) (sym come)
          (Consumes-trans _ _ _ _ _ before.came read.bytes);
      counted = omega (arith, read.counted, before.counted);
      no_failure = read.no_failure ∙ before.no_failure;
    }

pub returns-in_err-make_room-clause-partly : goal.returns-in_err-make_room-clause-partly
returns-in_err-make_room-clause-partly g c =
    let because = err_from_is_err_and c.from_residual.result c.from_residual.ensures.1 in
    let was = c.loop-count.invariant in
    let long : length (take c.loop-count.count c.loop-count.bytes.items) ≡ c.loop-count.count =
    length-take-le c.loop-count.count c.loop-count.bytes.items was.read in
    rw because.1
    (record {
      bytes = take c.loop-count.count c.loop-count.bytes.items;
      came = was.came;
      counted = omega (arith, was.counted, long);
      within = omega (arith, long, was.read, was.within, c.if-count-most.false);
      no_failure = was.no_failure;
    })
