use Rattle.std.proofs.Common.{ℕ, ◌<◌, ◌++◌, List, length, Err, arith, refl, sym, ◌∙◌, ap, subst}
use Rattle.dap_device.specs.Pieces.{Window}
use Rattle.dap_input.specs.ItemReading.{GivesFedItem, GivesItem}
use Rattle.dap_input.specs.declared.records.Records.{Records}
use Rattle.dap_input.proofs.RecordLoop.{at_start, counted_on, filled, nothing, stopped, read_all}
use Rattle.dap_input.proofs.RecordLoop.{found, no_memory, faulty}
use Rattle.dap_input.proofs.records.Records.next.Goals as goal

pub loop-stop-init : goal.loop-stop-init
loop-stop-init g c = record {
  counted = record { room = omega arith; no_failure = refl; number_is = refl };
  looking = λ limits between.
      at_start (g.I.ItemReader.items limits) (g.I.ItemReader.represents limits)
      (g.I.ItemReader.takes_memory limits) (g.met.I.ItemReader.is_open limits) g.R.Source
      c.args.self.now c.args.reader.now between;
}

pub returns-in-Err : goal.returns-in-Err
returns-in-Err g c = λ limits between.
    let was = c.loop-stop.invariant.looking limits between in
    let none = c.in-Err.ensures in
    stopped (g.I.ItemReader.items limits) (g.I.ItemReader.represents limits)
    (g.I.ItemReader.takes_memory limits) (g.met.I.ItemReader.is_open limits) g.R.Source
    c.args.self.now c.args.reader.now c.loop-stop.self c.loop-stop.reader was
    _ c.fill.new.reader none.0 none.1 refl refl refl c.in-Err.stop _ none.2
    (c.stopped.ensures limits)

pub returns-in-Memory : goal.returns-in-Memory
returns-in-Memory g c = λ limits between.
    let now : Records _ = record c.loop-stop.self { pieces = c.fill.new.self } in
    let was = filled (g.I.ItemReader.items limits) (g.I.ItemReader.represents limits)
    (g.I.ItemReader.takes_memory limits) (g.met.I.ItemReader.is_open limits) g.R.Source
    c.args.self.now c.args.reader.now c.loop-stop.self c.loop-stop.reader
    (c.loop-stop.invariant.looking limits between)
    now c.fill.new.reader c.in_default.ensures refl refl refl in
    no_memory (g.I.ItemReader.items limits) (g.I.ItemReader.represents limits)
    (g.I.ItemReader.takes_memory limits) (g.met.I.ItemReader.is_open limits) g.R.Source
    c.args.self.now c.args.reader.now now c.fill.new.reader was _ refl refl
    (subst (λ piece. 0 < length piece) c.unread.ensures
    (c.in-Err-feed.ensures.memory_for_bytes (ap Err c.in-Memory.is) limits was.held was.reads))
    (subst (λ piece. g.I.ItemReader.takes_memory limits (was.held ++ piece)) c.unread.ensures
    (c.in-Err-feed.ensures.memory_for_content (ap Err c.in-Memory.is) limits was.held was.reads))
    refl

pub returns-in_default-cause : goal.returns-in_default-cause
returns-in_default-cause g c = λ limits between.
    let now : Records _ = record c.loop-stop.self { pieces = c.fill.new.self } in
    let was = filled (g.I.ItemReader.items limits) (g.I.ItemReader.represents limits)
    (g.I.ItemReader.takes_memory limits) (g.met.I.ItemReader.is_open limits) g.R.Source
    c.args.self.now c.args.reader.now c.loop-stop.self c.loop-stop.reader
    (c.loop-stop.invariant.looking limits between)
    now c.fill.new.reader c.in_default.ensures refl refl refl in
    faulty
    (g.I.ItemReader.items limits) (g.I.ItemReader.represents limits)
    (g.I.ItemReader.takes_memory limits) (g.met.I.ItemReader.is_open limits) g.R.Source
    c.args.self.now c.args.reader.now now c.fill.new.reader was _ refl refl
    c.in-Err-feed.cause c.feed.new.self c.in_default-cause.not-Memory
    (subst (λ piece. (held : List ℕ) → g.I.ItemReader.represents limits c.loop-stop.self.reader held
    → GivesItem (g.I.ItemReader.items limits) (g.I.ItemReader.represents limits) held piece
    (Err c.in-Err-feed.cause) c.feed.new.self) c.unread.ensures
    (c.in-Err-feed.ensures.gives limits))

pub returns-then-is_some : goal.returns-then-is_some
returns-then-is_some g c = λ limits between.
    let now : Records _ = record c.loop-stop.self { pieces = c.fill.new.self } in
    let was = filled (g.I.ItemReader.items limits) (g.I.ItemReader.represents limits)
    (g.I.ItemReader.takes_memory limits) (g.met.I.ItemReader.is_open limits) g.R.Source
    c.args.self.now c.args.reader.now c.loop-stop.self c.loop-stop.reader
    (c.loop-stop.invariant.looking limits between)
    now c.fill.new.reader c.in_default.ensures refl refl refl in
    let fed = subst (λ piece. (held : List ℕ)
    → g.I.ItemReader.represents limits c.loop-stop.self.reader held
    → GivesFedItem (g.I.ItemReader.items limits) (g.I.ItemReader.represents limits) held piece
    c.in-Ok.fed c.feed.new.self) c.unread.ensures (c.in-Ok.ensures.gives limits) in
    found
    (g.I.ItemReader.items limits) (g.I.ItemReader.represents limits)
    (g.I.ItemReader.takes_memory limits) (g.met.I.ItemReader.is_open limits) g.R.Source
    c.args.self.now c.args.reader.now now c.fill.new.reader was c.in-Ok.fed _ fed c.skip.ensures
    refl (sym c.is_some.ensures ∙ c.if-is_some.true) refl

pub loop-stop-preserved : goal.loop-stop-preserved
loop-stop-preserved g c =
    let got = c.in_default.ensures in
    record {
      counted = counted_on g.R.Source c.args.self.now
          c.loop-stop.self _ c.args.reader.now c.loop-stop.reader c.fill.new.reader c.fill.new.self
          c.loop-stop.invariant.counted got (ap (λ (w : Window). w.taken) c.skip.ensures)
          (ap (λ (w : Window). w.limit) c.skip.ensures) refl;
      looking = λ limits between.
          let now : Records _ = record c.loop-stop.self { pieces = c.fill.new.self } in
          let was = filled (g.I.ItemReader.items limits) (g.I.ItemReader.represents limits)
          (g.I.ItemReader.takes_memory limits) (g.met.I.ItemReader.is_open limits) g.R.Source
          c.args.self.now c.args.reader.now c.loop-stop.self c.loop-stop.reader
          (c.loop-stop.invariant.looking limits between)
          now c.fill.new.reader c.in_default.ensures refl refl refl in
          let fed = subst (λ piece. (held : List ℕ)
          → g.I.ItemReader.represents limits c.loop-stop.self.reader held
          → GivesFedItem (g.I.ItemReader.items limits) (g.I.ItemReader.represents limits) held piece
          c.in-Ok.fed c.feed.new.self) c.unread.ensures (c.in-Ok.ensures.gives limits) in
          read_all
          (g.I.ItemReader.items limits) (g.I.ItemReader.represents limits)
          (g.I.ItemReader.takes_memory limits) (g.met.I.ItemReader.is_open limits) g.R.Source
          c.args.self.now c.args.reader.now now c.fill.new.reader was c.in-Ok.fed _ fed
          c.skip.ensures refl
          (nothing c.in-Ok.fed.item (sym c.is_some.ensures ∙ c.if-is_some.false)) refl;
    }
