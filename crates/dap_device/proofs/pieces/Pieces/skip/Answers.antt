use Rattle.std.proofs.Common.{◌≡◌, ◌≤◌, ◌+◌, drop, length, subst, sym, ap}
use Rattle.std.specs.Prelude.{slice_range}
use Rattle.dap_device.specs.Pieces.{Window}
use Rattle.dap_device.proofs.Windows.{skipped}
use Rattle.dap_device.proofs.pieces.Pieces.skip.Goals as goal

pub returns : goal.returns
returns c =
    let p = c.self.inside in
    let few = subst (λ (w : Window). c.args.count
    ≤ length w.unread) (sym c.self.view_is) c.requires in
    subst (λ (w : Window). record {
      unread = slice_range p.buffer.items (p.start + c.args.count) p.end;
      taken = p.taken;
      limit = p.limit;
    }
    ≡ record { unread = drop c.args.count w.unread; taken = w.taken; limit = w.limit })
    c.self.view_is
    (ap (λ t. record { unread = t; taken = p.taken; limit = p.limit })
    (skipped p.buffer.items p.start p.end c.args.count few))
