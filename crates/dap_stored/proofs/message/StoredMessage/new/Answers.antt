use Rattle.std.proofs.Common.{rules, ◌≡◌, Some}
use Rattle.std.proofs.Math.Logic.{∥∥₁_elim}
use Rattle.std.proofs.Props.{props}
use mathlib.Core.Logic.{∥∥₁_map}
use Rattle.dap_message.specs.Envelope.{seq_of}
use Rattle.dap_stored.specs.Contents.{doc_in}
use Rattle.dap_stored.proofs.message.StoredMessage.new.Goals as goal

pub invariant_of-result : goal.invariant_of-result
invariant_of-result c =
    let told = c.requires in
    let seq : seq_of (doc_in c.args.head.side c.args.content.now) ≡ Some c.args.head.seq =
    ∥∥₁_elim told (hlevel props) (λ m. m.head.seq) in
    record {
      kind_same = ∥∥₁_elim told (hlevel props) (λ m. m.head.kind);
      kind_reported = ∥∥₁_elim told (hlevel props) (λ m. m.head.kind_reported);
      name_same = ∥∥₁_elim told (hlevel props) (λ m. m.head.name);
      seq_same = search (seq, rules);
      request_seq_same = ∥∥₁_elim told (hlevel props) (λ m. m.head.request_seq);
      request_seq_there = ∥∥₁_elim told (hlevel props) (λ m. m.head.request_seq_there);
      success_same = ∥∥₁_elim told (hlevel props) (λ m. m.head.success);
      success_there = ∥∥₁_elim told (hlevel props) (λ m. m.head.success_there);
      marked = ∥∥₁_map told (λ m. m.marked);
    }
