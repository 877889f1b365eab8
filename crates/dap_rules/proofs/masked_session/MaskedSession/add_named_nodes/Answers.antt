use Rattle.std.proofs.Common.{◌≡◌, ◌∙◌, ◌++◌, ℕ, List, Some, ap, drop, false, length, subst, sym}
use Rattle.std.proofs.Common.{take}
use Rattle.std.proofs.Math.Seq.{take-append_seam}
use Rattle.dap_flat.specs.declared.node.Node.{Node}
use Rattle.dap_flat.specs.{Pieces.Represents, Reading.ReadsDocument}
use Rattle.dap_tree.specs.Json.{text_of}
use Rattle.dap_mask.specs.KeptRules.{mask_of}
use Rattle.dap_message.specs.Message.{Sent}
use Rattle.dap_rules.specs.MaskedSessions.{AddsNamedIf}
use Rattle.dap_rules.specs.declared.masked_session.MaskedSession.{MaskedSession}
use Rattle.dap_rules.proofs.NamedPushes.{few_bytes, nodes_added, nodes_not_added, nodes_read}
use Rattle.dap_rules.proofs.NamedPushes.{with_numbers}
use Rattle.dap_rules.proofs.NamedRecords.{named_next}
use Rattle.dap_rules.proofs.masked_session.MaskedSession.add_named_nodes.Goals as goal

-- All nodes of a vector are replaced.
replaced : (len : ℕ) (new old : List Node) → length new ≡ len
    → take len (new ++ drop (length new) old) ≡ new
replaced len new old same =
    ap (λ k. take k (new ++ drop (length new) old)) (sym same)
    ∙ take-append_seam new (drop (length new) old)

pub count_record-requires-clause-short : goal.count_record-requires-clause-short
count_record-requires-clause-short c =
    let xs = (mask_of c.args.rules.now).declared in
    let read = c.requires.read in
    let named = c.requires.named in
    let d = read.1.0 in
    let m : Sent = record { side = c.args.side; doc = d } in
    let was = c.deref_mut.result.now in
    let new = c.name_nodes.new.nodes in
    let shown : Represents was d =
    subst (λ ns. Represents ns d) (sym c.deref_mut.ensures.value) read.1.2 in
    let whole =
    replaced c.args.nodes.len new c.args.nodes.items
    (c.name_nodes.auto.nodes ∙ c.deref_mut.ensures.len) in
    few_bytes c.args.limits c.requires.sound xs c.args.rules.now.list.labelled m read.0 read.1.1
    c.args.self.now c.name_nodes.new.numbers was new shown c.in_ok-ruled.ensures.names
    c.in_ok-ruled.ensures.few c.in_ok-ruled.ruled
    (λ unset. c.in_ok-ruled.ensures.applies (ap Some unset)) c.name_nodes.ensures.limit
    c.add_nodes.new.self
    (λ content reads. rw c.in-Ok-true.field-0-test at c.in-Ok-true.ensures content
    (subst (ReadsDocument content) (sym whole) reads)) named.0 named.1

pub add_nodes-requires : goal.add_nodes-requires
add_nodes-requires c =
    let xs = (mask_of c.args.rules.now).declared in
    let read = c.requires.read in
    let named = c.requires.named in
    let d = read.1.0 in
    let m : Sent = record { side = c.args.side; doc = d } in
    let was = c.deref_mut.result.now in
    let new = c.name_nodes.new.nodes in
    let shown : Represents was d =
    subst (λ ns. Represents ns d) (sym c.deref_mut.ensures.value) read.1.2 in
    let whole =
    replaced c.args.nodes.len new c.args.nodes.items
    (c.name_nodes.auto.nodes ∙ c.deref_mut.ensures.len) in
    let text = text_of (named_next xs named.0 m).doc in (
      text,
      subst (ReadsDocument text) (sym whole)
          (nodes_read c.args.limits c.requires.sound xs c.args.rules.now.list.labelled m read.0
          read.1.1 c.args.self.now c.name_nodes.new.numbers was new shown
          c.in_ok-ruled.ensures.names c.in_ok-ruled.ensures.few named.0 named.1),
    )

pub returns-in-Ok-false-2 : goal.returns-in-Ok-false-2
returns-in-Ok-false-2 c bytes d read shown =
    let limits = c.args.limits in
    let xs = (mask_of c.args.rules.now).declared in
    let m : Sent = record { side = c.args.side; doc = d } in
    let named = c.requires.named in
    let session = c.args.self.now in
    let numbers = c.name_nodes.new.numbers in
    let was = c.deref_mut.result.now in
    let new = c.name_nodes.new.nodes in
    let shown_too : Represents was d =
    subst (λ ns. Represents ns d) (sym c.deref_mut.ensures.value) shown in
    let whole =
    replaced c.args.nodes.len new c.args.nodes.items
    (c.name_nodes.auto.nodes ∙ c.deref_mut.ensures.len) in
    let text = text_of (named_next xs named.0 m).doc in
    let reads : ReadsDocument text new =
    nodes_read limits c.requires.sound xs c.args.rules.now.list.labelled m bytes read session
    numbers was new shown_too c.in_ok-ruled.ensures.names c.in_ok-ruled.ensures.few named.0
    named.1 in
    let same : c.add_nodes.new.self ≡ with_numbers session numbers =
    rw c.in-Ok-false.field-0-test at c.in-Ok-false.ensures text
    (subst (ReadsDocument text) (sym whole) reads) in
    subst (λ (s : MaskedSession). AddsNamedIf limits xs m session s false) (sym same)
    (nodes_not_added limits c.requires.sound xs c.args.rules.now.list.labelled m bytes read session
    numbers was new shown_too c.in_ok-ruled.ensures.names c.in_ok-ruled.ensures.few
    c.in_ok-ruled.ruled (λ unset. c.in_ok-ruled.ensures.applies (ap Some unset))
    c.name_nodes.ensures.limit (let off = c.if-ruled.false in cc))

pub returns : goal.returns
returns c bytes d read shown =
    let xs = (mask_of c.args.rules.now).declared in
    let m : Sent = record { side = c.args.side; doc = d } in
    let was = c.deref_mut.result.now in
    let new = c.name_nodes.new.nodes in
    let shown_too : Represents was d =
    subst (λ ns. Represents ns d) (sym c.deref_mut.ensures.value) shown in
    let whole =
    replaced c.args.nodes.len new c.args.nodes.items
    (c.name_nodes.auto.nodes ∙ c.deref_mut.ensures.len) in
    nodes_added c.args.limits c.requires.sound xs c.args.rules.now.list.labelled m bytes read
    c.args.self.now c.name_nodes.new.numbers was new shown_too c.in_ok-ruled.ensures.names
    c.in_ok-ruled.ensures.few c.in_ok-ruled.ruled
    (λ unset. c.in_ok-ruled.ensures.applies (ap Some unset)) c.name_nodes.ensures.limit
    c.add_nodes.new.self
    (λ content reads. rw c.in-Ok-true.field-0-test at c.in-Ok-true.ensures content
    (subst (ReadsDocument content) (sym whole) reads))
    c.args.number c.args.content_len c.in_ok-counted_len.counted_len c.in-Ok.named_bytes
    (λ e shows. c.requires.len e
    (subst (λ ns. Represents ns e) c.deref_mut.ensures.value shows))
    (λ held e last reads stays. c.in_ok-counted_len.ensures held e last reads stays)
    (λ n is. c.in-Ok.ensures.counts n is)
