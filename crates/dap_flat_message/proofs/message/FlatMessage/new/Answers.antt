use Rattle.std.proofs.Common.{rules, ◌≡◌, ◌∙◌, Some, true, ap, codes, subst, sym}
use Rattle.dap_tree.specs.Doc.{get}
use Rattle.dap_message.specs.AskedRows.{kind_of_tree}
use Rattle.dap_message.specs.Envelope.{name_of, seq_of}
use Rattle.dap_message.specs.Message.{message_of}
use Rattle.dap_message.specs.Numbers.{is_proper}
use Rattle.dap_message.proofs.KeptByTyping.{proper-message}
use Rattle.dap_flat_message.specs.Document.{document_of}
use Rattle.dap_flat_message.proofs.Documents.{document_represented}
use Rattle.dap_flat_message.specs.Heads.{Tells, text_in}
use Rattle.dap_flat_message.specs.Places.{Locates}
use Rattle.dap_flat_message.proofs.Located.{tells}
use Rattle.dap_flat_message.proofs.Told.{has_kind, kind_is, name_is}
use Rattle.dap_flat_message.proofs.message.FlatMessage.new.Goals as goal

pub invariant_of-result : goal.invariant_of-result
invariant_of-result c =
    let ns = c.args.nodes.items in
    let d = document_of ns in
    let found = c.args.found.now in
    let kind = c.in_ok-kind.kind in
    let made = c.requires in
    let is : d ≡ message_of c.args.side made.0 =
    document_represented ns (message_of c.args.side made.0) made.3.shows in
    let located : Locates ns found d = subst (Locates ns found) (sym is) made.3 in
    let told_at : Tells ns d found = tells ns found d located in
    let reported : kind_of_tree d ≡ Some kind =
    sym (c.in_ok-kind_of_tree.ensures d
    (subst (λ xs. Tells xs d found) (sym c.deref.ensures.value) told_at))
    ∙ c.in_ok-kind.ensures.ok_part in
    let name : name_of d ≡ Some c.in_ok-name.name.now =
    name_is d kind reported
    ∙ sym (c.in_ok-name_at.ensures d
    (subst (λ xs. Tells xs d found) (sym c.deref-2.ensures.value) told_at))
    ∙ ap text_in c.in_ok-name.ensures.ok_part in
    let seq : seq_of d ≡ Some c.in_ok-seq.seq =
    sym (c.in_ok-number_at.ensures (get (codes "seq") d)
    (subst (λ xs. Tells xs d found) (sym c.deref-3.ensures.value) told_at).seq)
    ∙ c.in_ok-seq.ensures.ok_part in
    let outcome =
    c.in_ok-request_seq.ensures d
    (subst (λ xs. Tells xs d found) (sym c.deref-4.ensures.value) told_at) reported in
    let proper : is_proper d ≡ true = ap is_proper is ∙ proper-message c.args.side made.0 made.1 in
    record {
      shown = ∣ located.shows ∣₁;
      kind_same = kind_is d kind reported;
      kind_of_tree = has_kind d kind reported;
      name_same = name;
      seq_same = search (seq, rules);
      request_seq_same = outcome.number;
      request_seq_there = outcome.number_there;
      success_same = outcome.success;
      success_there = outcome.success_there;
      proper = proper;
    }
