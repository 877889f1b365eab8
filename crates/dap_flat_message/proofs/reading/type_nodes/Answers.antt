use Rattle.std.proofs.Common.{◌≡◌, ◌∙◌, ◌++◌, ap, drop, length, sym, subst, take, None}
use Rattle.std.proofs.Math.Seq.{take-append_seam}
use Rattle.dap_tree.proofs.Outcomes.{read_is_plain}
use Rattle.dap_message.specs.Message.{message_of}
use Rattle.dap_flat_message.specs.Document.{document_of}
use Rattle.dap_flat.specs.Pieces.{Represents}
use Rattle.dap_flat_message.proofs.Documents.{document_represented}
use Rattle.dap_flat_message.specs.Places.{IsEnvelope}
use Rattle.dap_flat_message.specs.Typed.{IsTypedFlat, KeepsPlaces}
use Rattle.dap_flat_message.proofs.reading.type_nodes.Goals as goal

pub typed_flat-requires : goal.typed_flat-requires
typed_flat-requires c =
    let e = c.in_ok-found.found in
    subst (λ ns. IsEnvelope ns e) (c.deref.ensures.value ∙ sym c.deref_mut.ensures.value)
    c.in_ok-found.ensures

pub new-requires : goal.new-requires
new-requires c =
    let old = c.args.nodes in
    let new = c.typed_flat.new.nodes in
    let e = c.in_ok-found.found in
    let side = c.args.side in
    let was = c.deref_mut.result.now in
    let bytes = c.requires.0 in
    let read = c.requires.1 in
    let d = read.0 in
    let whole : take old.len (new ++ drop (length new) old.items) ≡ new =
    ap (λ k. take k (new ++ drop (length new) old.items))
    (sym (c.typed_flat.auto.nodes ∙ c.deref_mut.ensures.len))
    ∙ take-append_seam new (drop (length new) old.items) in
    let typed : IsTypedFlat side was new None =
    subst (IsTypedFlat side was new) c.in_default.is c.in_ok-fault.ensures.typed in
    let kept : KeepsPlaces side was e None =
    subst (KeepsPlaces side was e) c.in_default.is c.in_ok-fault.ensures.places in
    let shown : Represents was d =
    subst (λ ns. Represents ns d) (sym c.deref_mut.ensures.value) read.2 in
    let made = typed d shown in (
      d,
      read_is_plain bytes d read.1,
      made.0,
      record {
        shows = subst (λ ns. Represents ns (message_of side d)) (sym whole) made.1;
        places = kept d shown;
      },
    )

pub returns-clause-ok : goal.returns-clause-ok
returns-clause-ok c bytes read =
    let old = c.args.nodes in
    let new = c.typed_flat.new.nodes in
    let d = read.0 in
    let e = message_of c.args.side d in
    let whole : take old.len (new ++ drop (length new) old.items) ≡ new =
    ap (λ k. take k (new ++ drop (length new) old.items))
    (sym (c.typed_flat.auto.nodes ∙ c.deref_mut.ensures.len))
    ∙ take-append_seam new (drop (length new) old.items) in
    let typed : IsTypedFlat c.args.side c.deref_mut.result.now new None =
    subst (IsTypedFlat c.args.side c.deref_mut.result.now new) c.in_default.is
    c.in_ok-fault.ensures.typed in
    let made = typed d (subst (λ ns. Represents ns d) (sym c.deref_mut.ensures.value) read.2) in (
      c.in_ok-new.ensures.side,
      (
        d,
        read.1,
        (
          made.0,
          c.in_ok-new.ensures.doc ∙ ap document_of whole ∙ document_represented new e made.1,
        ),
      ),
    )
