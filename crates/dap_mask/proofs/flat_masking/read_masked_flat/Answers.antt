use Rattle.std.proofs.Common.{◌≡◌, ◌∙◌, ◌++◌, ap, drop, length, rules, sym, subst, take}
use Rattle.std.proofs.Math.Seq.{take-append_seam}
use Rattle.dap_flat.specs.Pieces.{Represents}
use Rattle.dap_flat.proofs.SomeContents.{some_content}
use Rattle.dap_flat_message.proofs.Heads.{holds_whole}
use Rattle.dap_mask.specs.KeptRules.{changes_of, mask_of}
use Rattle.dap_mask.specs.Masked.{masked}
use Rattle.dap_mask.proofs.FlatChanges.{shown_whole}
use Rattle.dap_mask.proofs.LooseReading.{left_plainly, masked_plainly, read_plainly}
use Rattle.dap_mask.proofs.flat_masking.read_masked_flat.Goals as goal

pub returns-in_err-mask_flat-clause-memory : goal.returns-in_err-mask_flat-clause-memory
returns-in_err-mask_flat-clause-memory c = λ _.
    let read = c.in_ok-nodes.ensures.ok in some_content c.args.content.now read.0 read.1

pub returns-then-dropped-clause-ok : goal.returns-then-dropped-clause-ok
returns-then-dropped-clause-ok c =
    let read = c.in_ok-nodes.ensures.ok in
    let now = c.deref.result.now in
    let none = (c.is_plain.ensures c.if-not-is_plain.false).0 in
    let bare = (c.is_plain.ensures c.if-not-is_plain.false).1 in
    let shown = subst (λ ns. Represents ns read.0) (sym c.deref.ensures.value) read.2 in (
      read.0,
      read_plainly (mask_of c.args.rules.now) c.args.content.now read.0 none bare read.1,
      sym (c.in_ok-dropped.ensures read.0 (holds_whole now read.0 shown)) ∙ c.if-dropped.true,
    )

pub returns : goal.returns
returns c =
    let read = c.in_ok-nodes.ensures.ok in
    let d = read.0 in
    let now = c.deref.result.now in
    let list = c.args.rules.now.list in
    let mask = mask_of c.args.rules.now in
    let e = masked (changes_of c.args.rules.now) d in
    let none = (c.is_plain.ensures c.if-not-is_plain.false).0 in
    let bare = (c.is_plain.ensures c.if-not-is_plain.false).1 in
    let full = (c.is_plain.ensures c.if-not-is_plain.false).2 in
    let before = subst (λ ns. Represents ns d) (sym c.deref.ensures.value) read.2 in
    let kept = sym (c.in_ok-dropped.ensures d (holds_whole now d before)) ∙ c.if-dropped.false in
    let old = c.in_ok-nodes.nodes in
    let was = c.deref_mut.result.now in
    let new = c.mask_flat.new.nodes in
    let whole : take old.len (new ++ drop (length new) old.items) ≡ new =
    ap (λ k. take k (new ++ drop (length new) old.items))
    (sym (c.mask_flat.auto.nodes ∙ c.deref_mut.ensures.len))
    ∙ take-append_seam new (drop (length new) old.items) in
    let showed : Represents was d =
    subst (λ ns. Represents ns d) (sym c.deref_mut.ensures.value) read.2 in
    let shows = subst (λ ns. Represents ns e) (sym whole)
    (shown_whole was new d e showed c.mask_flat.auto.nodes
    (c.in_ok-mask_flat.ensures d (holds_whole was d showed))) in
    record {
      ok = (e, left_plainly mask c.args.content.now d none bare full read.1 kept, shows);
      memory = search rules;
      masked = (
        e,
        masked_plainly mask c.args.content.now d list.safe list.settled list.leave none bare
            full read.1,
        shows,
      );
    }
