use Rattle.std.proofs.Common.{◌≡◌, ◌≤◌, length, ap, ap₂, ◌∙◌, subst, sym}
use Rattle.std.proofs.Math.Logic.{∥∥₁_elim}
use Rattle.std.proofs.Props.{props}
use Rattle.std.proofs.lemmas.Str.{IsUtf8-had}
use Rattle.std.specs.Prelude.{IsUtf8}
use mathlib.Core.Logic.{∥∥₁_map}
use Rattle.dap_stored.specs.Contents.{message_in}
use Rattle.dap_stored.specs.Heads.{part}
use Rattle.dap_stored.proofs.Growth.{are_of}
use Rattle.dap_stored.proofs.parts.Parts.message.Goals as goal

pub of-name-requires-clause-order : goal.of-name-requires-clause-order
of-name-requires-clause-order c = ∥∥₁_elim c.requires (hlevel props) (λ s. s.name_within.order)

pub of-name-requires-clause-end : goal.of-name-requires-clause-end
of-name-requires-clause-end c =
    subst (λ xs. c.args.head.name.end ≤ length xs) (sym c.deref.ensures.value)
    (∥∥₁_elim c.requires (hlevel props) (λ s. s.name_within.end))

pub of-content-requires-clause-order : goal.of-content-requires-clause-order
of-content-requires-clause-order c =
    ∥∥₁_elim c.requires (hlevel props) (λ s. s.content_within.order)

pub of-content-requires-clause-end : goal.of-content-requires-clause-end
of-content-requires-clause-end c =
    subst (λ xs. c.args.head.content.end ≤ length xs) (sym c.deref-2.ensures.value)
    (∥∥₁_elim c.requires (hlevel props) (λ s. s.content_within.end))

pub of-marks-requires-clause-order : goal.of-marks-requires-clause-order
of-marks-requires-clause-order c = ∥∥₁_elim c.requires (hlevel props) (λ s. s.marks_within.order)

pub of-marks-requires-clause-end : goal.of-marks-requires-clause-end
of-marks-requires-clause-end c =
    subst (λ xs. c.args.head.marks.end ≤ length xs) (sym c.deref-3.ensures.value)
    (∥∥₁_elim c.requires (hlevel props) (λ s. s.marks_within.end))

pub text_of_bytes-requires : goal.text_of_bytes-requires
text_of_bytes-requires c =
    let h = c.args.head in
    let name : c.of-name.result.now ≡ part c.args.self.now.names.items h.name =
    c.of-name.ensures ∙ ap (λ xs. part xs h.name) c.deref.ensures.value in
    subst IsUtf8 (sym name)
    (IsUtf8-had _ (∥∥₁_map c.requires (λ s. s.message.head.name_utf8)))

pub new-requires : goal.new-requires
new-requires c =
    let p = c.args.self.now in
    let h = c.args.head in
    let name : c.text_of_bytes.result.now ≡ part p.names.items h.name =
    c.text_of_bytes.ensures
    ∙ c.of-name.ensures
    ∙ ap (λ xs. part xs h.name) c.deref.ensures.value in
    let content : c.of-content.result.now ≡ part p.text.items h.content =
    c.of-content.ensures ∙ ap (λ xs. part xs h.content) c.deref-2.ensures.value in
    let marks : c.of-marks.result.now ≡ part p.marks.items h.marks =
    c.of-marks.ensures ∙ ap (λ xs. part xs h.marks) c.deref-3.ensures.value in
    ∥∥₁_map c.requires (λ s. are_of h _ _ _ _ _ _ name content marks s.message)

pub returns : goal.returns
returns c =
    let h = c.args.head in
    ap₂ message_in c.new.ensures.side
    (c.new.ensures.content
    ∙ c.of-content.ensures
    ∙ ap (λ xs. part xs h.content) c.deref-2.ensures.value)
