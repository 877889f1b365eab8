use Rattle.std.proofs.Common.{◌≡◌, ◌++◌, length, ap, ◌∙◌, arith}
use Rattle.std.proofs.lemmas.Grind.{common_steps}
use mathlib.Core.Logic.{∥∥₁_map}
use Rattle.dap_stored.specs.declared.head.Span.{Span}
use Rattle.dap_stored.proofs.Contents.{own_doc}
use Rattle.dap_stored.proofs.Storing.{stores_new}
use Rattle.dap_stored.proofs.parts.Parts.store.Goals as goal

pub returns-clause-ok : goal.returns-clause-ok
returns-clause-ok g c =
    let old = c.args.self.now in
    let m = g.M.AnyMessage.sent c.args.message.now in
    let h = c.head_of.result in
    let name-start : h.name.start ≡ c.len-names.result =
    ap (λ (s : Span). s.start) c.head_of.ensures.name in
    let name-end : h.name.end ≡ c.len.result = ap (λ (s : Span). s.end) c.head_of.ensures.name in
    let content-start : h.content.start ≡ c.len-text.result =
    ap (λ (s : Span). s.start) c.head_of.ensures.content in
    let content-end : h.content.end ≡ c.len-2.result =
    ap (λ (s : Span). s.end) c.head_of.ensures.content in
    let marks-start : h.marks.start ≡ c.len-marks.result =
    ap (λ (s : Span). s.start) c.head_of.ensures.marks in
    let marks-end : h.marks.end ≡ c.len-3.result =
    ap (λ (s : Span). s.end) c.head_of.ensures.marks in
    let start-1 : h.name.start ≡ length old.names.items = grind (arith, common_steps) in
    let end-1 : h.name.end ≡ length c.extend_from_slice.new.self.items =
    grind (arith, common_steps) in
    let start-2 : h.content.start ≡ length old.text.items = grind (arith, common_steps) in
    let end-2 : h.content.end ≡ length c.write_marked.new.out.items =
    grind (arith, common_steps) in
    let start-3 : h.marks.start ≡ length old.marks.items = grind (arith, common_steps) in
    let end-3 : h.marks.end ≡ length c.write_marked.new.marks.items =
    grind (arith, common_steps) in
    stores_new old _ h m.side m.doc c.name-name.result.now
    (record {
      name = record { start = start-1; end = end-1 };
      content = record { start = start-2; end = end-2 };
      marks = record { start = start-3; end = end-3 };
    })
    (∥∥₁_map c.requires.nodes (λ shown. c.in_ok-write_marked.ensures.ok m.doc shown))
    (c.in_ok-extend_from_slice.ensures.items
    ∙ ap (λ xs. old.names.items ++ xs) c.as_bytes.ensures.value)
    c.head_of.ensures.side (own_doc m.side c.requires.content.0 m.doc c.requires.content.1)
    c.head_of.ensures.head
