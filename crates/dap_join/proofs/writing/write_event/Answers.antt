use Rattle.std.proofs.Common.{◌≡◌, ◌∙◌, Some, None, ap, ap₂, subst, sym}
use Rattle.std.proofs.Common.{arith, of_z, to_z, w64}
use Rattle.std.proofs.lemmas.Int.{to_z-of_z}
use Rattle.std.proofs.lemmas.Result.{on_ok_weaker}
use Rattle.dap_flat.specs.Pieces.{Represents}
use Rattle.dap_join.specs.Joined.{event_of}
use Rattle.dap_join.specs.JoiningSteps.{group_shown}
use Rattle.dap_join.proofs.writing.write_event.Goals as goal

pub returns-in-Some : goal.returns-in-Some
returns-in-Some c =
    let group = group_shown (c.args.category.now, c.args.group.now) in
    let same =
    ap₂ (λ category s. event_of (record {
      number = 0;
      seq = Some c.in-Some.seq;
      category = category;
      text = s;
    })) c.as_str-category.ensures.value c.as_str-text.ensures.value
    ∙ ap (λ seq. event_of (record {
      number = 0;
      seq = seq;
      category = group.category;
      text = group.text;
    })) (sym c.in-Some.is) in
    let n : to_z w64 (of_z w64 c.in-Some.seq) ≡ c.in-Some.seq = grind (arith, to_z-of_z) in
    let shown =
    subst (λ z. Represents c.nodes_with_seq.result (event_of (record {
      number = 0;
      seq = Some z;
      category = c.as_str-category.result.now;
      text = c.as_str-text.result.now;
    }))) n c.nodes_with_seq.ensures in
    on_ok_weaker c.write_flat.result
    (λ told. told (event_of group)
    (subst (Represents c.nodes_with_seq.result) same shown))
    c.write_flat.ensures.text

pub returns-in-None : goal.returns-in-None
returns-in-None c =
    let group = group_shown (c.args.category.now, c.args.group.now) in
    let same =
    ap₂ (λ category s. event_of (record {
      number = 0;
      seq = None;
      category = category;
      text = s;
    })) c.as_str-category.ensures.value c.as_str-text.ensures.value
    ∙ ap (λ seq. event_of (record {
      number = 0;
      seq = seq;
      category = group.category;
      text = group.text;
    })) (sym c.in-None.is) in
    on_ok_weaker c.write_flat-in-None.result
    (λ told. told (event_of group)
    (subst (Represents c.nodes_without_seq.result) same c.nodes_without_seq.ensures))
    c.write_flat-in-None.ensures.text
