use Rattle.std.proofs.Common.{◌≡◌, ◌∙◌, ap, arith, codes, of_z, sym, to_z, w64}
use Rattle.std.proofs.lemmas.Int.{to_z-of_z}
use Rattle.dap_message.specs.Rows.{name_key, type_name}
use Rattle.dap_session.specs.Messages.{kind_of, name_of, seq_of, side_of}
use Rattle.dap_tree.specs.{Doc.{text, whole}, Ids.without_ids}
use Rattle.dap_transcript.specs.Transcript.{members_in}
use Rattle.dap_transcript.proofs.HeadValues.{one_kind, plain_number, value_there}
use Rattle.dap_transcript.proofs.MessageHeads.{found, has_content, has_head}
use Rattle.dap_transcript.proofs.heads.head_of.Goals as goal

pub returns : goal.returns
unfolding side_of
returns c m of side content =
    let known = has_content m of.0 in
    let has = has_head m known.enveloped in
    let ms = members_in m in
    let kind = one_kind c.in_ok-kind.kind (kind_of m)
    (sym c.in_ok-kind.ensures
    ∙ value_there c.args.values.kind c.in_ok-values.field-0 (codes "type") ms
    (text (type_name (kind_of m))) c.in_ok-values.was of.1.type_is has.kind_is) in
    let name = c.in_ok-name.ensures (name_of m)
    (value_there c.name_value.result c.in_ok-name_value.field-0 (name_key c.in_ok-kind.kind) ms
    (text (name_of m)) c.in_ok-name_value.was (c.name_value.ensures ms of.1)
    (ap (λ k. found m (name_key k)) kind ∙ has.name_is)) in
    let v = c.in_ok-seq.seq in
    let n : to_z w64 (of_z w64 v) ≡ v = grind (arith, to_z-of_z) in
    let seq = c.in_ok-seq.ensures (seq_of m)
    (plain_number (seq_of m) (codes "seq") (without_ids m.doc) known.plain has.seq_is)
    (value_there c.args.values.seq c.in_ok-values-2.field-0 (codes "seq") ms (whole (seq_of m))
    c.in_ok-values-2.was of.1.seq_is has.seq_is) in
    let answer = c.in_ok-request.ensures m of kind in
    record {
      numbered = record {
        side = side;
        kind = kind;
        name = name;
        seq = n ∙ seq;
        request = answer.0;
      };
      success_is = answer.1;
      content_is = content;
    }
