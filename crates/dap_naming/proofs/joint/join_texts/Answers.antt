use Rattle.std.proofs.Common.{◌≡◌, ◌∙◌, ap, map, refl, rules}
use Rattle.std.proofs.lemmas.Slice.Zip.{Zip-more, either_empty_from_Zip}
use Rattle.std.specs.Iterator.Adapters.{zip_first, zip_second}
use Rattle.std.specs.Slice.Iter.{iter_rest}
use Rattle.dap_tokens.specs.Models.{labels_of}
use Rattle.dap_naming.specs.Joint.{table_of, join_all, id_of, text_pairs}
use Rattle.dap_naming.proofs.Joining.{tokens_more, tokens_end, text_tokens}
use Rattle.dap_naming.proofs.JointNaming.{kept_then}
use Rattle.dap_naming.proofs.joint.join_texts.Goals as goal

pub loop-token_a-preserved : goal.loop-token_a-preserved
loop-token_a-preserved c =
    let l = c.loop-token_a in
    let more = Zip-more l.token_a-iterator c.next.new.self c.next.result
    (c.in-Some.token_a, c.in-Some.token_b) c.in-Some.is c.next.ensures.steps in
    record {
      joined = tokens_more (table_of l.names) (table_of c.join_ids.new.names)
          (join_all (table_of c.args.names.now)
          (text_pairs (labels_of c.args.labels_a.now) c.args.a.now (labels_of c.args.labels_b.now)
          c.args.b.now))
          (iter_rest (zip_first l.token_a-iterator)) (iter_rest (zip_second l.token_a-iterator))
          (iter_rest (zip_first c.next.new.self)) (iter_rest (zip_second c.next.new.self))
          c.in-Some.token_a.now c.in-Some.token_b.now l.invariant.joined more.0 more.1
          c.in_ok-join_ids.ensures.joined;
      kept = kept_then c.args.names.now l.names c.join_ids.new.names l.invariant.kept
          c.in_ok-join_ids.ensures.kept;
      limit = c.in_ok-join_ids.ensures.limit ∙ l.invariant.limit;
    }

pub returns-clause-joined : goal.returns-clause-joined
returns-clause-joined c =
    let l = c.loop-token_a in
    tokens_end (table_of l.names)
    (join_all (table_of c.args.names.now)
    (text_pairs (labels_of c.args.labels_a.now) c.args.a.now (labels_of c.args.labels_b.now)
    c.args.b.now)) (iter_rest (zip_first l.token_a-iterator))
    (iter_rest (zip_second l.token_a-iterator)) l.invariant.joined
    (either_empty_from_Zip l.token_a-iterator c.next.new.self c.next.result c.in-None.is
    c.next.ensures.steps)

pub loop-token_a-init : goal.loop-token_a-init
loop-token_a-init c =
    let starts_a : iter_rest (zip_first c.into_iter-token_a-iterator.result)
    ≡ c.in_ok-tokens_a.tokens_a.items = search rules in
    let starts_b : iter_rest (zip_second c.into_iter-token_a-iterator.result)
    ≡ c.in_ok-tokens_b.tokens_b.items = search rules in
    record {
      joined = ap (join_all (table_of c.args.names.now))
          (text_tokens (labels_of c.args.labels_a.now) (labels_of c.args.labels_b.now)
          c.args.a.now c.args.b.now c.as_bytes.result.now c.as_bytes-2.result.now
          (iter_rest (zip_first c.into_iter-token_a-iterator.result))
          (iter_rest (zip_second c.into_iter-token_a-iterator.result))
          c.as_bytes.ensures.value c.as_bytes-2.ensures.value
          (ap (map id_of) starts_a ∙ c.in_ok-tokens_a.ensures)
          (ap (map id_of) starts_b ∙ c.in_ok-tokens_b.ensures));
      kept = record { in_a = λ k n e. e; in_b = λ k n e. e };
      limit = refl;
    }
