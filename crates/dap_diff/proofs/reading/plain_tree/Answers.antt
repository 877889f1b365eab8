use Rattle.std.proofs.Common.{◌≡◌, sym, subst}
use Rattle.dap_message.specs.Message.{doc_of}
use Rattle.dap_tree.specs.Doc.{Doc}
use Rattle.dap_tree.specs.Ids.{without_ids}
use Rattle.dap_tree.specs.Json.{IsRead, document, no_reading, fraction}
use Rattle.dap_tree.specs.View.{view}
use Rattle.dap_diff.proofs.reading.plain_tree.Goals as goal

pub returns-in-Ok-read_tree_with-clause-plain : goal.returns-in-Ok-read_tree_with-clause-plain
returns-in-Ok-read_tree_with-clause-plain c =
    let d : Doc = without_ids (doc_of c.args.message.now) in
    let reported : document d ≡ document (view c.in-Ok-read_tree_with.tree) =
    c.in-Ok-read_tree_with.ensures.exactly (document d)
    (subst (λ t. IsRead t d) (sym c.as_bytes.ensures.value) c.in-Ok.ensures.reads_back) in cc

pub unreachable-requires : goal.unreachable-requires
unreachable-requires c =
    let d : Doc = without_ids (doc_of c.args.message.now) in
    let reported : document d ≡ no_reading =
    rw c.in-Err-Json.field-0-is at c.in-Err-Json.ensures.exactly (document d)
    (subst (λ t. IsRead t d) (sym c.as_bytes.ensures.value) c.in-Ok.ensures.reads_back) in cc

pub unreachable-requires-in-Err-Fraction : goal.unreachable-requires-in-Err-Fraction
unreachable-requires-in-Err-Fraction c =
    let d : Doc = without_ids (doc_of c.args.message.now) in
    let reported : document d ≡ fraction =
    rw c.in-Err-Fraction.field-0-is at c.in-Err-Fraction.ensures.exactly (document d)
    (subst (λ t. IsRead t d) (sym c.as_bytes.ensures.value) c.in-Ok.ensures.reads_back) in cc
