use Rattle.std.proofs.Common.{◌≡◌, IfOk, string_bytes, subst}
use Rattle.dap_tokens.specs.Models.{labels_of}
use Rattle.dap_tokens.specs.Naming.{named}
use Rattle.dap_naming.specs.Known.{ByTable}
use Rattle.dap_naming.proofs.LimitsInTrees.{few_unlabelled}
use Rattle.dap_naming.proofs.TableNames.{table_unlabelled}
use Rattle.dap_naming.proofs.TreeNames.{string_unlabelled}
use Rattle.dap_naming.proofs.Unlabelled.{equal_none}
use Rattle.dap_naming.proofs.trees.named_text.Goals as goal

pub returns-then-eq-clause-names : goal.returns-then-eq-clause-names
returns-then-eq-clause-names c =
    string_unlabelled c.args.numbers.now (labels_of c.args.labels.now) (string_bytes c.args.text)
    (equal_none _ c.args.labels.now c.none.result c.none.ensures c.eq.result c.if-eq.true
    c.eq.ensures)

pub returns-then-eq-clause-table : goal.returns-then-eq-clause-table
returns-then-eq-clause-table c =
    table_unlabelled c.args.numbers.now (labels_of c.args.labels.now) (string_bytes c.args.text)
    (equal_none _ c.args.labels.now c.none.result c.none.ensures c.eq.result c.if-eq.true
    c.eq.ensures)

pub returns-then-eq-clause-few : goal.returns-then-eq-clause-few
returns-then-eq-clause-few c =
    few_unlabelled c.args.numbers.now (labels_of c.args.labels.now) (string_bytes c.args.text)
    (equal_none _ c.args.labels.now c.none.result c.none.ensures c.eq.result c.if-eq.true
    c.eq.ensures)

pub returns-else-eq-clause-table : goal.returns-else-eq-clause-table
returns-else-eq-clause-table c =
    subst (λ u. IfOk c.name_text.result (λ s. ByTable c.args.numbers.now c.name_text.new.numbers
    (λ n. string_bytes s ≡ named (labels_of c.args.labels.now) n u))) c.deref.ensures
    c.name_text.ensures.table
