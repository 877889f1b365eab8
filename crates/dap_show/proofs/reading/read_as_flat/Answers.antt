use Rattle.std.proofs.Common.{◌≡◌, Err, IfErr, IfOk, Ok, Result, subst, sym}
use Rattle.std.proofs.lemmas.Result.{IfOk-weaker}
use Rattle.std.specs.Result.{IsErrAnd}
use Rattle.dap_flat.specs.{Pieces.Represents, Reading.ReadsDocument}
use Rattle.dap_flat_message.specs.FlatMessages.{RefusesContent}
use Rattle.dap_tree.proofs.Outcomes.{read_once}
use Rattle.dap_show.proofs.reading.read_as_flat.Goals as goal

-- A property of the error of `?` holds for the error that the function returns.
passed_on : {T E : Type 0} (r : Result T E) {e : E} (P : E → Type 0) → IsErrAnd r (λ y. y ≡ e)
    → P e → IfErr r P
passed_on (Ok x) P is holds = tt
passed_on (Err y) P is holds = subst P (sym is) holds

always : {T E : Type 0} (r : Result T E) (P : T → Type 0) → ((x : T) → P x) → IfOk r P
always (Ok x) P holds = holds x
always (Err y) P holds = tt

pub returns-in_err-message-in-Lists-clause-err : goal.returns-in_err-message-in-Lists-clause-err
returns-in_err-message-in-Lists-clause-err c =
    let content = c.args.whole.now.content in
    let reads : ReadsDocument content c.in_ok-nodes.nodes.items =
    rw c.as_slice-content.ensures at c.in_ok-nodes.ensures.ok in
    passed_on c.from_residual-in_err-message-in-Lists.result (RefusesContent content)
    c.from_residual-in_err-message-in-Lists.ensures.1
    (c.in_err-message-in-Lists.ensures.err content reads)

pub returns-in_ok-buffers-in-Lists-clause-message :
    goal.returns-in_ok-buffers-in-Lists-clause-message
returns-in_ok-buffers-in-Lists-clause-message c =
    let content = c.args.whole.now.content in
    let reads : ReadsDocument content c.in_ok-nodes.nodes.items =
    rw c.as_slice-content.ensures at c.in_ok-nodes.ensures.ok in
    c.in_ok-message-in-Lists.ensures.ok content reads

pub returns-in-Ok-write_leaves-clause-message : goal.returns-in-Ok-write_leaves-clause-message
returns-in-Ok-write_leaves-clause-message c =
    let content = c.args.whole.now.content in
    let reads : ReadsDocument content c.in_ok-nodes.nodes.items =
    rw c.as_slice-content.ensures at c.in_ok-nodes.ensures.ok in
    IfOk-weaker c.type_nodes-in-Leaves.result _ _ (λ message typed. typed content reads)
    c.type_nodes-in-Leaves.ensures.ok

pub returns-in-Ok-write_leaves-clause-detail : goal.returns-in-Ok-write_leaves-clause-detail
returns-in-Ok-write_leaves-clause-detail c =
    let content = c.args.whole.now.content in
    let ns = c.in_ok-nodes.nodes.items in
    let reads : ReadsDocument content ns =
    rw c.as_slice-content.ensures at c.in_ok-nodes.ensures.ok in
    always c.type_nodes-in-Leaves.result _
    (λ message. rw c.in-Leaves.is
    (λ d is_read. c.in-Ok-write_leaves.ensures d
    (subst (λ nodes. Represents nodes d) (sym c.deref.ensures.value)
    (subst (Represents ns) (read_once content reads.0 d reads.1 is_read) reads.2))))
