use Rattle.std.proofs.Common.{◌≡◌, ◌∙◌, inl, inr, sym, subst, true}
use Rattle.dap_message.specs.Rows.{is_of_kind}
use Rattle.dap_rename.proofs.Stops.{named_event, other_event}
use Rattle.dap_diff.proofs.entries.is_stopped.Goals as goal

pub returns-in-Event : goal.returns-in-Event
returns-in-Event g c =
    c.eq.ensures
    ∙ sym (named_event (g.M.AnyMessage.sent c.args.message.now) c.name.result.now
    (sym c.in-Event.is ∙ c.kind.ensures.same)
    (subst (λ k. is_of_kind k (g.M.AnyMessage.sent c.args.message.now).doc ≡ true) c.in-Event.is
    c.kind.ensures.reported) c.name.ensures)

pub returns-in-Request : goal.returns-in-Request
returns-in-Request g c =
    sym (other_event (g.M.AnyMessage.sent c.args.message.now) c.kind.result c.kind.ensures.reported
    (λ e. elim c.in-Request.is [ inl h ↦ cc (sym h ∙ e) | inr h ↦ cc (sym h ∙ e) ]))
