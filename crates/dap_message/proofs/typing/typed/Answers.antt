use Rattle.dap_tree.specs.View.{view}
use Rattle.std.proofs.Common.{rules, arith, ◌≡◌, ◌∙◌, Some, ap, refl, sym, subst}
use Rattle.std.proofs.lemmas.Grind.{common_steps}
use Rattle.dap_profile.specs.Profile.{profile}
use Rattle.dap_message.specs.AskedRows.{asked_rows}
use Rattle.dap_message.specs.Capabilities.{filled}
use Rattle.dap_message.specs.Faults.{fault, Fits}
use Rattle.dap_message.specs.Marks.{mark, IsMarked}
use Rattle.dap_message.specs.Message.{message_of}
use Rattle.dap_message.specs.declared.fault.MessageFault.TheVariants.{Memory}
use Rattle.dap_message.proofs.AskedRows.{asked-filled}
use Rattle.dap_message.proofs.KeptByTyping.{sound-message, proper-message}
use Rattle.dap_message.proofs.Envelopes.{enveloped-message}
use Rattle.dap_message.proofs.ListedElements.{shows_all-typed}
use Rattle.dap_message.proofs.ToldKinds.{kind-message}
use Rattle.dap_message.proofs.LeastBroken.{no_memory}
use Rattle.dap_message.proofs.RowMarks.{mark_is_marked}
use Rattle.dap_message.proofs.typing.typed.Goals as goal

pub new-requires-clause-reported : goal.new-requires-clause-reported
new-requires-clause-reported c =
    rw (c.mark.ensures, c.in_ok-fill.ensures.ok)
    (kind-message c.args.side (view c.args.tree) c.in_ok-kind.kind c.in_ok-kind.ensures.kind)

pub new-requires-clause-sound : goal.new-requires-clause-sound
new-requires-clause-sound c =
    rw (c.mark.ensures, c.in_ok-fill.ensures.ok)
    (sound-message profile c.args.side (view c.args.tree) c.requires)

pub new-requires-clause-proper : goal.new-requires-clause-proper
new-requires-clause-proper c =
    rw (c.mark.ensures, c.in_ok-fill.ensures.ok)
    (proper-message c.args.side (view c.args.tree) c.requires)

pub new-requires-clause-enveloped : goal.new-requires-clause-enveloped
new-requires-clause-enveloped c =
    let fits : Fits (view c.args.tree) = search rules in
    rw (c.mark.ensures, c.in_ok-fill.ensures.ok)
    (enveloped-message c.args.side (view c.args.tree) fits)

pub new-requires-clause-shown : goal.new-requires-clause-shown
new-requires-clause-shown c =
    let fits : Fits (view c.args.tree) = search rules in
    rw (c.mark.ensures, c.in_ok-fill.ensures.ok)
    (shows_all-typed c.args.side (view c.args.tree) (message_of c.args.side (view c.args.tree))
    c.requires (fits, refl))

pub returns-clause-ids : goal.returns-clause-ids
returns-clause-ids c =
    let side = c.args.side in
    let d = view c.args.tree in
    subst (IsMarked profile side (filled side d))
    (sym (c.new.ensures.doc ∙ c.mark.ensures ∙ ap (mark side) c.in_ok-fill.ensures.ok))
    (mark_is_marked side (filled side d))

pub mark-requires : goal.mark-requires
mark-requires c =
    let d = view c.args.tree in
    c.asked_rows-rows.ensures ∙ sym (asked-filled c.args.side d)
    ∙ ap asked_rows (sym c.in_ok-fill.ensures.ok)

pub returns-in_err-kind-clause-memory_fits : goal.returns-in_err-kind-clause-memory_fits
returns-in_err-kind-clause-memory_fits c = λ memory.
    let reported : fault (view c.args.tree) ≡ Some Memory = grind (arith, common_steps) in
    absurd (no_memory (view c.args.tree) reported)

pub returns-in-Some-clause-memory_fits : goal.returns-in-Some-clause-memory_fits
returns-in-Some-clause-memory_fits c = λ memory.
    let reported : fault (view c.args.tree) ≡ Some c.in-Some.fault = search rules in
    let is : c.in-Some.fault ≡ Memory = cc in
    absurd (no_memory (view c.args.tree) (reported ∙ ap Some is))

pub returns-in_err-kind-clause-memory_for_capabilities :
    goal.returns-in_err-kind-clause-memory_for_capabilities
returns-in_err-kind-clause-memory_for_capabilities c = λ memory.
    let reported : fault (view c.args.tree) ≡ Some Memory = grind (arith, common_steps) in
    absurd (no_memory (view c.args.tree) reported)

pub returns-in-Some-clause-memory_for_capabilities :
    goal.returns-in-Some-clause-memory_for_capabilities
returns-in-Some-clause-memory_for_capabilities c = λ memory.
    let reported : fault (view c.args.tree) ≡ Some c.in-Some.fault = search rules in
    let is : c.in-Some.fault ≡ Memory = cc in
    absurd (no_memory (view c.args.tree) (reported ∙ ap Some is))
