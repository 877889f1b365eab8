use Rattle.std.proofs.Common.{◌≡◌, ◌∙◌, ap, sym}
use Rattle.std.proofs.Math.Logic.{∥∥₁_elim}
use Rattle.std.proofs.Props.{props}
use Rattle.dap_tree.specs.{View.view}
use Rattle.dap_mask.specs.Declarations.{declarations_of}
use Rattle.dap_stored.specs.{Contents.doc_in, Sessions.stored_sent}
use Rattle.dap_rules.proofs.NamedMessages.{named_next, named_plain, of_content}
use Rattle.dap_rules.proofs.named_session.named_message.Goals as goal

pub typed-requires : goal.typed-requires
typed-requires c =
    let was = c.requires.numbered in
    named_plain was.0 was.2 (declarations_of c.args.declarations.now) c.requires.declared was.1
    c.args.message.now.side c.content.result.now (view c.in-Ok.tree) c.in-Ok.ensures.ok
    c.args.numbers.now c.name_message.new.numbers (view c.name_message.new.tree) was.3
    c.in-Ok-name_message.ensures.names c.in-Ok-name_message.ensures.few

pub returns-in-Ok-typed-clause-content : goal.returns-in-Ok-typed-clause-content
returns-in-Ok-typed-clause-content c =
    let was = c.requires.numbered in
    let is = c.in-Ok-typed.ensures.ok in
    of_content was.0 was.2 (declarations_of c.args.declarations.now) c.requires.declared was.1
    c.side.result c.content.result.now (view c.in-Ok.tree) c.in-Ok.ensures.ok
    c.args.numbers.now c.name_message.new.numbers (view c.name_message.new.tree) was.3
    c.in-Ok-name_message.ensures.names c.in-Ok-name_message.ensures.few is.1 _ is.0 is.2

pub returns-in-Ok-typed-clause-named : goal.returns-in-Ok-typed-clause-named
returns-in-Ok-typed-clause-named c limits before sound was =
    let s = c.args.message.now in
    let is = c.in-Ok-typed.ensures.ok in
    let own : s.content.now ≡ c.content.result.now =
    ∥∥₁_elim s.marked (hlevel props) (λ m. m.text_is) ∙ sym c.content.ensures in
    named_next limits sound (declarations_of c.args.declarations.now) c.requires.declared before
    c.side.result c.content.result.now (view c.in-Ok.tree) c.in-Ok.ensures.ok
    c.args.numbers.now c.name_message.new.numbers (view c.name_message.new.tree) was
    c.in-Ok-name_message.ensures.names c.in-Ok-name_message.ensures.few is.1 (stored_sent s)
    (sym c.side.ensures) (ap (doc_in s.side) own ∙ ap (λ side. doc_in side c.content.result.now)
    (sym c.side.ensures)) c.name_message.ensures.limit _ is.0 is.2
