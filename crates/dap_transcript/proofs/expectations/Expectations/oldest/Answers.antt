use Rattle.std.proofs.Common.{◌≡◌, true, false, ◌∙◌, ap, sym}
use Rattle.dap_tree.specs.declared.side.Side.TheVariants.{Client, Adapter}
use Rattle.dap_session.specs.Messages.{other}
use Rattle.dap_transcript.specs.Expected.{oldest_open}
use Rattle.dap_transcript.proofs.expectations.Expectations.oldest.Goals as goal

pub returns-then-not-is_response : goal.returns-then-not-is_response
returns-then-not-is_response c ms r =
    let off = sym c.is_response.ensures ∙ c.if-not-is_response.true in
    (r, λ on. absurd (let clash : true ≡ false = sym on ∙ off in cc))

pub returns-in-Client : goal.returns-in-Client
returns-in-Client c ms r =
    let found = c.oldest.ensures Adapter ms r.adapter in (
      record { numbers = r.numbers; client = r.client; adapter = found.0; place = r.place },
      λ on. found.1 ∙ ap (λ s. oldest_open (other s) c.args.title.name.now ms) (sym c.in-Client.is),
    )

pub returns-in-Adapter : goal.returns-in-Adapter
returns-in-Adapter c ms r =
    let found = c.oldest-in-Adapter.ensures Client ms r.client in (
      record { numbers = r.numbers; client = found.0; adapter = r.adapter; place = r.place },
      λ on. found.1
          ∙ ap (λ s. oldest_open (other s) c.args.title.name.now ms) (sym c.in-Adapter.is),
    )
