use Rattle.std.proofs.Common.{◌≡◌, ℕ, List, Some, None, ap, ◌∙◌, w64}
use Rattle.std.proofs.lemmas.Int.{to_z-of_z}
use Rattle.dap_session.specs.SessionState.{request_numbered}
use Rattle.dap_session.specs.Stored.{noted_of, stored}
use Rattle.dap_session.proofs.requests.Requests.find.Goals as goal

pub returns-in-Some : goal.returns-in-Some
returns-in-Some c =
    let found : Some (noted_of c.in-Some.request.now)
    ≡ request_numbered c.args.number (stored c.self.inside.store) =
    rw (to_z-of_z w64 c.args.number c.ranges.number) at c.in-Some.ensures in
    ap (λ (t : List ℕ). Some (t, c.in-Some.request.now.answered)) c.as_str.ensures.value ∙ found
    ∙ ap (request_numbered c.args.number) c.self.view_is

pub returns-in-None : goal.returns-in-None
returns-in-None c =
    let found : None ≡ request_numbered c.args.number (stored c.self.inside.store) =
    rw (to_z-of_z w64 c.args.number c.ranges.number) at c.in-None.ensures in
    found ∙ ap (request_numbered c.args.number) c.self.view_is
