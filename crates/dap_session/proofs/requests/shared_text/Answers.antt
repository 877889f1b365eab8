use Rattle.std.proofs.Common.{rules, ◌≡◌}
use Rattle.std.proofs.lemmas.Map.Lookups.{exact_bytes}
use Rattle.std.specs.Rc.{rc_str_bytes}
use Rattle.dap_session.proofs.requests.shared_text.Goals as goal

pub returns-in-Some : goal.returns-in-Some
returns-in-Some c =
    let same : c.args.text.now ≡ rc_str_bytes c.in-Some.shared.now =
    exact_bytes c.args.text.now (rc_str_bytes c.in-Some.shared.now) c.in-Some.ensures.same_key in
    search rules
