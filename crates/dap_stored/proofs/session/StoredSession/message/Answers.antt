use Rattle.std.proofs.Common.{◌≡◌, ◌<◌, Some, length, get_or, option_map, refl, ap, ◌∙◌}
use Rattle.std.proofs.Common.{sym, subst}
use Rattle.std.proofs.lemmas.Option.{slice_get_read, slice_get-map}
use mathlib.Core.Logic.{∥∥₁_map}
use Rattle.dap_stored.specs.Heads.{IsStored, message_at}
use Rattle.dap_stored.proofs.session.StoredSession.message.Goals as goal

pub message-requires : goal.message-requires
message-requires c =
    let s = c.args.self.now in
    let h = c.in_ok-head.field-0.now in
    let within : c.args.place < length s.heads.items =
    subst (λ hs. c.args.place < length hs) c.deref.ensures.value c.in_ok-head.ensures.lookup.3.0 in
    let is : h ≡ get_or s.heads.items c.args.place h =
    subst (λ hs. h ≡ get_or hs c.args.place h) c.deref.ensures.value
    c.in_ok-head.ensures.lookup.1 in
    ∥∥₁_map s.stored (λ all. subst (IsStored s.parts) (sym is) (all c.args.place h within))

pub returns : goal.returns
returns c =
    let s = c.args.self.now in
    let h = c.in_ok-head.field-0.now in
    let within : c.args.place < length s.heads.items =
    subst (λ hs. c.args.place < length hs) c.deref.ensures.value c.in_ok-head.ensures.lookup.3.0 in
    let is : h ≡ get_or s.heads.items c.args.place h =
    subst (λ hs. h ≡ get_or hs c.args.place h) c.deref.ensures.value
    c.in_ok-head.ensures.lookup.1 in
    ap Some c.message.ensures
    ∙ sym (slice_get-map (message_at s.parts) s.heads.items c.args.place
    ∙ ap (option_map (message_at s.parts))
    (slice_get_read s.heads.items (length s.heads.items) c.args.place h refl within is))
