use Rattle.std.proofs.Common.{◌≤◌, ◌+◌, length, get_or, map, take, subst, sym}
use Rattle.std.specs.List.{All}
use Rattle.dap_stored.specs.Heads.{IsStored, message_at}
use Rattle.dap_stored.specs.Sessions.{AreAt, messages_of}
use Rattle.dap_stored.proofs.PlacedHeads.{IsAt, none_past, one_more, one_more_stored}
use Rattle.dap_stored.proofs.PlacedMessages.{is_there}
use Rattle.dap_stored.proofs.session.StoredSession.arrange.Goals as goal

pub unreachable-requires : goal.unreachable-requires
unreachable-requires c =
    let s = c.args.self.now in
    let place = get_or c.args.places.now c.loop-place.place-index 0 in
    let past : length s.heads.items ≤ place =
    subst (λ hs. length hs ≤ place) c.deref.ensures.value c.in_default.ensures.lookup.3 in
    is_there (messages_of s) c.args.places.now c.requires.0 c.loop-place.place-index c.requires.1
    c.loop-place-test.true (none_past s.parts s.heads.items place past)

pub loop-place-preserved : goal.loop-place-preserved
loop-place-preserved c =
    let s = c.args.self.now in
    let heads = s.heads.items in
    let places = c.args.places.now in
    let i = c.loop-place.place-index in
    let place = get_or places i 0 in
    let h = c.in-Some.head.now in
    let so_far = c.loop-place.heads.items in
    let there : IsAt heads place h =
    subst (λ hs. IsAt hs place h) c.deref.ensures.value
    (record { low = c.in-Some.ensures.lookup.3.0; is = c.in-Some.ensures.lookup.1 }) in
    let items = sym c.in_ok-push.ensures.items in
    record {
      at = subst
          (λ hs. AreAt (messages_of s) (take (i + 1) places) (map (message_at s.parts) hs))
          items
          (one_more s.parts heads places so_far i h c.loop-place.invariant.at
          c.loop-place-test.true there);
      stored = subst (λ hs. ∥ All (IsStored s.parts) hs ∥₁) items
          (one_more_stored s.parts heads so_far place h s.stored c.loop-place.invariant.stored
          there);
    }
