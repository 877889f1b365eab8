use Rattle.std.proofs.Common.{take, take_all, arith}
use Rattle.dap_mask.specs.Declarations.{declarations_of}
use Rattle.dap_stored.specs.Sessions.{messages_of}
use Rattle.dap_rules.proofs.NamedPlaces.{all_named, message_at, named_on, next_there, none_named}
use Rattle.dap_rules.proofs.named_session.named_places.Goals as goal

pub loop-place-init : goal.loop-place-init
loop-place-init c =
    none_named c.args.limits (declarations_of c.args.declarations.now)
    (messages_of c.args.session.now) c.new-numbers.result c.in-Ok.places.items
    c.in-Ok.ensures.items c.new-numbers.ensures.empty c.new-numbers.ensures.limit

pub named_place-requires-clause-numbered : goal.named_place-requires-clause-numbered
named_place-requires-clause-numbered c = (
  c.args.limits,
  take c.loop-place.place (messages_of c.args.session.now),
  c.requires.sound,
  c.loop-place.invariant.numbered,
)

pub loop-place-preserved : goal.loop-place-preserved
loop-place-preserved c =
    let xs = declarations_of c.args.declarations.now in
    let all = messages_of c.args.session.now in
    let place = c.loop-place.place in
    let session = messages_of c.loop-place.session in
    let was = c.loop-place.invariant in
    let next = message_at all place (omega (arith, c.loop-place-test.true, c.len-count.ensures)) in
    named_on c.args.limits xs all place session c.loop-place.places.items c.loop-place.numbers was
    next (messages_of c.named_place.new.session) c.in_ok-named.named c.push.new.self.items
    c.named_place.new.numbers
    (c.in_ok-named.ensures c.args.limits (take place all) next.message c.requires.sound
    was.numbered
    (next_there c.args.limits xs all place session c.loop-place.places.items c.loop-place.numbers
    was next))
    c.in-Ok-push.ensures.items

pub returns : goal.returns
returns c =
    let all = messages_of c.args.session.now in
    all_named c.args.limits (declarations_of c.args.declarations.now) all c.loop-place.place
    (messages_of c.loop-place.session) c.loop-place.places.items c.loop-place.numbers
    c.loop-place.invariant
    (take_all c.loop-place.place all
    (omega (arith, c.loop-place-test.false, c.len-count.ensures)))
