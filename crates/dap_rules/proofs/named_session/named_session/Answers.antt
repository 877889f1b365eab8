use Rattle.std.proofs.Common.{◌≡◌, ◌∙◌, List, ℕ, sym, subst}
use Rattle.dap_mask.specs.{Declarations.declarations_of}
use Rattle.dap_naming.specs.Sessions.{AreFew, declared_ids, named_sents}
use Rattle.dap_stored.specs.Sessions.{AreAt, messages_of}
use Rattle.dap_stored.proofs.PlacedMessages.{some_messages}
use Rattle.dap_rules.proofs.named_session.named_session.Goals as goal

pub arrange-requires : goal.arrange-requires
arrange-requires c =
    let xs = declarations_of c.declared.result.now in
    let those = named_sents xs (messages_of c.args.session) in (
      those,
      subst (λ (places : List ℕ). AreAt (messages_of c.named_places.new.session) places those)
          (sym c.as_slice.ensures.value) c.in_ok-places.ensures.at,
    )

pub returns-clause-names : goal.returns-clause-names
returns-clause-names c =
    let ms = messages_of c.args.session in
    let all = messages_of c.named_places.new.session in
    let xs = declarations_of c.declared.result.now in
    subst (λ ys. messages_of c.arrange.new.self ≡ named_sents ys ms) c.declared.ensures.same
    (some_messages (messages_of c.arrange.new.self) (named_sents xs ms)
    (sym c.in-Ok.ensures.ok
    ∙ subst (λ (places : List ℕ). AreAt all places (named_sents xs ms))
    (sym c.as_slice.ensures.value) c.in_ok-places.ensures.at))

pub returns-clause-few : goal.returns-clause-few
returns-clause-few c =
    subst (λ ys. AreFew c.args.limits.ids (declared_ids ys (messages_of c.args.session)))
    c.declared.ensures.same c.in_ok-places.ensures.few
