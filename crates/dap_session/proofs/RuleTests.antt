-- The possible effects of a message that breaks no rule.
use Rattle.std.proofs.Common.{◌≡◌, ℕ, ℤ, Bool, true, false, cond, not}
use Rattle.std.proofs.Common.{◌&&◌, List, [], ◌∷◌, Option, Some, None, ap, sym, ◌∙◌, subst, refl}
use Rattle.std.specs.Str.{bytes_eq}
use Rattle.std.specs.Option.{is_some}
use Rattle.std.proofs.lemmas.Bool.{and_parts, not-false}
use Rattle.std.proofs.lemmas.Slice.Eq.{bytes_eq-Decides}
use Rattle.dap_tree.specs.Side.{same_side}
use Rattle.dap_tree.specs.declared.side.Side.{Side}
use Rattle.dap_tree.specs.declared.side.Side.TheVariants.{Client, Adapter}
use Rattle.dap_message.specs.Message.{Sent}
use Rattle.dap_session.specs.declared.rule.Rule.{Rule}
use Rattle.dap_session.specs.declared.rule.Rule.TheVariants.{EventFromClient, NotInitialized}
use Rattle.dap_session.specs.declared.rule.Rule.TheVariants.{StillInitializing, InitializeTwice}
use Rattle.dap_session.specs.declared.rule.Rule.TheVariants.{AfterDisconnect, SeqUsed}
use Rattle.dap_session.specs.declared.rule.Rule.TheVariants.{ConfiguredEarly, ConfiguredTwice}
use Rattle.dap_session.specs.declared.rule.Rule.TheVariants.{NoRequest, AnsweredTwice, OtherCommand}
use Rattle.dap_session.specs.Messages.{side_of, name_of, seq_of, other, is_request}
use Rattle.dap_session.specs.Messages.{is_response, is_event, is_from, is_output}
use Rattle.dap_session.specs.Rules.{first_of, rules}
use Rattle.dap_session.specs.SessionState.{SessionState, RequestEntry, request_numbered}
use Rattle.dap_session.specs.SessionState.{requests_of}
use Rattle.dap_session.specs.KeptRules.{first_broken_in_state, is_broken_in_state, asked_for}
use Rattle.dap_session.specs.KeptRules.{request_if_numbered}
use Rattle.dap_session.specs.KeptRules.{has_answer, has_other_command}
use Rattle.dap_session.specs.RequestSteps.{FitsRequests}
use Rattle.dap_session.proofs.Sides.{event_alone, from_side}

pub none_step : (test : Rule → Bool) (r : Rule) (rs : List Rule) (b : Bool)
    → cond b (Some r) (first_of test rs) ≡ None → (b ≡ false) × (first_of test rs ≡ None)
none_step test r rs true h = absurd (cc)
none_step test r rs false h = (refl, h)

pub none_each : (test : Rule → Bool) → first_of test rules ≡ None → (r : Rule) → test r ≡ false
none_each test h =
    let a = none_step test EventFromClient (NotInitialized ∷ StillInitializing ∷ InitializeTwice
    ∷ AfterDisconnect ∷ SeqUsed ∷ ConfiguredEarly ∷ ConfiguredTwice ∷ NoRequest ∷ AnsweredTwice
    ∷ OtherCommand ∷ []) (test EventFromClient) h in
    let b = none_step test NotInitialized (StillInitializing ∷ InitializeTwice ∷ AfterDisconnect
    ∷ SeqUsed ∷ ConfiguredEarly ∷ ConfiguredTwice ∷ NoRequest ∷ AnsweredTwice ∷ OtherCommand
    ∷ []) (test NotInitialized) a.1 in
    let c = none_step test StillInitializing (InitializeTwice ∷ AfterDisconnect ∷ SeqUsed
    ∷ ConfiguredEarly ∷ ConfiguredTwice ∷ NoRequest ∷ AnsweredTwice ∷ OtherCommand ∷ [])
    (test StillInitializing) b.1 in
    let d = none_step test InitializeTwice (AfterDisconnect ∷ SeqUsed ∷ ConfiguredEarly
    ∷ ConfiguredTwice ∷ NoRequest ∷ AnsweredTwice ∷ OtherCommand ∷ []) (test InitializeTwice)
    c.1 in
    let e = none_step test AfterDisconnect (SeqUsed ∷ ConfiguredEarly ∷ ConfiguredTwice ∷ NoRequest
    ∷ AnsweredTwice ∷ OtherCommand ∷ []) (test AfterDisconnect) d.1 in
    let f = none_step test SeqUsed (ConfiguredEarly ∷ ConfiguredTwice ∷ NoRequest ∷ AnsweredTwice
    ∷ OtherCommand ∷ []) (test SeqUsed) e.1 in
    let g = none_step test ConfiguredEarly (ConfiguredTwice ∷ NoRequest ∷ AnsweredTwice
    ∷ OtherCommand ∷ []) (test ConfiguredEarly) f.1 in
    let i = none_step test ConfiguredTwice (NoRequest ∷ AnsweredTwice ∷ OtherCommand ∷ [])
    (test ConfiguredTwice) g.1 in
    let j = none_step test NoRequest (AnsweredTwice ∷ OtherCommand ∷ []) (test NoRequest) i.1 in
    let k = none_step test AnsweredTwice (OtherCommand ∷ []) (test AnsweredTwice) j.1 in
    let l = none_step test OtherCommand [] (test OtherCommand) k.1 in
    λ r. elim r as (λ x. test x
    ≡ false) [
      | EventFromClient ↦ a.0
      | NotInitialized ↦ b.0
      | StillInitializing ↦ c.0
      | InitializeTwice ↦ d.0
      | AfterDisconnect ↦ e.0
      | SeqUsed ↦ f.0
      | ConfiguredEarly ↦ g.0
      | ConfiguredTwice ↦ i.0
      | NoRequest ↦ j.0
      | AnsweredTwice ↦ k.0
      | OtherCommand ↦ l.0
    ]

-- each rule passes, if the message is not an `output` event
pub told_none : (k : SessionState) (m : Sent) → first_broken_in_state k m ≡ None → is_output m
    ≡ false → (r : Rule)
    → is_broken_in_state r k m ≡ false
unfolding first_broken_in_state
told_none k m h g =
    none_each (λ r. is_broken_in_state r k m)
    (subst (λ b. cond b None (first_of (λ r. is_broken_in_state r k m) rules) ≡ None) g h)

output_event : (a b c : Bool) → a && b && c ≡ true → b ≡ true
output_event true true c h = refl
output_event true false c h = absurd (cc)
output_event false b c h = absurd (cc)

output_case : (m : Sent) (b : Bool) → is_output m ≡ b → (is_event m ≡ true → ⊥) → b ≡ false
output_case m true h g = absurd (g (output_event (is_from Adapter m) (is_event m) _ h))
output_case m false h g = refl

-- a request or a response is not an `output` event
pub request_output : (m : Sent) → is_request m ≡ true → is_output m ≡ false
request_output m h =
    output_case m (is_output m) refl (λ (e : is_event m ≡ true). let k : is_request m
    ≡ false = (event_alone m e).0 in cc)

pub response_output : (m : Sent) → is_response m ≡ true → is_output m ≡ false
response_output m h =
    output_case m (is_output m) refl (λ (e : is_event m ≡ true). let k : is_response m
    ≡ false = (event_alone m e).1 in cc)

pub after_and : (a b : Bool) → a ≡ true → a && b ≡ false → b ≡ false
after_and true b h g = g
after_and false b h g = absurd (cc)

none_found : (o : Option RequestEntry) → is_some o ≡ false → o ≡ None
none_found None h = refl
none_found (Some a) h = absurd (cc)

pub asks_new : (k : SessionState) (m : Sent) → first_broken_in_state k m ≡ None → is_request m
    ≡ true
    → request_numbered (seq_of m) (requests_of (side_of m) k) ≡ None
unfolding is_broken_in_state
asks_new k m h g = none_found _ (after_and _ _ g (told_none k m h (request_output m g) SeqUsed))

answer_found : (name : List ℕ) (o : Option RequestEntry) → not (is_some o) ≡ false → has_answer o
    ≡ false
    → has_other_command name o ≡ false → o ≡ Some (name, false)
answer_found name None h g f = absurd (cc)
answer_found name (Some a) h g f =
    let same : a.0 ≡ name = (bytes_eq-Decides a.0 name).0 (not-false (bytes_eq a.0 name) f) in
    ap (λ (x : List ℕ). Some (x, a.1)) same ∙ ap (λ (y : Bool). Some (name, y)) g

pub answers_asked_for : (k : SessionState) (m : Sent) → first_broken_in_state k m ≡ None
    → is_response m ≡ true
    → asked_for k m ≡ Some (name_of m, false)
unfolding is_broken_in_state
answers_asked_for k m h g =
    let each = told_none k m h (response_output m g) in
    answer_found (name_of m) (asked_for k m) (after_and _ _ g (each NoRequest))
    (after_and _ _ g (each AnsweredTwice)) (after_and _ _ g (each OtherCommand))

other_of : (s r : Side) → same_side (other s) r ≡ true → other r ≡ s
other_of Client Client h = absurd (cc)
other_of Client Adapter h = refl
other_of Adapter Client h = refl
other_of Adapter Adapter h = absurd (cc)

pub may_follow : (k : SessionState) (m : Sent) (side : Side) → first_broken_in_state k m ≡ None
    → FitsRequests side (requests_of side k) m
may_follow k m side h = record {
  asks = λ g. subst (λ (s : Side). request_numbered (seq_of m) (requests_of s k)
      ≡ None) (sym (from_side side m (and_parts (is_request m) _ g).1))
      (asks_new k m h (and_parts (is_request m) _ g).0);
  answers = λ n g e.
      let from : other (side_of m) ≡ side =
      other_of side (side_of m) (and_parts (is_response m) _ g).1 in
      let got = answers_asked_for k m h (and_parts (is_response m) _ g).0 in
      ap (λ (s : Side). request_numbered n (requests_of s k)) (sym from)
      ∙ ap (λ (o : Option ℤ). request_if_numbered o (requests_of (other (side_of m)) k)) (sym e)
      ∙ got;
}
