-- A session represents one more message.
use Rattle.std.proofs.Common.{◌≡◌, ℕ, ℤ, Bool, true, false, cond, not, ◌&&◌, ◌||◌, List, [], ◌∷◌}
use Rattle.std.proofs.Common.{◌++◌, Option, Some, None, option_map, sym, ap, ◌∙◌, refl, subst}
use Rattle.std.proofs.Common.{arith}
use Rattle.std.specs.Str.{bytes_eq}
use Rattle.std.specs.List.{list_any}
use Rattle.std.specs.Option.{is_some}
use Rattle.std.proofs.lemmas.Bool.{and_from, and_parts}
use Rattle.dap_tree.specs.declared.side.Side.{Side}
use Rattle.dap_tree.specs.declared.side.Side.TheVariants.{Client, Adapter}
use Rattle.dap_message.specs.Message.{Sent}
use Rattle.dap_session.specs.declared.rule.Rule.{Rule}
use Rattle.dap_session.specs.declared.rule.Rule.TheVariants.{EventFromClient, NotInitialized}
use Rattle.dap_session.specs.declared.rule.Rule.TheVariants.{StillInitializing, InitializeTwice}
use Rattle.dap_session.specs.declared.rule.Rule.TheVariants.{AfterDisconnect, SeqUsed}
use Rattle.dap_session.specs.declared.rule.Rule.TheVariants.{ConfiguredEarly, ConfiguredTwice}
use Rattle.dap_session.specs.declared.rule.Rule.TheVariants.{NoRequest, AnsweredTwice, OtherCommand}
use Rattle.dap_session.specs.declared.phase.Phase.TheVariants.{Waiting}
use Rattle.dap_session.specs.Messages.{side_of, name_of, seq_of, request_seq_of, other, is_number}
use Rattle.dap_session.specs.Messages.{is_request, is_response, is_from, is_request_of}
use Rattle.dap_session.specs.Messages.{is_response_to, is_initialize, is_client_initialize}
use Rattle.dap_session.specs.Messages.{is_configuration_done, is_initialized, is_disconnect_success}
use Rattle.dap_session.specs.Messages.{is_output}
use Rattle.dap_session.specs.Rules.{at_number, is_answered, is_broken, rules, first_of}
use Rattle.dap_session.specs.Rules.{first_broken, open_requests}
use Rattle.dap_session.specs.SessionState.{SessionState, Requests, no_requests, RequestEntry}
use Rattle.dap_session.specs.SessionState.{request_numbered}
use Rattle.dap_session.specs.SessionState.{requests_of, phase_after, state_after}
use Rattle.dap_session.specs.KeptRules.{first_broken_in_state, is_broken_in_state}
use Rattle.dap_session.specs.KeptRules.{request_if_numbered, has_answer}
use Rattle.dap_session.specs.KeptRules.{has_other_command}
use Rattle.dap_session.specs.Representation.{Represents, AreRequests, IsPhase, request_at}
use Rattle.dap_session.proofs.KeptAfter.{any_push, request_at-any, none_with, one_with}
use Rattle.dap_session.proofs.RequestLists.{requests_follow, map_none}
use Rattle.dap_session.proofs.Slots.{none_numbered}
use Rattle.dap_session.proofs.RuleTests.{after_and, may_follow, told_none, request_output}
use Rattle.dap_session.proofs.InitializePhase.{started_is, waiting_is, asked_is, phase_asks}
use Rattle.dap_session.proofs.InitializePhase.{phase_goes}
use Rattle.dap_session.proofs.RulesOneByOne.{none_keep, keeps_push}
use Rattle.dap_session.proofs.Sides.{no_response}

-- ---- the tests of the state agree with the tests of the list

requests_stand : (k : SessionState) (ms : List Sent) (side : Side) → Represents k ms
    → AreRequests side (requests_of side k) ms
requests_stand k ms Client s = s.client
requests_stand k ms Adapter s = s.adapter

is_some_map : (side : Side) (ms : List Sent) (n : ℤ) (o : Option Sent)
    → is_some (option_map {U = RequestEntry} (λ q. (name_of q, is_answered side n ms)) o)
    ≡ is_some o
is_some_map side ms n None = refl
is_some_map side ms n (Some q) = refl

some_is : (side : Side) (es : Requests) (ms : List Sent) (n : ℤ) → AreRequests side es ms
    → is_some (request_numbered n es) ≡ list_any (λ q. is_request_of side n q) ms
some_is side es ms n r =
    ap is_some (r.listed n) ∙ is_some_map side ms n (request_at side n ms)
    ∙ request_at-any side n ms

answer_with : (side : Side) (es : Requests) (ms : List Sent) (n : ℤ) (o : Option Sent)
    → request_at side n ms ≡ o → AreRequests side es ms
    → has_answer (option_map (λ q. (name_of q, is_answered side n ms)) o) ≡ is_answered side n ms
answer_with side es ms n None e r = sym (r.asked n e)
answer_with side es ms n (Some q) e r = refl

answer_is : (side : Side) (es : Requests) (ms : List Sent) (n : ℤ) → AreRequests side es ms
    → has_answer (request_numbered n es) ≡ is_answered side n ms
answer_is side es ms n r =
    ap has_answer (r.listed n) ∙ answer_with side es ms n (request_at side n ms) refl r

command_with : (side : Side) (es : Requests) (ms : List Sent) (n : ℤ) (name : List ℕ)
    (o : Option Sent) → request_at side n ms ≡ o → AreRequests side es ms
    → has_other_command name (option_map (λ q. (name_of q, is_answered side n ms)) o)
    ≡ list_any (λ q. is_request_of side n q && not (bytes_eq (name_of q) name)) ms
command_with side es ms n name None e r =
    sym (none_with (λ q. not (bytes_eq (name_of q) name)) side n ms e)
command_with side es ms n name (Some q) e r =
    sym (one_with (λ q. not (bytes_eq (name_of q) name)) side n q ms (r.once n) e)

command_is : (side : Side) (es : Requests) (ms : List Sent) (n : ℤ) (name : List ℕ)
    → AreRequests side es ms
    → has_other_command name (request_numbered n es)
    ≡ list_any (λ q. is_request_of side n q && not (bytes_eq (name_of q) name)) ms
command_is side es ms n name r =
    ap (has_other_command name) (r.listed n)
    ∙ command_with side es ms n name (request_at side n ms) refl r

no_request_is : (side : Side) (es : Requests) (ms : List Sent) (o : Option ℤ)
    → AreRequests side es ms
    → is_some (request_if_numbered o es) ≡ at_number o
    (λ n. list_any (λ q. is_request_of side n q) ms)
no_request_is side es ms None r = refl
no_request_is side es ms (Some n) r = some_is side es ms n r

answered_is : (side : Side) (es : Requests) (ms : List Sent) (o : Option ℤ) → AreRequests side es ms
    → has_answer (request_if_numbered o es) ≡ at_number o (λ n. is_answered side n ms)
answered_is side es ms None r = refl
answered_is side es ms (Some n) r = answer_is side es ms n r

other_is : (side : Side) (es : Requests) (ms : List Sent) (o : Option ℤ) (name : List ℕ)
    → AreRequests side es ms
    → has_other_command name (request_if_numbered o es)
    ≡ at_number o
    (λ n. list_any (λ q. is_request_of side n q && not (bytes_eq (name_of q) name)) ms)
other_is side es ms None name r = refl
other_is side es ms (Some n) name r = command_is side es ms n name r

each_rule : (k : SessionState) (ms : List Sent) (m : Sent) → Represents k ms → (r : Rule)
    → is_broken_in_state r k m ≡ is_broken r ms m
unfolding is_broken_in_state
each_rule k ms m s EventFromClient = refl
each_rule k ms m s NotInitialized =
    ap (λ b. not (is_client_initialize m) && b) (waiting_is k.phase ms s.phase)
each_rule k ms m s StillInitializing =
    ap (λ b. b && not (is_from Adapter m && is_response m)) (asked_is k.phase ms s.phase)
each_rule k ms m s InitializeTwice = ap (λ b. is_initialize m && b) (started_is k.phase ms s.phase)
each_rule k ms m s AfterDisconnect = ap (λ b. is_from Client m && is_request m && b) s.disconnected
each_rule k ms m s SeqUsed =
    ap (λ b. is_request m && b)
    (some_is (side_of m) (requests_of (side_of m) k) ms (seq_of m)
    (requests_stand k ms (side_of m) s))
each_rule k ms m s ConfiguredEarly = ap (λ b. is_configuration_done m && not b) s.initialized
each_rule k ms m s ConfiguredTwice = ap (λ b. is_configuration_done m && b) s.configured
each_rule k ms m s NoRequest =
    ap (λ b. is_response m && not b)
    (no_request_is (other (side_of m)) (requests_of (other (side_of m)) k) ms (request_seq_of m)
    (requests_stand k ms (other (side_of m)) s))
each_rule k ms m s AnsweredTwice =
    ap (λ b. is_response m && b)
    (answered_is (other (side_of m)) (requests_of (other (side_of m)) k) ms (request_seq_of m)
    (requests_stand k ms (other (side_of m)) s))
each_rule k ms m s OtherCommand =
    ap (λ b. is_response m && b)
    (other_is (other (side_of m)) (requests_of (other (side_of m)) k) ms (request_seq_of m)
    (name_of m) (requests_stand k ms (other (side_of m)) s))

pub first_same : (f g : Rule → Bool) → ((r : Rule) → f r ≡ g r) → (rs : List Rule)
    → first_of f rs ≡ first_of g rs
first_same f g same [] = refl
first_same f g same (r ∷ rs) =
    ap (λ b. cond b (Some r) (first_of f rs)) (same r)
    ∙ ap (λ o. cond (g r) (Some r) o) (first_same f g same rs)

pub judged_is : (k : SessionState) (ms : List Sent) (m : Sent) → Represents k ms
    → first_broken_in_state k m ≡ first_broken ms m
unfolding first_broken_in_state first_broken
judged_is k ms m s =
    ap (λ o. cond (is_output m) None o)
    (first_same (λ r. is_broken_in_state r k m) (λ r. is_broken r ms m) (each_rule k ms m s) rules)

-- ---- the empty list

none_asked : (side : Side) → AreRequests side no_requests []
unfolding open_requests
none_asked side = record {
  listed = λ n. none_numbered n;
  count = refl;
  once = λ n. omega arith;
  asked = λ n e. refl;
}

pub new_stands : (k : SessionState) → k.client ≡ no_requests → k.adapter ≡ no_requests → k.phase
    ≡ Waiting
    → k.initialized ≡ false → k.configured ≡ false → k.disconnected ≡ false → Represents k []
new_stands k c a p i f d = record {
  rules = none_keep;
  client = subst (λ es. AreRequests Client es []) (sym c) (none_asked Client);
  adapter = subst (λ es. AreRequests Adapter es []) (sym a) (none_asked Adapter);
  phase = subst (λ x. IsPhase x []) (sym p) refl;
  initialized = i;
  configured = f;
  disconnected = d;
}

-- ---- one more message

flag_push : (p : Sent → Bool) (b : Bool) (ms : List Sent) (m : Sent) → b ≡ list_any p ms
    → (b || p m) ≡ list_any p (ms ++ m ∷ [])
flag_push p b ms m h = ap (λ x. x || p m) h ∙ sym (any_push p ms m)

phase_step : (k : SessionState) (ms : List Sent) (m : Sent) (b : Bool) → is_client_initialize m ≡ b
    → Represents k ms → first_broken_in_state k m ≡ None
    → IsPhase (phase_after k.phase m) (ms ++ m ∷ [])
unfolding is_broken_in_state
phase_step k ms m true h s j =
    let client : is_from Client m ≡ true = (and_parts _ (is_initialize m) h).0 in
    let initialize : is_initialize m ≡ true = (and_parts (is_from Client m) _ h).1 in
    let request : is_request m ≡ true = (and_parts (is_request m) _ initialize).0 in
    let twice : list_any is_client_initialize ms ≡ false =
    sym (started_is k.phase ms s.phase)
    ∙ after_and _ _ initialize (told_none k m j (request_output m request) InitializeTwice) in
    let new = (may_follow k m Client j).asks (and_from _ _ request client) in
    let none : request_at Client (seq_of m) ms ≡ None =
    map_none Client ms (seq_of m) (request_at Client (seq_of m) ms)
    (sym (s.client.listed (seq_of m)) ∙ new) in
    let silent : is_response_to Client (seq_of m) m ≡ false =
    ap (λ x. x && is_from Adapter m && is_number (request_seq_of m) (seq_of m))
    (no_response m request) in
    phase_asks k.phase ms m h twice (s.client.asked (seq_of m) none) silent
phase_step k ms m false h s j = phase_goes k.phase ms m h s.phase

pub stands_push : (k : SessionState) (ms : List Sent) (m : Sent) → Represents k ms
    → first_broken_in_state k m ≡ None
    → Represents (state_after k m) (ms ++ m ∷ [])
stands_push k ms m s j = record {
  rules = keeps_push ms m s.rules (sym (judged_is k ms m s) ∙ j);
  client = requests_follow Client k.client ms m s.client (may_follow k m Client j);
  adapter = requests_follow Adapter k.adapter ms m s.adapter (may_follow k m Adapter j);
  phase = phase_step k ms m (is_client_initialize m) refl s j;
  initialized = flag_push is_initialized k.initialized ms m s.initialized;
  configured = flag_push is_configuration_done k.configured ms m s.configured;
  disconnected = flag_push is_disconnect_success k.disconnected ms m s.disconnected;
}
