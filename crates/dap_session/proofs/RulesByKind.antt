-- The first rule that a message breaks, by its kind.
use Rattle.std.proofs.Common.{◌≡◌, Bool, true, false, cond, not, ◌&&◌, List, [], ◌∷◌, ◌++◌, Option}
use Rattle.std.proofs.Common.{Some, None, sym, ap, ap₂, ◌∙◌, refl, true≢false, ℕ, codes}
use Rattle.std.specs.Str.{bytes_eq}
use Rattle.std.specs.Option.{is_some}
use Rattle.std.proofs.lemmas.Bool.{and_left, and_from, and_parts}
use Rattle.dap_tree.specs.Side.{same_side}
use Rattle.dap_tree.specs.declared.side.Side.{Side}
use Rattle.dap_tree.specs.declared.side.Side.TheVariants.{Client, Adapter}
use Rattle.dap_message.specs.Message.{Sent}
use Rattle.dap_session.specs.declared.phase.Phase.{Phase}
use Rattle.dap_session.specs.declared.phase.Phase.TheVariants.{Waiting, Asked, Answered}
use Rattle.dap_session.specs.declared.rule.Rule.{Rule}
use Rattle.dap_session.specs.declared.rule.Rule.TheVariants.{EventFromClient, NotInitialized}
use Rattle.dap_session.specs.declared.rule.Rule.TheVariants.{StillInitializing, InitializeTwice}
use Rattle.dap_session.specs.declared.rule.Rule.TheVariants.{AfterDisconnect, SeqUsed}
use Rattle.dap_session.specs.declared.rule.Rule.TheVariants.{ConfiguredEarly, ConfiguredTwice}
use Rattle.dap_session.specs.declared.rule.Rule.TheVariants.{NoRequest, AnsweredTwice, OtherCommand}
use Rattle.dap_session.specs.Messages.{side_of, name_of, seq_of, is_request, is_response, is_event}
use Rattle.dap_session.specs.Messages.{is_from, is_named, is_initialize, is_client_initialize}
use Rattle.dap_session.specs.Messages.{is_configuration_done, is_output}
use Rattle.dap_session.specs.Rules.{rules, first_of}
use Rattle.dap_session.specs.SessionState.{SessionState, request_numbered, requests_of}
use Rattle.dap_session.specs.KeptRules.{first_broken_in_state, is_broken_in_state, is_waiting}
use Rattle.dap_session.specs.KeptRules.{is_unanswered, asked_for}
use Rattle.dap_session.specs.KeptRules.{has_answer, has_other_command, start_rules, request_rules}
use Rattle.dap_session.specs.KeptRules.{response_rules, first_of_told}
use Rattle.dap_session.proofs.RuleTests.{request_output, response_output}
use Rattle.dap_session.proofs.Sides.{no_request, no_response, event_alone}

-- ---- the first rule of two lists

abbrev pub or_else : Option Rule → Option Rule → Option Rule
or_else (Some r) o = Some r
or_else None o = o

or_else-cond : (b : Bool) (r : Rule) (o p : Option Rule)
    → cond b (Some r) (or_else o p) ≡ or_else (cond b (Some r) o) p
or_else-cond true r o p = refl
or_else-cond false r o p = refl

or_else-None : (o : Option Rule) → or_else o None ≡ o
or_else-None (Some r) = refl
or_else-None None = refl

first_of_two : (test : Rule → Bool) (xs ys : List Rule)
    → first_of test (xs ++ ys) ≡ or_else (first_of test xs) (first_of test ys)
first_of_two test [] ys = refl
first_of_two test (x ∷ xs) ys =
    ap (λ o. cond (test x) (Some x) o) (first_of_two test xs ys)
    ∙ or_else-cond (test x) x (first_of test xs) (first_of test ys)

-- ---- rules that a message of another kind cannot break

requests_only : (c d u n i f : Bool)
    → cond (c && false && d) (Some AfterDisconnect)
    (cond (false && u) (Some SeqUsed)
    (cond (c && false && n && not i) (Some ConfiguredEarly)
    (cond (c && false && n && f) (Some ConfiguredTwice) None)))
    ≡ None
requests_only true d u n i f = refl
requests_only false d u n i f = refl

no_request_rule : (k : SessionState) (m : Sent) → is_request m ≡ false
    → first_of_told request_rules k m ≡ None
unfolding first_of_told is_broken_in_state
no_request_rule k m h =
    ap (λ r. cond (is_from Client m && r && k.disconnected) (Some AfterDisconnect)
    (cond (r && is_some (request_numbered (seq_of m) (requests_of (side_of m) k))) (Some SeqUsed)
    (cond (is_from Client m && r && is_named (codes "configurationDone") m && not k.initialized)
    (Some ConfiguredEarly)
    (cond (is_from Client m && r && is_named (codes "configurationDone") m && k.configured)
    (Some ConfiguredTwice) None)))) h
    ∙ requests_only (is_from Client m) k.disconnected
    (is_some (request_numbered (seq_of m) (requests_of (side_of m) k)))
    (is_named (codes "configurationDone") m) k.initialized k.configured

no_response_rule : (k : SessionState) (m : Sent) → is_response m ≡ false
    → first_of_told response_rules k m ≡ None
unfolding first_of_told is_broken_in_state
no_response_rule k m h =
    ap (λ r. cond (r && not (is_some (asked_for k m))) (Some NoRequest)
    (cond (r && has_answer (asked_for k m)) (Some AnsweredTwice)
    (cond (r && has_other_command (name_of m) (asked_for k m)) (Some OtherCommand) None))) h

-- ---- the first rule of all

three_lists : (k : SessionState) (m : Sent)
    → first_of_told (start_rules ++ (request_rules ++ response_rules)) k m
    ≡ or_else (first_of_told start_rules k m)
    (or_else (first_of_told request_rules k m) (first_of_told response_rules k m))
unfolding first_of_told
three_lists k m =
    first_of_two (λ r. is_broken_in_state r k m) start_rules (request_rules ++ response_rules)
    ∙ ap (λ o. or_else (first_of (λ r. is_broken_in_state r k m) start_rules) o)
    (first_of_two (λ r. is_broken_in_state r k m) request_rules response_rules)

-- a message that is neither an `output` event nor an event of the client
others : (k : SessionState) (m : Sent) → is_output m ≡ false → is_from Client m && is_event m
    ≡ false
    → first_broken_in_state k m
    ≡ or_else (first_of_told start_rules k m)
    (or_else (first_of_told request_rules k m) (first_of_told response_rules k m))
unfolding first_broken_in_state first_of_told is_broken_in_state
others k m quiet no_event =
    ap (λ b. cond b None (first_of (λ r. is_broken_in_state r k m) rules)) quiet
    ∙ ap (λ b. cond b (Some EventFromClient)
    (first_of (λ r. is_broken_in_state r k m) (start_rules ++ (request_rules ++ response_rules))))
    no_event
    ∙ three_lists k m

pub and_second : (a b : Bool) → b ≡ false → a && b ≡ false
and_second true b h = h
and_second false b h = refl

event_false : (m : Sent) (b : Bool) → is_event m ≡ b → (is_event m ≡ true → b ≡ false) → b ≡ false
event_false m true h f = f h
event_false m false h f = refl

no_event_request : (m : Sent) → is_request m ≡ true → is_from Client m && is_event m ≡ false
no_event_request m h =
    and_second (is_from Client m) (is_event m)
    (event_false m (is_event m) refl (λ e. absurd (true≢false (sym h ∙ (event_alone m e).0))))

no_event_response : (m : Sent) → is_response m ≡ true → is_from Client m && is_event m ≡ false
no_event_response m h =
    and_second (is_from Client m) (is_event m)
    (event_false m (is_event m) refl (λ e. absurd (true≢false (sym h ∙ (event_alone m e).1))))

pub of_request : (k : SessionState) (m : Sent) → is_request m ≡ true
    → first_broken_in_state k m
    ≡ or_else (first_of_told start_rules k m) (first_of_told request_rules k m)
of_request k m h =
    others k m (request_output m h) (no_event_request m h)
    ∙ ap (λ o. or_else (first_of_told start_rules k m)
    (or_else (first_of_told request_rules k m) o)) (no_response_rule k m (no_response m h))
    ∙ ap (λ o. or_else (first_of_told start_rules k m) o)
    (or_else-None (first_of_told request_rules k m))

pub of_response : (k : SessionState) (m : Sent) → is_response m ≡ true
    → first_broken_in_state k m
    ≡ or_else (first_of_told start_rules k m) (first_of_told response_rules k m)
of_response k m h =
    others k m (response_output m h) (no_event_response m h)
    ∙ ap (λ o. or_else (first_of_told start_rules k m)
    (or_else o (first_of_told response_rules k m))) (no_request_rule k m (no_request m h))

client_silent : (b c : Bool) (s : Side) → same_side Client s ≡ true
    → same_side Adapter s && b && c ≡ false
client_silent b c Client h = refl
client_silent b c Adapter h = absurd (cc)

no_output : (m : Sent) → is_from Client m ≡ true → is_output m ≡ false
no_output m h = client_silent (is_event m) (is_named (codes "output") m) (side_of m) h

pub of_client_event : (k : SessionState) (m : Sent) → is_event m ≡ true → is_from Client m ≡ true
    → first_broken_in_state k m ≡ Some EventFromClient
unfolding first_broken_in_state is_broken_in_state
of_client_event k m h client =
    ap (λ b. cond b None (first_of (λ r. is_broken_in_state r k m) rules)) (no_output m client)
    ∙ ap (λ b. cond b (Some EventFromClient)
    (first_of (λ r. is_broken_in_state r k m) (start_rules ++ (request_rules ++ response_rules))))
    (and_from _ _ client h)

pub of_output : (k : SessionState) (m : Sent) → is_output m ≡ true → first_broken_in_state k m
    ≡ None
unfolding first_broken_in_state
of_output k m h = ap (λ b. cond b None (first_of (λ r. is_broken_in_state r k m) rules)) h

pub of_adapter_event : (k : SessionState) (m : Sent) → is_event m ≡ true → is_from Client m ≡ false
    → is_output m ≡ false → first_broken_in_state k m ≡ first_of_told start_rules k m
of_adapter_event k m h adapter quiet =
    others k m quiet (and_left (is_from Client m) (is_event m) adapter)
    ∙ ap₂ (λ o p. or_else (first_of_told start_rules k m) (or_else o p))
    (no_request_rule k m (event_alone m h).0) (no_response_rule k m (event_alone m h).1)
    ∙ or_else-None (first_of_told start_rules k m)

silent_or_not : (k : SessionState) (m : Sent) (b : Bool) → is_output m ≡ b → is_event m ≡ true
    → is_from Client m ≡ false → first_of_told start_rules k m ≡ None → first_broken_in_state k m
    ≡ None
silent_or_not k m true e h adapter none = of_output k m e
silent_or_not k m false e h adapter none = of_adapter_event k m h adapter e ∙ none

pub of_passed_event : (k : SessionState) (m : Sent) → is_event m ≡ true → is_from Client m ≡ false
    → first_of_told start_rules k m ≡ None → first_broken_in_state k m ≡ None
of_passed_event k m h adapter none = silent_or_not k m (is_output m) refl h adapter none

-- ---- the rules on the `initialize` request

not_unanswered : (p : Phase) → is_waiting p ≡ true → is_unanswered p ≡ false
not_unanswered Waiting h = refl
not_unanswered (Asked n) h = absurd (cc)
not_unanswered Answered h = refl

abbrev at_start : Bool → Bool → Bool → Bool → Bool → Option Rule
at_start w u c a i =
    cond (not c && w) (Some NotInitialized)
    (cond (u && not a) (Some StillInitializing) (cond (i && not w) (Some InitializeTwice) None))

while_waiting : (w u c a i : Bool) → w ≡ true → u ≡ false
    → at_start w u c a i ≡ cond c None (Some NotInitialized)
while_waiting true false true a true h g = refl
while_waiting true false true a false h g = refl
while_waiting true false false a i h g = refl
while_waiting true true c a i h g = absurd (true≢false g)
while_waiting false u c a i h g = absurd (true≢false (sym h))

while_asked : (w u c a i : Bool) → w ≡ false → u ≡ true → (a ≡ true → i ≡ false)
    → at_start w u c a i ≡ cond a None (Some StillInitializing)
while_asked false true true true true h g f = absurd (true≢false (f refl))
while_asked false true false true true h g f = absurd (true≢false (f refl))
while_asked false true true true false h g f = refl
while_asked false true false true false h g f = refl
while_asked false true true false i h g f = refl
while_asked false true false false i h g f = refl
while_asked false false c a i h g f = absurd (true≢false (sym g))
while_asked true u c a i h g f = absurd (true≢false h)

once_answered : (w u c a i : Bool) → w ≡ false → u ≡ false
    → at_start w u c a i ≡ cond i (Some InitializeTwice) None
once_answered false false true a true h g = refl
once_answered false false false a true h g = refl
once_answered false false true a false h g = refl
once_answered false false false a false h g = refl
once_answered false true c a i h g = absurd (true≢false g)
once_answered true u c a i h g = absurd (true≢false h)

pub waiting : (k : SessionState) (m : Sent) (b : Bool) → is_waiting k.phase ≡ true
    → is_client_initialize m ≡ b
    → first_of_told start_rules k m ≡ cond b None (Some NotInitialized)
unfolding first_of_told is_broken_in_state
waiting k m b h c =
    while_waiting (is_waiting k.phase) (is_unanswered k.phase) (is_client_initialize m)
    (is_from Adapter m && is_response m) (is_initialize m) h (not_unanswered k.phase h)
    ∙ ap (λ x. cond x None (Some NotInitialized)) c

pub unanswered : (k : SessionState) (m : Sent) (b : Bool) → is_waiting k.phase ≡ false
    → is_unanswered k.phase ≡ true → is_from Adapter m && is_response m ≡ b
    → first_of_told start_rules k m ≡ cond b None (Some StillInitializing)
unfolding first_of_told is_broken_in_state
unanswered k m b h g c =
    while_asked (is_waiting k.phase) (is_unanswered k.phase) (is_client_initialize m)
    (is_from Adapter m && is_response m) (is_initialize m) h g
    (λ e. and_left (is_request m) (is_named (codes "initialize") m)
    (no_request m (and_parts (is_from Adapter m) (is_response m) e).1))
    ∙ ap (λ x. cond x None (Some StillInitializing)) c

pub answered : (k : SessionState) (m : Sent) (b : Bool) → is_waiting k.phase ≡ false
    → is_unanswered k.phase ≡ false → is_initialize m ≡ b
    → first_of_told start_rules k m ≡ cond b (Some InitializeTwice) None
unfolding first_of_told is_broken_in_state
answered k m b h g i =
    once_answered (is_waiting k.phase) (is_unanswered k.phase) (is_client_initialize m)
    (is_from Adapter m && is_response m) (is_initialize m) h g
    ∙ ap (λ x. cond x (Some InitializeTwice) None) i

-- ---- the rules on requests

by_request : (c r d u f i e : Bool) → r ≡ true
    → cond (c && r && d) (Some AfterDisconnect)
    (cond (r && u) (Some SeqUsed)
    (cond (f && not i) (Some ConfiguredEarly) (cond (f && e) (Some ConfiguredTwice) None)))
    ≡ cond (c && d) (Some AfterDisconnect)
    (cond u (Some SeqUsed)
    (cond f (cond i (cond e (Some ConfiguredTwice) None) (Some ConfiguredEarly)) None))
by_request true true d u true true e h = refl
by_request true true d u true false e h = refl
by_request true true d u false i e h = refl
by_request false true d u true true e h = refl
by_request false true d u true false e h = refl
by_request false true d u false i e h = refl
by_request c false d u f i e h = absurd (true≢false (sym h))

abbrev pub for_request : Bool → Bool → Bool → Bool → Bool → Option Rule
for_request l u f i e =
    cond l (Some AfterDisconnect)
    (cond u (Some SeqUsed)
    (cond f (cond i (cond e (Some ConfiguredTwice) None) (Some ConfiguredEarly)) None))

abbrev pub is_late : SessionState → Sent → Bool
is_late k m = is_from Client m && k.disconnected

abbrev pub is_used : SessionState → Sent → Bool
is_used k m = is_some (request_numbered (seq_of m) (requests_of (side_of m) k))

pub requested : (k : SessionState) (m : Sent) (l u f i e : Bool) → is_request m ≡ true
    → is_late k m ≡ l
    → is_used k m ≡ u → is_configuration_done m ≡ f → k.initialized ≡ i → k.configured ≡ e
    → first_of_told request_rules k m ≡ for_request l u f i e
unfolding first_of_told is_broken_in_state
requested k m l u f i e h hl hu hf hi he =
    by_request (is_from Client m) (is_request m) k.disconnected (is_used k m)
    (is_configuration_done m) k.initialized k.configured h
    ∙ ap (λ x. for_request x (is_used k m) (is_configuration_done m) k.initialized k.configured) hl
    ∙ ap (λ x. for_request l x (is_configuration_done m) k.initialized k.configured) hu
    ∙ ap (λ x. for_request l u x k.initialized k.configured) hf
    ∙ ap (λ x. for_request l u f x k.configured) hi
    ∙ ap (λ x. for_request l u f i x) he

-- ---- the rules on responses

pub unasked : (k : SessionState) (m : Sent) → is_response m ≡ true → asked_for k m ≡ None
    → first_of_told response_rules k m ≡ Some NoRequest
unfolding first_of_told is_broken_in_state
unasked k m h e =
    ap₂ (λ r o. cond (r && not (is_some o)) (Some NoRequest)
    (cond (r && has_answer o) (Some AnsweredTwice)
    (cond (r && has_other_command (name_of m) o) (Some OtherCommand) None))) h e

pub asked : (k : SessionState) (m : Sent) (command : List ℕ) (a b e : Bool) → is_response m ≡ true
    → asked_for k m ≡ Some (command, a) → a ≡ b → bytes_eq command (name_of m) ≡ e
    → first_of_told response_rules k m
    ≡ cond b (Some AnsweredTwice) (cond (not e) (Some OtherCommand) None)
unfolding first_of_told is_broken_in_state
asked k m command a b e h is answered same =
    ap₂ (λ r o. cond (r && not (is_some o)) (Some NoRequest)
    (cond (r && has_answer o) (Some AnsweredTwice)
    (cond (r && has_other_command (name_of m) o) (Some OtherCommand) None))) h is
    ∙ ap₂ (λ x y. cond x (Some AnsweredTwice) (cond (not y) (Some OtherCommand) None)) answered same
