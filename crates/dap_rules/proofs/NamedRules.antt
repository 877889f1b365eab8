-- Named messages obey the session rules if and only if the messages do, and have as many ids of the
-- profile.
use Rattle.std.proofs.Common.{◌≡◌, ◌≤◌, ℤ, Bool, cond, not, ◌&&◌, ◌||◌, List, [], ◌∷◌, ◌++◌}
use Rattle.std.proofs.Common.{length, map, Option, Some, None, refl, ap, ap₂, sym, ◌∙◌, subst}
use Rattle.std.proofs.Common.{arith}
use Rattle.std.proofs.lemmas.List.{map-append}
use Rattle.std.specs.List.{list_any, count_by}
use Rattle.std.specs.Str.{bytes_eq}
use Rattle.dap_tree.specs.declared.side.Side.{Side}
use Rattle.dap_tree.specs.declared.side.Side.TheVariants.{Client, Adapter}
use Rattle.dap_message.specs.Message.{Sent}
use Rattle.dap_naming.specs.Numbers.{number}
use Rattle.dap_naming.specs.Sessions.{declared_ids, name_sent}
use Rattle.dap_rename.specs.{Numbering.table}
use Rattle.dap_rename.specs.Messages.{same_class}
use Rattle.dap_rename.proofs.Lists.{same_cons, head_of, tail_of}
use Rattle.dap_session.specs.Messages.{side_of, kind_of, name_of, seq_of, request_seq_of}
use Rattle.dap_session.specs.Messages.{success_of, other, is_request, is_response}
use Rattle.dap_session.specs.Messages.{is_from, is_request_of, is_response_to, is_initialize}
use Rattle.dap_session.specs.Messages.{is_client_initialize, is_configuration_done}
use Rattle.dap_session.specs.Messages.{is_initialized, is_disconnect_success, is_output}
use Rattle.dap_session.specs.Rules.{at_number, is_answered, is_initializing, is_broken, rules}
use Rattle.dap_session.specs.Rules.{first_of, first_broken, KeepsRules, open_requests}
use Rattle.dap_session.specs.declared.rule.Rule.{Rule}
use Rattle.dap_session.specs.declared.rule.Rule.TheVariants.{EventFromClient, NotInitialized}
use Rattle.dap_session.specs.declared.rule.Rule.TheVariants.{StillInitializing, InitializeTwice}
use Rattle.dap_session.specs.declared.rule.Rule.TheVariants.{AfterDisconnect, SeqUsed}
use Rattle.dap_session.specs.declared.rule.Rule.TheVariants.{ConfiguredEarly, ConfiguredTwice}
use Rattle.dap_session.specs.declared.rule.Rule.TheVariants.{NoRequest, AnsweredTwice, OtherCommand}
use Rattle.dap_session.proofs.KeptAfter.{tally, count-cons}
use Rattle.dap_session.proofs.SessionSteps.{first_same}
use Rattle.dap_rules.specs.NamedSessions.{NamesKeepSessionRules, NamesKeepIdCounts, NamesKeepOpen}
use Rattle.dap_rules.proofs.NamedIds.{occurrences-named}
use Rattle.dap_rules.proofs.NamedOrder.{Values, values_of, values-named}

at_same : (o : Option ℤ) (p q : ℤ → Bool) → ((n : ℤ) → p n ≡ q n) → at_number o p ≡ at_number o q
at_same None p q same = refl
at_same (Some n) p q same = same n

-- f changes no value that the rules read
module _ (f : Sent → Sent) (same : (m : Sent) → values_of (f m) ≡ values_of m) where
  side : (m : Sent) → side_of (f m) ≡ side_of m
  side m = ap (λ (v : Values). v.0) (same m)

  kind : (m : Sent) → kind_of (f m) ≡ kind_of m
  kind m = ap (λ (v : Values). v.1) (same m)

  name : (m : Sent) → name_of (f m) ≡ name_of m
  name m = ap (λ (v : Values). v.2) (same m)

  seq : (m : Sent) → seq_of (f m) ≡ seq_of m
  seq m = ap (λ (v : Values). v.3) (same m)

  request_seq : (m : Sent) → request_seq_of (f m) ≡ request_seq_of m
  request_seq m = ap (λ (v : Values). v.4) (same m)

  success : (m : Sent) → success_of (f m) ≡ success_of m
  success m = ap (λ (v : Values). v.5) (same m)

  any_map : (p q : Sent → Bool) → ((m : Sent) → p (f m) ≡ q m) → (ms : List Sent)
      → list_any p (map f ms) ≡ list_any q ms
  any_map p q each [] = refl
  any_map p q each (m ∷ ms) = ap₂ (λ a b. a || b) (each m) (any_map p q each ms)

  -- ---- one message

  client_initialize : (m : Sent) → is_client_initialize (f m) ≡ is_client_initialize m
  client_initialize m = rw (side m, kind m, name m) refl

  initialize : (m : Sent) → is_initialize (f m) ≡ is_initialize m
  initialize m = rw (kind m, name m) refl

  configuration_done : (m : Sent) → is_configuration_done (f m) ≡ is_configuration_done m
  configuration_done m = rw (side m, kind m, name m) refl

  initialized : (m : Sent) → is_initialized (f m) ≡ is_initialized m
  initialized m = rw (kind m, name m) refl

  disconnect_success : (m : Sent) → is_disconnect_success (f m) ≡ is_disconnect_success m
  disconnect_success m = rw (side m, kind m, name m, success m) refl

  output : (m : Sent) → is_output (f m) ≡ is_output m
  output m = rw (side m, kind m, name m) refl

  request : (m : Sent) → is_request (f m) ≡ is_request m
  request m = rw (kind m) refl

  response : (m : Sent) → is_response (f m) ≡ is_response m
  response m = rw (kind m) refl

  from : (s : Side) (m : Sent) → is_from s (f m) ≡ is_from s m
  from s m = rw (side m) refl

  request_of : (s t : Side) (n : ℤ) (m : Sent) → s ≡ t
      → is_request_of s n (f m) ≡ is_request_of t n m
  request_of s t n m e = rw (e, kind m, side m, seq m) refl

  response_to : (s t : Side) (n : ℤ) (m : Sent) → s ≡ t
      → is_response_to s n (f m) ≡ is_response_to t n m
  response_to s t n m e = rw (e, kind m, side m, request_seq m) refl

  -- ---- a list

  answered : (s t : Side) (n : ℤ) (ms : List Sent) → s ≡ t
      → is_answered s n (map f ms) ≡ is_answered t n ms
  answered s t n ms e =
      any_map (λ r. is_response_to s n r) (λ r. is_response_to t n r)
      (λ r. response_to s t n r e) ms

  initializing : (ms : List Sent) → is_initializing (map f ms) ≡ is_initializing ms
  initializing [] = refl
  initializing (m ∷ ms) =
      ap₂ (λ a b. a || b)
      (ap₂ (λ a b. a && not b) (client_initialize m)
      (ap (λ n. is_answered Client n (map f ms)) (seq m)
      ∙ answered Client Client (seq_of m) ms refl))
      (initializing ms)

  used : (m : Sent) (ms : List Sent)
      → list_any (λ q. is_request_of (side_of (f m)) (seq_of (f m)) q) (map f ms)
      ≡ list_any (λ q. is_request_of (side_of m) (seq_of m) q) ms
  used m ms =
      ap (λ n. list_any (λ q. is_request_of (side_of (f m)) n q) (map f ms)) (seq m)
      ∙ any_map (λ q. is_request_of (side_of (f m)) (seq_of m) q)
      (λ q. is_request_of (side_of m) (seq_of m) q)
      (λ q. request_of (side_of (f m)) (side_of m) (seq_of m) q (side m)) ms

  requested : (m : Sent) (ms : List Sent)
      → at_number (request_seq_of (f m))
      (λ n. list_any (λ q. is_request_of (other (side_of (f m))) n q) (map f ms))
      ≡ at_number (request_seq_of m)
      (λ n. list_any (λ q. is_request_of (other (side_of m)) n q) ms)
  requested m ms =
      let here = other (side_of m) in
      let there = other (side_of (f m)) in
      ap (λ o. at_number o (λ n. list_any (λ q. is_request_of there n q) (map f ms)))
      (request_seq m)
      ∙ at_same (request_seq_of m) (λ n. list_any (λ q. is_request_of there n q) (map f ms))
      (λ n. list_any (λ q. is_request_of here n q) ms)
      (λ n. any_map (λ q. is_request_of there n q) (λ q. is_request_of here n q)
      (λ q. request_of there here n q (ap other (side m))) ms)

  answered_before : (m : Sent) (ms : List Sent)
      → at_number (request_seq_of (f m)) (λ n. is_answered (other (side_of (f m))) n (map f ms))
      ≡ at_number (request_seq_of m) (λ n. is_answered (other (side_of m)) n ms)
  answered_before m ms =
      let here = other (side_of m) in
      let there = other (side_of (f m)) in
      ap (λ o. at_number o (λ n. is_answered there n (map f ms))) (request_seq m)
      ∙ at_same (request_seq_of m) (λ n. is_answered there n (map f ms))
      (λ n. is_answered here n ms) (λ n. answered there here n ms (ap other (side m)))

  other_name : (m : Sent) (ms : List Sent)
      → at_number (request_seq_of (f m))
      (λ n. list_any (λ q. is_request_of (other (side_of (f m))) n q
      && not (bytes_eq (name_of q) (name_of (f m)))) (map f ms))
      ≡ at_number (request_seq_of m)
      (λ n. list_any (λ q. is_request_of (other (side_of m)) n q
      && not (bytes_eq (name_of q) (name_of m))) ms)
  other_name m ms =
      let here = other (side_of m) in
      let there = other (side_of (f m)) in
      ap (λ o. at_number o (λ n. list_any (λ q. is_request_of there n q
      && not (bytes_eq (name_of q) (name_of (f m)))) (map f ms))) (request_seq m)
      ∙ at_same (request_seq_of m)
      (λ n. list_any (λ q. is_request_of there n q
      && not (bytes_eq (name_of q) (name_of (f m)))) (map f ms))
      (λ n. list_any (λ q. is_request_of here n q && not (bytes_eq (name_of q) (name_of m))) ms)
      (λ n. any_map
      (λ q. is_request_of there n q && not (bytes_eq (name_of q) (name_of (f m))))
      (λ q. is_request_of here n q && not (bytes_eq (name_of q) (name_of m)))
      (λ q. ap₂ (λ a b. a && not b) (request_of there here n q (ap other (side m)))
      (ap₂ bytes_eq (name q) (name m))) ms)

  broken : (rule : Rule) (ms : List Sent) (m : Sent)
      → is_broken rule (map f ms) (f m) ≡ is_broken rule ms m
  broken EventFromClient ms m = rw (side m, kind m) refl
  broken NotInitialized ms m =
      ap₂ (λ a b. not a && not b) (client_initialize m)
      (any_map is_client_initialize is_client_initialize client_initialize ms)
  broken StillInitializing ms m =
      ap₂ (λ a b. a && not b) (initializing ms)
      (ap₂ (λ a b. a && b) (from Adapter m) (response m))
  broken InitializeTwice ms m =
      ap₂ (λ a b. a && b) (initialize m)
      (any_map is_client_initialize is_client_initialize client_initialize ms)
  broken AfterDisconnect ms m =
      ap₂ (λ a b. a && b) (ap₂ (λ a b. a && b) (from Client m) (request m))
      (any_map is_disconnect_success is_disconnect_success disconnect_success ms)
  broken SeqUsed ms m = ap₂ (λ a b. a && b) (request m) (used m ms)
  broken ConfiguredEarly ms m =
      ap₂ (λ a b. a && not b) (configuration_done m)
      (any_map is_initialized is_initialized initialized ms)
  broken ConfiguredTwice ms m =
      ap₂ (λ a b. a && b) (configuration_done m)
      (any_map is_configuration_done is_configuration_done configuration_done ms)
  broken NoRequest ms m = ap₂ (λ a b. a && not b) (response m) (requested m ms)
  broken AnsweredTwice ms m = ap₂ (λ a b. a && b) (response m) (answered_before m ms)
  broken OtherCommand ms m = ap₂ (λ a b. a && b) (response m) (other_name m ms)

  first_same_broken : (ms : List Sent) (m : Sent)
      → first_broken (map f ms) (f m) ≡ first_broken ms m
  unfolding first_broken
  first_same_broken ms m =
      ap (λ b. cond b None (first_of (λ r. is_broken r (map f ms) (f m)) rules)) (output m)
      ∙ ap (λ o. cond (is_output m) None o)
      (first_same (λ r. is_broken r (map f ms) (f m)) (λ r. is_broken r ms m)
      (λ r. broken r ms m) rules)

  count_map : (p q : Sent → Bool) → ((m : Sent) → p (f m) ≡ q m) → (ms : List Sent)
      → count_by p (map f ms) ≡ count_by q ms
  count_map p q each [] = refl
  count_map p q each (m ∷ ms) =
      omega (
        arith,
        count-cons p (f m) (map f ms),
        count-cons q m ms,
        ap tally (each m),
        count_map p q each ms,
      )

  pub open_kept : (s : Side) (ms : List Sent) → open_requests s (map f ms) ≡ open_requests s ms
  unfolding open_requests
  open_kept s ms =
      count_map (λ q. is_request q && is_from s q && not (is_answered s (seq_of q) (map f ms)))
      (λ q. is_request q && is_from s q && not (is_answered s (seq_of q) ms))
      (λ q. ap₂ (λ a b. a && not b) (ap₂ (λ a b. a && b) (request q) (from s q))
      (ap (λ n. is_answered s n (map f ms)) (seq q) ∙ answered s s (seq_of q) ms refl)) ms

  -- what a part of the changed list comes from
  split_map : (ms before after : List Sent) (n : Sent) → map f ms ≡ before ++ n ∷ after
      → (front : List Sent) × (back : List Sent) × (m : Sent) × (ms ≡ front ++ m ∷ back)
      × (map f front ≡ before) × (f m ≡ n)
  split_map [] [] after n e = absurd cc
  split_map [] (b ∷ before) after n e = absurd cc
  split_map (m ∷ ms) [] after n e = ([], ms, m, refl, refl, head_of e)
  split_map (m ∷ ms) (b ∷ before) after n e =
      let w = split_map ms before after n (tail_of e) in (
        m ∷ w.0,
        w.1,
        w.2,
        ap (λ t. m ∷ t) w.3,
        same_cons _ _ _ _ (head_of e) w.4,
        w.5,
      )

  pub kept : (ms : List Sent) → KeepsRules ms → KeepsRules (map f ms)
  kept ms keeps before after n e =
      let w = split_map ms before after n e in
      ap₂ first_broken (sym w.4) (sym w.5) ∙ (first_same_broken w.0 w.2 ∙ keeps w.0 w.1 w.2 w.3)

  pub kept_back : (ms : List Sent) → KeepsRules (map f ms) → KeepsRules ms
  kept_back ms keeps before after m e =
      sym (first_same_broken before m)
      ∙ keeps (map f before) (map f after) (f m)
      (ap (map f) e ∙ map-append f before (m ∷ after))

pub names_keep_session_rules : NamesKeepSessionRules
names_keep_session_rules xs ms h =
    let f = name_sent xs (number (declared_ids xs ms)) in
    let same : (m : Sent) → values_of (f m) ≡ values_of m =
    λ m. values-named xs (number (declared_ids xs ms)) m h in
    (kept f same ms, kept_back f same ms)

pub names_keep_open : NamesKeepOpen
names_keep_open side xs ms h =
    open_kept (name_sent xs (number (declared_ids xs ms)))
    (λ m. values-named xs (number (declared_ids xs ms)) m h) side ms

pub names_keep_id_counts : NamesKeepIdCounts
names_keep_id_counts mode limit xs ms h =
    let e = occurrences-named mode 0 xs (number (declared_ids xs ms)) ms h in (
      λ few c. subst (λ os. length (table same_class c os) ≤ limit c.0) (sym e) (few c),
      λ few c. subst (λ os. length (table same_class c os) ≤ limit c.0) e (few c),
    )
