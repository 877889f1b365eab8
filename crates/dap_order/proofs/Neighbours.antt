-- Two free neighbours that violate no rule violate none in the other order.
use Rattle.std.proofs.Common.{◌≡◌, true, false, not, ◌&&◌, List, [], ◌∷◌, ◌++◌}
use Rattle.std.proofs.Common.{Some, inl, inr, sym, ◌∙◌, refl, subst, codes}
use Rattle.std.specs.Str.{bytes_eq}
use Rattle.std.specs.List.{list_any}
use Rattle.std.specs.Ordering.{int_eq}
use Rattle.std.proofs.lemmas.Bool.{and_from, and_parts, not-true, or_left, or_right}
use Rattle.std.proofs.lemmas.Bool.{not_from_false, both_ways, false_from_ne_true}
use Rattle.std.proofs.lemmas.Bool.{true_from_ne_false}
use Rattle.std.proofs.lemmas.Bool.Decides.{Decides-int_eq}
use Rattle.std.proofs.lemmas.Slice.Eq.{bytes_eq-Decides}
use Rattle.dap_tree.specs.declared.side.Side.{Side}
use Rattle.dap_tree.specs.declared.side.Side.TheVariants.{Client, Adapter}
use Rattle.dap_tree.proofs.Sides.{same_side_decides}
use Rattle.dap_message.specs.Message.{Sent}
use Rattle.dap_session.specs.declared.rule.Rule.{Rule}
use Rattle.dap_session.specs.declared.rule.Rule.TheVariants.{EventFromClient, NotInitialized}
use Rattle.dap_session.specs.declared.rule.Rule.TheVariants.{StillInitializing, InitializeTwice}
use Rattle.dap_session.specs.declared.rule.Rule.TheVariants.{AfterDisconnect, SeqUsed}
use Rattle.dap_session.specs.declared.rule.Rule.TheVariants.{ConfiguredEarly, ConfiguredTwice}
use Rattle.dap_session.specs.declared.rule.Rule.TheVariants.{NoRequest, AnsweredTwice, OtherCommand}
use Rattle.dap_session.specs.Messages.{side_of, name_of, seq_of, request_seq_of, other, is_request}
use Rattle.dap_session.specs.Messages.{is_response, is_from, is_request_of, is_response_to}
use Rattle.dap_session.specs.Messages.{is_initialize, is_client_initialize, is_configuration_done}
use Rattle.dap_session.specs.Messages.{is_initialized, is_disconnect_success, is_output, is_number}
use Rattle.dap_session.specs.Messages.{is_named}
use Rattle.dap_session.specs.Rules.{at_number, is_answered, is_initializing, is_broken}
use Rattle.dap_session.proofs.Sides.{from_side}
use Rattle.dap_session.proofs.RuleTests.{request_output, response_output}
use Rattle.dap_order.specs.Free.{is_initialize_response}
use Rattle.dap_order.proofs.Independence.{Apart, turned, next_to_initialize, clients_alike}
use Rattle.dap_order.proofs.Independence.{number_is}
use Rattle.dap_order.proofs.Independence.{responses_alike, answers_request}
use Rattle.dap_order.proofs.Histories.{Fine, any_before, any_last, any_cases, at_some, at_from}
use Rattle.dap_order.proofs.Histories.{at_more, Ends, initializing_kept, initializing_new}

-- The client's `initialize` request can be swapped only with an `output` event.
next_to_request : (x y : Sent) → Apart x y → is_client_initialize x ≡ true → is_output y ≡ true
next_to_request x y a h =
    next_to_initialize x y a (or_left (is_client_initialize x) (is_initialize_response x) h)

-- A message that ends the initialization and violates no rule is the adapter's response to
-- `initialize`.
ends_it : (front : List Sent) (x : Sent) → Fine front x → Ends front x
    → is_initialize_response x ≡ true
ends_it front x fine e =
    let q = e.asked in
    let a = and_parts (is_response x && is_from Adapter x) (is_number (request_seq_of x) (seq_of q))
    e.outcome in
    let b = and_parts (is_response x) (is_from Adapter x) a.0 in
    let n : request_seq_of x ≡ Some (seq_of q) =
    number_is (request_seq_of x) (seq_of q) a.1 in
    let c = and_parts (is_from Client q) (is_initialize q) e.initialize in
    let d = and_parts (is_request q) (is_named (codes "initialize") q) c.1 in
    let from_other : is_from (other (side_of x)) q ≡ true =
    subst (λ (s : Side). is_from (other s) q ≡ true) (from_side Adapter x b.1) c.0 in
    let own : int_eq (seq_of q) (seq_of q) ≡ true =
    (Decides-int_eq (seq_of q) (seq_of q)).1 refl in
    let answered_by : is_request_of (other (side_of x)) (seq_of q) q ≡ true =
    and_from (is_request q && is_from (other (side_of x)) q) (int_eq (seq_of q) (seq_of q))
    (and_from (is_request q) (is_from (other (side_of x)) q) d.0 from_other) own in
    let one_name : bytes_eq (name_of q) (name_of x) ≡ true =
    true_from_ne_false (bytes_eq (name_of q) (name_of x)) (λ ne.
    both_ways _ (fine (response_output x b.0) OtherCommand)
    (and_from (is_response x) (at_number (request_seq_of x)
    (λ n. list_any (λ q. is_request_of (other (side_of x)) n q
    && not (bytes_eq (name_of q) (name_of x))) front)) b.0
    (at_from (request_seq_of x) (λ n. list_any (λ q. is_request_of (other (side_of x)) n q
    && not (bytes_eq (name_of q) (name_of x))) front) (seq_of q) n
    (e.there (λ z. is_request_of (other (side_of x)) (seq_of q) z
    && not (bytes_eq (name_of z) (name_of x)))
    (and_from (is_request_of (other (side_of x)) (seq_of q) q)
    (not (bytes_eq (name_of q) (name_of x))) answered_by
    (not_from_false (bytes_eq (name_of q) (name_of x)) ne)))))) in
    let names : name_of x ≡ codes "initialize" =
    sym ((bytes_eq-Decides (name_of q) (name_of x)).0 one_name)
    ∙ (bytes_eq-Decides (name_of q) (codes "initialize")).0 d.1 in
    and_from (is_from Adapter x && is_response x) (is_named (codes "initialize") x)
    (and_from (is_from Adapter x) (is_response x) b.1 b.0)
    ((bytes_eq-Decides (name_of x) (codes "initialize")).1 names)

-- ---- the second message without the first

pub without_first : (r : Rule) (front : List Sent) (x y : Sent) → Apart x y → Fine front x
    → is_output y ≡ false → is_broken r (front ++ x ∷ []) y ≡ false → is_broken r front y ≡ false
without_first EventFromClient front x y a fine quiet h = h
without_first NotInitialized front x y a fine quiet h =
    false_from_ne_true _ (λ t.
    let w = and_parts (not (is_client_initialize y)) (not (list_any is_client_initialize front))
    t in
    both_ways _ h
    (and_from (not (is_client_initialize y))
    (not (list_any is_client_initialize (front ++ x ∷ []))) w.0
    (not_from_false _ (false_from_ne_true _ (λ e.
    elim (any_cases is_client_initialize front x e) [
      | inl k ↦ both_ways _ (not-true _ w.1) k
      | inr k ↦ both_ways _ quiet (next_to_request x y a k)
    ])))))
without_first StillInitializing front x y a fine quiet h =
    false_from_ne_true _ (λ t.
    let w = and_parts (is_initializing front) (not (is_from Adapter y && is_response y)) t in
    elim (initializing_kept front x w.0) [
      | inl k ↦ both_ways _ h
          (and_from (is_initializing (front ++ x ∷ []))
          (not (is_from Adapter y && is_response y)) k w.1)
      | inr e ↦ both_ways _ quiet
          (next_to_initialize x y a
          (or_right (is_client_initialize x) (is_initialize_response x)
          (ends_it front x fine e)))
    ])
without_first InitializeTwice front x y a fine quiet h =
    false_from_ne_true _ (λ t.
    let w = and_parts (is_initialize y) (list_any is_client_initialize front) t in
    both_ways _ h
    (and_from (is_initialize y) (list_any is_client_initialize (front ++ x ∷ [])) w.0
    (any_before is_client_initialize front x w.1)))
without_first AfterDisconnect front x y a fine quiet h =
    false_from_ne_true _ (λ t.
    let w = and_parts (is_from Client y && is_request y) (list_any is_disconnect_success front) t in
    both_ways _ h
    (and_from (is_from Client y && is_request y) (list_any is_disconnect_success (front ++ x ∷ []))
    w.0
    (any_before is_disconnect_success front x w.1)))
without_first SeqUsed front x y a fine quiet h =
    false_from_ne_true _ (λ t.
    let w = and_parts (is_request y)
    (list_any (λ q. is_request_of (side_of y) (seq_of y) q) front) t in
    both_ways _ h
    (and_from (is_request y)
    (list_any (λ q. is_request_of (side_of y) (seq_of y) q) (front ++ x ∷ [])) w.0
    (any_before (λ q. is_request_of (side_of y) (seq_of y) q) front x w.1)))
without_first ConfiguredEarly front x y a fine quiet h =
    false_from_ne_true _ (λ t.
    let w = and_parts (is_configuration_done y) (not (list_any is_initialized front)) t in
    both_ways _ h
    (and_from (is_configuration_done y) (not (list_any is_initialized (front ++ x ∷ []))) w.0
    (not_from_false _ (false_from_ne_true _ (λ e.
    elim (any_cases is_initialized front x e) [
      | inl k ↦ both_ways _ (not-true _ w.1) k
      | inr k ↦ both_ways _ a.there.configuration
          (and_from (is_initialized x) (is_configuration_done y) k w.0)
    ])))))
without_first ConfiguredTwice front x y a fine quiet h =
    false_from_ne_true _ (λ t.
    let w = and_parts (is_configuration_done y) (list_any is_configuration_done front) t in
    both_ways _ h
    (and_from (is_configuration_done y) (list_any is_configuration_done (front ++ x ∷ [])) w.0
    (any_before is_configuration_done front x w.1)))
without_first NoRequest front x y a fine quiet h =
    false_from_ne_true _ (λ t.
    let w = and_parts (is_response y)
    (not (at_number (request_seq_of y)
    (λ n. list_any (λ q. is_request_of (other (side_of y)) n q) front))) t in
    both_ways _ h
    (and_from (is_response y)
    (not (at_number (request_seq_of y)
    (λ n. list_any (λ q. is_request_of (other (side_of y)) n q) (front ++ x ∷ [])))) w.0
    (not_from_false _ (false_from_ne_true _ (λ e.
    let k = at_some (request_seq_of y)
    (λ n. list_any (λ q. is_request_of (other (side_of y)) n q) (front ++ x ∷ [])) e in
    elim (any_cases (λ q. is_request_of (other (side_of y)) k.0 q) front x k.2) [
      | inl b ↦ both_ways _ (not-true _ w.1)
          (at_from (request_seq_of y)
          (λ n. list_any (λ q. is_request_of (other (side_of y)) n q) front) k.0 k.1 b)
      | inr b ↦ both_ways _ a.back.outcome (answers_request y x k.0 w.0 k.1 b)
    ])))))
without_first AnsweredTwice front x y a fine quiet h =
    false_from_ne_true _ (λ t.
    let w = and_parts (is_response y)
    (at_number (request_seq_of y) (λ n. is_answered (other (side_of y)) n front)) t in
    both_ways _ h
    (and_from (is_response y)
    (at_number (request_seq_of y) (λ n. is_answered (other (side_of y)) n (front ++ x ∷ [])))
    w.0
    (at_more (request_seq_of y) (λ n. is_answered (other (side_of y)) n front)
    (λ n. is_answered (other (side_of y)) n (front ++ x ∷ []))
    (λ n. any_before (λ r. is_response_to (other (side_of y)) n r) front x) w.1)))
without_first OtherCommand front x y a fine quiet h =
    false_from_ne_true _ (λ t.
    let w = and_parts (is_response y)
    (at_number (request_seq_of y)
    (λ n. list_any (λ q. is_request_of (other (side_of y)) n q
    && not (bytes_eq (name_of q) (name_of y))) front)) t in
    both_ways _ h
    (and_from (is_response y)
    (at_number (request_seq_of y)
    (λ n. list_any (λ q. is_request_of (other (side_of y)) n q
    && not (bytes_eq (name_of q) (name_of y))) (front ++ x ∷ []))) w.0
    (at_more (request_seq_of y)
    (λ n. list_any (λ q. is_request_of (other (side_of y)) n q
    && not (bytes_eq (name_of q) (name_of y))) front)
    (λ n. list_any (λ q. is_request_of (other (side_of y)) n q
    && not (bytes_eq (name_of q) (name_of y))) (front ++ x ∷ []))
    (λ n. any_before (λ q. is_request_of (other (side_of y)) n q
    && not (bytes_eq (name_of q) (name_of y))) front x) w.1)))

-- ---- the first message after the second

pub after_second : (r : Rule) (front : List Sent) (x y : Sent) → Apart x y → Fine front x
    → Fine (front ++ x ∷ []) y → is_output x ≡ false → is_broken r (front ++ y ∷ []) x ≡ false
after_second EventFromClient front x y a fine later quiet = fine quiet EventFromClient
after_second NotInitialized front x y a fine later quiet =
    false_from_ne_true _ (λ t.
    let w = and_parts (not (is_client_initialize x))
    (not (list_any is_client_initialize (front ++ y ∷ []))) t in
    both_ways _ (fine quiet NotInitialized)
    (and_from (not (is_client_initialize x)) (not (list_any is_client_initialize front)) w.0
    (not_from_false _ (false_from_ne_true _ (λ e. both_ways _ (not-true _ w.1)
    (any_before is_client_initialize front y e))))))
after_second StillInitializing front x y a fine later quiet =
    false_from_ne_true _ (λ t.
    let w = and_parts (is_initializing (front ++ y ∷ []))
    (not (is_from Adapter x && is_response x)) t in
    elim (initializing_new front y w.0) [
      | inl k ↦ both_ways _ (fine quiet StillInitializing)
          (and_from (is_initializing front) (not (is_from Adapter x && is_response x)) k w.1)
      | inr k ↦ both_ways _ quiet (next_to_request y x (turned x y a) k)
    ])
after_second InitializeTwice front x y a fine later quiet =
    false_from_ne_true _ (λ t.
    let w = and_parts (is_initialize x) (list_any is_client_initialize (front ++ y ∷ [])) t in
    elim (any_cases is_client_initialize front y w.1) [
      | inl k ↦ both_ways _ (fine quiet InitializeTwice)
          (and_from (is_initialize x) (list_any is_client_initialize front) w.0 k)
      | inr k ↦ both_ways _ quiet (next_to_request y x (turned x y a) k)
    ])
after_second AfterDisconnect front x y a fine later quiet =
    false_from_ne_true _ (λ t.
    let w = and_parts (is_from Client x && is_request x)
    (list_any is_disconnect_success (front ++ y ∷ [])) t in
    elim (any_cases is_disconnect_success front y w.1) [
      | inl k ↦ both_ways _ (fine quiet AfterDisconnect)
          (and_from (is_from Client x && is_request x) (list_any is_disconnect_success front) w.0 k)
      | inr k ↦ both_ways _ a.back.farewell
          (and_from (is_disconnect_success y) (is_from Client x && is_request x) k w.0)
    ])
after_second SeqUsed front x y a fine later quiet =
    false_from_ne_true _ (λ t.
    let w = and_parts (is_request x)
    (list_any (λ q. is_request_of (side_of x) (seq_of x) q) (front ++ y ∷ [])) t in
    elim (any_cases (λ q. is_request_of (side_of x) (seq_of x) q) front y w.1) [
      | inl k ↦ both_ways _ (fine quiet SeqUsed)
          (and_from (is_request x)
          (list_any (λ q. is_request_of (side_of x) (seq_of x) q) front) w.0 k)
      | inr k ↦ (
          let b = and_parts (is_request y && is_from (side_of x) y)
          (int_eq (seq_of x) (seq_of y)) k in
          let c = and_parts (is_request y) (is_from (side_of x) y) b.0 in
          let from_one : is_from (side_of y) x ≡ true =
          (same_side_decides (side_of y) (side_of x)).1 (sym (from_side (side_of x) y c.1)) in
          let one_number : int_eq (seq_of y) (seq_of x) ≡ true =
          (Decides-int_eq (seq_of y) (seq_of x)).1
          (sym ((Decides-int_eq (seq_of x) (seq_of y)).0 b.1)) in
          both_ways _ (later (request_output y c.0) SeqUsed)
          (and_from (is_request y)
          (list_any (λ q. is_request_of (side_of y) (seq_of y) q) (front ++ x ∷ [])) c.0
          (any_last (λ q. is_request_of (side_of y) (seq_of y) q) front x
          (and_from (is_request x && is_from (side_of y) x) (int_eq (seq_of y) (seq_of x))
          (and_from (is_request x) (is_from (side_of y) x) w.0 from_one) one_number)))
          )
    ])
after_second ConfiguredEarly front x y a fine later quiet =
    false_from_ne_true _ (λ t.
    let w = and_parts (is_configuration_done x)
    (not (list_any is_initialized (front ++ y ∷ []))) t in
    both_ways _ (fine quiet ConfiguredEarly)
    (and_from (is_configuration_done x) (not (list_any is_initialized front)) w.0
    (not_from_false _ (false_from_ne_true _ (λ e. both_ways _ (not-true _ w.1)
    (any_before is_initialized front y e))))))
after_second ConfiguredTwice front x y a fine later quiet =
    false_from_ne_true _ (λ t.
    let w = and_parts (is_configuration_done x)
    (list_any is_configuration_done (front ++ y ∷ [])) t in
    elim (any_cases is_configuration_done front y w.1) [
      | inl k ↦ both_ways _ (fine quiet ConfiguredTwice)
          (and_from (is_configuration_done x) (list_any is_configuration_done front) w.0 k)
      | inr k ↦ both_ways _ a.there.alike
          (clients_alike x y (from_client x w.0) (from_client y k))
    ])
  where
    from_client : (m : Sent) → is_configuration_done m ≡ true → is_from Client m ≡ true
    from_client m h =
        (and_parts (is_from Client m) (is_request m)
        (and_parts (is_from Client m && is_request m) (is_named (codes "configurationDone") m)
        h).0).0
after_second NoRequest front x y a fine later quiet =
    false_from_ne_true _ (λ t.
    let w = and_parts (is_response x)
    (not (at_number (request_seq_of x)
    (λ n. list_any (λ q. is_request_of (other (side_of x)) n q) (front ++ y ∷ [])))) t in
    both_ways _ (fine quiet NoRequest)
    (and_from (is_response x)
    (not (at_number (request_seq_of x)
    (λ n. list_any (λ q. is_request_of (other (side_of x)) n q) front))) w.0
    (not_from_false _ (false_from_ne_true _ (λ e. both_ways _ (not-true _ w.1)
    (at_more (request_seq_of x)
    (λ n. list_any (λ q. is_request_of (other (side_of x)) n q) front)
    (λ n. list_any (λ q. is_request_of (other (side_of x)) n q) (front ++ y ∷ []))
    (λ n. any_before (λ q. is_request_of (other (side_of x)) n q) front y) e))))))
after_second AnsweredTwice front x y a fine later quiet =
    false_from_ne_true _ (λ t.
    let w = and_parts (is_response x)
    (at_number (request_seq_of x)
    (λ n. is_answered (other (side_of x)) n (front ++ y ∷ []))) t in
    let k = at_some (request_seq_of x)
    (λ n. is_answered (other (side_of x)) n (front ++ y ∷ [])) w.1 in
    elim (any_cases (λ r. is_response_to (other (side_of x)) k.0 r) front y k.2) [
      | inl b ↦ both_ways _ (fine quiet AnsweredTwice)
          (and_from (is_response x)
          (at_number (request_seq_of x) (λ n. is_answered (other (side_of x)) n front)) w.0
          (at_from (request_seq_of x) (λ n. is_answered (other (side_of x)) n front) k.0 k.1
          b))
      | inr b ↦ both_ways _ a.there.alike (responses_alike x y k.0 w.0 k.1 b)
    ])
after_second OtherCommand front x y a fine later quiet =
    false_from_ne_true _ (λ t.
    let w = and_parts (is_response x)
    (at_number (request_seq_of x)
    (λ n. list_any (λ q. is_request_of (other (side_of x)) n q
    && not (bytes_eq (name_of q) (name_of x))) (front ++ y ∷ []))) t in
    let k = at_some (request_seq_of x)
    (λ n. list_any (λ q. is_request_of (other (side_of x)) n q
    && not (bytes_eq (name_of q) (name_of x))) (front ++ y ∷ [])) w.1 in
    elim (any_cases (λ q. is_request_of (other (side_of x)) k.0 q
    && not (bytes_eq (name_of q) (name_of x))) front y k.2) [
      | inl b ↦ both_ways _ (fine quiet OtherCommand)
          (and_from (is_response x)
          (at_number (request_seq_of x)
          (λ n. list_any (λ q. is_request_of (other (side_of x)) n q
          && not (bytes_eq (name_of q) (name_of x))) front)) w.0
          (at_from (request_seq_of x)
          (λ n. list_any (λ q. is_request_of (other (side_of x)) n q
          && not (bytes_eq (name_of q) (name_of x))) front) k.0 k.1 b))
      | inr b ↦ both_ways _ a.there.outcome
          (answers_request x y k.0 w.0 k.1
          (and_parts (is_request_of (other (side_of x)) k.0 y)
          (not (bytes_eq (name_of y) (name_of x))) b).0)
    ])
