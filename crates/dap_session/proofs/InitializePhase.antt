-- The phase of the `initialize` request.
use Rattle.std.proofs.Common.{◌≡◌, ℤ, Bool, true, false, cond, not, ◌&&◌, ◌||◌, List, [], ◌∷◌, ◌++◌}
use Rattle.std.proofs.Common.{sym, ap, ◌∙◌, refl, subst}
use Rattle.std.specs.List.{list_any}
use Rattle.std.proofs.lemmas.Bool.{both_ways, or_from, or_left, or_parts, or_right}
use Rattle.dap_tree.specs.declared.side.Side.TheVariants.{Client}
use Rattle.dap_message.specs.Message.{Sent}
use Rattle.dap_session.specs.declared.phase.Phase.{Phase}
use Rattle.dap_session.specs.declared.phase.Phase.TheVariants.{Waiting, Asked, Answered}
use Rattle.dap_session.specs.Messages.{seq_of, is_response_to, is_client_initialize}
use Rattle.dap_session.specs.Rules.{is_answered, is_initializing}
use Rattle.dap_session.specs.SessionState.{phase_after, answers_asked}
use Rattle.dap_session.specs.KeptRules.{is_waiting, is_unanswered}
use Rattle.dap_session.specs.Representation.{IsPhase, HaveNumber}
use Rattle.dap_session.proofs.KeptAfter.{any_push}

none_initializing : (ms : List Sent) → list_any is_client_initialize ms ≡ false
    → is_initializing ms ≡ false
none_initializing [] h = refl
none_initializing (x ∷ ms) h =
    or_from _ _
    (ap (λ b. b && not (is_answered Client (seq_of x) ms))
    (or_parts (is_client_initialize x) _ h).0)
    (none_initializing ms (or_parts (is_client_initialize x) _ h).1)

open_step : (c : Bool) (n : ℤ) (x : Sent) (ms : List Sent)
    → (c || list_any is_client_initialize ms) ≡ true → (c ≡ true → seq_of x ≡ n)
    → is_answered Client n ms ≡ false
    → (list_any is_client_initialize ms ≡ true → is_initializing ms ≡ true)
    → ((c && not (is_answered Client (seq_of x) ms)) || is_initializing ms) ≡ true
open_step true n x ms h e g ih =
    or_left _ _ (ap (λ k. not (is_answered Client k ms)) (e refl) ∙ ap not g)
open_step false n x ms h e g ih = ih h

some_initializing : (n : ℤ) (ms : List Sent) → list_any is_client_initialize ms ≡ true
    → HaveNumber n ms → is_answered Client n ms ≡ false → is_initializing ms ≡ true
some_initializing n [] h e g = absurd (cc)
some_initializing n (x ∷ ms) h e g =
    let rest : is_answered Client n ms ≡ false = (or_parts (is_response_to Client n x) _ g).1 in
    open_step (is_client_initialize x) n x ms h e.0 rest (λ a. some_initializing n ms a e.1 rest)

not_not : (b : Bool) → b ≡ not (not b)
not_not true = refl
not_not false = refl

pub waiting_is : (p : Phase) (ms : List Sent) → IsPhase p ms
    → is_waiting p ≡ not (list_any is_client_initialize ms)
waiting_is Waiting ms h = sym (ap not h)
waiting_is (Asked n) ms h = sym (ap not h.0)
waiting_is Answered ms h = sym (ap not h.0)

pub started_is : (p : Phase) (ms : List Sent) → IsPhase p ms
    → not (is_waiting p) ≡ list_any is_client_initialize ms
started_is p ms h = ap not (waiting_is p ms h) ∙ sym (not_not _)

pub asked_is : (p : Phase) (ms : List Sent) → IsPhase p ms → is_unanswered p ≡ is_initializing ms
asked_is Waiting ms h = sym (none_initializing ms h)
asked_is (Asked n) ms h = sym (some_initializing n ms h.0 h.1 h.2)
asked_is Answered ms h = sym h.1

have_none : (n : ℤ) (ms : List Sent) → list_any is_client_initialize ms ≡ false → HaveNumber n ms
have_none n [] h = tt
have_none n (x ∷ ms) h = (
  λ e. absurd (both_ways _ (or_parts (is_client_initialize x) _ h).0 e),
  have_none n ms (or_parts (is_client_initialize x) _ h).1,
)

have_push : (n : ℤ) (ms : List Sent) (m : Sent) → HaveNumber n ms
    → (is_client_initialize m ≡ true → seq_of m ≡ n) → HaveNumber n (ms ++ m ∷ [])
have_push n [] m h e = (e, tt)
have_push n (x ∷ ms) m h e = (h.0, have_push n ms m h.1 e)

-- the response ends the phase
done_step : (c a r : Bool) → (c ≡ true → a ≡ true) → r ≡ false → ((c && not a) || r) ≡ false
done_step true a r h g = or_from _ _ (ap not (h refl)) g
done_step false a r h g = g

done : (n : ℤ) (ms : List Sent) (m : Sent) → HaveNumber n ms → is_client_initialize m ≡ false
    → is_response_to Client n m ≡ true → is_initializing (ms ++ m ∷ []) ≡ false
done n [] m h e g = or_from _ _ (ap (λ b. b && not (is_answered Client (seq_of m) [])) e) refl
done n (x ∷ ms) m h e g =
    done_step (is_client_initialize x) (is_answered Client (seq_of x) (ms ++ m ∷ []))
    (is_initializing (ms ++ m ∷ []))
    (λ i. ap (λ k. is_answered Client k (ms ++ m ∷ [])) (h.0 i)
    ∙ any_push (λ r. is_response_to Client n r) ms m ∙ or_right _ _ g) (done n ms m h.1 e g)

-- the phase remains ended
stay_step : (c a s : Bool) → (c && not a) ≡ false → (c && not (a || s)) ≡ false
stay_step true true s h = refl
stay_step true false s h = absurd (cc)
stay_step false a s h = refl

stays : (ms : List Sent) (m : Sent) → is_client_initialize m ≡ false → is_initializing ms ≡ false
    → is_initializing (ms ++ m ∷ []) ≡ false
stays [] m e h = or_from _ _ (ap (λ b. b && not (is_answered Client (seq_of m) [])) e) refl
stays (x ∷ ms) m e h =
    or_from _ _
    (ap (λ b. is_client_initialize x && not b)
    (any_push (λ r. is_response_to Client (seq_of x) r) ms m)
    ∙ stay_step (is_client_initialize x) (is_answered Client (seq_of x) ms)
    (is_response_to Client (seq_of x) m) (or_parts _ _ h).0)
    (stays ms m e (or_parts _ _ h).1)

pub phase_asks : (p : Phase) (ms : List Sent) (m : Sent) → is_client_initialize m ≡ true
    → list_any is_client_initialize ms ≡ false → is_answered Client (seq_of m) ms ≡ false
    → is_response_to Client (seq_of m) m ≡ false
    → IsPhase (phase_after p m) (ms ++ m ∷ [])
phase_asks p ms m h none fresh silent =
    let any : list_any is_client_initialize (ms ++ m ∷ []) ≡ true =
    any_push is_client_initialize ms m ∙ or_right _ _ h in
    let answered : is_answered Client (seq_of m) (ms ++ m ∷ []) ≡ false =
    any_push (λ r. is_response_to Client (seq_of m) r) ms m ∙ or_from _ _ fresh silent in
    let is : IsPhase (Asked (seq_of m)) (ms ++ m ∷ []) =
    (any, have_push (seq_of m) ms m (have_none (seq_of m) ms none) (λ e. refl), answered) in
    subst (λ b. IsPhase (cond b (Asked (seq_of m)) (cond (answers_asked p m) Answered p)) (ms ++ m
    ∷ [])) (sym h) is

asked_step : (n : ℤ) (ms : List Sent) (m : Sent) (b : Bool) → is_response_to Client n m ≡ b
    → is_client_initialize m ≡ false → IsPhase (Asked n) ms
    → IsPhase (cond b Answered (Asked n)) (ms ++ m ∷ [])
asked_step n ms m true g h is =
    (any_push is_client_initialize ms m ∙ or_left _ _ is.0, done n ms m is.1 h g)
asked_step n ms m false g h is = (
  any_push is_client_initialize ms m
      ∙ or_left _ _ is.0,
  have_push n ms m is.1 (λ e. absurd (both_ways _ h e)),
  any_push (λ r. is_response_to Client n r) ms m ∙ or_from _ _ is.2 g,
)

phase_other : (p : Phase) (ms : List Sent) (m : Sent) → is_client_initialize m ≡ false
    → IsPhase p ms → IsPhase (cond (answers_asked p m) Answered p) (ms ++ m ∷ [])
phase_other Waiting ms m h is = any_push is_client_initialize ms m ∙ or_from _ _ is h
phase_other (Asked n) ms m h is = asked_step n ms m (is_response_to Client n m) refl h is
phase_other Answered ms m h is =
    (any_push is_client_initialize ms m ∙ or_left _ _ is.0, stays ms m h is.1)

pub phase_goes : (p : Phase) (ms : List Sent) (m : Sent) → is_client_initialize m ≡ false
    → IsPhase p ms → IsPhase (phase_after p m) (ms ++ m ∷ [])
phase_goes p ms m h is =
    subst (λ b. IsPhase (cond b (Asked (seq_of m)) (cond (answers_asked p m) Answered p)) (ms ++ m
    ∷ [])) (sym h) (phase_other p ms m h is)
