-- The request that a response answers.
use Rattle.std.proofs.Common.{◌≡◌, ℤ, Option, Some, ap, ◌∙◌}
use Rattle.dap_tree.specs.declared.side.Side.{Side}
use Rattle.dap_message.specs.Message.{Sent}
use Rattle.dap_session.specs.Messages.{side_of, request_seq_of, other}
use Rattle.dap_session.specs.SessionState.{SessionState, Requests, request_numbered, requests_of}
use Rattle.dap_session.specs.KeptRules.{asked_for, request_if_numbered}

pub asked_is : (k : SessionState) (m : Sent) (n : ℤ) (side : Side) (es : Requests)
    → Some n ≡ request_seq_of m → side ≡ side_of m → es ≡ requests_of (other side) k
    → request_numbered n es ≡ asked_for k m
asked_is k m n side es number from is =
    ap (λ xs. request_numbered n xs) is
    ∙ ap (λ (s : Side). request_numbered n (requests_of (other s) k)) from
    ∙ ap (λ (o : Option ℤ). request_if_numbered o (requests_of (other (side_of m)) k)) number
