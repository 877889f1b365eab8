-- The requests of a side after a request, after a response, and after another message.
use Rattle.std.proofs.Common.{◌≡◌, true, false, cond, ◌&&◌, ap, ◌∙◌}
use Rattle.dap_tree.specs.declared.side.Side.{Side}
use Rattle.dap_message.specs.Message.{Sent}
use Rattle.dap_session.specs.Messages.{name_of, seq_of, request_seq_of, other, is_request}
use Rattle.dap_session.specs.Messages.{is_response, is_from}
use Rattle.dap_session.specs.SessionState.{Requests, with_request, answered_in, requests_after}
use Rattle.std.proofs.lemmas.Bool.{and_left}

pub after_request : (side : Side) (es : Requests) (m : Sent) → is_request m && is_from side m ≡ true
    → requests_after side es m ≡ with_request (seq_of m) (name_of m) es
after_request side es m h =
    ap (λ b. cond b (with_request (seq_of m) (name_of m) es)
    (cond (is_response m && is_from (other side) m) (answered_in (request_seq_of m) (name_of m) es)
    es)) h

pub after_response : (side : Side) (es : Requests) (m : Sent)
    → is_response m && is_from (other side) m ≡ true → is_request m ≡ false
    → requests_after side es m ≡ answered_in (request_seq_of m) (name_of m) es
after_response side es m h g =
    ap (λ b. cond b (with_request (seq_of m) (name_of m) es)
    (cond (is_response m && is_from (other side) m)
    (answered_in (request_seq_of m) (name_of m) es) es))
    (and_left (is_request m) (is_from side m) g)
    ∙ ap (λ b. cond b (answered_in (request_seq_of m) (name_of m) es) es) h

pub after_other : (side : Side) (es : Requests) (m : Sent) → is_request m && is_from side m ≡ false
    → is_response m && is_from (other side) m ≡ false → requests_after side es m ≡ es
after_other side es m h g =
    ap (λ b. cond b (with_request (seq_of m) (name_of m) es)
    (cond (is_response m && is_from (other side) m)
    (answered_in (request_seq_of m) (name_of m) es) es)) h
    ∙ ap (λ b. cond b (answered_in (request_seq_of m) (name_of m) es) es) g
