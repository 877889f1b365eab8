use Rattle.std.proofs.Common.{◌≡◌, ◌∙◌, ◌++◌, ◌+◌, ◌≤◌, ◌∷◌, [], ℕ, List, Some, ap, arith}
use Rattle.std.proofs.Common.{length, length-append, slice_get, subst, sym}
use Rattle.dap_tree.specs.{Doc.Doc, Json.{IsRead, text_of}}
use Rattle.dap_tree.proofs.Outcomes.{read_is_plain, read_once}
use Rattle.dap_message.specs.Message.{Sent, message_of}
use Rattle.dap_stored.specs.Sessions.{messages_of, stored_sent}
use Rattle.dap_normalise.specs.Accepting.{IsMessage, Payload}
use Rattle.dap_rules.proofs.{MaskedSessions.no_fault, NamedPlaces.get_last}
use Rattle.dap_rules.proofs.TypedLengths.{typed_longer}
use Rattle.dap_rules.proofs.masked_session.MaskedSession.counted_length.Goals as goal

-- The content of a message is not shorter than the document of its record.
message_longer : (held : Payload) (m : Sent) (d : Doc) → IsMessage held m → IsRead held.1 d
    → length (text_of d) ≤ length (text_of m.doc)
message_longer held m d is read =
    let typed = is.1 in
    let same = read_once held.1 d typed.0 read typed.1 in
    omega (
      arith,
      typed_longer held.0 d (read_is_plain held.1 d read),
      ap (λ (e : Doc). length (text_of (message_of held.0 e))) same,
      ap (λ (e : Doc). length (text_of e)) typed.2.1,
    )

-- The message at the last place is the last one.
last_at : (before ms : List Sent) (last m : Sent) (place : ℕ) → ms ≡ before ++ last ∷ []
    → length ms ≡ place + 1 → Some m ≡ slice_get ms place → m ≡ last
last_at before ms last m place split len there =
    let at : length before ≡ place =
    omega (arith, len, ap length split, length-append before (last ∷ [])) in
    let found : slice_get ms place ≡ Some last =
    subst (λ (all : List Sent). slice_get all place ≡ Some last) (sym split)
    (subst (λ (k : ℕ). slice_get (before ++ last ∷ []) k ≡ Some last) at (get_last before last)) in
    let same = there ∙ found in cc

pub returns-then-not-ruled : goal.returns-then-not-ruled
returns-then-not-ruled c held d last read stays =
    let same = stays (let off = c.if-not-ruled.true in cc) in
    record { longer = d; len = same; bound = omega (arith, same) }

pub returns : goal.returns
returns c held d is_last read stays =
    let session = c.args.self.now in
    let ends = is_last (no_fault session.fault (sym c.is_some.ensures ∙ c.if-is_some.false)) in
    let m = stored_sent c.in_ok-last.last in
    let there : Some m ≡ slice_get (messages_of session.messages) c.in_ok-place.place =
    c.in_ok-last.ensures in
    let within = c.in_ok-place.ensures in
    let same : m ≡ ends.last =
    last_at ends.before (messages_of session.messages) ends.last m c.in_ok-place.place ends.split
    (omega (arith, c.len.ensures, within)) there in
    record {
      longer = m.doc;
      len = ap length (sym c.content.ensures);
      bound = omega (
        arith,
        ap length c.content.ensures,
        ap (λ (n : Sent). length (text_of n.doc)) same,
        message_longer held ends.last d ends.is_message read,
      );
    }
