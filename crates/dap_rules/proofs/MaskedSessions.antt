-- The session of the masked messages of a recording.
use Rattle.std.proofs.Common.{◌≡◌, ℕ, Bool, true, false, List, [], ◌∷◌, ◌++◌, length, Option}
use Rattle.std.proofs.Common.{Some, None, is_some, Ok, refl, sym, ◌∙◌, ap, subst, append_assoc}
use Rattle.std.proofs.lemmas.Bool.{true≢false}
use Rattle.dap_tree.specs.Doc.{Doc}
use Rattle.dap_tree.specs.Json.{IsRead, text_of}
use Rattle.dap_message.specs.Message.{Sent, HasRefusal, faulty}
use Rattle.dap_message.specs.declared.fault.MessageFault.{MessageFault}
use Rattle.dap_mask.specs.Declarations.{Declaration}
use Rattle.dap_mask.specs.KeptRules.{mask_of}
use Rattle.dap_mask.specs.Loose.{IsLeftOf}
use Rattle.dap_mask.specs.Mask.{Mask}
use Rattle.dap_mask.specs.declared.mask_rules.MaskRules.{MaskRules}
use Rattle.dap_mask.proofs.LooseReading.{left_is_read}
use Rattle.dap_words.proofs.WordsUtf8.{strings_utf8}
use Rattle.dap_mask.proofs.FilledDocs.{fills_utf8}
use Rattle.dap_naming.specs.Sessions.{rules_for}
use Rattle.dap_naming.proofs.TypedNames.{types_keep_rules}
use Rattle.dap_stored.specs.Sessions.{messages_of}
use Rattle.dap_input.specs.declared.limits.Limits.{Limits}
use Rattle.dap_normalise.specs.Accepting.{Payload, AreMessages, Fits, IsMessage, text}
use Rattle.dap_normalise.specs.JudgingSteps.{Writes as WritesRecord}
use Rattle.dap_rules.specs.Masking.{left_of, masked_text}
use Rattle.dap_rules.specs.MaskedSessions.{AddsNamed, AddsNamedIf, AddsRuled, AreRuled, HoldUpTo}
use Rattle.dap_rules.specs.MaskedSessions.{Holds, IsPushed, IsRuled}
use Rattle.dap_rules.specs.MaskedSessions.{RepresentsMasked, RepresentsNamed}
use Rattle.dap_rules.specs.declared.masked_session.MaskedSession.{MaskedSession}
use Rattle.dap_rules.proofs.MaskedRecords.{all_left, message, next_left, none_left}

-- ---- one more record

messages_push : (records : List Payload) (messages : List Sent) (held : Payload) (m : Sent)
    → AreMessages records messages → IsMessage held m
    → AreMessages (records ++ held ∷ []) (messages ++ m ∷ [])
messages_push [] [] held m read is = (is, tt)
messages_push [] (n ∷ messages) held m read is = absurd read
messages_push (h ∷ records) [] held m read is = absurd read
messages_push (h ∷ records) (n ∷ messages) held m (one, read) is =
    (one, messages_push records messages held m read is)

passed : (fault : Option MessageFault) (records : List Payload) (messages : List Sent)
    (held : Payload) → is_some fault ≡ true → HoldUpTo records messages fault
    → HoldUpTo (records ++ held ∷ []) messages fault
passed None records messages held some is = absurd (true≢false (sym some))
passed (Some fault) records messages held some is = record {
  before = is.before;
  held = is.held;
  after = is.after ++ held ∷ [];
  split = ap (λ (all : List Payload). all ++ held ∷ []) is.split
      ∙ append_assoc is.before (is.held ∷ is.after) (held ∷ []);
  read = is.read;
  refused = is.refused;
}

pub no_fault : (fault : Option MessageFault) → is_some fault ≡ false → fault ≡ None
no_fault None none = refl
no_fault (Some fault) none = absurd (true≢false none)

flags_push : (declared : List Declaration) (messages : List Sent) (flags : List Bool) (m : Sent)
    (ruled : Bool) → AreRuled declared messages flags
    → (ruled ≡ false → rules_for declared m.doc ≡ [])
    → AreRuled declared (messages ++ m ∷ []) (flags ++ ruled ∷ [])
flags_push declared [] [] m ruled are is = (is, tt)
flags_push declared [] (flag ∷ flags) m ruled are is = absurd are
flags_push declared (n ∷ messages) [] m ruled are is = absurd are
flags_push declared (n ∷ messages) (flag ∷ flags) m ruled (one, are) is =
    (one, flags_push declared messages flags m ruled are is)

-- The declarations for a message are those for the document of its content.
typed_rules : (declared : List Declaration) (held : Payload) (m : Sent) (ruled : Bool)
    → IsMessage held m → IsRuled declared held.1 ruled
    → ruled ≡ false → rules_for declared m.doc ≡ []
typed_rules declared held m ruled is none unset =
    let typed = is.1 in
    let d = typed.0 in
    ap (rules_for declared) typed.2.1
    ∙ types_keep_rules declared held.0 d ∙ none d typed.1 unset

module _ (old new : MaskedSession) (held : Payload) (ruled : Bool) where
  -- A record after one that is not a message.
  pub added_after : is_some old.fault ≡ true → new ≡ old → AddsRuled held ruled old new
  added_after some same = record {
    adds = λ records holds.
        subst (λ (s : MaskedSession). Holds s (records ++ held ∷ [])) (sym same)
        (passed old.fault records (messages_of old.messages) held some holds);
    last = λ none.
        let unset = ap is_some (ap (λ (s : MaskedSession). s.fault) (sym same) ∙ none) in
        absurd (true≢false (sym some ∙ unset));
    flags = λ declared none are.
        subst (λ (s : MaskedSession). AreRuled declared (messages_of s.messages) s.ruled.items)
        (sym same) are;
    numbers = ap (λ (s : MaskedSession). s.numbers) same;
    named_bytes = ap (λ (s : MaskedSession). s.named_bytes) same;
  }

  module _ (numbers : new.numbers ≡ old.numbers) (named_bytes : new.named_bytes ≡ old.named_bytes)
      (none : is_some old.fault ≡ false) where
    read_before : (records : List Payload) → Holds old records
        → AreMessages records (messages_of old.messages)
    read_before records =
        subst (HoldUpTo records (messages_of old.messages)) (no_fault old.fault none)

    -- The record is a message.
    pub added : new.fault ≡ old.fault → (m : Sent)
        → messages_of new.messages ≡ messages_of old.messages ++ m ∷ []
        → new.ruled.items ≡ old.ruled.items ++ ruled ∷ [] → IsMessage held m
        → AddsRuled held ruled old new
    added same m longer flags is = record {
      adds = λ records holds.
          subst (HoldUpTo (records ++ held ∷ []) (messages_of new.messages))
          (sym (same ∙ no_fault old.fault none))
          (subst (AreMessages (records ++ held ∷ [])) (sym longer)
          (messages_push records (messages_of old.messages) held m (read_before records holds)
          is));
      last = λ unset. record {
        before = messages_of old.messages;
        last = m;
        split = longer;
        is_message = is;
      };
      flags = λ declared known are.
          subst (λ (ms : List Sent). AreRuled declared ms new.ruled.items) (sym longer)
          (subst (AreRuled declared (messages_of old.messages ++ m ∷ [])) (sym flags)
          (flags_push declared (messages_of old.messages) old.ruled.items m ruled are
          (typed_rules declared held m ruled is known)));
      numbers = numbers;
      named_bytes = named_bytes;
    }

    -- The record is not a message.
    pub stopped : (fault : MessageFault) → new.fault ≡ Some fault
        → messages_of new.messages ≡ messages_of old.messages
        → new.ruled.items ≡ old.ruled.items → HasRefusal held.1 (faulty fault)
        → AddsRuled held ruled old new
    stopped fault is same flags refused = record {
      adds = λ records holds.
          subst (HoldUpTo (records ++ held ∷ []) (messages_of new.messages)) (sym is) (record {
            before = records;
            held = held;
            after = [];
            split = refl;
            read = subst (AreMessages records) (sym same) (read_before records holds);
            refused = refused;
          });
      last = λ unset. absurd (true≢false (ap is_some (sym is ∙ unset)));
      flags = λ declared known are.
          subst (λ (ms : List Sent). AreRuled declared ms new.ruled.items) (sym same)
          (subst (AreRuled declared (messages_of old.messages)) (sym flags) are);
      numbers = numbers;
      named_bytes = named_bytes;
    }

-- ---- one more masked record

-- The text of a masked document is read as that document.
pub left_read : (rules : MaskRules) (bytes : List ℕ) (e : Doc)
    → IsLeftOf (mask_of rules) bytes (Some e) → IsRead (text_of e) e
left_read rules bytes e =
    left_is_read (mask_of rules) bytes e (strings_utf8 rules.list.words.list.items)
    (fills_utf8 rules.list.fills.items)

-- The names of a masked session, and the masked session with them.
pub names_of : (limits : Limits) (mask : Mask) (messages : List Sent) (written : ℕ)
    (session : MaskedSession) → RepresentsMasked limits mask messages written session
    → RepresentsNamed limits mask.declared (left_of mask messages) session
names_of limits mask messages written session was = record {
  numbered = was.numbered;
  fits = was.named_fits;
  count = was.named_count;
  within = was.named_within;
  holds = was.holds;
  ruled = was.ruled;
}

with_names : (limits : Limits) (mask : Mask) (messages : List Sent) (written : ℕ)
    (session : MaskedSession) → Fits limits (left_of mask messages)
    → written ≡ length (masked_text mask messages)
    → RepresentsNamed limits mask.declared (left_of mask messages) session
    → RepresentsMasked limits mask messages written session
with_names limits mask messages written session fits count names = record {
  fits = fits;
  count = count;
  numbered = names.numbered;
  named_fits = names.fits;
  named_count = names.count;
  named_within = names.within;
  holds = names.holds;
  ruled = names.ruled;
}

module _ (limits : Limits) (mask : Mask) (messages : List Sent) (held : Payload) (n written : ℕ)
    (session : MaskedSession)
    (was : RepresentsMasked limits mask messages written session) where
  named_before : RepresentsNamed limits mask.declared (left_of mask messages) session
  named_before = names_of limits mask messages written session was

  -- The rules drop the event.
  pub dropped : IsLeftOf mask held.1 None → IsPushed limits mask messages held written session
  dropped is =
      let next = none_left limits mask messages held n written was.fits was.count is in
      let same = sym next.2 in
      record {
        message = next.0;
        is_next = next.1;
        represents = with_names limits mask (messages ++ next.0 ∷ []) written session
            (subst (Fits limits) same was.fits)
            (was.count ∙ ap (λ (ms : List Sent). length (text ms)) same)
            (subst (λ (ms : List Sent). RepresentsNamed limits mask.declared ms session) same
            named_before);
      }

  -- The session represents the same messages.
  pub kept : (m : Sent) (other : MaskedSession)
      → AddsNamedIf limits mask.declared m session other false
      → RepresentsMasked limits mask messages written other
  kept m other keeps =
      with_names limits mask messages written other was.fits was.count
      (keeps (left_of mask messages) named_before)

  -- The session has the masked record, with names.
  pub pushed : (e : Doc) (is : IsLeftOf mask held.1 (Some e)) (old new : List ℕ) (after : ℕ)
      → WritesRecord limits (record { side = held.0; doc = e }) n written old new (Ok after)
      → (longer : MaskedSession)
      → AddsNamed limits mask.declared (record { side = held.0; doc = e }) session longer
      → IsPushed limits mask messages held after longer
  pushed e is old new after writes longer adds =
      let next =
      next_left limits mask messages held n written was.fits was.count e is old new after writes in
      let one = message limits mask messages held n written was.fits was.count e is in
      let all = all_left limits mask messages held n written was.fits was.count e is in
      let is_next = next.0 in
      record {
        message = one;
        is_next = is_next;
        represents = with_names limits mask (messages ++ one ∷ []) after longer is_next.fits next.1
            (subst (λ (ms : List Sent). RepresentsNamed limits mask.declared ms longer) (sym all)
            (adds (left_of mask messages) named_before));
      }
