-- Naming one masked record after others, and adding it to a session.
use Rattle.std.proofs.Common.{◌≡◌, ℕ, ◌+◌, ◌≤◌, Bool, true, false, List, [], ◌∷◌, ◌++◌, length, Ok}
use Rattle.std.proofs.Common.{sym, ◌∙◌, ap, subst, arith, append-nil, length-append}
use Rattle.std.proofs.lemmas.List.{map-append}
use Rattle.std.specs.List.{AllByRecursion}
use Rattle.dap_tree.specs.{Doc.Doc, Json.{IsRead, text_of}}
use Rattle.dap_tree.proofs.Outcomes.{read_once}
use Rattle.dap_flat.specs.declared.node.Node.{Node}
use Rattle.dap_flat.specs.{Pieces.Represents, Reading.ReadsDocument}
use Rattle.dap_message.specs.Message.{Sent}
use Rattle.dap_tokens.specs.Naming.{Id, Numbering}
use Rattle.dap_mask.specs.Declarations.{Declaration, are_declared}
use Rattle.dap_naming.specs.Documents.{ids_of, named_doc}
use Rattle.dap_naming.specs.Flat.{FitsNodes, NamesNodes, NoneApply}
use Rattle.dap_naming.specs.Known.{FitsLimit, Knows, Names, NamesDoc, limit_of}
use Rattle.dap_naming.specs.Numbers.{number}
use Rattle.dap_naming.specs.Sessions.{AreFew, declared_ids, named_sents, rules_for}
use Rattle.dap_naming.specs.declared.value_numbers.ValueNumbers.{ValueNumbers}
use Rattle.dap_naming.proofs.MoreParts.{no_ids, same_doc}
use Rattle.dap_naming.proofs.SessionsPlaces.{names_keep_rules, sound_for}
use Rattle.dap_rename.proofs.Lists.{each-append}
use Rattle.dap_input.specs.{Limits.AreSound, declared.limits.Limits.Limits}
use Rattle.dap_normalise.specs.{Accepting.{Fits, Payload}, JudgingSteps.record_of}
use Rattle.dap_normalise.specs.JudgingSteps.{Writes as WritesRecord}
use Rattle.dap_normalise.specs.RecordTexts.{contents_of}
use Rattle.dap_rules.specs.MaskedSessions.{AddsNamed, AddsNamedIf, AddsRuled, Holds, IsBoundOf}
use Rattle.dap_rules.specs.MaskedSessions.{IsLast, IsRuled, RepresentsNamed}
use Rattle.dap_rules.specs.Naming.{named_text}
use Rattle.dap_rules.specs.RewritingSteps.{AreNumbered}
use Rattle.dap_rules.specs.declared.masked_session.MaskedSession.{MaskedSession}
use Rattle.dap_rules.proofs.FewValues.{few_are_small}
use Rattle.dap_rules.proofs.NamedRecords.{ids_push, named_next, named_push, named_text_push}
use Rattle.dap_rules.proofs.NamedRecords.{own_ids}
use Rattle.dap_rules.proofs.NamedTexts.{named_is_read}
use Rattle.dap_rules.proofs.RecordLengths.{record_longer}

-- ---- without declarations

-- If no declaration applies, no id is added and no id is replaced.
no_more : (declared : List Declaration) (d : Doc) (is : List Id) → rules_for declared d ≡ []
    → is ++ own_ids declared d ≡ is
no_more declared d is none =
    ap (λ js. is ++ js) (ap (λ rs. ids_of rs d) none ∙ no_ids d) ∙ append-nil is

pub names_none : (numbers : ValueNumbers) (declared : List Declaration) (d : Doc)
    (P : Numbering → Type 0) → rules_for declared d ≡ [] → ((f : Numbering) → P f)
    → Names numbers numbers (own_ids declared d) P
names_none numbers declared d P none holds is knows = (
  subst (Knows numbers) (sym (no_more declared d is none)) knows,
  λ ks. holds (number (is ++ (own_ids declared d ++ ks))),
)

pub fits_none : (numbers : ValueNumbers) (declared : List Declaration) (d : Doc)
    → rules_for declared d ≡ [] → FitsLimit numbers (own_ids declared d)
fits_none numbers declared d none is knows few =
    subst (AreFew (limit_of numbers)) (sym (no_more declared d is none)) few

-- Then the document is its own named document.
pub doc_stays : (declared : List Declaration) (d : Doc) (f : Numbering) → rules_for declared d ≡ []
    → named_doc (rules_for declared d) f d ≡ d
doc_stays declared d f none = ap (λ rs. named_doc rs f d) none ∙ same_doc f d

-- ---- the numbers after one more message

module _ (limits : Limits) (declared : List Declaration) (before : List Sent) (m : Sent)
    (old new : ValueNumbers) (P : Numbering → Type 0)
    (was : AreNumbered limits declared before old)
    (names : Names old new (own_ids declared m.doc) P)
    (fit : FitsLimit old (own_ids declared m.doc)) where
  abbrev ids_before : List Id
  ids_before = declared_ids declared before

  abbrev ids : List Id
  ids = declared_ids declared (before ++ m ∷ [])

  pub few_now : AreFew limits.ids ids
  few_now =
      subst (AreFew limits.ids) (sym (ids_push declared before m))
      (subst (λ most. AreFew most (ids_before ++ own_ids declared m.doc)) was.limit
      (fit ids_before was.knows
      (subst (λ most. AreFew most ids_before) (sym was.limit) was.few)))

  pub numbered_now : limit_of new ≡ limit_of old
      → AreNumbered limits declared (before ++ m ∷ []) new
  numbered_now same = record {
    knows = subst (Knows new) (sym (ids_push declared before m)) (names ids_before was.knows).0;
    few = few_now;
    limit = same ∙ was.limit;
  }

  pub named_now : P (number ids)
  named_now =
      let all : ids_before ++ (own_ids declared m.doc ++ []) ≡ ids =
      ap (λ is. ids_before ++ is) (append-nil (own_ids declared m.doc))
      ∙ sym (ids_push declared before m) in
      subst (λ is. P (number is)) all ((names ids_before was.knows).1 [])

  -- The text of the named message is read as its document.
  pub read_now : AreSound limits → are_declared declared ≡ true → (bytes : List ℕ)
      → IsRead bytes m.doc
      → IsRead (text_of (named_next declared before m).doc) (named_next declared before m).doc
  read_now sound are bytes read =
      named_is_read (rules_for declared m.doc) (number ids) bytes m.doc
      (sound_for declared m.doc are) (few_are_small limits sound ids few_now) read

-- ---- the number of bytes after one more message

-- The content of the message is within the limit. So is `after`, a number of bytes that is at least
-- the number `before` plus the length of the message's record.
pub record Counts (limits : Limits) (m : Sent) (before after : ℕ) : Type 0 where
  pub content : length (text_of m.doc) ≤ limits.frame.content
  pub more : before + length (record_of m) ≤ after
  pub within : after ≤ limits.input

-- The length of a written record counts any record whose content is not longer.
pub longer_counts : (limits : Limits) → AreSound limits → (m : Sent) (e : Doc)
    → length (text_of m.doc) ≤ length (text_of e) → (k before : ℕ) (old new : List ℕ) (after : ℕ)
    → WritesRecord limits (record { side = m.side; doc = e }) k before old new (Ok after)
    → Counts limits m before after
longer_counts limits sound m e less k before old new after writes =
    let most : limits.frame.content ≤ 2147483647 = sound.frame.content_high in
    let short = writes.0 in
    let long = writes.2 in
    record {
      content = omega (arith, less, short);
      more = omega (
        arith,
        long,
        record_longer m.side (text_of m.doc) (text_of e) less (omega (arith, most, short)),
      );
      within = writes.3;
    }

-- ---- the session after one more message

abbrev pub with_numbers : MaskedSession → ValueNumbers → MaskedSession
with_numbers session numbers = record session { numbers = numbers }

abbrev pub with_bytes : MaskedSession → ℕ → MaskedSession
with_bytes session named_bytes = record session { named_bytes = named_bytes }

module _ (limits : Limits) (declared : List Declaration) (before : List Sent) (m : Sent)
    (session : MaskedSession) (numbers : ValueNumbers)
    (was : RepresentsNamed limits declared before session) where
  -- No declaration applies to the message, which is not added.
  pub unchanged : (P : Numbering → Type 0)
      → Names session.numbers numbers (own_ids declared m.doc) P
      → limit_of numbers ≡ limit_of session.numbers → rules_for declared m.doc ≡ []
      → RepresentsNamed limits declared before (with_numbers session numbers)
  unchanged P names same none =
      let numbered = was.numbered in
      let all = declared_ids declared before in
      record {
        numbered = record {
          knows = subst (Knows numbers) (no_more declared m.doc all none)
              (names all numbered.knows).0;
          few = numbered.few;
          limit = same ∙ numbered.limit;
        };
        fits = was.fits;
        count = was.count;
        within = was.within;
        holds = was.holds;
        ruled = was.ruled;
      }

  abbrev named : Sent
  named = named_next declared before m

  contents_push : contents_of (named_sents declared (before ++ m ∷ []))
      ≡ contents_of (named_sents declared before) ++ (named.side, text_of named.doc) ∷ []
  contents_push = ap contents_of (named_push declared before m)
      ∙ map-append (λ (n : Sent). (n.side, text_of n.doc)) (named_sents declared before)
      (named ∷ [])

  module _ (after : ℕ) (counts : Counts limits named session.named_bytes after) where
    next_length : length (named_text declared (before ++ m ∷ [])) ≤ after
    next_length =
        let count = was.count in
        let more = counts.more in
        omega (
          arith,
          count,
          more,
          ap length (named_text_push declared before m),
          length-append (named_text declared before) (record_of named),
        )

    fits_on : Fits limits (named_sents declared (before ++ m ∷ []))
    fits_on =
        let fits = was.fits in
        let most = counts.within in
        record {
          each = subst (AllByRecursion (λ (n : Sent). length (text_of n.doc)
              ≤ limits.frame.content)) (sym (named_push declared before m))
              (each-append (λ (n : Sent). length (text_of n.doc) ≤ limits.frame.content)
              (named_sents declared before) (named ∷ []) fits.each (counts.content, tt));
          whole = omega (arith, next_length, most);
        }

    module _ (are : are_declared declared ≡ true)
        (read : IsRead (text_of named.doc) named.doc) (ruled : Bool)
        (off : ruled ≡ false → rules_for declared m.doc ≡ []) where
      is_ruled : IsRuled declared (text_of named.doc) ruled
      is_ruled d read_too unset =
          ap (rules_for declared) (read_once (text_of named.doc) d named.doc read_too read)
          ∙ names_keep_rules declared (number (declared_ids declared (before ++ m ∷ []))) m.doc are
          ∙ off unset

      -- The named message is added and counted.
      pub represents_on : AreNumbered limits declared (before ++ m ∷ []) numbers
          → (longer : MaskedSession)
          → AddsRuled (named.side, text_of named.doc) ruled (with_numbers session numbers) longer
          → RepresentsNamed limits declared (before ++ m ∷ []) (with_bytes longer after)
      represents_on numbered longer adds = record {
        numbered = subst (AreNumbered limits declared (before ++ m ∷ [])) (sym adds.numbers)
            numbered;
        fits = fits_on;
        count = next_length;
        within = counts.within;
        holds = subst (Holds longer) (sym contents_push)
            (adds.adds (contents_of (named_sents declared before)) was.holds);
        ruled = adds.flags declared is_ruled was.ruled;
      }

-- ---- one more record

-- A record with this document is named, as P says, and the numbers are those after it.
module _ (limits : Limits) (sound : AreSound limits) (declared : List Declaration)
    (are : are_declared declared ≡ true) (m : Sent) (bytes : List ℕ) (read : IsRead bytes m.doc)
    (session : MaskedSession) (numbers : ValueNumbers) (P : Numbering → Type 0)
    (names : Names session.numbers numbers (own_ids declared m.doc) P)
    (fit : FitsLimit session.numbers (own_ids declared m.doc)) where
  module _ (before : List Sent) (was : RepresentsNamed limits declared before session) where
    pub is_named : P (number (declared_ids declared (before ++ m ∷ [])))
    is_named =
        named_now limits declared before m session.numbers numbers P was.numbered names fit

    pub is_read : IsRead (text_of (named_next declared before m).doc)
        (named_next declared before m).doc
    is_read =
        read_now limits declared before m session.numbers numbers P was.numbered names fit sound
        are bytes read

  pub is_added : limit_of numbers ≡ limit_of session.numbers → (ruled : Bool)
      → (ruled ≡ false → rules_for declared m.doc ≡ []) → (after : ℕ) (longer : MaskedSession)
      → ((before : List Sent) → RepresentsNamed limits declared before session
      → let n = named_next declared before m in
      Counts limits n session.named_bytes after
      × AddsRuled (m.side, text_of n.doc) ruled (with_numbers session numbers) longer)
      → AddsNamed limits declared m session (with_bytes longer after)
  is_added same ruled off after longer each before was =
      let one = each before was in
      represents_on limits declared before m session numbers was after one.0 are
      (is_read before was) ruled off
      (numbered_now limits declared before m session.numbers numbers P was.numbered names fit same)
      longer one.1

  pub not_added : limit_of numbers ≡ limit_of session.numbers → rules_for declared m.doc ≡ []
      → AddsNamedIf limits declared m session (with_numbers session numbers) false
  not_added same none before was =
      unchanged limits declared before m session numbers was P names same none

-- ---- a record of nodes

module _ (limits : Limits) (sound : AreSound limits) (declared : List Declaration)
    (are : are_declared declared ≡ true) (m : Sent) (bytes : List ℕ) (read : IsRead bytes m.doc)
    (session : MaskedSession) (numbers : ValueNumbers) (nodes after : List Node)
    (shown : Represents nodes m.doc)
    (names : NamesNodes session.numbers numbers declared nodes after)
    (fit : FitsNodes session.numbers declared nodes) where
  -- The nodes represent the named document.
  abbrev Show : Numbering → Type 0
  Show f = Represents after (named_doc (rules_for declared m.doc) f m.doc)

  nodes_named : (before : List Sent) → RepresentsNamed limits declared before session
      → Represents after (named_next declared before m).doc
  nodes_named =
      is_named limits sound declared are m bytes read session numbers Show (names m.doc shown)
      (fit m.doc shown)

  content_read : (before : List Sent) → RepresentsNamed limits declared before session
      → IsRead (text_of (named_next declared before m).doc) (named_next declared before m).doc
  content_read =
      is_read limits sound declared are m bytes read session numbers Show (names m.doc shown)
      (fit m.doc shown)

  pub nodes_read : (before : List Sent) → RepresentsNamed limits declared before session
      → ReadsDocument (text_of (named_next declared before m).doc) after
  nodes_read before was = (
    (named_next declared before m).doc,
    content_read before was,
    nodes_named before was,
  )

  module _ (ruled : Bool) (off : ruled ≡ false → NoneApply declared nodes)
      (same : limit_of numbers ≡ limit_of session.numbers) where
    -- Without declarations the named document is the document.
    pub nodes_stay : (before : List Sent) (content_len : ℕ)
        → ((d : Doc) → Represents nodes d → length (text_of d) ≡ content_len) → ruled ≡ false
        → length (text_of (named_next declared before m).doc) ≡ content_len
    nodes_stay before content_len len unset =
        ap (λ d. length (text_of d))
        (doc_stays declared m.doc (number (declared_ids declared (before ++ m ∷ [])))
        (off unset m.doc shown))
        ∙ len m.doc shown

    module _ (longer : MaskedSession)
        (adds : (content : List ℕ) → ReadsDocument content after
        → AddsRuled (m.side, content) ruled (with_numbers session numbers) longer) where
      one_added : (before : List Sent) → RepresentsNamed limits declared before session
          → AddsRuled (m.side, text_of (named_next declared before m).doc) ruled
          (with_numbers session numbers) longer
      one_added before was =
          adds (text_of (named_next declared before m).doc) (nodes_read before was)

      -- The next record can be counted.
      pub few_bytes : (before : List Sent) → RepresentsNamed limits declared before session
          → longer.named_bytes ≤ limits.input
      few_bytes before was =
          let one = one_added before was in
          subst (λ (b : ℕ). b ≤ limits.input) (sym one.named_bytes) was.within

      pub nodes_added : (k content_len counted_len bytes_after : ℕ)
          → ((d : Doc) → Represents nodes d → length (text_of d) ≡ content_len)
          → ((held : Payload) (d : Doc) → IsLast held longer → IsRead held.1 d
          → (ruled ≡ false → length (text_of d) ≡ content_len) → IsBoundOf d counted_len)
          → ((n : Sent) → length (text_of n.doc) ≡ counted_len
          → WritesRecord limits n k longer.named_bytes [] (record_of n) (Ok bytes_after))
          → AddsNamed limits declared m session (with_bytes longer bytes_after)
      nodes_added k content_len counted_len bytes_after len bounds writes =
          is_added limits sound declared are m bytes read session numbers Show (names m.doc shown)
          (fit m.doc shown) same ruled (λ unset. off unset m.doc shown) bytes_after longer
          (λ before was.
          let n = named_next declared before m in
          let one = one_added before was in
          let is =
          bounds (m.side, text_of n.doc) n.doc one.last (content_read before was)
          (nodes_stay before content_len len) in
          let e = is.longer in
          let other : Sent = record { side = m.side; doc = e } in
          let less = subst (λ (b : ℕ). length (text_of n.doc) ≤ b) (sym is.len) is.bound in (
            subst (λ (b : ℕ). Counts limits n b bytes_after) one.named_bytes
                (longer_counts limits sound n e less k longer.named_bytes [] (record_of other)
                bytes_after (writes other is.len)),
            one,
          ))

    pub nodes_not_added : ruled ≡ false
        → AddsNamedIf limits declared m session (with_numbers session numbers) false
    nodes_not_added unset =
        not_added limits sound declared are m bytes read session numbers Show (names m.doc shown)
        (fit m.doc shown) same (off unset m.doc shown)

-- ---- a record of a tree

module _ (limits : Limits) (sound : AreSound limits) (declared : List Declaration)
    (are : are_declared declared ≡ true) (m : Sent) (bytes : List ℕ) (read : IsRead bytes m.doc)
    (session : MaskedSession) (numbers : ValueNumbers) (e : Doc)
    (names : NamesDoc session.numbers numbers (rules_for declared m.doc) m.doc e)
    (fit : FitsLimit session.numbers (own_ids declared m.doc)) where
  abbrev Is : Numbering → Type 0
  Is f = e ≡ named_doc (rules_for declared m.doc) f m.doc

  tree_is : (before : List Sent) → RepresentsNamed limits declared before session
      → e ≡ (named_next declared before m).doc
  tree_is = is_named limits sound declared are m bytes read session numbers Is names fit

  pub tree_read : (before : List Sent) → RepresentsNamed limits declared before session
      → IsRead (text_of e) e
  tree_read before was =
      subst (λ d. IsRead (text_of d) d) (sym (tree_is before was))
      (is_read limits sound declared are m bytes read session numbers Is names fit before was)

  pub tree_added : (ruled : Bool) → (ruled ≡ false → declared ≡ [])
      → limit_of numbers ≡ limit_of session.numbers → (k bytes_after : ℕ)
      → ((n : Sent) → length (text_of n.doc) ≡ length (text_of e)
      → WritesRecord limits n k session.named_bytes [] (record_of n) (Ok bytes_after))
      → (longer : MaskedSession)
      → ((content : List ℕ) → IsRead content e
      → AddsRuled (m.side, content) ruled (with_numbers session numbers) longer)
      → AddsNamed limits declared m session (with_bytes longer bytes_after)
  tree_added ruled off same k bytes_after writes longer adds =
      is_added limits sound declared are m bytes read session numbers Is names fit same ruled
      (λ unset. ap (λ xs. rules_for xs m.doc) (off unset)) bytes_after longer
      (λ before was.
      let n = named_next declared before m in
      let is = tree_is before was in (
        longer_counts limits sound n n.doc (omega arith) k session.named_bytes [] (record_of n)
            bytes_after (writes n (ap (λ d. length (text_of d)) (sym is))),
        subst (λ d. AddsRuled (m.side, text_of d) ruled (with_numbers session numbers) longer) is
            (adds (text_of e) (tree_read before was)),
      ))
