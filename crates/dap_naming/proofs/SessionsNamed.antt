-- The laws of messages with declared ids. They follow from the laws of documents with rules.
use Rattle.std.proofs.Common.{◌≡◌, true, List, [], ◌∷◌, ◌++◌, map, refl, ap, ap₂, sym, ◌∙◌}
use Rattle.std.proofs.lemmas.List.{map-append}
use Rattle.dap_tree.specs.Doc.{Doc, null, boolean, whole, text, list, object, id, Items, no_items}
use Rattle.dap_tree.specs.Doc.{item, Members, no_members, member}
use Rattle.dap_tree.specs.declared.side.Side.{Side}
use Rattle.dap_message.specs.Message.{Sent}
use Rattle.dap_tokens.specs.Naming.{IsNumbering, Numbering, numbered}
use Rattle.dap_mask.specs.Declarations.{Declaration, are_declared}
use Rattle.dap_tokens.specs.Laws.{NamesAreRead, NamedTwice, EqualNamed}
use Rattle.dap_naming.proofs.Heres.{unnamed_string}
use Rattle.dap_naming.specs.Numbers.{number}
use Rattle.dap_naming.specs.Documents.{named_doc, named_items, named_members}
use Rattle.dap_naming.specs.Messages.{Message, all_sound, ids_of_all, named_each, named_all}
use Rattle.dap_naming.specs.Sessions.{rules_for, with_rules, declared_ids, name_sent, named_sents}
use Rattle.dap_naming.specs.Sessions.{sent_skeleton}
use Rattle.dap_naming.specs.SessionLaws.{EqualNamedSessions, NamedSessionStays}
use Rattle.dap_naming.specs.SessionLaws.{NamesOfSessionPrefix, NoDeclarations}
use Rattle.dap_naming.proofs.Lists.{same_cons, head_of, tail_of}
use Rattle.dap_naming.proofs.Numbers.{each_among, numbered_in_prefix, number-is_numbering}
use Rattle.dap_naming.proofs.Agreement.{each_agrees, ids-append}
use Rattle.dap_naming.proofs.NamedDocuments.{named_doc_twice, followed}
use Rattle.dap_naming.proofs.Messages.{named_each_twice, equal_named_lists, named_list_stays}
use Rattle.dap_naming.proofs.SessionsPlaces.{names_keep_rules, sound_for}

-- ---- no declarations

mutual
  unnamed_doc : (number : Numbering) (d : Doc) → named_doc [] number d ≡ d
  unnamed_doc number null = refl
  unnamed_doc number (boolean b) = refl
  unnamed_doc number (whole z) = refl
  unnamed_doc number (text s) = ap text (unnamed_string [] number s refl)
  unnamed_doc number (list ds) = ap list (unnamed_items number ds)
  unnamed_doc number (object ms) = ap object (unnamed_members number ms)
  unnamed_doc number (id sort z) = refl

  unnamed_items : (number : Numbering) (ds : Items) → named_items [] number ds ≡ ds
  unnamed_items number no_items = refl
  unnamed_items number (item d ds) = ap₂ item (unnamed_doc number d) (unnamed_items number ds)

  unnamed_members : (number : Numbering) (ms : Members) → named_members [] number ms ≡ ms
  unnamed_members number no_members = refl
  unnamed_members number (member k d ms) =
      ap₂ (member k) (unnamed_doc number d) (unnamed_members number ms)

same_sent : (side : Side) (d e : Doc) → d ≡ e
    → ◌≡◌ {A = Sent} (record { side = side; doc = d }) (record { side = side; doc = e })
same_sent side d e h = rw h refl

unnamed : (number : Numbering) (ms : List Sent) → map (name_sent [] number) ms ≡ ms
unnamed number [] = refl
unnamed number (m ∷ ms) =
    same_cons _ _ _ _ (same_sent m.side _ m.doc (unnamed_doc number m.doc)) (unnamed number ms)

pub no_declarations : NoDeclarations
no_declarations ms = unnamed (number (declared_ids [] ms)) ms

-- ---- messages and their documents

-- messages are named alike if their documents are
from_documents : (xs : List Declaration) (f g : Numbering) (ms : List Sent)
    → named_each f (with_rules xs ms) ≡ named_each g (with_rules xs ms)
    → map (name_sent xs f) ms ≡ map (name_sent xs g) ms
from_documents xs f g [] h = refl
from_documents xs f g (m ∷ ms) h =
    same_cons _ _ _ _ (same_sent m.side _ _ (ap (λ (t : Message). t.1) (head_of h)))
    (from_documents xs f g ms (tail_of h))

pub agreeing : (xs : List Declaration) (f g : Numbering) (ms : List Sent)
    → numbered f (declared_ids xs ms) ≡ numbered g (declared_ids xs ms)
    → map (name_sent xs f) ms ≡ map (name_sent xs g) ms
agreeing xs f g ms h = from_documents xs f g ms (each_agrees f g (with_rules xs ms) h)

pub declared-append : (xs : List Declaration) (ms ns : List Sent)
    → declared_ids xs (ms ++ ns) ≡ declared_ids xs ms ++ declared_ids xs ns
declared-append xs ms ns =
    ap ids_of_all (map-append _ ms ns) ∙ ids-append (with_rules xs ms) (with_rules xs ns)

pub names_of_session_prefix : NamesOfSessionPrefix
names_of_session_prefix xs ms ns =
    let is = declared_ids xs ms in
    let js = declared_ids xs ns in
    let same : map (name_sent xs (number (is ++ js))) ms ≡ named_sents xs ms =
    agreeing xs (number (is ++ js)) (number is) ms (numbered_in_prefix is js is (each_among is)) in
    map-append _ ms ns
    ∙ ap (λ (ts : List Sent). ts ++ map (name_sent xs (number (declared_ids xs (ms ++ ns)))) ns)
    (ap (λ ks. map (name_sent xs (number ks)) ms) (declared-append xs ms ns) ∙ same)

-- ---- the same declarations apply to named messages

pub rules-named : (xs : List Declaration) (f : Numbering) (ms : List Sent) → are_declared xs ≡ true
    → with_rules xs (map (name_sent xs f) ms) ≡ named_each f (with_rules xs ms)
rules-named xs f [] h = refl
rules-named xs f (m ∷ ms) h =
    same_cons _ _ _ _
    (ap (λ rs. (rs, named_doc (rules_for xs m.doc) f m.doc)) (names_keep_rules xs f m.doc h))
    (rules-named xs f ms h)

all_are_sound : (xs : List Declaration) (ms : List Sent) → are_declared xs ≡ true
    → all_sound (with_rules xs ms) ≡ true
all_are_sound xs [] h = refl
all_are_sound xs (m ∷ ms) h = rw (sound_for xs m.doc h, all_are_sound xs ms h) refl

module _ (read : NamesAreRead) (twice : NamedTwice) (equal : EqualNamed) where
  named_again : (xs : List Declaration) (f g : Numbering) (ms : List Sent)
      → are_declared xs ≡ true → IsNumbering f
      → map (name_sent xs g) (map (name_sent xs f) ms) ≡ map (name_sent xs (followed f g)) ms
  named_again xs f g [] h n = refl
  named_again xs f g (m ∷ ms) h n =
      let rs = rules_for xs m.doc in
      same_cons _ _ _ _
      (same_sent m.side _ _
      (ap (λ qs. named_doc qs g (named_doc rs f m.doc)) (names_keep_rules xs f m.doc h)
      ∙ named_doc_twice read twice equal rs f g m.doc (sound_for xs m.doc h) n))
      (named_again xs f g ms h n)

  pub named_session_stays : NamedSessionStays
  named_session_stays xs ms h c =
      let f = number (declared_ids xs ms) in
      let n = number-is_numbering (declared_ids xs ms) c in
      let s = all_are_sound xs ms h in
      let g = number (ids_of_all (named_all (with_rules xs ms))) in
      ap (λ ts. map (name_sent xs (number (ids_of_all ts))) (named_sents xs ms))
      (rules-named xs f ms h)
      ∙ (named_again xs f g ms h n
      ∙ from_documents xs (followed f g) f ms
      (sym (named_each_twice read twice equal f g n (with_rules xs ms) s)
      ∙ named_list_stays read twice equal (with_rules xs ms) s c))

  -- ---- equal named messages

  same_skeletons : (xs : List Declaration) (f g : Numbering) (ms ns : List Sent)
      → are_declared xs ≡ true → IsNumbering f → IsNumbering g
      → map (name_sent xs f) ms ≡ map (name_sent xs g) ns
      → map (sent_skeleton xs) ms ≡ map (sent_skeleton xs) ns
  same_skeletons xs f g ms ns h n m e =
      sym (named_again xs f (λ label v. 1) ms h n)
      ∙ (ap (map (name_sent xs (λ label v. 1))) e ∙ named_again xs g (λ label v. 1) ns h m)

  -- messages with equal skeletons and equal named documents are equal named messages
  joined : (xs : List Declaration) (f g : Numbering) (ms ns : List Sent)
      → map (sent_skeleton xs) ms ≡ map (sent_skeleton xs) ns
      → named_each f (with_rules xs ms) ≡ named_each g (with_rules xs ns)
      → map (name_sent xs f) ms ≡ map (name_sent xs g) ns
  joined xs f g [] [] h k = refl
  joined xs f g [] (n ∷ ns) h k = absurd cc
  joined xs f g (m ∷ ms) [] h k = absurd cc
  joined xs f g (m ∷ ms) (n ∷ ns) h k =
      let side : m.side ≡ n.side = ap (λ (t : Sent). t.side) (head_of h) in
      same_cons _ _ _ _
      (same_sent m.side _ _ (ap (λ (t : Message). t.1) (head_of k))
      ∙ ap (λ t. record { side = t; doc = named_doc (rules_for xs n.doc) g n.doc }) side)
      (joined xs f g ms ns (tail_of h) (tail_of k))

  pub equal_named_sessions : EqualNamedSessions
  equal_named_sessions xs ms ns h c e =
      let f = number (declared_ids xs ms) in
      let g = number (declared_ids xs ns) in
      let n = number-is_numbering (declared_ids xs ms) c in
      let m = number-is_numbering (declared_ids xs ns) e in
      let law = equal_named_lists read twice equal (with_rules xs ms) (with_rules xs ns)
      (all_are_sound xs ms h) (all_are_sound xs ns h) c e in
      let ones = λ (ts : List Sent). rules-named xs (λ label v. 1) ts h in (
        λ k. (
          same_skeletons xs f g ms ns h n m k,
          (law.0 (sym (rules-named xs f ms h) ∙ (ap (with_rules xs) k
              ∙ rules-named xs g ns h))).1,
        ),
        λ k. joined xs f g ms ns k.0
            (law.1 (sym (ones ms) ∙ (ap (with_rules xs) k.0 ∙ ones ns), k.1)),
      )
