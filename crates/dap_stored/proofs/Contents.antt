-- The content of a message is that of the message: reading and typing it gives its document.
use Rattle.std.proofs.Common.{◌≡◌, ℕ, List, true, false, refl, sym, ap, ap₂, ◌∙◌, []}
use Rattle.std.proofs.Common.{pos, negsuc, subst}
use Rattle.std.specs.Option.{option_map_or}
use Rattle.serde_json.specs.Read.{read}
use Rattle.serde_json.specs.Written.{compact_text}
use Rattle.dap_tree.specs.Doc.{Doc, null, boolean, whole, text, list, object, id, Items, no_items}
use Rattle.dap_tree.specs.Doc.{item, Members, no_members, member, has_id, items_have_id}
use Rattle.dap_tree.specs.Doc.{members_have_id, all_in_range, is_sound}
use Rattle.dap_tree.specs.Ids.{without_ids, ids_in_range, items_ids_in_range, members_ids_in_range}
use Rattle.dap_tree.specs.Json.{data_of, items_data, members_data, text_of, IsRead}
use Rattle.dap_tree.specs.declared.side.Side.{Side}
use Rattle.dap_tree.proofs.Booleans.{and_both, and_right, or_left, or_right}
use Rattle.dap_tree.proofs.MemberOrder.{read_is_ordered}
use Rattle.dap_tree.proofs.Outcomes.{read_is_plain}
use Rattle.dap_tree.proofs.Texts.{text_is_read}
use Rattle.dap_tree.proofs.Utf8.{read_is_utf8}
use Rattle.dap_tree.proofs.WithoutIds.{data-without, no_id_without, without_no_id}
use Rattle.dap_profile.specs.Profile.{profile}
use Rattle.dap_message.specs.Capabilities.{filled}
use Rattle.dap_message.specs.Marks.{mark_by_rows}
use Rattle.dap_message.specs.Message.{message_of, IsTypedContent}
use Rattle.dap_message.proofs.Contents.{own_again}
use Rattle.dap_message.proofs.FilledOnce.{numbers-again}
use Rattle.dap_message.proofs.KeptByTyping.{sound-message}
use Rattle.dap_message.proofs.MemberNames.{ordered-message, utf8-message}
use Rattle.dap_stored.specs.Contents.{document_from, items_from, members_from, doc_in}

-- ---- `document_from` is the inverse of `data_of`

mutual
  document_back : (d : Doc) → has_id d ≡ false → document_from (data_of d) ≡ d
  document_back null h = refl
  document_back (boolean b) h = refl
  document_back (whole (pos n)) h = refl
  document_back (whole (negsuc n)) h = refl
  document_back (text s) h = refl
  document_back (list ds) h = ap list (items_back ds h)
  document_back (object ms) h = ap object (members_back ms h)
  document_back (id s z) h = cc

  items_back : (ds : Items) → items_have_id ds ≡ false → items_from (items_data ds) ≡ ds
  items_back no_items h = refl
  items_back (item d ds) h =
      ap₂ (λ e es. item e es) (document_back d (or_left _ _ h))
      (items_back ds (or_right (has_id d) _ h))

  members_back : (ms : Members) → members_have_id ms ≡ false
      → members_from (members_data ms) ≡ ms
  members_back no_members h = refl
  members_back (member k d ms) h =
      ap₂ (λ e es. member k e es) (document_back d (or_left _ _ h))
      (members_back ms (or_right (has_id d) _ h))

pub doc_in-typed : (side : Side) (content : List ℕ) (m : Doc) → IsTypedContent side content m
    → doc_in side content ≡ m
unfolding doc_in
doc_in-typed side content m (d, reads, typed) =
    ap (λ o. message_of side (option_map_or document_from o null)) reads.0.1
    ∙ ap (message_of side) (document_back d reads.1)
    ∙ sym typed.1

-- ---- the text of a message is a content of it

mutual
  in_range_no_id : (d : Doc) → has_id d ≡ false → ids_in_range d ≡ true
  in_range_no_id null h = refl
  in_range_no_id (boolean b) h = refl
  in_range_no_id (whole z) h = refl
  in_range_no_id (text s) h = refl
  in_range_no_id (list ds) h = items_in_range_no_id ds h
  in_range_no_id (object ms) h = members_in_range_no_id ms h
  in_range_no_id (id s z) h = cc

  items_in_range_no_id : (ds : Items) → items_have_id ds ≡ false → items_ids_in_range ds ≡ true
  items_in_range_no_id no_items h = refl
  items_in_range_no_id (item d ds) h =
      and_both _ _ (in_range_no_id d (or_left _ _ h))
      (items_in_range_no_id ds (or_right (has_id d) _ h))

  members_in_range_no_id : (ms : Members) → members_have_id ms ≡ false
      → members_ids_in_range ms ≡ true
  members_in_range_no_id no_members h = refl
  members_in_range_no_id (member k d ms) h =
      and_both _ _ (in_range_no_id d (or_left _ _ h))
      (members_in_range_no_id ms (or_right (has_id d) _ h))

-- a document that was read, with its capabilities filled in, is the message by no rows
filled_is_read : (side : Side) (bytes : List ℕ) (d : Doc) → IsRead bytes d
    → IsRead (text_of (filled side d)) (filled side d)
unfolding mark_by_rows
filled_is_read side bytes d reads =
    let e = filled side d in
    let plain = read_is_plain bytes d reads in
    let no_id : has_id e ≡ false =
    ap has_id (sym (numbers-again [] side d plain)) ∙ no_id_without e in
    subst (IsRead (text_of e)) (without_no_id e no_id)
    (text_is_read e (sound-message [] side d plain) (in_range_no_id e no_id)
    (ordered-message [] side d (read_is_ordered bytes d reads))
    (utf8-message [] side d (read_is_utf8 bytes d reads)))

pub own_content : (side : Side) (bytes : List ℕ) (m : Doc) → IsTypedContent side bytes m
    → IsTypedContent side (text_of m) m
own_content side bytes m (d, reads, typed) =
    let plain = read_is_plain bytes d reads in
    let numbers : without_ids m ≡ filled side d =
    ap without_ids typed.1 ∙ numbers-again profile side d plain in
    let read : IsRead (text_of (without_ids m)) (without_ids m) =
    subst (λ e. IsRead (text_of e) e) (sym numbers) (filled_is_read side bytes d reads) in (
      without_ids m,
      subst (λ t. IsRead t (without_ids m)) (ap compact_text (data-without m)) read,
      own_again side d m plain typed,
    )

pub in_range_of_content : (side : Side) (bytes : List ℕ) (m : Doc) → IsTypedContent side bytes m
    → all_in_range m ≡ true
in_range_of_content side bytes m (d, reads, typed) =
    and_right _ (all_in_range m)
    (ap is_sound typed.1 ∙ sound-message profile side d (read_is_plain bytes d reads))

pub own_doc : (side : Side) (bytes : List ℕ) (m : Doc) → IsTypedContent side bytes m
    → doc_in side (text_of m) ≡ m
own_doc side bytes m h = doc_in-typed side (text_of m) m (own_content side bytes m h)
