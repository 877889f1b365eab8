-- The documents of stored messages are in order.
use Rattle.std.proofs.Common.{◌≡◌, ℕ, true, ◌&&◌, List, Option, Some, None, refl, sym, ap, ap₂, ◌∙◌}
use Rattle.std.specs.Cmp.Lexicographic.{slice_cmp}
use Rattle.std.specs.Ordering.{is_lt, nat_cmp}
use Rattle.std.specs.Option.{option_map_or}
use Rattle.serde_json.specs.Data as json
use Rattle.serde_json.specs.Read.{read}
use Rattle.dap_tree.specs.Doc.{Doc, null, boolean, whole, text, list, object, id, Items, no_items}
use Rattle.dap_tree.specs.Doc.{item, Members, no_members, member, is_below_all, is_ordered}
use Rattle.dap_tree.specs.Doc.{items_ordered, members_ordered}
use Rattle.dap_tree.specs.Ids.{without_ids, items_without_ids, members_without_ids}
use Rattle.dap_tree.proofs.MemberOrder.{data_below_all, data_ordered, items_data_ordered}
use Rattle.dap_tree.proofs.MemberOrder.{members_data_ordered, ordered_read}
use Rattle.dap_profile.specs.Profile.{profile}
use Rattle.dap_message.proofs.MemberNames.{ordered-message}
use Rattle.dap_stored.specs.Contents.{document_from, items_from, members_from, doc_in}
use Rattle.dap_stored.specs.Sessions.{stored_sent}
use Rattle.dap_stored.specs.declared.message.StoredMessage.{StoredMessage}

-- ---- a document that is read

below_from : (k : List ℕ) (ms : json.Members)
    → data_below_all k ms ≡ is_below_all k (members_from ms)
below_from k json.no_members = refl
below_from k (json.member l d ms) =
    ap (λ b. is_lt (slice_cmp nat_cmp k l) && b) (below_from k ms)

mutual
  ordered_from : (d : json.Data) → data_ordered d ≡ is_ordered (document_from d)
  ordered_from json.null = refl
  ordered_from (json.boolean b) = refl
  ordered_from (json.number n) = refl
  ordered_from (json.string s) = refl
  ordered_from (json.array ds) = items_ordered_from ds
  ordered_from (json.object ms) = members_ordered_from ms

  items_ordered_from : (ds : json.Items) → items_data_ordered ds ≡ items_ordered (items_from ds)
  items_ordered_from json.no_items = refl
  items_ordered_from (json.item d ds) =
      ap₂ (λ a b. a && b) (ordered_from d) (items_ordered_from ds)

  members_ordered_from : (ms : json.Members)
      → members_data_ordered ms ≡ members_ordered (members_from ms)
  members_ordered_from json.no_members = refl
  members_ordered_from (json.member k d ms) =
      ap₂ (λ a b. a && b) (below_from k ms)
      (ap₂ (λ a b. a && b) (ordered_from d) (members_ordered_from ms))

ordered_found : (o : Option json.Data) → ((d : json.Data) → o ≡ Some d → data_ordered d ≡ true)
    → is_ordered (option_map_or document_from o null) ≡ true
ordered_found None h = refl
ordered_found (Some d) h = sym (ordered_from d) ∙ h d refl

-- ---- ids

below_without : (k : List ℕ) (ms : Members)
    → is_below_all k (members_without_ids ms) ≡ is_below_all k ms
below_without k no_members = refl
below_without k (member l d ms) =
    ap (λ b. is_lt (slice_cmp nat_cmp k l) && b) (below_without k ms)

mutual
  ordered_without : (d : Doc) → is_ordered (without_ids d) ≡ is_ordered d
  ordered_without null = refl
  ordered_without (boolean b) = refl
  ordered_without (whole z) = refl
  ordered_without (text s) = refl
  ordered_without (list ds) = items_ordered_without ds
  ordered_without (object ms) = members_ordered_without ms
  ordered_without (id s z) = refl

  items_ordered_without : (ds : Items) → items_ordered (items_without_ids ds) ≡ items_ordered ds
  items_ordered_without no_items = refl
  items_ordered_without (item d ds) =
      ap₂ (λ a b. a && b) (ordered_without d) (items_ordered_without ds)

  members_ordered_without : (ms : Members)
      → members_ordered (members_without_ids ms) ≡ members_ordered ms
  members_ordered_without no_members = refl
  members_ordered_without (member k d ms) =
      ap₂ (λ a b. a && b) (below_without k ms)
      (ap₂ (λ a b. a && b) (ordered_without d) (members_ordered_without ms))

-- The document of a stored message is in order, with each id as an integer.
pub stored_ordered : (m : StoredMessage) → is_ordered (without_ids (stored_sent m).doc) ≡ true
unfolding doc_in
stored_ordered m =
    let own = option_map_or document_from (read m.content.now) null in
    ordered_without (stored_sent m).doc
    ∙ ordered-message profile m.side own
    (ordered_found (read m.content.now) (ordered_read m.content.now))
