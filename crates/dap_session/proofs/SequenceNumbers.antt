-- The sequence numbers of a typed message are ids of the kinds of their sides.
use Rattle.dap_tree.specs.Doc.{Doc, null, boolean, whole, text, list, object, id, get}
use Rattle.dap_tree.specs.Path.{Step, name}
use Rattle.dap_tree.specs.declared.side.Side.{Side}
use Rattle.dap_tree.specs.declared.side.Side.TheVariants.{Client, Adapter}
use Rattle.dap_tree.specs.declared.sort.Sort.{Sort}
use Rattle.dap_tree.specs.declared.sort.Sort.TheVariants.{ClientSeq, AdapterSeq}
use Rattle.std.proofs.Common.{◌≡◌, ℕ, ℤ, true, List, [], ◌∷◌, Option, Some, None, option_map, codes}
use Rattle.std.proofs.Common.{refl, sym, ◌∙◌, ap}
use Rattle.dap_profile.specs.Profile.{profile, first_rows, later_rows}
use Rattle.dap_profile.specs.ProfileRows.{ProfileRow}
use Rattle.dap_profile.specs.declared.profile.Kind.{Kind}
use Rattle.dap_profile.specs.declared.profile.Kind.TheVariants.{Response}
use Rattle.dap_profile.specs.declared.profile.Want.TheVariants.{OwnSeq, OtherSeq}
use Rattle.dap_message.specs.Capabilities.{filled}
use Rattle.dap_message.specs.Faults.{row_broken, has_kind}
use Rattle.dap_message.specs.Marks.{mark_by_rows}
use Rattle.dap_message.specs.Marks.{made, made_by, mark, mark_row, mark_rows, top}
use Rattle.dap_message.specs.Message.{IsTyped}
use Rattle.dap_message.specs.Places.{is_object}
use Rattle.dap_message.specs.Rows.{first_fault, is_of_kind, type_name, is_text, is_id_number}
use Rattle.dap_message.specs.declared.fault.MessageFault.TheVariants as MessageFault
use Rattle.dap_message.proofs.Envelopes.{seen-mark, get-filled, made-id, row_free, free_at, as_own}
use Rattle.dap_message.proofs.Envelopes.{as_other, row_1, row_2, row_3, row_4, fault_parts}
use Rattle.dap_message.proofs.Envelopes.{rows_free}
use Rattle.dap_message.proofs.RowMarks.{asked-mark_row}
use Rattle.dap_session.specs.Messages.{other}
use Rattle.dap_session.specs.RenamedLists.{id_sort, seq_sort, IsNumbered}

-- ---- how the rows change a number

-- a row makes the number an id, and the later rows do not change it
made_first : (r : ProfileRow) (rs : List ProfileRow) (side : Side) (d : Doc) (p : List Step)
    (s : Sort) (n : ℤ) → made_by r side d p (whole n) ≡ id s n
    → made (r ∷ rs) side d p (whole n) ≡ id s n
made_first r rs side d p s n h = ap (made rs side d p) h ∙ made-id rs side d p s n

-- a row does not change the number
made_later : (r : ProfileRow) (rs : List ProfileRow) (side : Side) (d : Doc) (p : List Step)
    (s : Sort) (n : ℤ) → made_by r side d p (whole n) ≡ whole n
    → made rs side d p (whole n) ≡ id s n
    → made (r ∷ rs) side d p (whole n) ≡ id s n
made_later r rs side d p s n h later = ap (made rs side d p) h ∙ later

-- the rows except the first
abbrev later : List ProfileRow → List ProfileRow
later [] = []
later (r ∷ rs) = rs

seq_made : (side : Side) (d : Doc) (n : ℤ) → is_id_number n ≡ true
    → made profile side d (name (codes "seq") ∷ []) (whole n) ≡ id (seq_sort side) n
unfolding profile first_rows later_rows
seq_made Client d n h =
    made_first row_1 (later profile) Client d (name (codes "seq") ∷ []) ClientSeq n (rw h refl)
seq_made Adapter d n h =
    made_first row_1 (later profile) Adapter d (name (codes "seq") ∷ []) AdapterSeq n (rw h refl)

request_seq_made : (side : Side) (d : Doc) (n : ℤ) → is_of_kind Response d ≡ true
    → is_id_number n ≡ true
    → made profile side d (name (codes "request_seq") ∷ []) (whole n) ≡ id (seq_sort (other side)) n
unfolding profile first_rows later_rows
request_seq_made Client d n is h =
    let p = name (codes "request_seq") ∷ [] in
    let fourth =
    made_first row_4 (later (later (later (later profile)))) Client d p AdapterSeq n
    (rw (is, h) refl) in
    let third =
    made_later row_3 (later (later (later profile))) Client d p AdapterSeq n refl fourth in
    made_later row_1 (later profile) Client d p AdapterSeq n refl
    (made_later row_2 (later (later profile)) Client d p AdapterSeq n refl third)
request_seq_made Adapter d n is h =
    let p = name (codes "request_seq") ∷ [] in
    let fourth =
    made_first row_4 (later (later (later (later profile)))) Adapter d p ClientSeq n
    (rw (is, h) refl) in
    let third =
    made_later row_3 (later (later (later profile))) Adapter d p ClientSeq n refl fourth in
    made_later row_1 (later profile) Adapter d p ClientSeq n refl
    (made_later row_2 (later (later profile)) Adapter d p ClientSeq n refl third)

-- ---- all together

kind_filled : (side : Side) (k : Kind) (d : Doc) → is_of_kind k (filled side d) ≡ is_of_kind k d
kind_filled side k d = ap (is_text (type_name k)) (get-filled (codes "type") side d refl)

sort-top : (o : Option Doc) → id_sort (option_map top o) ≡ id_sort o
sort-top None = refl
sort-top (Some null) = refl
sort-top (Some (boolean b)) = refl
sort-top (Some (whole z)) = refl
sort-top (Some (text s)) = refl
sort-top (Some (list ds)) = refl
sort-top (Some (object ms)) = refl
sort-top (Some (id s z)) = refl

sort_seen : (side : Side) (k : List ℕ) (d : Doc) (n : ℤ) (s : Sort) → get k d ≡ Some (whole n)
    → made profile side d (name k ∷ []) (whole n) ≡ id s n → id_sort (get k (mark side d)) ≡ Some s
unfolding mark_by_rows
sort_seen side k d n s there is =
    seen-mark id_sort sort-top profile side k d
    ∙ ap (λ o. id_sort (option_map (made profile side d (name k ∷ [])) o)) there
    ∙ ap (λ e. id_sort (Some e)) is

-- marks do not change the kind
kind_rows : (rs : List ProfileRow) (side : Side) (k : Kind) (d : Doc)
    → is_of_kind k (mark_rows rs side d) ≡ is_of_kind k d
kind_rows [] side k d = refl
kind_rows (r ∷ rs) side k d =
    kind_rows rs side k (mark_row r side d) ∙ asked-mark_row r side (Some k) None d

kind_typed : (side : Side) (k : Kind) (d : Doc)
    → is_of_kind k (mark side (filled side d)) ≡ is_of_kind k d
unfolding mark_by_rows
kind_typed side k d = kind_rows profile side k (filled side d) ∙ kind_filled side k d

seq_typed : (side : Side) (d : Doc) → is_object d ≡ true → first_fault profile d ≡ None
    → id_sort (get (codes "seq") (mark side (filled side d))) ≡ Some (seq_sort side)
unfolding profile first_rows later_rows
seq_typed side d ob rows =
    let found =
    row_free 1 None None (codes "seq") OwnSeq d ob refl (free_at 0 profile row_1 d rows refl) in
    let n = as_own found.0 found.2 in
    sort_seen side (codes "seq") (filled side d) n.0 (seq_sort side)
    (get-filled (codes "seq") side d refl ∙ found.1 ∙ ap Some n.1)
    (seq_made side (filled side d) n.0 n.2)

request_seq_typed : (side : Side) (d : Doc) → is_object d ≡ true → first_fault profile d ≡ None
    → is_of_kind Response d ≡ true
    → id_sort (get (codes "request_seq") (mark side (filled side d))) ≡ Some (seq_sort (other side))
unfolding profile first_rows later_rows
request_seq_typed side d ob rows is =
    let found =
    row_free 4 (Some Response) None (codes "request_seq") OtherSeq d ob is
    (free_at 3 profile row_4 d rows refl) in
    let n = as_other found.0 found.2 in
    sort_seen side (codes "request_seq") (filled side d) n.0 (seq_sort (other side))
    (get-filled (codes "request_seq") side d refl ∙ found.1 ∙ ap Some n.1)
    (request_seq_made side (filled side d) n.0 (kind_filled side Response d ∙ is) n.2)

pub typed_numbered : (side : Side) (d m : Doc) → IsTyped side d m
    → IsNumbered (record { side = side; doc = m })
typed_numbered side d m h =
    let parts =
    fault_parts (is_object d) (has_kind d) (row_broken d) MessageFault.UnknownType
    MessageFault.NotObject h.0 in
    let rows : first_fault profile d ≡ None = rows_free d parts.2 in
    record {
      seq = ap (λ t. id_sort (get (codes "seq") t)) h.1 ∙ seq_typed side d parts.0 rows;
      request_seq =
          λ is. ap (λ t. id_sort (get (codes "request_seq") t)) h.1
          ∙ request_seq_typed side d parts.0 rows
          (sym (ap (is_of_kind Response) h.1 ∙ kind_typed side Response d) ∙ is);
    }
