-- The event of joined output is read back as that output.
use Rattle.std.proofs.Common.{◌≡◌, inl, inr, ℕ, zero, suc, ◌<◌, nat_lt, slice_index, ℤ, pos, negsuc}
use Rattle.std.proofs.Common.{Bool, true, false, cond}
use Rattle.std.proofs.Common.{List, [], ◌∷◌, ◌++◌, Option, Some, None, Ordering, Less, Equal}
use Rattle.std.proofs.Common.{Greater, codes, bytes_eq, refl, sym, ap, subst, arith, ◌&&◌}
use Rattle.std.proofs.lemmas.Bool.Decides.{nat_tests}
use Rattle.std.proofs.lemmas.Str.{IsUtf8-append, IsUtf8-from_ascii, IsUtf8-from_is_utf8}
use Rattle.std.proofs.lemmas.Str.{is_utf8-from_IsUtf8}
use Rattle.std.proofs.lemmas.Str.Ascii.{IsAscii-nil}
use Rattle.std.proofs.lemmas.Bool.{ltb-true}
use Rattle.std.specs.Cmp.Lexicographic.{slice_cmp}
use Rattle.std.specs.List.{AllByRecursion, list_all}
use Rattle.std.specs.Ordering.{match_ordering, nat_cmp}
use Rattle.std.specs.Str.{is_utf8, IsAscii}
use Rattle.dap_tree.specs.Doc.{Doc, null, boolean, whole, text, list, object, id, Members}
use Rattle.dap_tree.specs.Doc.{no_members}
use Rattle.dap_tree.specs.Doc.{member, all_utf8, members_utf8, get, get_member, in_range}
use Rattle.dap_tree.specs.Json.{IsRead, text_of}
use Rattle.dap_tree.specs.declared.side.Side.{Side}
use Rattle.dap_tree.specs.declared.side.Side.TheVariants.{Client, Adapter}
use Rattle.dap_tree.proofs.Booleans.{and_left, and_right, and_both}
use Rattle.dap_tree.proofs.Texts.{text_is_read}
use Rattle.dap_tree.proofs.Utf8.{read_is_utf8}
use Rattle.dap_message.specs.Envelope.{text_value}
use Rattle.dap_message.specs.Rows.{is_id_number}
use Rattle.dap_normalise.specs.Accepting.{Payload}
use Rattle.dap_join.specs.Outputs.{IsPart, Item, Output, Part, output, stopped, other}
use Rattle.dap_join.specs.Outputs.{category_in, get_in, is_event, output_in, output_of, part_of}
use Rattle.dap_join.specs.Outputs.{part_with, seq_in}
use Rattle.dap_join.specs.Joined.{Group, add_part, append_text, body_of, event_of, group_of}
use Rattle.dap_join.specs.Joined.{groups_after, has_category, insert_group}
use Rattle.dap_join.specs.Joined.{joined_output}
use Rattle.dap_join.specs.Joined.{seq_before}

-- ---- ASCII

ascii_bytes : (s : List ℕ) → list_all (λ b. nat_lt b 128) s ≡ true → IsAscii s
ascii_bytes [] all = IsAscii-nil
ascii_bytes (b ∷ s) all =
    λ i. at (ascii_bytes s (and_right (nat_lt b 128) (list_all (λ c. nat_lt c 128) s) all)) i
  where
    at : IsAscii s → (i : ℕ) → slice_index (b ∷ s) i < 128
    at rest zero = ltb-true b 128 (and_left (nat_lt b 128) (list_all (λ c. nat_lt c 128) s) all)
    at rest (suc i) = rest i

ascii_utf8 : (s : List ℕ) → list_all (λ b. nat_lt b 128) s ≡ true → is_utf8 s ≡ true
ascii_utf8 s all = is_utf8-from_IsUtf8 s (IsUtf8-from_ascii s (ascii_bytes s all))

-- ---- output that is read

abbrev IsSeq : Option ℤ → Type 0
IsSeq None = Unit {0}
IsSeq (Some z) = is_id_number z ≡ true

-- The texts are UTF-8, and the `seq` has 64 bits.
abbrev pub IsGood : Output → Type 0
IsGood o = (is_utf8 o.category ≡ true) × (is_utf8 o.text ≡ true) × IsSeq o.seq

abbrev pub IsGoodPart : Part → Type 0
IsGoodPart (output o) = IsGood o
IsGoodPart stopped = Unit {0}
IsGoodPart other = Unit {0}

abbrev HasUtf8 : Option Doc → Type 0
HasUtf8 None = Unit {0}
HasUtf8 (Some d) = all_utf8 d ≡ true

utf8_at : (o : Ordering) (e : Doc) (found : Option Doc) → all_utf8 e ≡ true → HasUtf8 found
    → HasUtf8 (match_ordering o found (Some e) found)
utf8_at Less e found here rest = rest
utf8_at Equal e found here rest = here
utf8_at Greater e found here rest = rest

utf8_member : (k : List ℕ) (ms : Members) → members_utf8 ms ≡ true → HasUtf8 (get_member k ms)
utf8_member k no_members all = tt
utf8_member k (member l e ms) all =
    let parts = and_right (is_utf8 l) (all_utf8 e && members_utf8 ms) all in
    utf8_at (slice_cmp nat_cmp k l) e (get_member k ms)
    (and_left (all_utf8 e) (members_utf8 ms) parts)
    (utf8_member k ms (and_right (all_utf8 e) (members_utf8 ms) parts))

utf8_get : (k : List ℕ) (d : Doc) → all_utf8 d ≡ true → HasUtf8 (get k d)
utf8_get k null all = tt
utf8_get k (boolean b) all = tt
utf8_get k (whole z) all = tt
utf8_get k (text s) all = tt
utf8_get k (list ds) all = tt
utf8_get k (object ms) all = utf8_member k ms all
utf8_get k (id s z) all = tt

utf8_get_in : (k : List ℕ) (d : Option Doc) → HasUtf8 d → HasUtf8 (get_in k d)
utf8_get_in k None all = tt
utf8_get_in k (Some d) all = utf8_get k d all

good_text : (m : Option Doc) (s : List ℕ) → HasUtf8 m → text_value m ≡ Some s → is_utf8 s ≡ true
good_text None s all is = absurd (let clash : None ≡ Some s = is in cc)
good_text (Some null) s all is = absurd (let clash : None ≡ Some s = is in cc)
good_text (Some (boolean b)) s all is = absurd (let clash : None ≡ Some s = is in cc)
good_text (Some (whole z)) s all is = absurd (let clash : None ≡ Some s = is in cc)
good_text (Some (text t)) s all is =
    let same : t ≡ s = cc in
    subst (λ u. is_utf8 u ≡ true) same all
good_text (Some (list ds)) s all is = absurd (let clash : None ≡ Some s = is in cc)
good_text (Some (object ms)) s all is = absurd (let clash : None ≡ Some s = is in cc)
good_text (Some (id i z)) s all is = absurd (let clash : None ≡ Some s = is in cc)

good_category : (m : Option Doc) (s : List ℕ) → HasUtf8 m → category_in m ≡ Some s
    → is_utf8 s ≡ true
good_category None s all is =
    let same : codes "console" ≡ s = cc in
    subst (λ u. is_utf8 u ≡ true) same (ascii_utf8 (codes "console") refl)
good_category (Some null) s all is = absurd (let clash : None ≡ Some s = is in cc)
good_category (Some (boolean b)) s all is = absurd (let clash : None ≡ Some s = is in cc)
good_category (Some (whole z)) s all is = absurd (let clash : None ≡ Some s = is in cc)
good_category (Some (text t)) s all is =
    let same : t ≡ s = cc in
    subst (λ u. is_utf8 u ≡ true) same all
good_category (Some (list ds)) s all is = absurd (let clash : None ≡ Some s = is in cc)
good_category (Some (object ms)) s all is = absurd (let clash : None ≡ Some s = is in cc)
good_category (Some (id i z)) s all is = absurd (let clash : None ≡ Some s = is in cc)

good_whole : (z : ℤ) (b : Bool) (seq : Option ℤ) → is_id_number z ≡ b
    → cond b (Some (Some z)) None ≡ Some seq → IsSeq seq
good_whole z true seq test is =
    let same : Some z ≡ seq = cc in
    subst IsSeq same test
good_whole z false seq test is = absurd (let clash : None ≡ Some seq = is in cc)

good_seq : (m : Option Doc) (seq : Option ℤ) → seq_in m ≡ Some seq → IsSeq seq
good_seq None seq is =
    let same : None ≡ seq = cc in
    subst IsSeq same tt
good_seq (Some null) seq is = absurd (let clash : None ≡ Some seq = is in cc)
good_seq (Some (boolean b)) seq is = absurd (let clash : None ≡ Some seq = is in cc)
good_seq (Some (whole z)) seq is = good_whole z (is_id_number z) seq refl is
good_seq (Some (text t)) seq is = absurd (let clash : None ≡ Some seq = is in cc)
good_seq (Some (list ds)) seq is = absurd (let clash : None ≡ Some seq = is in cc)
good_seq (Some (object ms)) seq is = absurd (let clash : None ≡ Some seq = is in cc)
good_seq (Some (id i z)) seq is = absurd (let clash : None ≡ Some seq = is in cc)

-- The members of an output.
made_of : (seq : Option (Option ℤ)) (category s : Option (List ℕ)) (b : Bool) (o : Output)
    → output_of seq category s b ≡ Some o
    → (seq ≡ Some o.seq) × (category ≡ Some o.category) × (s ≡ Some o.text)
made_of None category s b o is = absurd (let clash : None ≡ Some o = is in cc)
made_of (Some seq) None s b o is = absurd (let clash : None ≡ Some o = is in cc)
made_of (Some seq) (Some category) None b o is = absurd (let clash : None ≡ Some o = is in cc)
made_of (Some seq) (Some category) (Some s) false o is =
    absurd (let clash : None ≡ Some o = is in cc)
made_of (Some seq) (Some category) (Some s) true o is =
    let one : Output = record { seq = seq; category = category; text = s } in
    let same : one ≡ o = cc in
    (ap (λ p. Some p.seq) same, ap (λ p. Some p.category) same, ap (λ p. Some p.text) same)

if_some : (b : Bool) (found : Option Output) (o : Output) → cond b found None ≡ Some o
    → found ≡ Some o
if_some true found o is = is
if_some false found o is = absurd (let clash : None ≡ Some o = is in cc)

good_output : (d : Doc) → all_utf8 d ≡ true → (o : Output) → output_in d ≡ Some o → IsGood o
good_output d all o is =
    let body = get (codes "body") d in
    let inside = utf8_get (codes "body") d all in
    let made = made_of (seq_in (get (codes "seq") d)) (category_in (get_in (codes "category") body))
    (text_value (get_in (codes "output") body)) _ o
    (if_some (is_event (codes "output") d) _ o is) in (
      good_category (get_in (codes "category") body) o.category
          (utf8_get_in (codes "category") body inside) made.1,
      good_text (get_in (codes "output") body) o.text
          (utf8_get_in (codes "output") body inside) made.2,
      good_seq (get (codes "seq") d) o.seq made.0,
    )

good_if : (b : Bool) → IsGoodPart (cond b stopped other)
good_if true = tt
good_if false = tt

good_with : (o : Option Output) (d : Doc) → ((p : Output) → o ≡ Some p → IsGood p)
    → IsGoodPart (part_with o d)
good_with (Some o) d good = good o refl
good_with None d good = good_if (is_event (codes "stopped") d)

good_of : (side : Side) (d : Doc) → all_utf8 d ≡ true → IsGoodPart (part_of side d)
good_of Client d all = tt
good_of Adapter d all = good_with (output_in d) d (good_output d all)

pub good_part : (held : Payload) (part : Part) → IsPart held part → IsGoodPart part
good_part held part (inl one) =
    subst IsGoodPart (sym one.2) (good_of held.0 one.0 (read_is_utf8 held.1 one.0 one.1))
good_part held part (inr one) = subst IsGoodPart (sym one.1) tt

-- ---- groups of good output

abbrev pub AreGood : List Group → Type 0
AreGood gs = AllByRecursion (λ (g : Group). IsGood (record {
  seq = g.seq;
  category = g.category;
  text = g.text;
})) gs

both_utf8 : (s t : List ℕ) → is_utf8 s ≡ true → is_utf8 t ≡ true → is_utf8 (s ++ t) ≡ true
both_utf8 s t one two =
    is_utf8-from_IsUtf8 (s ++ t)
    (IsUtf8-append s t (IsUtf8-from_is_utf8 s one) (IsUtf8-from_is_utf8 t two))

appended_at : (s : List ℕ) (g : Group) (gs after : List Group) (b : Bool) → is_utf8 s ≡ true
    → AreGood (g ∷ gs) → AreGood after → AreGood (cond b (record {
      number = g.number;
      seq = g.seq;
      category = g.category;
      text = g.text ++ s;
    } ∷ gs) (g ∷ after))
appended_at s g gs after true utf8 all rest =
    ((all.0.0, both_utf8 g.text s all.0.1 utf8, all.0.2), all.1)
appended_at s g gs after false utf8 all rest = (all.0, rest)

good_appended : (category s : List ℕ) (gs : List Group) → is_utf8 s ≡ true → AreGood gs
    → AreGood (append_text category s gs)
good_appended category s [] utf8 all = tt
good_appended category s (g ∷ gs) utf8 all =
    appended_at s g gs (append_text category s gs) (bytes_eq category g.category) utf8 all
    (good_appended category s gs utf8 all.1)

inserted_at : (o : Ordering) (new g : Group) (gs after : List Group) → AreGood (new ∷ [])
    → AreGood (g ∷ gs) → AreGood after
    → AreGood (match_ordering o (new ∷ g ∷ gs) (g ∷ gs) (g ∷ after))
inserted_at Less new g gs after one all rest = (one.0, all)
inserted_at Equal new g gs after one all rest = all
inserted_at Greater new g gs after one all rest = (all.0, rest)

good_inserted : (new : Group) (gs : List Group) → AreGood (new ∷ []) → AreGood gs
    → AreGood (insert_group new gs)
good_inserted new [] one all = one
good_inserted new (g ∷ gs) one all =
    inserted_at (slice_cmp nat_cmp new.category g.category) new g gs (insert_group new gs) one all
    (good_inserted new gs one all.1)

added_at : (b : Bool) (n : ℕ) (o : Output) (gs : List Group) → IsGood o → AreGood gs
    → AreGood (cond b (append_text o.category o.text gs) (insert_group (group_of n o) gs))
added_at true n o gs good all = good_appended o.category o.text gs good.1 all
added_at false n o gs good all = good_inserted (group_of n o) gs (good, tt) all

good_added : (n : ℕ) (part : Part) (gs : List Group) → IsGoodPart part → AreGood gs
    → AreGood (add_part n part gs)
good_added n (output o) gs good all = added_at (has_category o.category gs) n o gs good all
good_added n stopped gs good all = all
good_added n other gs good all = all

pub good_after : (items : List Item) (gs : List Group)
    → AllByRecursion (λ (i : Item). IsPart i.held i.part) items → AreGood gs
    → AreGood (groups_after gs items)
good_after [] gs all good = good
good_after (i ∷ items) gs all good =
    good_after items (add_part i.number i.part gs) all.1
    (good_added i.number i.part gs (good_part i.held i.part all.0) good)

-- ---- the event of a group

in_range_too : (z : ℤ) → is_id_number z ≡ true → in_range z ≡ true
in_range_too (pos n) small = grind (arith, nat_tests)
in_range_too (negsuc n) small = small

-- The names and the fixed texts of the event are UTF-8.
module _ (category s : List ℕ) (one : is_utf8 category ≡ true) (two : is_utf8 s ≡ true) where
  utf8_seq : (seq : Option ℤ)
      → members_utf8 (seq_before seq (member (codes "type") (text (codes "event")) no_members))
      ≡ true
  utf8_seq None =
      and_both _ _ (ascii_utf8 (codes "type") refl)
      (and_both _ _ (ascii_utf8 (codes "event") refl) refl)
  utf8_seq (Some z) =
      and_both _ _ (ascii_utf8 (codes "seq") refl)
      (and_both _ _ (ascii_utf8 (codes "type") refl)
      (and_both _ _ (ascii_utf8 (codes "event") refl) refl))

  utf8_body : all_utf8 (body_of category s) ≡ true
  utf8_body =
      and_both _ _ (ascii_utf8 (codes "category") refl)
      (and_both _ _ one
      (and_both _ _ (ascii_utf8 (codes "output") refl) (and_both _ _ two refl)))

  utf8_event : (g : Group) → g.category ≡ category → g.text ≡ s → all_utf8 (event_of g) ≡ true
  utf8_event g first second =
      let body : all_utf8 (body_of g.category g.text) ≡ true =
      rw (first, second) utf8_body in
      and_both _ _ (ascii_utf8 (codes "body") refl)
      (and_both _ _ body
      (and_both _ _ (ascii_utf8 (codes "event") refl)
      (and_both _ _ (ascii_utf8 (codes "output") refl) (utf8_seq g.seq))))

event_read : (n : ℕ) (seq : Option ℤ) (category s : List ℕ) → is_utf8 category ≡ true
    → is_utf8 s ≡ true → IsSeq seq
    → let g : Group = record { number = n; seq = seq; category = category; text = s } in
    IsRead (text_of (event_of g)) (event_of g)
event_read n None category s one two small =
    let g : Group = record { number = n; seq = None; category = category; text = s } in
    text_is_read (event_of g) refl refl refl (utf8_event category s one two g refl refl)
event_read n (Some z) category s one two small =
    let g : Group = record { number = n; seq = Some z; category = category; text = s } in
    text_is_read (event_of g) (rw (in_range_too z small) refl) refl refl
    (utf8_event category s one two g refl refl)

event_part : (n : ℕ) (seq : Option ℤ) (category s : List ℕ) → IsSeq seq
    → let g : Group = record { number = n; seq = seq; category = category; text = s } in
    output (record { seq = seq; category = category; text = s }) ≡ part_of Adapter (event_of g)
event_part n None category s small = refl
event_part n (Some z) category s small = rw small refl

pub group_right : (g : Group)
    → IsGood (record { seq = g.seq; category = g.category; text = g.text })
    → IsPart (joined_output g).held
    (output (record { seq = g.seq; category = g.category; text = g.text }))
group_right g good =
    inl (
      event_of g,
      event_read g.number g.seq g.category g.text good.0 good.1 good.2,
      event_part g.number g.seq g.category g.text good.2,
    )
