-- The members of a message are in order, and its strings are UTF-8, if this holds for its document.
use Rattle.dap_tree.specs.Doc.{Doc, Members, no_members, member, put, change_member, is_below_all}
use Rattle.dap_tree.specs.Doc.{is_ordered, items_ordered, members_ordered, all_utf8, items_utf8}
use Rattle.dap_tree.specs.Doc.{members_utf8}
use Rattle.dap_tree.specs.declared.side.Side.{Side}
use Rattle.dap_tree.proofs.Booleans.{and_left, and_right, and_both}
use Rattle.std.proofs.Common.{◌≡◌, ℕ, zero, suc, ◌<◌, Bool, nat_lt, slice_index, true, ◌&&◌, List}
use Rattle.std.proofs.Common.{[], ◌∷◌, Ordering, Less, Equal, Greater, nat_cmp, refl, ◌∙◌, ap}
use Rattle.std.proofs.lemmas.Bool.{ltb-true}
use Rattle.std.proofs.lemmas.Cmp.{nat_list_cmp_total}
use Rattle.std.proofs.lemmas.Str.{IsUtf8-from_ascii, is_utf8-from_IsUtf8}
use Rattle.std.proofs.lemmas.Str.Ascii.{IsAscii-nil}
use Rattle.std.specs.Cmp.Lexicographic.{slice_cmp}
use Rattle.std.specs.List.{list_all}
use Rattle.std.specs.Ordering.{match_ordering, ordering_reverse, is_lt}
use Rattle.std.specs.Str.{is_utf8, IsAscii}
use Rattle.dap_message.specs.Marks.{mark}
use Rattle.dap_message.specs.Message.{message_by_rows}
use Rattle.dap_profile.specs.Profile.{profile}
use Rattle.dap_profile.specs.ProfileRows.{ProfileRow}
use Rattle.dap_message.proofs.PartTests.{DocTest, passes-mark, passes-message}

-- ---- order

below_change_at : (o : Ordering) (j l : List ℕ) (d e : Doc) (ms changed : Members)
    → is_below_all j changed ≡ is_below_all j ms
    → is_below_all j (match_ordering o (member l d changed) (member l e ms) (member l d changed))
    ≡ is_below_all j (member l d ms)
below_change_at Less j l d e ms changed h = ap (λ b. is_lt (slice_cmp nat_cmp j l) && b) h
below_change_at Equal j l d e ms changed h = refl
below_change_at Greater j l d e ms changed h = ap (λ b. is_lt (slice_cmp nat_cmp j l) && b) h

below_change : (j k : List ℕ) (f : Doc → Doc) (ms : Members)
    → is_below_all j (change_member k f ms) ≡ is_below_all j ms
below_change j k f no_members = refl
below_change j k f (member l d ms) =
    below_change_at (slice_cmp nat_cmp k l) j l d (f d) ms (change_member k f ms)
    (below_change j k f ms)

less : (o : Ordering) → is_lt o ≡ true → o ≡ Less
less Less h = refl
less Equal h = cc
less Greater h = cc

below_lower : (k l : List ℕ) (ms : Members) → slice_cmp nat_cmp k l ≡ Less
    → is_below_all l ms ≡ true → is_below_all k ms ≡ true
below_lower k l no_members low h = refl
below_lower k l (member m d ms) low h =
    let next = less (slice_cmp nat_cmp l m)
    (and_left (is_lt (slice_cmp nat_cmp l m)) (is_below_all l ms) h) in
    and_both (is_lt (slice_cmp nat_cmp k m)) (is_below_all k ms)
    (ap is_lt (nat_list_cmp_total.trans k l m low next))
    (below_lower k l ms low (and_right (is_lt (slice_cmp nat_cmp l m)) (is_below_all l ms) h))

below_at : (o : Ordering) (k : List ℕ) (a b c : Members) → is_below_all k a ≡ true
    → is_below_all k b ≡ true → is_below_all k c ≡ true
    → is_below_all k (match_ordering o a b c) ≡ true
below_at Less k a b c p q r = p
below_at Equal k a b c p q r = q
below_at Greater k a b c p q r = r

below_put : (j k : List ℕ) (d : Doc) (ms : Members) → is_lt (slice_cmp nat_cmp j k) ≡ true
    → is_below_all j ms ≡ true → is_below_all j (put k d ms) ≡ true
below_put j k d no_members low h = and_both (is_lt (slice_cmp nat_cmp j k)) true low refl
below_put j k d (member l e ms) low h =
    let first = and_left (is_lt (slice_cmp nat_cmp j l)) (is_below_all j ms) h in
    let rest = and_right (is_lt (slice_cmp nat_cmp j l)) (is_below_all j ms) h in
    below_at (slice_cmp nat_cmp k l) j _ _ _ (and_both (is_lt (slice_cmp nat_cmp j k)) _ low h) h
    (and_both (is_lt (slice_cmp nat_cmp j l)) _ first (below_put j k d ms low rest))

put_at : (o : Ordering) (k l : List ℕ) (d e : Doc) (ms after : Members) → slice_cmp nat_cmp k l ≡ o
    → is_ordered d ≡ true → members_ordered (member l e ms) ≡ true
    → (is_lt (slice_cmp nat_cmp l k) ≡ true → is_below_all l after ≡ true)
    → members_ordered after ≡ true
    → members_ordered
    (match_ordering o (member k d (member l e ms)) (member l d ms) (member l e after)) ≡ true
put_at Less k l d e ms after is h g low rest =
    let below = and_left (is_below_all l ms) (is_ordered e && members_ordered ms) g in
    and_both _ _ (and_both _ _ (ap is_lt is) (below_lower k l ms is below)) (and_both _ _ h g)
put_at Equal k l d e ms after is h g low rest =
    let parts = and_right (is_below_all l ms) (is_ordered e && members_ordered ms) g in
    and_both _ _ (and_left (is_below_all l ms) (is_ordered e && members_ordered ms) g)
    (and_both _ _ h (and_right (is_ordered e) _ parts))
put_at Greater k l d e ms after is h g low rest =
    let parts = and_right (is_below_all l ms) (is_ordered e && members_ordered ms) g in
    let above = ap is_lt (nat_list_cmp_total.antisymm l k ∙ ap ordering_reverse is) in
    and_both _ _ (low above) (and_both _ _ (and_left (is_ordered e) _ parts) rest)

ordered_put : (k : List ℕ) (d : Doc) (ms : Members) → true ≡ true → is_ordered d ≡ true
    → members_ordered ms ≡ true → members_ordered (put k d ms) ≡ true
ordered_put k d no_members n h g = and_both _ _ refl (and_both _ _ h refl)
ordered_put k d (member l e ms) n h g =
    let below = and_left (is_below_all l ms) (is_ordered e && members_ordered ms) g in
    let parts = and_right (is_below_all l ms) (is_ordered e && members_ordered ms) g in
    put_at (slice_cmp nat_cmp k l) k l d e ms (put k d ms) refl h g
    (λ low. below_put l k d ms low below)
    (ordered_put k d ms n h (and_right (is_ordered e) _ parts))

abbrev order_test : DocTest
order_test =
    record {
      parts = record {
        document = is_ordered;
        members = members_ordered;
        items = items_ordered;
        beside = is_below_all;
        may_come = λ k. true;
        no_member = refl;
        each_member =
            λ k d ms. refl;
        each_item = λ d ds. refl;
        beside_changed = below_change;
        put_in =
            ordered_put;
      };
      of_object = λ ms. refl;
      of_list = λ ds. refl;
      of_false = refl;
    }

pub ordered-mark : (side : Side) (d : Doc) → is_ordered d ≡ true → is_ordered (mark side d) ≡ true
ordered-mark side d h = passes-mark order_test (λ s z is. refl) profile side d h

pub ordered-message : (rows : List ProfileRow) (side : Side) (d : Doc) → is_ordered d ≡ true
    → is_ordered (message_by_rows rows side d) ≡ true
ordered-message rows side d h =
    passes-message order_test (λ s z is. refl) rows side d refl refl h

-- ---- UTF-8

utf8_at : (o : Ordering) (a b c : Members) → members_utf8 a ≡ true → members_utf8 b ≡ true
    → members_utf8 c ≡ true → members_utf8 (match_ordering o a b c) ≡ true
utf8_at Less a b c p q r = p
utf8_at Equal a b c p q r = q
utf8_at Greater a b c p q r = r

abbrev is_ascii_name : List ℕ → Bool
is_ascii_name k = list_all (λ b. nat_lt b 128) k

ascii_name : (k : List ℕ) → is_ascii_name k ≡ true → IsAscii k
ascii_name [] h = IsAscii-nil
ascii_name (x ∷ k) h = λ i. at (ascii_name k (and_right (nat_lt x 128) (is_ascii_name k) h)) i
  where
    at : IsAscii k → (i : ℕ) → slice_index (x ∷ k) i < 128
    at rest zero = ltb-true x 128 (and_left (nat_lt x 128) (is_ascii_name k) h)
    at rest (suc i) = rest i

utf8_name : (k : List ℕ) → is_ascii_name k ≡ true → is_utf8 k ≡ true
utf8_name k h = is_utf8-from_IsUtf8 k (IsUtf8-from_ascii k (ascii_name k h))

utf8_put : (k : List ℕ) (d : Doc) (ms : Members) → is_utf8 k ≡ true → all_utf8 d ≡ true
    → members_utf8 ms ≡ true → members_utf8 (put k d ms) ≡ true
utf8_put k d no_members n h g = and_both _ _ n (and_both _ _ h refl)
utf8_put k d (member l e ms) n h g =
    let first = and_left (is_utf8 l) (all_utf8 e && members_utf8 ms) g in
    let parts = and_right (is_utf8 l) (all_utf8 e && members_utf8 ms) g in
    let rest = and_right (all_utf8 e) (members_utf8 ms) parts in
    utf8_at (slice_cmp nat_cmp k l) _ _ _ (and_both _ _ n (and_both _ _ h g))
    (and_both _ _ first (and_both _ _ h rest))
    (and_both _ _ first
    (and_both _ _ (and_left (all_utf8 e) (members_utf8 ms) parts) (utf8_put k d ms n h rest)))

abbrev utf8_test : DocTest
utf8_test =
    record {
      parts = record {
        document = all_utf8;
        members = members_utf8;
        items = items_utf8;
        beside = λ k ms. is_utf8 k;
        may_come = is_ascii_name;
        no_member = refl;
        each_member =
            λ k d ms. refl;
        each_item = λ d ds. refl;
        beside_changed = λ l k f ms. refl;
        put_in =
            λ k d ms n. utf8_put k d ms (utf8_name k n);
      };
      of_object = λ ms. refl;
      of_list = λ ds. refl;
      of_false = refl;
    }

pub utf8-message : (rows : List ProfileRow) (side : Side) (d : Doc) → all_utf8 d ≡ true
    → all_utf8 (message_by_rows rows side d) ≡ true
utf8-message rows side d h = passes-message utf8_test (λ s z is. refl) rows side d refl refl h
