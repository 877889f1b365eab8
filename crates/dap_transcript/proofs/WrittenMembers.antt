-- The members of a message in the order of the names under which they are written.
use Rattle.std.proofs.Common.{◌≡◌, ℕ, ◌≤◌, ◌||◌, List, [], ◌∷◌, ◌++◌, Bool, true, false, cond}
use Rattle.std.proofs.Common.{not}
use Rattle.std.proofs.Common.{Option, Some, None, Ordering, Less, Equal, Greater, nat_cmp}
use Rattle.std.proofs.Common.{true≢false, refl, sym, ap, ap₂, ◌∙◌, subst, length, take, drop}
use Rattle.std.proofs.Common.{get_or, arith}
use Rattle.std.proofs.Common.{append_assoc, append-nil, bytes_eq, codes, ◌==◌}
use Rattle.std.specs.Prelude.{unwrap_or}
use Rattle.std.specs.Option.{is_some}
use Rattle.std.specs.Cmp.Lexicographic.{slice_cmp}
use Rattle.std.specs.List.{list_all}
use Rattle.std.specs.Ordering.{match_ordering, ordering_then, is_lt, is_gt}
use Rattle.std.proofs.lemmas.Cmp.{nat_cmp_total, nat_list_cmp_total, tied_itself}
use Rattle.std.proofs.lemmas.List.{drop-append-le, length-take, take-append-drop}
use Rattle.std.proofs.lemmas.List.{take-append-le}
use Rattle.std.proofs.lemmas.List.Folds.{list_all-append}
use Rattle.std.proofs.lemmas.Map.Lookups.{exact_bytes}
use Rattle.std.proofs.lemmas.Slice.Eq.{bytes_eq-Decides}
use Rattle.json.specs.Print as json
use Rattle.dap_tree.specs.Doc.{Doc, text, object, Members, no_members, member, put, is_below_all}
use Rattle.dap_tree.specs.Doc.{as_object, is_ordered, members_ordered}
use Rattle.dap_tree.specs.Json.{text_of}
use Rattle.dap_tree.proofs.Booleans.{and_left, and_right, and_both}
use Rattle.dap_tree.proofs.Comparisons.{less}
use Rattle.dap_transcript.specs.declared.members.Waiting.{Waiting}
use Rattle.dap_transcript.specs.Members.{Finishes, IsAfter, IsWaiting, Passed, Passes}
use Rattle.dap_transcript.specs.Members.{PushesWritten, Renamed, Settled, Waits, lines}
use Rattle.dap_transcript.specs.Members.{with_waiting}
use Rattle.dap_transcript.specs.Names.{has_underscores, member_name, name_text, names_head}
use Rattle.dap_transcript.specs.{Lines.margin, Transcript.written}
use Rattle.dap_transcript.specs.Walk.{PushesPart, StartsWith, StartsWithName, entries_text}
use Rattle.dap_transcript.specs.Walk.{member_text}
use Rattle.dap_transcript.proofs.CanonicalNames.{head_order, head_stays, head_text, same_head}
use Rattle.dap_transcript.proofs.TextLines.{NotAt, apart, entry_ends, entry_parts, named_pushed}
use Rattle.dap_transcript.proofs.TextLines.{next_entry, no_entry, object_first}

abbrev pub compare : List ℕ → List ℕ → Ordering
compare = slice_cmp nat_cmp

-- ---- names in order

then_less : (o p q : Ordering) → (p ≡ Less → q ≡ Less) → ordering_then o p ≡ Less
    → ordering_then o q ≡ Less
then_less Less p q more h = refl
then_less Equal p q more h = more h
then_less Greater p q more h = absurd (cc)

-- A longer name comes after what its prefix comes after.
less_longer : (k l t : List ℕ) → compare k l ≡ Less → compare k (l ++ t) ≡ Less
less_longer [] [] t h = absurd (cc)
less_longer [] (y ∷ l) t h = refl
less_longer (x ∷ k) [] t h = absurd (cc)
less_longer (x ∷ k) (y ∷ l) t h =
    then_less (nat_cmp x y) (compare k l) (compare k (l ++ t)) (less_longer k l t) h

less_named : (b : Bool) (k l : List ℕ) → is_lt (compare k l) ≡ true
    → is_lt (compare k (cond b (l ++ codes "_") l)) ≡ true
less_named true k l h = ap is_lt (less_longer k l (codes "_") (less (compare k l) h))
less_named false k l h = h

-- A name that is less than such a name is less than all names, too.
pub below_lower : (k l : List ℕ) (ms : Members) → compare k l ≡ Less
    → is_below_all l ms ≡ true → is_below_all k ms ≡ true
below_lower k l no_members low h = refl
below_lower k l (member m d ms) low h =
    let next = less (compare l m) (and_left (is_lt (compare l m)) (is_below_all l ms) h) in
    and_both _ _ (ap is_lt (nat_list_cmp_total.trans k l m low next))
    (below_lower k l ms low (and_right (is_lt (compare l m)) (is_below_all l ms) h))

below_at : (o : Ordering) (k : List ℕ) (a b c : Members) → is_below_all k a ≡ true
    → is_below_all k b ≡ true → is_below_all k c ≡ true
    → is_below_all k (match_ordering o a b c) ≡ true
below_at Less k a b c p q r = p
below_at Equal k a b c p q r = q
below_at Greater k a b c p q r = r

below_put : (j k : List ℕ) (d : Doc) (ms : Members) → is_lt (compare j k) ≡ true
    → is_below_all j ms ≡ true → is_below_all j (put k d ms) ≡ true
below_put j k d no_members low h = and_both _ _ low refl
below_put j k d (member l e ms) low h =
    let first = and_left (is_lt (compare j l)) (is_below_all j ms) h in
    let rest = and_right (is_lt (compare j l)) (is_below_all j ms) h in
    below_at (compare k l) j _ _ _ (and_both _ _ low h) h
    (and_both _ _ first (below_put j k d ms low rest))

below_cond : (b : Bool) (k : List ℕ) (ms ns : Members) → is_below_all k ms ≡ true
    → is_below_all k ns ≡ true → is_below_all k (cond b ms ns) ≡ true
below_cond true k ms ns p q = p
below_cond false k ms ns p q = q

-- A name that is less than all names is less than all names as they are written.
below_written : (omitted : List ℕ → Bool) (k : List ℕ) (ms : Members)
    → is_below_all k ms ≡ true → is_below_all k (written omitted ms) ≡ true
below_written omitted k no_members h = refl
below_written omitted k (member l d ms) h =
    let rest = below_written omitted k ms
    (and_right (is_lt (compare k l)) (is_below_all k ms) h) in
    below_cond (omitted l) k _ _ rest
    (below_put k (member_name l) d (written omitted ms)
    (less_named (names_head l) k l (and_left (is_lt (compare k l)) (is_below_all k ms) h)) rest)

put_ordered : (o : Ordering) (a b c : Members) → o ≡ Less → match_ordering o a b c ≡ a
put_ordered Less a b c h = refl
put_ordered Equal a b c h = absurd (cc)
put_ordered Greater a b c h = absurd (cc)

-- A member whose name is less than all names comes first.
put_first : (k : List ℕ) (d : Doc) (ms : Members) → is_below_all k ms ≡ true
    → put k d ms ≡ member k d ms
put_first k d no_members h = refl
put_first k d (member l e ms) h =
    put_ordered (compare k l) _ _ _
    (less (compare k l) (and_left (is_lt (compare k l)) (is_below_all k ms) h))

put_later_at : (o : Ordering) (a b c : Members) → is_gt o ≡ true → match_ordering o a b c ≡ c
put_later_at Less a b c h = absurd (cc)
put_later_at Equal a b c h = absurd (cc)
put_later_at Greater a b c h = refl

-- A member whose name is greater than the first name comes after it.
put_later : (k l : List ℕ) (d e : Doc) (ms : Members) → is_gt (compare k l) ≡ true
    → put k d (member l e ms) ≡ member l e (put k d ms)
put_later k l d e ms h = put_later_at (compare k l) _ _ _ h

-- ---- names of heads

longer : (w k : List ℕ) → has_underscores w k ≡ true → has_underscores w (k ++ codes "_") ≡ true
longer w k h =
    let n = length w in
    let same = (bytes_eq-Decides (take n k) w).0
    (and_left (bytes_eq (take n k) w) (list_all (λ b. b == 95) (drop n k)) h) in
    let long : n ≤ length k = omega (arith, ap length same, length-take n k) in
    and_both _ _
    ((bytes_eq-Decides (take n (k ++ codes "_")) w).1 (take-append-le n k (codes "_") long ∙ same))
    (ap (list_all (λ b. b == 95)) (drop-append-le n k (codes "_") long)
    ∙ list_all-append (λ b. b == 95) (drop n k) (codes "_")
    ∙ and_both _ _ (and_right (bytes_eq (take n k) w) (list_all (λ b. b == 95) (drop n k)) h) refl)

either : (a b c d : Bool) → (a ≡ true → c ≡ true) → (b ≡ true → d ≡ true) → (a || b) ≡ true
    → (c || d) ≡ true
either a b true d one two h = refl
either true b false d one two h = absurd (let no : false ≡ true = one refl in cc)
either false b false d one two h = two h

-- The name of a head is one with `_` appended, too.
pub head_longer : (k : List ℕ) → names_head k ≡ true → names_head (k ++ codes "_") ≡ true
head_longer k h =
    either _ _ _ _ (longer (codes "client") k) (longer (codes "adapter") k) h

-- ---- the waiting member is written

self_longer : (k : List ℕ) (b : ℕ) → compare k (k ++ b ∷ []) ≡ Less
self_longer [] b = refl
self_longer (x ∷ k) b =
    ap (λ o. ordering_then o (compare k (k ++ b ∷ []))) (tied_itself nat_cmp_total x)
    ∙ self_longer k b

-- A name of a head that is not greater than the name of a member is less than all names that are
-- written from it on.
below_next : (o : Ordering) (r k : List ℕ) (e : Doc) (ms : Members) → compare r k ≡ o
    → is_gt o ≡ false → names_head r ≡ true → is_below_all k ms ≡ true
    → is_below_all r (put (member_name k) e ms) ≡ true
below_next Less r k e ms is not head below =
    below_put r (member_name k) e ms (less_named (names_head k) r k (ap is_lt is))
    (below_lower r k ms is below)
below_next Equal r k e ms is not head below =
    let same : r ≡ k = exact_bytes r k is in
    let named : member_name r ≡ r ++ codes "_" =
    ap (λ b. cond b (r ++ codes "_") r) head in
    subst (λ l. is_below_all r (put (member_name l) e ms) ≡ true) same
    (below_put r (member_name r) e ms
    (ap (λ l. is_lt (compare r l)) named ∙ ap is_lt (self_longer r 95))
    (subst (λ l. is_below_all l ms ≡ true) (sym same) below))
below_next Greater r k e ms is not head below = absurd (cc)

-- The lines of the waiting member and of the members after it.
written_first : (old new r : List ℕ) (d : Doc) (ms : Members)
    → new ≡ old ++ member_text 2 2 r d → is_below_all r ms ≡ true
    → old ++ lines (put r d ms) ≡ new ++ lines ms
written_first old new r d ms is below =
    ap (λ m. old ++ lines m) (put_first r d ms below)
    ∙ sym (append_assoc old (member_text 2 2 r d) (lines ms))
    ∙ ap (λ t. t ++ lines ms) (sym is)

-- ---- what waits

-- The name under which a waiting member is written is a name of a head, too.
renamed_head : (w : Waiting) (r : Renamed) → IsWaiting w r → names_head r.0 ≡ true
renamed_head w r is = ap names_head is.0 ∙ head_longer w.name.now is.1

-- It is in the same order with the bytes of a name as with the name.
renamed_order : (w : Waiting) (r : Renamed) (k inside : List ℕ) (b : Bool) → IsWaiting w r
    → inside ≡ json.escape k → is_gt (compare (w.name.now ++ codes "_") inside) ≡ b
    → is_gt (compare r.0 k) ≡ b
renamed_order w r k inside b is own h =
    ap is_gt (sym (head_order r.0 k (renamed_head w r is)))
    ∙ ap (λ t. is_gt (compare r.0 t)) (sym own) ∙ ap (λ t. is_gt (compare t inside)) is.0 ∙ h

module _ (w : Waiting) (k inside old : List ℕ) where
  pub still_waits : (before : Option Renamed) → inside ≡ json.escape k → Waits (Some w) before
      → is_gt (compare (w.name.now ++ codes "_") inside) ≡ true
      → Settled k old old before (Some w)
  still_waits None own waits later = absurd waits
  still_waits (Some r) own waits later = record {
    still = Some r;
    waits = waits;
    after = renamed_order w r k inside true waits own later;
    lines_are = λ e ms h. refl;
  }

  pub waits_no_more : (new : List ℕ) (before : Option Renamed) → inside ≡ json.escape k
      → Waits (Some w) before → is_gt (compare (w.name.now ++ codes "_") inside) ≡ false
      → ((r : Renamed) → IsWaiting w r → new ≡ old ++ member_text 2 2 r.0 r.1)
      → Settled k old new before None
  waits_no_more new None own waits later pushed = absurd waits
  waits_no_more new (Some r) own waits later pushed = record {
    still = None;
    waits = tt;
    after = tt;
    lines_are = λ e ms h. written_first old new r.0 r.1 (put (member_name k) e ms) (pushed r waits)
        (below_next (compare r.0 k) r.0 k e ms refl
        (renamed_order w r k inside false waits own later) (renamed_head w r waits) h);
  }

pub last_written : (w : Waiting) (old new : List ℕ) (still : Option Renamed)
    → Waits (Some w) still
    → ((r : Renamed) → IsWaiting w r → new ≡ old ++ member_text 2 2 r.0 r.1)
    → new ≡ old ++ lines (with_waiting still no_members)
last_written w old new None waits pushed = absurd waits
last_written w old new (Some r) waits pushed =
    pushed r waits ∙ ap (λ t. old ++ t) (sym (append-nil (member_text 2 2 r.0 r.1)))

pub none_written : (old : List ℕ) (still : Option Renamed) → Waits None still
    → old ≡ old ++ lines (with_waiting still no_members)
none_written old None w = sym (append-nil old)
none_written old (Some r) w = absurd w

-- The indentation, the name, `_`, a colon and the value of what waits.
pub waiting_written : (w : Waiting) (r : Renamed) (old one two three new rest : List ℕ)
    → one ≡ old ++ margin 2 → two ≡ one ++ w.name.now → three ≡ two ++ codes "_:"
    → PushesPart true 2 w.value.now rest three new → IsWaiting w r
    → new ≡ old ++ member_text 2 2 r.0 r.1
waiting_written w r old one two three new rest blanks name colon pushed is =
    let k = w.name.now in
    let longer : two ++ codes "_" ≡ one ++ (k ++ codes "_") =
    ap (λ t. t ++ codes "_") name ∙ append_assoc one k (codes "_") in
    let named : k ++ codes "_" ≡ name_text r.0 =
    sym is.0 ∙ sym (head_text r.0 (renamed_head w r is)) in
    named_pushed 2 2 r.0 r.1 (name_text r.0) old one (two ++ codes "_") three new blanks
    (longer ∙ ap (λ t. one ++ t) named) (colon ∙ sym (append_assoc two (codes "_") (codes ":")))
    (pushed r.1 is.2.0 is.2.1).0

pub nothing_left : (o : Option Waiting) (b : Bool) → b ≡ is_some o → b ≡ false → o ≡ None
nothing_left None b is off = refl
nothing_left (Some w) b is off = absurd (cc)

-- ---- one member

later_waits : (w : Waiting) (k old new : List ℕ) (before : Option Renamed) (e : Doc)
    (still : Option Renamed) → Waits None still → w.name.now ≡ k → names_head k ≡ true
    → ((more : List ℕ) × StartsWith w.value.now e more)
    → ((ms : Members) → is_below_all k ms ≡ true
    → old ++ lines (with_waiting before (put (member_name k) e ms))
    ≡ new ++ lines (with_waiting still (put (member_name k) e ms)))
    → Passed false k old new before e (Some w)
later_waits w k old new before e None waits own head starts so_far =
    let named : member_name k ≡ k ++ codes "_" = ap (λ b. cond b (k ++ codes "_") k) head in
    record {
      still = Some (k ++ codes "_", e);
      waits = (ap (λ n. n ++ codes "_") (sym own), ap names_head own ∙ head, starts);
      lines_are = λ ms below. so_far ms below ∙ ap (λ l. new ++ lines (put l e ms)) named;
    }
later_waits w k old new before e (Some r) waits own head starts so_far = absurd waits

pub head_waits : (w : Waiting) (k old new : List ℕ) (before : Option Renamed) (e : Doc)
    (left : Option Waiting) → left ≡ None → Settled k old new before left
    → w.name.now ≡ json.escape k → names_head w.name.now ≡ true
    → ((more : List ℕ) × StartsWith w.value.now e more)
    → Passed false k old new before e (Some w)
head_waits w k old new before e left none s inside head starts =
    let there : names_head (json.escape k) ≡ true = ap names_head (sym inside) ∙ head in
    later_waits w k old new before e s.still (subst (λ l. Waits l s.still) none s.waits)
    (inside ∙ head_stays k there) (sym (same_head k) ∙ there) starts (λ ms b. s.lines_are e ms b)

pushed_before : (k : List ℕ) (e : Doc) (still : Option Renamed) (ms : Members)
    → IsAfter k still → is_below_all k ms ≡ true
    → lines (with_waiting still (put k e ms))
    ≡ member_text 2 2 k e ++ lines (with_waiting still ms)
pushed_before k e None ms after below = ap lines (put_first k e ms below)
pushed_before k e (Some r) ms after below =
    ap (λ m. lines (put r.0 r.1 m)) (put_first k e ms below)
    ∙ ap lines (put_later r.0 k r.1 e ms after)

pub one_written : (k inside old mid new : List ℕ) (before : Option Renamed) (e : Doc)
    (left : Option Waiting) → Settled k old mid before left → inside ≡ json.escape k
    → names_head inside ≡ false → new ≡ mid ++ member_text 2 2 k e
    → Passed false k old new before e left
one_written k inside old mid new before e left s own other is =
    let head : names_head k ≡ false = sym (same_head k) ∙ ap names_head (sym own) ∙ other in
    let named : member_name k ≡ k = ap (λ b. cond b (k ++ codes "_") k) head in
    record {
      still = s.still;
      waits = s.waits;
      lines_are = λ ms below. s.lines_are e ms below
          ∙ ap (λ l. mid ++ lines (with_waiting s.still (put l e ms))) named
          ∙ ap (λ t. mid ++ t) (pushed_before k e s.still ms s.after below)
          ∙ sym (append_assoc mid (member_text 2 2 k e) (lines (with_waiting s.still ms)))
          ∙ ap (λ t. t ++ lines (with_waiting s.still ms)) (sym is);
    }

-- A member that is not omitted, and one that is.
pub not_omitted : (omitted : List ℕ → Bool) (k old new : List ℕ) (before : Option Renamed) (e : Doc)
    (left : Option Waiting) → omitted k ≡ false → Passed false k old new before e left
    → Passed (omitted k) k old new before e left
not_omitted omitted k old new before e left kept passed =
    subst (λ b. Passed b k old new before e left) (sym kept) passed

pub is_omitted : (omitted : List ℕ → Bool) (k old : List ℕ) (before : Option Renamed) (e : Doc)
    (left : Option Waiting) → omitted k ≡ true → Waits left before
    → Passed (omitted k) k old old before e left
is_omitted omitted k old before e left out waits = record {
  still = before;
  waits = waits;
  lines_are = λ ms below.
      ap (λ b. old ++ lines (with_waiting before (cond b ms (put (member_name k) e ms)))) out;
}

-- ---- all members

module _ (omitted : List ℕ → Bool) (k : List ℕ) (d : Doc) (ms : Members) (old mid : List ℕ)
    (before : Option Renamed) (left : Option Waiting)
    (passed : Passed (omitted k) k old mid before d left)
    (ordered : members_ordered (member k d ms) ≡ true) where
  lines_on : old ++ lines (with_waiting before (written omitted (member k d ms)))
      ≡ mid ++ lines (with_waiting passed.still (written omitted ms))
  lines_on =
      passed.lines_are (written omitted ms)
      (below_written omitted k ms (and_left (is_below_all k ms) _ ordered))

  ordered_on : members_ordered ms ≡ true
  ordered_on =
      and_right (is_ordered d) (members_ordered ms) (and_right (is_below_all k ms) _ ordered)

module _ (omitted : List ℕ → Bool) (waiting left : Option Waiting)
    (s name value after : List ℕ) (old mid : List ℕ)
    (split : (k more : List ℕ) → StartsWithName s k more
    → (name ≡ text_of (text k)) × (value ≡ more))
    (passes : Passes omitted name value waiting old mid after left) where
  passed_on : (before : Option Renamed) (k : List ℕ) (d : Doc) (ms : Members) (more : List ℕ)
      → Waits waiting before → s ≡ entries_text false (member k d ms) ++ more
      → Passed (omitted k) k old mid before d left × (after ≡ entries_text true ms ++ more)
  passed_on before k d ms more waits starts =
      let rest = entries_text true ms ++ more in
      let parts = split k (text_of d ++ rest) (starts ∙ entry_parts k d ms more) in
      passes k d rest before parts.0 (parts.1, entry_ends ms more) waits

  pub written_then : (next new : List ℕ) → after ≡ 44 ∷ next
      → PushesWritten omitted left next mid new → PushesWritten omitted waiting s old new
  written_then next new is later before k d ms more waits starts ordered =
      let one = passed_on before k d ms more waits starts in
      let entry = next_entry ms more after next one.1 is in
      let rest = ordered_on omitted k d ms old mid before left one.0 ordered in
      later one.0.still entry.name entry.value entry.others more one.0.waits entry.starts
      (ap members_ordered (sym entry.all) ∙ rest)
      ∙ ap (λ l. mid ++ lines (with_waiting one.0.still (written omitted l))) (sym entry.all)
      ∙ sym (lines_on omitted k d ms old mid before left one.0 ordered)

  pub written_last : (rest new : List ℕ) → after ≡ 125 ∷ rest → Finishes left mid new
      → PushesWritten omitted waiting s old new
  written_last rest new is finished before k d ms more waits starts ordered =
      let one = passed_on before k d ms more waits starts in
      let none = no_entry ms more after rest one.1 is in
      finished one.0.still one.0.waits
      ∙ ap (λ l. mid ++ lines (with_waiting one.0.still (written omitted l))) (sym none.0)
      ∙ sym (lines_on omitted k d ms old mid before left one.0 ordered)

-- ---- the members of a message

module _ (omitted : List ℕ → Bool) (content inside old : List ℕ) (begins : content ≡ 123 ∷ inside)
  where
    abbrev IsWritten : List ℕ → Type 0
    IsWritten new = (d : Doc) → content ≡ text_of d → is_ordered d ≡ true
        → new ≡ old ++ lines (written omitted (unwrap_or (as_object d) no_members))

    object_there : (d : Doc) → content ≡ text_of d
        → (ms : Members) × (d ≡ object ms) × (inside ≡ entries_text false ms)
    object_there d is =
        let found = object_first d [] inside (append-nil (text_of d) ∙ sym is ∙ begins) in
        (found.0, found.1, found.2 ∙ append-nil (entries_text false found.0))

    no_members_there : (ms : Members) (rest : List ℕ) → inside ≡ 125 ∷ rest
        → inside ≡ entries_text false ms → ms ≡ no_members
    no_members_there no_members rest end is = refl
    no_members_there (member k d ms) rest end is =
        apart 125 34 inside rest _ end is (λ e. omega arith)

    pub empty_content : (rest : List ℕ) → inside ≡ 125 ∷ rest → IsWritten old
    empty_content rest end d is ordered =
        let found = object_there d is in
        let none = no_members_there found.0 rest end found.2 in
        sym (append-nil old)
        ∙ ap (λ ms. old ++ lines (written omitted ms)) (sym none)
        ∙ ap (λ e. old ++ lines (written omitted (unwrap_or (as_object e) no_members)))
        (sym found.1)

    members_written : (new : List ℕ) (ms : Members) → NotAt inside 125
        → PushesWritten omitted None inside old new → inside ≡ entries_text false ms
        → members_ordered ms ≡ true → new ≡ old ++ lines (written omitted ms)
    members_written new no_members some pushed is ordered = absurd (some [] is)
    members_written new (member k d ms) some pushed is ordered =
        pushed None k d ms [] tt (is ∙ sym (append-nil (entries_text false (member k d ms))))
        ordered

    pub content_written : (new : List ℕ) → NotAt inside 125
        → PushesWritten omitted None inside old new → IsWritten new
    content_written new some pushed d is ordered =
        let found = object_there d is in
        members_written new found.0 some pushed found.2 (ap is_ordered (sym found.1) ∙ ordered)
        ∙ ap (λ e. old ++ lines (written omitted (unwrap_or (as_object e) no_members)))
        (sym found.1)

-- ---- the order of a renamed name

-- The order of two names is that of what follows a common prefix.
same_front : (k t u : List ℕ) → compare (k ++ t) (k ++ u) ≡ compare t u
same_front [] t u = refl
same_front (x ∷ k) t u =
    ap (λ o. ordering_then o (compare (k ++ t) (k ++ u))) (tied_itself nat_cmp_total x)
    ∙ same_front k t u

-- The test of two bytes in order.
tied_bytes : (x y : ℕ) → nat_cmp x y ≡ Equal → x ≡ y
tied_bytes x y h =
    let same = exact_bytes (x ∷ []) (y ∷ []) (ap (λ o. ordering_then o Equal) h) in
    ap (λ s. get_or s 0 0) same

then_same : (o p q : Ordering) → (o ≡ Equal → p ≡ q) → ordering_then o p ≡ ordering_then o q
then_same Less p q same = refl
then_same Equal p q same = same refl
then_same Greater p q same = refl

-- What is appended to a name does not change its order with a name that does not start with it.
other_front : (k t o : List ℕ) → (take (length k) o ≡ k → ⊥) → compare (k ++ t) o ≡ compare k o
other_front [] t o other = absurd (other refl)
other_front (x ∷ k) t [] other = refl
other_front (x ∷ k) t (y ∷ o) other =
    then_same (nat_cmp x y) (compare (k ++ t) o) (compare k o)
    (λ tied. other_front k t o
    (λ same. other (ap₂ (λ b s. b ∷ s) (sym (tied_bytes x y tied)) same)))

pub after_front : (k t o rest : List ℕ) → bytes_eq (take (length k) o) k ≡ true
    → rest ≡ drop (length k) o → compare t rest ≡ compare (k ++ t) o
after_front k t o rest front is =
    ap (compare t) is ∙ sym (same_front k t (drop (length k) o))
    ∙ ap (λ f. compare (k ++ t) (f ++ drop (length k) o))
    (sym ((bytes_eq-Decides (take (length k) o) k).0 front))
    ∙ ap (compare (k ++ t)) (take-append-drop (length k) o)

pub after_other : (k t o : List ℕ) → bytes_eq (take (length k) o) k ≡ false
    → compare k o ≡ compare (k ++ t) o
after_other k t o front =
    sym (other_front k t o (λ same. absurd (true≢false
    (sym ((bytes_eq-Decides (take (length k) o) k).1 same) ∙ front))))
