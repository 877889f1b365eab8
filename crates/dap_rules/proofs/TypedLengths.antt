-- The canonical content of a message is not shorter than that of its document: capabilities that
-- are filled in make it longer.
use Rattle.std.proofs.Common.{◌≡◌, ℕ, ◌+◌, ◌≤◌, Bool, true, false}
use Rattle.std.proofs.Common.{List, [], ◌∷◌, length, drop, Some, codes, nat_cmp}
use Rattle.std.proofs.Common.{Ordering, Less, Equal, Greater, refl, ap, sym, ◌∙◌, arith}
use Rattle.std.proofs.Common.{length-append}
use Rattle.std.specs.Cmp.Lexicographic.{slice_cmp}
use Rattle.std.specs.Ordering.{match_ordering}
use Rattle.dap_tree.specs.Doc.{Doc, null, boolean, whole, text, list, object, id, Members}
use Rattle.dap_tree.specs.Doc.{no_members, member, get_member, put, change_member, change_child}
use Rattle.dap_tree.specs.Doc.{is_plain}
use Rattle.dap_tree.specs.Ids.{without_ids}
use Rattle.dap_tree.specs.Json.{text_of}
use Rattle.dap_tree.specs.declared.side.Side.{Side}
use Rattle.dap_tree.proofs.WithoutIds.{data-without}
use Rattle.dap_profile.specs.Profile.{profile}
use Rattle.dap_message.specs.Capabilities.{capabilities, carries_capabilities, default_member}
use Rattle.dap_message.specs.Capabilities.{default_to, false_at, false_members, filled, is_given}
use Rattle.dap_message.specs.Capabilities.{with_capabilities}
use Rattle.dap_message.specs.Message.{message_of}
use Rattle.dap_message.proofs.FilledOnce.{numbers-again}
use Rattle.dap_message.proofs.NameOrder.{equal_at, itself}
use Rattle.dap_naming.proofs.Lists.{by_bool}

-- ---- lengths

abbrev length_of : Doc → ℕ
length_of d = length (text_of d)

-- The length of an object with these members, and 7 bytes for another member. The Bool is true if
-- this member comes before the others.
abbrev members_length : Bool → Members → ℕ
members_length true ms = length_of (object (member [] null ms))
members_length false ms = length_of (object ms) + 7

abbrev comma : Bool → ℕ
comma true = 1
comma false = 0

-- The length of a name and its colon.
abbrev name_length : List ℕ → ℕ
name_length k = length_of (text k) + 1

length-none : (later : Bool) → members_length later no_members ≡ 9
length-none true = refl
length-none false = refl

length-member : (later : Bool) (k : List ℕ) (d : Doc) (ms : Members)
    → members_length later (member k d ms)
    ≡ comma later + (name_length k + (length_of d + members_length true ms))
length-member true k d ms = simp length-append (omega arith)
length-member false k d ms = simp length-append (omega arith)

text-without : (d : Doc) → text_of (without_ids d) ≡ text_of d
text-without d = rw (data-without d) refl

-- A comma comes only before a member.
length-later : (later : Bool) (ms : Members) → members_length later ms ≤ members_length true ms
length-later true ms = omega arith
length-later false no_members = omega arith
length-later false (member k d ms) =
    let one = length-member false k d ms in
    let two = length-member true k d ms in
    omega (arith, one, two)

-- ---- one member more, or in place of null

not_given_null : (e : Doc) → is_given (Some e) ≡ false → length_of e ≡ 4
not_given_null null none = refl
not_given_null e none = absurd cc

module _ (k : List ℕ) (d : Doc) (long : 4 ≤ length_of d) where
  put_at : (o : Ordering) (later : Bool) (l : List ℕ) (e : Doc) (ms rest : Members)
      → is_given (match_ordering o (get_member k ms) (Some e) (get_member k ms)) ≡ false
      → (is_given (get_member k ms) ≡ false → members_length true ms ≤ members_length true rest)
      → members_length later (member l e ms)
      ≤ members_length later
      (match_ordering o (member k d (member l e ms)) (member l d ms) (member l e rest))
  put_at Less later l e ms rest none more =
      omega (arith, length-member later k d (member l e ms), length-later later (member l e ms))
  put_at Equal later l e ms rest none more =
      omega (
        arith,
        long,
        not_given_null e none,
        length-member later l e ms,
        length-member later l d ms,
      )
  put_at Greater later l e ms rest none more =
      omega (arith, more none, length-member later l e ms, length-member later l e rest)

  put_longer : (later : Bool) (ms : Members) → is_given (get_member k ms) ≡ false
      → members_length later ms ≤ members_length later (put k d ms)
  put_longer later no_members none =
      omega (arith, length-none later, length-member later k d no_members)
  put_longer later (member l e ms) none =
      put_at (slice_cmp nat_cmp k l) later l e ms (put k d ms) none (put_longer true ms)

-- ---- capabilities

default_longer : (k : List ℕ) (later : Bool) (ms : Members)
    → members_length later ms ≤ members_length later (default_member k (boolean false) ms)
default_longer k later ms =
    by_bool (is_given (get_member k ms)) (λ given. rw given (omega arith))
    (λ none. rw none (put_longer k (boolean false) (omega arith) later ms none))

false_longer : (ks : List (List ℕ)) (later : Bool) (ms : Members)
    → members_length later ms ≤ members_length later (false_members ks ms)
false_longer [] later ms = omega arith
false_longer (k ∷ ks) later ms =
    omega (
      arith,
      default_longer k later ms,
      false_longer ks later (default_member k (boolean false) ms),
    )

false_at_longer : (ks : List (List ℕ)) (d : Doc) → length_of d ≤ length_of (false_at ks d)
false_at_longer ks null = omega arith
false_at_longer ks (boolean b) = omega arith
false_at_longer ks (whole z) = omega arith
false_at_longer ks (text s) = omega arith
false_at_longer ks (list ds) = omega arith
false_at_longer ks (object ms) = omega (arith, false_longer ks false ms)
false_at_longer ks (id s z) = omega arith

-- An empty object with a capability is longer than null.
empty_longer : (k : List ℕ) (ks : List (List ℕ))
    → 4 ≤ length_of (false_at (k ∷ ks) (object no_members))
empty_longer k ks =
    let one = member k (boolean false) no_members in
    omega (
      arith,
      false_longer ks false one,
      length-member false k (boolean false) no_members,
      length-none true,
    )

-- ---- the member to which capabilities are added

module _ (k : List ℕ) (f : Doc → Doc) (longer : (e : Doc) → length_of e ≤ length_of (f e)) where
  change_at : (o : Ordering) (later : Bool) (l : List ℕ) (e : Doc) (ms changed : Members)
      → members_length true ms ≤ members_length true changed
      → members_length later (member l e ms)
      ≤ members_length later
      (match_ordering o (member l e changed) (member l (f e) ms) (member l e changed))
  change_at Less later l e ms changed more =
      omega (arith, more, length-member later l e ms, length-member later l e changed)
  change_at Equal later l e ms changed more =
      omega (arith, longer e, length-member later l e ms, length-member later l (f e) ms)
  change_at Greater later l e ms changed more =
      omega (arith, more, length-member later l e ms, length-member later l e changed)

  change_longer : (later : Bool) (ms : Members)
      → members_length later ms ≤ members_length later (change_member k f ms)
  change_longer later no_members = omega arith
  change_longer later (member l e ms) =
      change_at (slice_cmp nat_cmp k l) later l e ms (change_member k f ms) (change_longer true ms)

  changed_at : (o : Ordering) (l : List ℕ) (d e : Doc) (ms rest : Members)
      → slice_cmp nat_cmp k l ≡ o → change_member k f rest ≡ put k (f d) ms
      → change_member k f
      (match_ordering o (member k d (member l e ms)) (member l d ms) (member l e rest))
      ≡ match_ordering o (member k (f d) (member l e ms)) (member l (f d) ms)
      (member l e (put k (f d) ms))
  changed_at Less l d e ms rest is later =
      equal_at (slice_cmp nat_cmp k k) (member k d (change_member k f (member l e ms)))
      (member k (f d) (member l e ms)) (itself k)
  changed_at Equal l d e ms rest is later = rw is refl
  changed_at Greater l d e ms rest is later = rw is (ap (member l e) later)

  change-put : (d : Doc) (ms : Members) → change_member k f (put k d ms) ≡ put k (f d) ms
  change-put d no_members =
      equal_at (slice_cmp nat_cmp k k) (member k d no_members) (member k (f d) no_members)
      (itself k)
  change-put d (member l e ms) =
      changed_at (slice_cmp nat_cmp k l) l d e ms (put k d ms) refl (change-put d ms)

  body_longer : (e : Doc) (ms : Members) → 4 ≤ length_of (f e)
      → members_length false ms
      ≤ members_length false (change_member k f (default_member k e ms))
  body_longer e ms long =
      by_bool (is_given (get_member k ms)) (λ given. rw given (change_longer false ms))
      (λ none. rw (none, change-put e ms) (put_longer k (f e) long false ms none))

  child_longer : (e d : Doc) → 4 ≤ length_of (f e)
      → length_of d ≤ length_of (change_child k f (default_to k e d))
  child_longer e null long = omega arith
  child_longer e (boolean b) long = omega arith
  child_longer e (whole z) long = omega arith
  child_longer e (text s) long = omega arith
  child_longer e (list ds) long = omega arith
  child_longer e (object ms) long = omega (arith, body_longer e ms long)
  child_longer e (id s z) long = omega arith

capable_longer : (k : List ℕ) (ks : List (List ℕ)) (d : Doc)
    → length_of d
    ≤ length_of (change_child (codes "body") (false_at (k ∷ ks))
    (default_to (codes "body") (object no_members) d))
capable_longer k ks d =
    child_longer (codes "body") (false_at (k ∷ ks)) (false_at_longer (k ∷ ks))
    (object no_members) d (empty_longer k ks)

with_longer : (d : Doc) → length_of d ≤ length_of (with_capabilities d)
unfolding with_capabilities
with_longer d = capable_longer (codes "supportSuspendDebuggee") (drop 1 capabilities) d

filled_longer : (side : Side) (d : Doc) → length_of d ≤ length_of (filled side d)
filled_longer side d =
    by_bool (carries_capabilities side d) (λ fills. rw fills (with_longer d))
    (λ none. rw none (omega arith))

-- The content of the message is not shorter than that of its document.
pub typed_longer : (side : Side) (d : Doc) → is_plain d ≡ true
    → length (text_of d) ≤ length (text_of (message_of side d))
typed_longer side d plain =
    let m = message_of side d in
    let same : text_of (filled side d) ≡ text_of m =
    ap text_of (sym (numbers-again profile side d plain)) ∙ text-without m in
    omega (arith, filled_longer side d, ap length same)
