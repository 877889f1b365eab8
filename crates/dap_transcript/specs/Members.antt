-- The written members of a message in its canonical text. Source: own. For private clauses.
use Rattle.std.specs.Prelude.{◌≡◌, ℕ, ⊤, Bool, true, false, cond, ◌&&◌, ◌||◌, List, ◌++◌, Option}
use Rattle.std.specs.Prelude.{Some, None, codes, bytes_eq}
use Rattle.std.specs.{Cmp.Lexicographic.slice_cmp, Ordering.{is_gt, nat_cmp}}
use Rattle.json.specs.Print as json
use Rattle.dap_tree.specs.Doc.{Doc, text, Members, no_members, member, put, is_below_all}
use Rattle.dap_tree.specs.Doc.{members_ordered}
use Rattle.dap_tree.specs.Json.{text_of}
use Rattle.dap_message.specs.Rows.{name_key}
use Rattle.dap_transcript.specs.declared.members.Omitted.{Omitted}
use Rattle.dap_transcript.specs.declared.members.Waiting.{Waiting}
use Rattle.dap_transcript.specs.{Lines.member_lines, Names.{member_name, names_head}}
use Rattle.dap_transcript.specs.{Transcript.written, Walk.{StartsWith, entries_text}}

-- The member is not written.
abbrev pub omits : Omitted → List ℕ → Bool
omits o k =
    bytes_eq k (codes "type")
    || (bytes_eq k (name_key o.kind)
    || ((bytes_eq k (codes "seq") && o.seq)
    || ((bytes_eq k (codes "request_seq") && o.request_seq)
    || (bytes_eq k (codes "success") && o.success))))

-- A member that waits: the name under which it is written, and its value.
abbrev pub Renamed : Type 0
Renamed = List ℕ × Doc

-- The members, and among them the waiting one, if there is one.
abbrev pub with_waiting : Option Renamed → Members → Members
with_waiting None ms = ms
with_waiting (Some r) ms = put r.0 r.1 ms

-- The lines of the members of a message.
abbrev pub lines : Members → List ℕ
lines ms = member_lines 2 2 ms

-- This is the waiting member. It has a name of a head.
abbrev pub IsWaiting : Waiting → Renamed → Type 0
IsWaiting w r =
    (r.0 ≡ w.name.now ++ codes "_") × (names_head w.name.now ≡ true)
    × ((more : List ℕ) × StartsWith w.value.now r.1 more)

abbrev pub Waits : Option Waiting → Option Renamed → Type 0
Waits None None = ⊤
Waits None (Some r) = ⊥
Waits (Some w) None = ⊥
Waits (Some w) (Some r) = IsWaiting w r

-- The name of what waits comes after this name.
abbrev pub IsAfter : List ℕ → Option Renamed → Type 0
IsAfter k None = ⊤
IsAfter k (Some r) = is_gt (slice_cmp nat_cmp r.0 k) ≡ true

-- What waited before the member of this name was written, or it is to be written after it.
pub record Settled (k old new : List ℕ) (before : Option Renamed) (left : Option Waiting) : Type 0
  where
    pub still : Option Renamed
    pub waits : Waits left still
    pub after : IsAfter k still
    pub lines_are : (e : Doc) (ms : Members) → is_below_all k ms ≡ true
        → old ++ lines (with_waiting before (put (member_name k) e ms))
        ≡ new ++ lines (with_waiting still (put (member_name k) e ms))

-- `inside` is the name without its quotes.
abbrev pub Settles : List ℕ → Option Waiting → List ℕ → List ℕ → Option Waiting → Type 0
Settles inside waiting old new left =
    (k : List ℕ) (before : Option Renamed) → inside ≡ json.escape k → Waits waiting before
    → Settled k old new before left

-- The member of this name was passed: it was written, or it waits, or it is omitted.
pub record Passed (omitted : Bool) (k old new : List ℕ) (before : Option Renamed) (e : Doc)
    (left : Option Waiting) : Type 0 where
  pub still : Option Renamed
  pub waits : Waits left still
  pub lines_are : (ms : Members) → is_below_all k ms ≡ true
      → old ++ lines (with_waiting before (cond omitted ms (put (member_name k) e ms)))
      ≡ new ++ lines (with_waiting still ms)

-- The same for the member of these texts, and this follows it.
abbrev pub Passes : (List ℕ → Bool) → List ℕ → List ℕ → Option Waiting → List ℕ → List ℕ → List ℕ
    → Option Waiting → Type 0
Passes omitted name value waiting old new rest left =
    (k : List ℕ) (e : Doc) (more : List ℕ) (before : Option Renamed) → name ≡ text_of (text k)
    → StartsWith value e more → Waits waiting before
    → Passed (omitted k) k old new before e left × (rest ≡ more)

-- What waited was written last.
abbrev pub Finishes : Option Waiting → List ℕ → List ℕ → Type 0
Finishes waiting old new = (still : Option Renamed) → Waits waiting still
    → new ≡ old ++ lines (with_waiting still no_members)

-- The lines of one or more members and of what waits were appended.
abbrev pub PushesWritten : (List ℕ → Bool) → Option Waiting → List ℕ → List ℕ → List ℕ → Type 0
PushesWritten omitted waiting s old new =
    (still : Option Renamed) (k : List ℕ) (d : Doc) (ms : Members) (more : List ℕ)
    → Waits waiting still → s ≡ entries_text false (member k d ms) ++ more
    → members_ordered (member k d ms) ≡ true
    → new ≡ old ++ lines (with_waiting still (written omitted (member k d ms)))

-- For a loop: if what is left is appended, then all of the text is.
abbrev pub CompletesWritten : (List ℕ → Bool) → List ℕ → List ℕ → Option Waiting → List ℕ → List ℕ
    → Type 0
CompletesWritten omitted s old waiting left now =
    (new : List ℕ) → PushesWritten omitted waiting left now new
    → PushesWritten omitted None s old new
