-- A joiner represents one item more after it is added, and its output at the end is the joined
-- text.
use Rattle.std.proofs.Common.{◌≡◌, ℕ, ◌+◌, true, false, List, [], ◌∷◌, ◌++◌, map}
use Rattle.std.proofs.Common.{length, refl, sym, ◌∙◌, ap, subst, arith}
use Rattle.std.proofs.Common.{append_assoc, append-nil}
use Rattle.std.proofs.lemmas.List.Concat.{flat_map-append}
use Rattle.std.specs.List.{flat_map}
use Rattle.dap_input.specs.declared.limits.Limits.{Limits}
use Rattle.dap_normalise.specs.Accepting.{Payload}
use Rattle.dap_normalise.specs.RecordTexts.{FitRecords}
use Rattle.dap_join.specs.Outputs.{Item, Output, output, other, AreItems, IsPart}
use Rattle.dap_join.specs.Joined.{Group, add_part, first_segment, gathered}
use Rattle.dap_join.specs.Joined.{groups_after, joined, joined_output, kept}
use Rattle.dap_join.specs.Joined.{later_segments, others, starts}
use Rattle.dap_join.specs.JoiningSteps.{Adds, Ends, Represents, StartsEmpty, Writes, gathered_on}
use Rattle.dap_join.specs.JoiningSteps.{groups_shown, IsWritten}
use Rattle.dap_mask.specs.declared.joining.Joining.{Joining}
use Rattle.dap_mask.specs.declared.joining.Joining.TheVariants.{Whole, PerStop}
use Rattle.dap_join.specs.declared.joiner.Joiner.{Joiner}

pub groups_after-append : (groups : List Group) (items more : List Item)
    → groups_after groups (items ++ more) ≡ groups_after (groups_after groups items) more
groups_after-append groups [] more = refl
groups_after-append groups (item ∷ items) more =
    groups_after-append (add_part item.number item.part groups) items more

pub others-append : (items more : List Item) → others (items ++ more) ≡ others items ++ others more
others-append items more =
    flat_map-append (λ (item : Item). kept item.number item.held item.part) items more

-- The items of an open segment, and one more, which does not start a segment.
goes_on : (joining : Joining) (current : List Item) (item : Item) (more : List Item)
    → starts joining item.part ≡ false
    → gathered_on joining current (item ∷ more)
    ≡ gathered_on joining (current ++ item ∷ []) more
goes_on joining current item more apart =
    rw apart
    (ap (λ is. gathered is ++ flat_map gathered (later_segments joining more))
    (sym (append_assoc current (item ∷ []) (first_segment joining more))))

-- The same with an item that starts a segment.
starts_new : (joining : Joining) (current : List Item) (item : Item) (more : List Item)
    → starts joining item.part ≡ true
    → gathered_on joining current (item ∷ more)
    ≡ gathered current ++ gathered_on joining (item ∷ []) more
starts_new joining current item more here =
    rw here
    (ap (λ is. gathered is
    ++ (gathered (item ∷ first_segment joining more)
    ++ flat_map gathered (later_segments joining more)))
    (append-nil current))

pub starts_no_output : (joining : Joining) (o : Output) → starts joining (output o) ≡ false
starts_no_output Whole o = refl
starts_no_output PerStop o = refl

pub starts_no_other : (joining : Joining) → starts joining other ≡ false
starts_no_other Whole = refl
starts_no_other PerStop = refl

module _ (limits : Limits) (joining : Joining) (old new : Joiner) (item : Item) where
  -- The item belongs to the open segment.
  pub adds : starts joining item.part ≡ false
      → groups_shown new.groups ≡ add_part item.number item.part (groups_shown old.groups)
      → Writes limits old.writing new.writing (kept item.number item.held item.part)
      → Adds limits joining old new item
  adds apart grouped writes items was = record {
    settled = was.settled;
    current = was.current ++ item ∷ [];
    split = λ more.
        ap (joined joining) (append_assoc items (item ∷ []) more)
        ∙ was.split (item ∷ more)
        ∙ ap (λ t. was.settled ++ t) (goes_on joining was.current item more apart);
    groups_are = grouped ∙ ap (add_part item.number item.part) was.groups_are
        ∙ sym (groups_after-append [] was.current (item ∷ []));
    written = subst (IsWritten limits new.writing)
        (append_assoc was.settled (others was.current) (kept item.number item.held item.part)
        ∙ ap (λ t. was.settled ++ t)
        (ap (λ t. others was.current ++ t)
        (sym (append-nil (kept item.number item.held item.part)))
        ∙ sym (others-append was.current (item ∷ []))))
        (writes (was.settled ++ others was.current) was.written);
  }

  -- The item starts a segment, after the output of the segment before it is written.
  pub adds_start : (ended : Joiner) → starts joining item.part ≡ true
      → Ends limits old ended
      → groups_shown new.groups ≡ add_part item.number item.part (groups_shown ended.groups)
      → Writes limits ended.writing new.writing (kept item.number item.held item.part)
      → Adds limits joining old new item
  adds_start ended here ends grouped writes items was = record {
    settled = was.settled ++ gathered was.current;
    current = item ∷ [];
    split = λ more.
        ap (joined joining) (append_assoc items (item ∷ []) more)
        ∙ was.split (item ∷ more)
        ∙ ap (λ t. was.settled ++ t) (starts_new joining was.current item more here)
        ∙ sym (append_assoc was.settled (gathered was.current)
        (gathered_on joining (item ∷ []) more));
    groups_are = grouped ∙ ap (add_part item.number item.part) ends.none;
    written = subst (IsWritten limits new.writing)
        (ap (λ t. (was.settled ++ gathered was.current) ++ t)
        (sym (append-nil (kept item.number item.held item.part))))
        (writes (was.settled ++ gathered was.current)
        (subst (IsWritten limits ended.writing)
        (append_assoc was.settled (others was.current)
        (map joined_output (groups_shown old.groups))
        ∙ ap (λ gs. was.settled ++ (others was.current ++ map joined_output gs))
        was.groups_are)
        (ends.writes (was.settled ++ others was.current) was.written)));
  }

-- After the last segment, the joined records are written.
pub all_written : (limits : Limits) (joining : Joining) (old new : Joiner) (items : List Item)
    → Represents limits joining old items → Ends limits old new
    → IsWritten limits new.writing (joined joining items)
all_written limits joining old new items was ends =
    subst (IsWritten limits new.writing)
    (append_assoc was.settled (others was.current) (map joined_output (groups_shown old.groups))
    ∙ ap (λ gs. was.settled ++ (others was.current ++ map joined_output gs)) was.groups_are
    ∙ sym (ap (joined joining) (sym (append-nil items)) ∙ was.split []
    ∙ ap (λ t. was.settled ++ t)
    (append-nil (gathered (was.current ++ [])) ∙ ap gathered (append-nil was.current))))
    (ends.writes (was.settled ++ others was.current) was.written)

pub fit_none : (limits : Limits) → FitRecords limits []
fit_none limits = record { each = tt; whole = omega arith }

-- A joiner without items.
pub represents_none : (limits : Limits) (joining : Joining) (joiner : Joiner) → StartsEmpty joiner
    → Represents limits joining joiner []
represents_none limits joining joiner empty = record {
  settled = [];
  current = [];
  split = λ more. refl;
  groups_are = empty.groups;
  written = rw (empty.grown, empty.recording, empty.numbers) (fit_none limits, refl, refl);
}

-- One more item of a recording.
pub items_on : (n : ℕ) (records : List Payload) (items : List Item) (item : Item)
    → AreItems n records items → item.number ≡ n + length records → IsPart item.held item.part
    → AreItems n (records ++ item.held ∷ []) (items ++ item ∷ [])
items_on n [] [] item all number is_part = (omega (arith, number), refl, is_part, tt)
items_on n [] (first ∷ items) item all number is_part = absurd all
items_on n (held ∷ records) [] item all number is_part = absurd all
items_on n (held ∷ records) (first ∷ items) item all number is_part = (
  all.0,
  all.1,
  all.2,
  items_on (n + 1) records items item all.3 (omega (arith, number)) is_part,
)
