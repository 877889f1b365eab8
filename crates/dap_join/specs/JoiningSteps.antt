-- What the steps of joining a recording do, for private clauses. Source: own.
use Rattle.std.specs.Prelude.{◌≡◌, ℕ, false, List, [], ◌∷◌, ◌++◌, map, Option, Some, None, String}
use Rattle.std.specs.Prelude.{string_bytes}
use Rattle.std.specs.List.{flat_map}
use Rattle.std.specs.BTreeMap.{BTreeMap}
use Rattle.std.specs.declared.alloc.Global.{Global}
use Rattle.dap_tree.specs.{Doc.Doc, Json.IsRead, declared.side.Side.Side}
use Rattle.dap_profile.specs.declared.profile.Kind.TheVariants.{Event}
use Rattle.dap_message.specs.Rows.{is_of_kind}
use Rattle.dap_recording.specs.Recording.{recording_text}
use Rattle.dap_input.specs.declared.limits.Limits.{Limits}
use Rattle.dap_input.specs.declared.refused.Refused.{Refused}
use Rattle.dap_input.specs.declared.refused.Refused.TheVariants.{Memory}
use Rattle.dap_input.specs.Refusals.{IsRefused}
use Rattle.dap_normalise.specs.Accepting.{Payload}
use Rattle.dap_normalise.specs.RecordTexts.{FitRecords}
use Rattle.dap_join.specs.Outputs.{IsPart, Item, Output, Part, output, stopped, other, part_of}
use Rattle.dap_join.specs.Joined.{Group as Gathered, Numbered, first_segment, gathered, groups_of}
use Rattle.dap_join.specs.Joined.{joined, joined_output, later_segments, others}
use Rattle.dap_join.specs.Joining.{GrowsAt, IsSplit, numbers_of, payloads, splitting}
use Rattle.dap_mask.specs.declared.joining.Joining.{Joining}
use Rattle.dap_join.specs.declared.event.LentOutput.{LentOutput}
use Rattle.dap_join.specs.declared.event.LentPart.{LentPart}
use Rattle.dap_join.specs.declared.event.LentPart.TheVariants as lent
use Rattle.dap_join.specs.declared.groups.Group.{Group}
use Rattle.dap_join.specs.declared.writing.Writing.{Writing}
use Rattle.dap_join.specs.declared.joiner.Joiner.{Joiner}

-- The output and the part that are borrowed from a content.
abbrev pub output_shown : LentOutput → Output
output_shown o = record { seq = o.seq; category = o.category.now; text = o.text.now }

abbrev pub part_shown : LentPart → Part
part_shown (lent.Output o) = output (output_shown o)
part_shown lent.Stopped = stopped
part_shown lent.Other = other

-- What a record is for joining, by its document if it was read.
abbrev pub part_if_read : Side → Option Doc → Part
part_if_read side None = other
part_if_read side (Some d) = part_of side d

-- The content is not that of an event.
abbrev pub IsNoEvent : List ℕ → Type 0
IsNoEvent content = (d : Doc) → IsRead content d → is_of_kind Event d ≡ false

-- The groups in a map from their categories.
abbrev pub group_shown : String Global × Group → Gathered
group_shown entry = record {
  number = entry.1.number;
  seq = entry.1.seq;
  category = string_bytes entry.0;
  text = string_bytes entry.1.text;
}

abbrev pub groups_shown : BTreeMap (String Global) Group → List Gathered
groups_shown groups = map group_shown groups.entries

-- The text and the numbers of these records are written; or a limit is exceeded with one of them.
abbrev pub AreWritten : Limits → Option ℕ → List ℕ → List ℕ → List Numbered → Type 0
AreWritten limits None text numbers records =
    FitRecords limits (payloads records) × (text ≡ recording_text (payloads records))
    × (numbers ≡ numbers_of records)
AreWritten limits (Some number) text numbers records = GrowsAt limits records number

abbrev pub IsWritten : Limits → Writing → List Numbered → Type 0
IsWritten limits writing records =
    AreWritten limits writing.grown writing.recording.items writing.numbers.items records

-- After the old records, the new ones are written too.
abbrev pub Writes : Limits → Writing → Writing → List Numbered → Type 0
Writes limits old new more =
    (records : List Numbered) → IsWritten limits old records
    → IsWritten limits new (records ++ more)

-- The joined records of a recording that starts with these items of the segment.
abbrev pub gathered_on : Joining → List Item → List Item → List Numbered
gathered_on joining current more =
    gathered (current ++ first_segment joining more)
    ++ flat_map gathered (later_segments joining more)

-- The joiner represents these items: the segments that have ended are written, and so are the items
-- of the last one that are not output.
pub record Represents (limits : Limits) (joining : Joining) (joiner : Joiner)
    (items : List Item) : Type 0 where
  pub settled : List Numbered
  pub current : List Item
  pub split : (more : List Item)
      → joined joining (items ++ more) ≡ settled ++ gathered_on joining current more
  pub groups_are : groups_shown joiner.groups ≡ groups_of current
  pub written : IsWritten limits joiner.writing (settled ++ others current)

-- The new joiner represents one item more.
abbrev pub Adds : Limits → Joining → Joiner → Joiner → Item → Type 0
Adds limits joining old new item = (items : List Item) → Represents limits joining old items
    → Represents limits joining new (items ++ item ∷ [])

-- The new joiner represents one record more.
pub record AddsRecord (limits : Limits) (joining : Joining) (old new : Joiner) (number : ℕ)
    (held : Payload) : Type 0 where
  pub part : Part
  pub is_part : IsPart held part
  pub adds : Adds limits joining old new
      (record { number = number; held = held; part = part })

-- The output of the segment is written, and the new one is without output.
pub record Ends (limits : Limits) (old new : Joiner) : Type 0 where
  pub none : groups_shown new.groups ≡ []
  pub writes : Writes limits old.writing new.writing
      (map joined_output (groups_shown old.groups))

-- The joiner represents no items.
pub record StartsEmpty (joiner : Joiner) : Type 0 where
  pub groups : groups_shown joiner.groups ≡ []
  pub recording : joiner.writing.recording.items ≡ []
  pub numbers : joiner.writing.numbers.items ≡ []
  pub grown : joiner.writing.grown ≡ None

-- The bytes are a recording, and the joiner represents its items.
pub record HasRead (limits : Limits) (joining : Joining) (bytes : List ℕ) (joiner : Joiner) : Type 0
  where
    pub items : List Item
    pub split : IsSplit limits bytes items
    pub represents : Represents limits joining joiner items

-- The bytes are not a recording, for this reason, or an allocation failed.
abbrev pub RefusesToSplit : Limits → List ℕ → Refused → Type 0
RefusesToSplit limits bytes Memory = Unit {0}
RefusesToSplit limits bytes because = IsRefused (splitting limits) bytes because
