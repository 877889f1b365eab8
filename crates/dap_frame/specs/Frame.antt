-- Frames, and what the bytes of a stream contain ("Base Protocol" of the Debug Adapter Protocol).
use Rattle.std.specs.Prelude.{◌≡◌, ℕ, ◌<◌, ◌≤◌, not, if◌then◌else◌, List, [], ◌∷◌, ◌++◌, length}
use Rattle.std.specs.Prelude.{take, nat_le, Result, Ok, Err, map, filter, codes, decimal}
use Rattle.std.specs.List.{list_all}
use Rattle.dap_frame.specs.Grammar as items
use Rattle.dap_frame.specs.Grammar.{Grammar, IsItem, ParsesAs, HasItem, IsStream}
use Rattle.dap_frame.specs.Combinators.{and_then, take_bytes}
use Rattle.dap_frame.specs.declared.limits.FrameLimits.{FrameLimits}
use Rattle.dap_frame.specs.declared.fault.FrameFault.{FrameFault}
use Rattle.dap_frame.specs.declared.fault.FrameFault.TheVariants.{HeaderLine, NoLength, TwoLengths}
use Rattle.dap_frame.specs.declared.fault.FrameFault.TheVariants.{BadLength, HeaderTooLong}
use Rattle.dap_frame.specs.declared.fault.FrameFault.TheVariants.{ContentTooLong}
use Rattle.dap_frame.specs.Lines.{header_end, IsFirstEnd, Lacks, AreLines, is_field_line}
use Rattle.dap_frame.specs.Lines.{is_length_line, value_of, trimmed, is_length_text, number_of}

-- the length that the value of a single length field states: 1 to 10 digits, and a number within
-- the limit (own)
abbrev pub length_from : FrameLimits → List ℕ → Result ℕ FrameFault
length_from limits text =
    if not (is_length_text text) then Err BadLength
    else (if nat_le (number_of text) limits.content then Ok (number_of text) else Err
    ContentTooLong)

-- the length that the values of the fields named Content-Length state: there must be exactly one
-- (own)
abbrev pub the_length : FrameLimits → List (List ℕ) → Result ℕ FrameFault
the_length limits [] = Err NoLength
the_length limits (value ∷ []) = length_from limits (trimmed value)
the_length limits (value ∷ other ∷ values) = Err TwoLengths

-- the values of the fields named Content-Length, in order
abbrev pub lengths_in : List (List ℕ) → List (List ℕ)
lengths_in lines = map value_of (filter is_length_line lines)

-- the content's length that the lines of a header part state, or the first error that applies to
-- them (own order)
abbrev pub parsed_length : FrameLimits → List (List ℕ) → Result ℕ FrameFault
parsed_length limits lines =
    if list_all is_field_line lines then the_length limits (lengths_in lines) else Err HeaderLine

-- The lines of this header part state this result.
pub record HeaderGivesLength (limits : FrameLimits) (header : List ℕ) (said : Result ℕ FrameFault)
    : Type 0 where
  pub lines : List (List ℕ)
  pub are_lines : AreLines header lines
  pub said_so : said ≡ parsed_length limits lines

-- The bytes start with a header part of this length, within the limit, which states this result.
pub record BeginsWith (limits : FrameLimits) (bytes : List ℕ) (len : ℕ)
    (said : Result ℕ FrameFault) : Type 0 where
  pub ended : IsFirstEnd header_end bytes len
  pub within : len ≤ limits.header
  pub says : HeaderGivesLength limits (take len bytes) said

-- The bytes start with a header part that states a length other than 0, and a byte of the content
-- has arrived.
pub record HasContentByte (limits : FrameLimits) (bytes : List ℕ) : Type 0 where
  pub len : ℕ
  pub content_len : ℕ
  pub header : BeginsWith limits bytes len (Ok content_len)
  pub some : 0 < content_len
  pub byte : len < length bytes

-- the frame that is written for a content (own: only this field, one space, no leading zeros)
abbrev pub frame_text : List ℕ → List ℕ
frame_text content =
    codes "Content-Length: " ++ decimal (length content) ++ codes "\r\n\r\n" ++ content

-- The last of the bytes determines this result of a header part (own): it ends there; or it is as
-- long as its limit and has not ended.
pub data EndsHeader (limits : FrameLimits) (bytes : List ℕ) : Result ℕ FrameFault → Type 0 where
  in_header : {said : Result ℕ FrameFault} → BeginsWith limits bytes (length bytes) said
      → EndsHeader limits bytes said
  too_long : length bytes ≡ limits.header → Lacks header_end bytes
      → EndsHeader limits bytes (Err HeaderTooLong)

-- header parts as items, whose values are lengths
abbrev pub headers : FrameLimits → Grammar ℕ FrameFault
headers limits = record {
  Ends = EndsHeader limits;
  IsOpen = λ bytes. (length bytes < limits.header) × Lacks header_end bytes;
}

-- frames as the items of a stream (DAP base protocol): a header part, and as many bytes of content
-- as it states
abbrev pub frames : FrameLimits → Grammar (List ℕ) FrameFault
frames limits = and_then (headers limits) (take_bytes (λ content. content)) (λ fault. fault)

-- The bytes are one frame with this content.
abbrev pub IsFrame : FrameLimits → List ℕ → List ℕ → Type 0
IsFrame limits = IsItem (frames limits)

-- The bytes are incomplete (own): their header part has not ended, or part of the content is
-- missing.
abbrev pub IsOpen : FrameLimits → List ℕ → Type 0
IsOpen limits = (frames limits).IsOpen

-- the general definitions for items, applied to frames
abbrev pub AreFrames : FrameLimits → List ℕ → List (List ℕ) → Type 0
AreFrames limits = ParsesAs (frames limits)

abbrev pub HasFrame : FrameLimits → List ℕ → Type 0
HasFrame limits = HasItem (frames limits)

abbrev pub Stream : FrameLimits → List ℕ → List (List ℕ) → List ℕ → Type 0
Stream limits = IsStream (frames limits)

abbrev pub FailsAt : FrameLimits → List ℕ → FrameFault → ℕ → Type 0
FailsAt limits = items.FailsAt (frames limits)
