-- The rest that a framer represents after it has consumed bytes of a frame.
use Rattle.std.proofs.Common.{◌≡◌, ℕ, ◌+◌, ◌-◌, ◌<◌, ◌≤◌, List, [], ◌++◌, length, take, drop, min}
use Rattle.std.proofs.Common.{Result, Ok, Err, refl, sym, ap, ◌∙◌, subst, arith}
use Rattle.std.proofs.lemmas.List.{take-append-drop, take_all, append_assoc, length-append}
use Rattle.std.proofs.lemmas.List.{length-take-le, length-drop, drop-append-le, nil_from_length}
use Rattle.std.proofs.Math.Seq.{take-add}
use Rattle.dap_frame.specs.declared.limits.FrameLimits.{FrameLimits}
use Rattle.dap_frame.specs.declared.fault.FrameFault.{FrameFault}
use Rattle.dap_frame.specs.declared.framer.Framer.TheInside.{Inside}
use Rattle.dap_frame.specs.declared.framer.State.TheVariants.{Open}
use Rattle.dap_frame.specs.declared.progress.Progress.{Progress}
use Rattle.dap_frame.specs.declared.progress.Progress.TheVariants.{Content}
use Rattle.dap_frame.specs.declared.progress.HeaderTaken.{HeaderTaken}
use Rattle.dap_frame.specs.declared.progress.HeaderTaken.TheVariants.{Unfinished, Ended}
use Rattle.dap_frame.specs.declared.header_scan.HeaderScan.{HeaderScan}
use Rattle.dap_frame.specs.Frame.{BeginsWith, HasContentByte, HasFrame, IsFrame, IsOpen, FailsAt}
use Rattle.dap_frame.specs.Reading.{Reading, Represents, IsKeptOf, IsKeptBy}
use Rattle.dap_frame.specs.Framer.{reading, progress_in}
use Rattle.dap_frame.specs.Progress.{GoesOn, HasEnded, IsAtContent, ShowsInHeader, TakesHeader}
use Rattle.dap_frame.specs.Progress.{TakesRestOfHeader}
use Rattle.dap_frame.proofs.MarkEnds.{BeginsWith-more}
use Rattle.dap_frame.proofs.Frames.{frame_grammar, frame_of, open_in_content}
use Rattle.dap_frame.proofs.Ends.{item_not_faulty, item_not_open, one_item}
use Rattle.dap_frame.specs.Combinators.{first_open}

-- the fields represent the rest that the framer represents
pub kept_of : (fields : Inside) (framer : Reading) (progress : Progress) (rest : List ℕ)
    → reading fields ≡ framer
    → fields.state ≡ Open progress → Represents framer rest
    → IsKeptOf fields.limits progress fields.bytes.items rest
kept_of fields framer progress rest view is represents =
    let inside = subst (λ (r : Reading). Represents r rest) (sym view) represents in
    subst (λ s. IsKeptBy fields.limits (progress_in s) fields.bytes.items rest) is inside.kept

-- if the header part had not ended
pub rest_taken : (limits : FrameLimits) (bytes rest piece : List ℕ)
    (result : Result HeaderTaken FrameFault)
    → bytes ≡ [] → TakesHeader limits rest piece result
    → TakesRestOfHeader limits bytes rest piece result
rest_taken limits bytes rest piece (Ok (Unfinished scan)) e h = (e, h)
rest_taken limits bytes rest piece (Ok (Ended header_len content used)) e h =
    let some = h.some in
    let header_len_is = h.header_len_is in
    record {
      within = h.within;
      progress = omega (arith, some);
      room = omega (arith, ap length e);
      header = h.header;
      behind = nil_from_length (drop header_len (rest ++ take used piece))
          (omega (arith, header_len_is, length-drop header_len (rest ++ take used piece))) ∙ sym e;
      small = h.small;
    }
rest_taken limits bytes rest piece (Err fault) e h = (e, h)

module _ (limits : FrameLimits) (bytes rest piece new : List ℕ) (header_len content used more : ℕ)
    (begun : IsAtContent limits bytes rest piece header_len content used)
    (most : more ≡ min (content - length bytes) (length (drop used piece)))
    (is : new ≡ bytes ++ take more (drop used piece)) where
  joined : (rest ++ take used piece) ++ take more (drop used piece)
      ≡ rest ++ take (used + more) piece
  joined = append_assoc rest (take used piece) _
      ∙ ap (λ xs. rest ++ xs) (sym (take-add used more piece))

  begins : BeginsWith limits (rest ++ take (used + more) piece) header_len (Ok content)
  begins = subst (λ b. BeginsWith limits b header_len (Ok content)) joined
      (BeginsWith-more limits (rest ++ take used piece) (take more (drop used piece)) header_len
      (Ok content) begun.header)

  behind : drop header_len (rest ++ take (used + more) piece) ≡ new
  behind =
      ap (drop header_len) (sym joined)
      ∙ drop-append-le header_len (rest ++ take used piece) (take more (drop used piece))
      begun.header.ended.within
      ∙ ap (λ xs. xs ++ take more (drop used piece)) begun.behind ∙ sym is

  len : length new ≡ length bytes + more
  len = omega (
    arith,
    ap length is,
    length-append bytes (take more (drop used piece)),
    length-take-le more (drop used piece) (omega arith),
  )

  fits : used + more ≤ length piece
  fits = omega (arith, begun.within, length-drop used piece)

  pub fed_open : length new < content
      → IsKeptOf limits (Content header_len content) new (rest ++ piece)
      × IsOpen limits (rest ++ piece)
  fed_open short =
      let room = begun.room in
      let all : length piece ≤ used + more = omega (arith, len, length-drop used piece) in
      let whole : rest ++ take (used + more) piece ≡ rest ++ piece =
      ap (λ xs. rest ++ xs) (take_all (used + more) piece all) in
      let header = subst (λ b. BeginsWith limits b header_len (Ok content)) whole begins in
      let left : drop header_len (rest ++ piece) ≡ new =
      ap (drop header_len) (sym whole) ∙ behind in
      let long : length (rest ++ piece) < header_len + content =
      omega (arith, ap length left, length-drop header_len (rest ++ piece), header.ended.within)
      in
      ((header, left, short), open_in_content limits (rest ++ piece) header_len content header long)

  pub fed_frame : content ≤ length new
      → (used + more ≤ length piece) × IsFrame limits (rest ++ take (used + more) piece) new
  fed_frame long =
      let room = begun.room in
      let exact : length new ≡ content = omega (arith, len) in (
        fits,
        frame_of limits (rest ++ take (used + more) piece) new header_len content begins behind
            exact,
      )

-- a chunk that starts with a header part and as many bytes as it states
pub frame_in : (limits : FrameLimits) (piece : List ℕ) (header_len content_len used : ℕ)
    → HasEnded limits [] piece header_len content_len used
    → content_len ≤ length piece - used
    → (content : List ℕ) × IsFrame limits (take (used + content_len) piece) content
frame_in limits piece header_len content_len used ended short =
    let begun = rest_taken limits [] [] piece (Ok (Ended header_len content_len used)) refl ended
    in
    let content : List ℕ = take content_len (drop used piece) in
    let behind = length-drop used piece in (
      content,
      (fed_frame limits [] [] piece content header_len content_len used content_len begun
          (omega (arith, behind)) refl
          (omega (arith, behind, length-take-le content_len (drop used piece) (omega arith)))).1,
    )

-- memory is allocated only for bytes of a content
pub content_byte : (limits : FrameLimits) (bytes rest piece : List ℕ)
    (header_len content_len used : ℕ)
    → IsAtContent limits bytes rest piece header_len content_len used
    → 0 < content_len → 0 < length (drop used piece) → HasContentByte limits (rest ++ piece)
content_byte limits bytes rest piece header_len content_len used begun wanted some =
    let front : List ℕ = rest ++ take used piece in
    let whole : front ++ drop used piece ≡ rest ++ piece =
    append_assoc rest (take used piece) (drop used piece)
    ∙ ap (λ xs. rest ++ xs) (take-append-drop used piece) in
    record {
      len = header_len;
      content_len = content_len;
      header = subst (λ xs. BeginsWith limits xs header_len (Ok content_len)) whole
          (BeginsWith-more limits front (drop used piece) header_len (Ok content_len) begun.header);
      some = wanted;
      byte = omega (
        arith,
        begun.header.ended.within,
        some,
        ap length whole,
        length-append front (drop used piece),
      );
    }

-- ---- whether the frame ends in the chunk

-- the rest, the first n bytes of the chunk, and the remaining bytes
split_piece : (rest piece : List ℕ) (n : ℕ) → rest ++ piece ≡ (rest ++ take n piece) ++ drop n piece
split_piece rest piece n =
    sym (append_assoc rest (take n piece) (drop n piece)
    ∙ ap (λ xs. rest ++ xs) (take-append-drop n piece))

module _ (limits : FrameLimits) (bytes rest piece : List ℕ) (header_len content_len used : ℕ)
    (begun : IsAtContent limits bytes rest piece header_len content_len used) where
  abbrev content_in : ℕ → List ℕ
  content_in more = bytes ++ take more (drop used piece)

  -- the frame, if the chunk has as many bytes left as its content needs
  whole_in : (more : ℕ) → more ≡ content_len - length bytes → more ≤ length piece - used
      → (length (content_in more) ≡ content_len)
      × IsFrame limits (rest ++ take (used + more) piece) (content_in more)
  whole_in more is enough =
      let room = begun.room in
      let behind = length-drop used piece in
      let taken = length-take-le more (drop used piece) (omega (arith, behind, enough)) in
      let long : length (content_in more) ≡ content_len =
      omega (arith, taken, room, is, length-append bytes (take more (drop used piece))) in (
        long,
        (fed_frame limits bytes rest piece (content_in more) header_len content_len used more begun
            (omega (arith, behind, is, enough)) refl (omega (arith, long))).1,
      )

  pub ends_in : content_len - length bytes ≤ length piece - used
      → (0 < length piece) × HasFrame limits (rest ++ piece)
  ends_in enough =
      let left : ℕ = content_len - length bytes in
      let within = begun.within in
      let progress = begun.progress in (
        omega (arith, within, progress, enough),
        record {
          item = rest ++ take (used + left) piece;
          more = drop (used + left) piece;
          value = content_in left;
          bytes_are = split_piece rest piece (used + left);
          is_item = (whole_in left refl enough).1;
        },
      )

  -- a frame that ends in the chunk has the content length that its header part states
  module _ (content : List ℕ) (n : ℕ) (frame : IsFrame limits (rest ++ take n piece) content) where
    pub content_len_is : content_len - length bytes ≤ length piece - used
        → content_len ≡ length content
    content_len_is enough =
        let more : ℕ = content_len - length bytes in
        let whole = whole_in more refl enough in
        let same = one_item (frame_grammar limits) (rest ++ take (used + more) piece)
        (rest ++ take n piece) (drop (used + more) piece) (drop n piece) (content_in more) content
        (sym (split_piece rest piece (used + more)) ∙ split_piece rest piece n) whole.1 frame in
        sym whole.0 ∙ ap length same.1

    -- the chunk then has as many bytes left as the content needs
    pub not_short : length piece - used < content_len - length bytes → ⊥
    not_short short =
        let more : ℕ = length (drop used piece) in
        let behind = length-drop used piece in
        let within = begun.within in
        let taken = length-take-le more (drop used piece) (omega arith) in
        let few : length (content_in more) < content_len =
        omega (arith, behind, taken, short, length-append bytes (take more (drop used piece))) in
        let is_open = (fed_open limits bytes rest piece (content_in more) header_len content_len
        used more begun (omega (arith, behind, short)) refl few).1 in
        item_not_open (frame_grammar limits) (rest ++ take n piece) (drop n piece) content frame
        (subst (IsOpen limits) (split_piece rest piece n) is_open)

module _ (limits : FrameLimits) (rest piece content : List ℕ) (n : ℕ)
    (frame : IsFrame limits (rest ++ take n piece) content) where
  -- if a frame ends in the chunk, its header part also ends there
  pub not_unfinished : (scan : HeaderScan) → GoesOn limits rest piece scan → ⊥
  not_unfinished scan goes_on =
      item_not_open (frame_grammar limits) (rest ++ take n piece) (drop n piece) content frame
      (subst (IsOpen limits) (split_piece rest piece n)
      (first_open (goes_on.short, goes_on.scanned.lacks)))

  -- its header part then has no error
  pub not_faulty : (fault : FrameFault) → ShowsInHeader limits rest piece fault → ⊥
  not_faulty fault shows =
      item_not_faulty (frame_grammar limits) (rest ++ take n piece) (drop n piece) content fault
      shows.place frame
      (subst (λ xs. FailsAt limits xs fault shows.place) (split_piece rest piece n) shows.shown)
