-- Frames are the items of a grammar: a header part, and as many bytes as it states.
use Rattle.std.proofs.Common.{◌≡◌, ℕ, ◌+◌, ◌<◌, ◌≤◌, List, [], ◌++◌, length, take, drop, Result, Ok}
use Rattle.std.proofs.Common.{Err, refl, sym, ap, ◌∙◌, subst, arith}
use Rattle.std.proofs.lemmas.List.{take_at, take-append-drop, take-take, length-append, length-drop}
use Rattle.std.proofs.lemmas.List.{length-take-le, nil_from_length}
use Rattle.std.proofs.lemmas.Bool.{false≢true}
use Rattle.dap_frame.specs.Grammar.{IsGrammar, NoEmptyItem}
use Rattle.dap_frame.specs.Combinators.{in_first, in_second, first_open, second_open}
use Rattle.dap_frame.proofs.Ends.{IsReadable}
use Rattle.dap_frame.proofs.Fronts.{same_front}
use Rattle.dap_frame.proofs.Then.{and_then_grammar, so_many_grammar}
use Rattle.dap_frame.specs.declared.limits.FrameLimits.{FrameLimits}
use Rattle.dap_frame.specs.declared.fault.FrameFault.{FrameFault}
use Rattle.dap_frame.specs.Limits.{IsSound}
use Rattle.dap_frame.specs.Lines.{header_end, Lacks, ends_at}
use Rattle.dap_frame.specs.Frame.{BeginsWith, EndsHeader, in_header, too_long, IsFrame, IsOpen}
use Rattle.dap_frame.specs.Frame.{headers, frames}
use Rattle.dap_frame.proofs.ByteEnds.{no_header_end}
use Rattle.dap_frame.proofs.HeaderFindings.{judged-small}
use Rattle.dap_frame.proofs.MarkEnds.{BeginsWith-front, BeginsWith-more}
use Rattle.dap_frame.proofs.Outcomes.{some_header}
use Rattle.dap_frame.proofs.OneHeader.{begins_one, no_end}

module _ (limits : FrameLimits) where
  -- a header part within the limit does not end after a prefix as long as the limit in which no
  -- header part ends
  late : (f o y z : List ℕ) (a : Result ℕ FrameFault) → f ++ y ≡ o ++ z
      → BeginsWith limits f (length f) a
      → length o ≡ limits.header → Lacks header_end o → ⊥
  late f o y z a e begins long lacks =
      no_end limits (o ++ z) (length f) a
      (subst (λ x. BeginsWith limits x (length f) a) e
      (BeginsWith-more limits f y (length f) a begins))
      (subst (Lacks header_end) (sym (take_at o z limits.header long)) lacks)

  one_header : (f o y z : List ℕ) (a b : Result ℕ FrameFault) → f ++ y ≡ o ++ z
      → EndsHeader limits f a → EndsHeader limits o b → (f ≡ o) × (a ≡ b)
  one_header f o y z a b e (in_header p) (in_header q) =
      let one = begins_one limits (o ++ z) (length f) (length o) a b
      (subst (λ x. BeginsWith limits x (length f) a) e (BeginsWith-more limits f y (length f) a p))
      (BeginsWith-more limits o z (length o) b q) in
      (same_front f o y z e one.0, one.1)
  one_header f o y z a b e (in_header p) (too_long long lacks) =
      absurd (late f o y z a e p long lacks)
  one_header f o y z a b e (too_long long lacks) (in_header q) =
      absurd (late o f z y b (sym e) q long lacks)
  one_header f o y z a b e (too_long long lacks) (too_long long' lacks') =
      (same_front f o y z e (long ∙ sym long'), refl)

  header_not_open : (f y : List ℕ) (a : Result ℕ FrameFault) → EndsHeader limits f a
      → (headers limits).IsOpen (f ++ y) → ⊥
  header_not_open f y a (in_header p) q =
      let more = BeginsWith-more limits f y (length f) a p in
      false≢true (sym (q.1 (length f) more.ended.within) ∙ more.ended.ends)
  header_not_open f y a (too_long long lacks) q = omega (arith, q.0, length-append f y)

  pub frame_grammar : IsGrammar (frames limits)
  frame_grammar =
      and_then_grammar (λ fault. fault)
      (record {
        one_end = one_header;
        end_not_open = header_not_open;
        some_end = some_header limits;
      })
      (so_many_grammar (λ content. content))

  says_length : (bytes : List ℕ) (said : Result ℕ FrameFault) (n : ℕ) → EndsHeader limits bytes said
      → said ≡ Ok n → BeginsWith limits bytes (length bytes) (Ok n)
  says_length bytes said n (in_header p) e = subst (BeginsWith limits bytes (length bytes)) e p
  says_length bytes said n (too_long long lacks) e = absurd cc

  header_of : (bytes : List ℕ) (len n : ℕ) → BeginsWith limits bytes len (Ok n)
      → EndsHeader limits (take len bytes) (Ok n)
  header_of bytes len n begins =
      let long : length (take len bytes) ≡ len = length-take-le len bytes begins.ended.within in
      in_header (subst (λ k. BeginsWith limits (take len bytes) k (Ok n)) (sym long)
      (BeginsWith-front limits bytes (take len bytes) len (Ok n)
      (sym (take-take len len bytes (omega arith))) (omega (arith, long)) begins))

  -- the bytes after a header part are the content, or a prefix of it
  pub frame_of : (bytes content : List ℕ) (len n : ℕ) → BeginsWith limits bytes len (Ok n)
      → drop len bytes ≡ content → length content ≡ n → IsFrame limits bytes content
  frame_of bytes content len n begins behind exact =
      in_second (take len bytes) (drop len bytes) n (sym (take-append-drop len bytes))
      (header_of bytes len n begins)
      (ap Ok (sym behind), ap length behind ∙ exact)

  pub open_in_content : (bytes : List ℕ) (len n : ℕ) → BeginsWith limits bytes len (Ok n)
      → length bytes < len + n → IsOpen limits bytes
  open_in_content bytes len n begins short =
      second_open (take len bytes) (drop len bytes) n (sym (take-append-drop len bytes))
      (header_of bytes len n begins)
      (omega (arith, short, length-drop len bytes, begins.ended.within))

  pub open_at_first : 0 < limits.header → IsOpen limits []
  open_at_first some = first_open (some, no_header_end)

  pub readable : IsSound limits → IsReadable (frames limits)
  readable sound =
      record {
        grammar = frame_grammar;
        open_none = open_at_first (let low = sound.header_low in omega arith);
      }

  -- a content is within its limit, and no longer than its frame
  pub content_small : (frame content : List ℕ) → IsFrame limits frame content
      → (length content ≤ limits.content) × (length content ≤ length frame)
  content_small frame content (in_first fault p u) = absurd cc
  content_small frame content (in_second front more n e p q) =
      let header = says_length front (Ok n) n p refl in
      let small = judged-small limits header.says.lines n (sym header.says.said_so) in
      let same : content ≡ more = cc (q.0) in (
        omega (arith, small, ap length same, q.1),
        omega (arith, ap length same, ap length e, length-append front more),
      )

  -- the error of a frame is that of its header part
  pub header_fault : (bytes : List ℕ) (fault : FrameFault) → (frames limits).Ends bytes (Err fault)
      → EndsHeader limits bytes (Err fault)
  header_fault bytes fault (in_first other p u) = let same : other ≡ fault =
      cc in subst (λ x. EndsHeader limits bytes (Err x)) same p
  header_fault bytes fault (in_second front more n e p q) = absurd (let wrong = q.0 in cc)

  pub no_empty_frame : NoEmptyItem (frames limits)
  no_empty_frame content (in_first fault p u) = absurd cc
  no_empty_frame content (in_second front more n e p q) =
      let header = says_length front (Ok n) n p refl in
      let none : front ≡ [] =
      nil_from_length front (omega (arith, ap length e, length-append front more)) in
      false≢true (sym (ap (λ xs. ends_at header_end xs (length xs)) none
      ∙ no_header_end 0 (omega arith)) ∙ header.ended.ends)
