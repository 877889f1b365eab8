-- Framers are readers of frames.
use Rattle.std.proofs.Common.{◌≡◌, ◌≢◌, ℕ, List, [], ◌∷◌, ◌++◌, length, take, Option, Some, None}
use Rattle.std.proofs.Common.{MatchOption, Err, refl, sym, ap, ◌∙◌, subst, arith}
use Rattle.std.specs.Prelude.{option_to_list}
use Rattle.std.specs.List.{concat}
use Rattle.std.proofs.lemmas.List.{append-nil, take_all}
use Rattle.dap_frame.specs.Grammar.{ParsesAs}
use Rattle.dap_frame.proofs.ItemStreams.{one_item_alone}
use Rattle.dap_frame.proofs.Pieces as items
use Rattle.dap_frame.proofs.Pieces.{IsReader}
use Rattle.dap_frame.specs.declared.limits.FrameLimits.{FrameLimits}
use Rattle.dap_frame.specs.declared.fault.FrameFault.{FrameFault}
use Rattle.dap_frame.specs.declared.fault.FrameFault.TheVariants.{Memory}
use Rattle.dap_frame.specs.Frame.{IsFrame, IsOpen, Stream, FailsAt, frames}
use Rattle.dap_frame.specs.Reading.{Reading, Represents, HasFailed, limits_of}
use Rattle.dap_frame.specs.Feeding.{IsCall, Feeds, calls}
use Rattle.dap_frame.proofs.Frames.{frame_grammar}

-- The framer has these limits and represents the rest, whatever contents came before it.
abbrev StandsBehind : FrameLimits → Reading → List (List ℕ) → List ℕ → Type 0
StandsBehind limits framer contents rest = Represents framer rest × (limits_of framer ≡ limits)

gives : (limits : FrameLimits) (rest piece : List ℕ) (used : ℕ) (new : Reading)
    (content : Option (List ℕ))
    → MatchOption content
    ((used ≡ length piece) × Represents new (rest ++ piece))
    (λ text. IsFrame limits (rest ++ take used piece) text × Represents new [])
    → (front : List ℕ) × (behind : List ℕ) × ParsesAs (frames limits) front (option_to_list content)
    × (rest ++ take used piece ≡ front ++ behind) × Represents new behind
gives limits rest piece used new None (all, represents) =
    ([], rest ++ piece, refl, ap (λ xs. rest ++ xs) (take_all used piece (omega arith)), represents)
gives limits rest piece used new (Some content) (is, represents) = (
  rest ++ take used piece,
  [],
  one_item_alone (frames limits) (rest ++ take used piece) content is,
  sym (append-nil (rest ++ take used piece)),
  represents,
)

framers : (limits : FrameLimits) → IsReader (frames limits) calls (StandsBehind limits)
framers limits = record {
  is_open = λ framer contents rest represents. subst (λ l. IsOpen l rest) represents.1
      represents.0.is_open;
  takes = λ old new contents rest piece fed represents took.
      let given =
      subst (λ l. MatchOption fed.content ((fed.used ≡ length piece)
      × Represents new (rest ++ piece)) (λ text. IsFrame l (rest ++ take fed.used piece) text
      × Represents new [])) represents.1 (took.gives rest represents.0).1 in
      let goes = gives limits rest piece fed.used new fed.content given in
      (goes.0, goes.1, goes.2, goes.3, (goes.4, took.limits ∙ represents.1));
  refuses = λ old new contents rest piece represents again.
      ((again.gives rest represents.0).memory refl, again.limits ∙ represents.1);
}

pub any_pieces : (first last : Reading) (held : List ℕ) (pieces contents : List (List ℕ))
    → Represents first held
    → Feeds first pieces contents [] last
    → (rest : List ℕ) × Stream (limits_of first) (held ++ concat pieces) contents rest
    × Represents last rest
any_pieces first last held pieces contents represents feeds =
    let limits : FrameLimits = limits_of first in
    let read = items.any_pieces (frame_grammar limits) (framers limits) first last held pieces
    contents (represents, refl) feeds in
    (read.0, read.1, read.2.0)

pub fault_in_any_pieces : (first last new : Reading) (held piece : List ℕ)
    (pieces contents left : List (List ℕ)) (fault : FrameFault)
    → Represents first held → Feeds first pieces contents (piece ∷ left) last
    → IsCall last piece (Err fault) new
    → fault ≢ Memory
    → (rest : List ℕ) × (i : ℕ) × Stream (limits_of first) (held ++ concat pieces) contents rest
    × FailsAt (limits_of first) rest fault i × HasFailed new fault
fault_in_any_pieces first last new held piece pieces contents left fault represents feeds call
    apart =
    let limits : FrameLimits = limits_of first in
    let was = items.read_so_far (frame_grammar limits) (framers limits) first held pieces contents
    (piece ∷ left) last (represents, refl) feeds in
    let given = call.gives was.rest was.represents.0 in
    let shown = given.shown apart in
    let read = items.fault_in_any_pieces (frame_grammar limits) (framers limits) (held
    ++ concat pieces) piece contents left last fault shown.0 was
    (subst (λ l. FailsAt l (was.rest ++ piece) fault shown.0) was.represents.1 shown.1) in
    (read.0, shown.0, read.1, read.2, given.failed apart)
