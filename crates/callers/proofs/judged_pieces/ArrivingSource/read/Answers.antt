use Rattle.std.proofs.Common.{◌≡◌, ◌<◌, ◌+◌, ◌-◌, ◌++◌, ◌∙◌, min, ap, arith, drop, length}
use Rattle.std.proofs.Common.{length-drop}
use Rattle.std.proofs.Common.{refl, sym, take}
use Rattle.std.proofs.lemmas.List.{take_rest}
use Rattle.callers.specs.Pieces.{joined}
use Rattle.callers.proofs.JoinedPieces.{drop_at, holds_copied, read_on, same_length, some_left}
use Rattle.callers.proofs.judged_pieces.ArrivingSource.read.Goals as goal

pub returns : goal.returns
returns c =
    let input = c.go_on.new.self in
    let piece = c.in-Some.piece.now in
    let later = drop (input.at + 1) input.pieces.now in
    let count = c.min-count.result in
    let buffer = c.args.buffer.now in
    let copied = c.copy_from_slice.new.self in
    let rest = drop input.read piece.now in
    let some : input.read < length piece.now =
    some_left input.pieces.now input.at input.read piece c.in-Some.ensures.lookup.3.0
    (c.in-Some.ensures.lookup.3.1 piece) c.go_on.ensures.some in
    let long = length-drop input.read piece.now in
    let fits : count ≡ min (length rest) (length buffer) =
    omega (arith, c.min-count.ensures, long) in
    let is : copied ≡ take count rest =
    c.copy_from_slice.ensures.after ∙ ap (take count) (take_rest piece.now input.read) in
    let now : length piece.now - ((length piece.now - input.read) - count) ≡ input.read + count =
    omega (arith, some, fits, long) in
    let same = same_length rest buffer copied count fits is in
    let here = ap (λ pieces. drop input.read (joined pieces))
    (drop_at input.pieces.now input.at piece c.in-Some.ensures.lookup.3.0
    (c.in-Some.ensures.lookup.3.1 piece)) in
    let there = ap (λ pieces. drop (input.read + count) (joined pieces))
    (drop_at input.pieces.now input.at piece c.in-Some.ensures.lookup.3.0
    (c.in-Some.ensures.lookup.3.1 piece)) in
    record {
      read = record {
        fits = omega (arith, same, fits);
        bytes = sym c.go_on.ensures.left ∙ here
            ∙ read_on piece later input.read count copied (omega (arith, some, fits, long)) is
            ∙ ap (λ xs. copied ++ xs) (sym there)
            ∙ ap (λ xs. xs ++ drop (input.read + count) (joined (drop input.at input.pieces.now)))
            (sym (holds_copied rest buffer copied count fits is))
            ∙ ap (λ n. take count (copied ++ drop count buffer)
            ++ drop n (joined (drop input.at input.pieces.now))) (sym now);
        end = λ none room. absurd (omega (arith, none, room, same, fits, long, some));
        counted = ap (λ n. n + count) c.go_on.ensures.given;
        no_failure = refl;
      };
    }
