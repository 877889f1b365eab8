-- Messages that are stored stay as they were if more is appended.
use Rattle.std.proofs.Common.{◌≡◌, ◌≤◌, ℕ, ◌-◌, List, [], ◌∷◌, ◌++◌, length, map, take, drop}
use Rattle.std.proofs.Common.{get_or}
use Rattle.std.proofs.Common.{refl, ap, ap₂, ◌∙◌, sym, arith, subst, length-append, length-drop}
use Rattle.std.proofs.lemmas.List.{take-append-le, drop-append-le, take-append-drop, map-append}
use Rattle.std.proofs.lemmas.List.Elements.{All-head, All-tail, All-push}
use Rattle.std.proofs.Math.Logic.{∥∥₁_elim}
use Rattle.std.proofs.Math.Seq.{take-append_seam}
use Rattle.std.proofs.Props.{props}
use Rattle.std.specs.List.{All}
use mathlib.Core.Logic.{∥∥₁_map}
use Rattle.dap_message.specs.Message.{Sent}
use Rattle.dap_flat.specs.declared.marks.Mark.{Mark}
use Rattle.dap_flat.specs.Marks.{Extends}
use Rattle.dap_stored.specs.declared.head.Head.{Head}
use Rattle.dap_stored.specs.declared.head.Span.{Span}
use Rattle.dap_stored.specs.declared.parts.Parts.{Parts}
use Rattle.dap_stored.specs.Contents.{message_in}
use Rattle.dap_stored.specs.Heads.{part, IsWithin, AreOfMessage, IsStored, Grows}
use Rattle.dap_stored.specs.Heads.{message_at}

pub starts_with_more : {X : Type 0} (old new more : List X) → new ≡ old ++ more
    → Extends old new
starts_with_more {X} old new more is = ap (take (length old)) is ∙ take-append_seam old more

appended : {X : Type 0} (old new : List X) → Extends old new
    → new ≡ old ++ drop (length old) new
appended {X} old new starts =
    sym (take-append-drop (length old) new) ∙ ap (λ xs. xs ++ drop (length old) new) starts

-- a part of the old list is the same part of the new one
part_stays : {X : Type 0} (s : Span) (old new : List X) → Extends old new → IsWithin s old
    → part new s ≡ part old s
part_stays {X} s old new starts within =
    let more = drop (length old) new in
    let start : s.start ≤ length old = omega (arith, within.order, within.end) in
    let enough : s.end - s.start ≤ length (drop s.start old) =
    omega (arith, within.order, within.end, length-drop s.start old) in
    ap (λ xs. take (s.end - s.start) (drop s.start xs)) (appended old new starts)
    ∙ ap (take (s.end - s.start)) (drop-append-le s.start old more start)
    ∙ take-append-le (s.end - s.start) (drop s.start old) more enough

within_stays : {X : Type 0} (s : Span) (old new : List X) → Extends old new → IsWithin s old
    → IsWithin s new
within_stays {X} s old new starts within = record {
  order = within.order;
  end = omega (
    arith,
    within.end,
    ap length (appended old new starts),
    length-append old (drop (length old) new),
  );
}

pub are_of : (h : Head) (n named c content : List ℕ) (m marks : List Mark) → n ≡ named
    → c ≡ content → m ≡ marks → AreOfMessage h named content marks → AreOfMessage h n c m
are_of h n named c content m marks e f g is =
    subst (λ x. AreOfMessage h x c m) (sym e)
    (subst (λ x. AreOfMessage h named x m) (sym f)
    (subst (λ x. AreOfMessage h named content x) (sym g) is))

pub stored_stays : (old new : Parts) (h : Head) → Grows old new → IsStored old h → IsStored new h
stored_stays old new h grows stored =
    let names = part_stays h.name old.names.items new.names.items grows.names stored.name_within in
    let content = part_stays h.content old.text.items new.text.items grows.text
    stored.content_within in
    let marks = part_stays h.marks old.marks.items new.marks.items grows.marks
    stored.marks_within in
    record {
      name_within = within_stays h.name old.names.items new.names.items grows.names
          stored.name_within;
      content_within = within_stays h.content old.text.items new.text.items grows.text
          stored.content_within;
      marks_within = within_stays h.marks old.marks.items new.marks.items grows.marks
          stored.marks_within;
      message = are_of h _ _ _ _ _ _ names content marks stored.message;
    }

-- the messages stay the same, since each content does
contents_stay : (old new : Parts) (hs : List Head) → Grows old new → ∥ All (IsStored old) hs ∥₁
    → All (λ h. part new.text.items h.content ≡ part old.text.items h.content) hs
contents_stay old new hs grows stored =
    ∥∥₁_elim stored (hlevel props)
    (λ all. λ k d within.
    part_stays (get_or hs k d).content old.text.items new.text.items grows.text
    (all k d within).content_within)

same_messages : (old new : Parts) (hs : List Head)
    → All (λ h. part new.text.items h.content ≡ part old.text.items h.content) hs
    → map (message_at new) hs ≡ map (message_at old) hs
same_messages old new [] all = refl
same_messages old new (h ∷ hs) all =
    let P : Head → Type 0 = λ h. part new.text.items h.content ≡ part old.text.items h.content in
    ap₂ (λ m ms. m ∷ ms) (ap (message_in h.side) (All-head P h hs all))
    (same_messages old new hs (All-tail P h hs all))

pub messages_stay : (old new : Parts) (hs : List Head) → Grows old new
    → ∥ All (IsStored old) hs ∥₁ → map (message_at new) hs ≡ map (message_at old) hs
messages_stay old new hs grows stored =
    same_messages old new hs (contents_stay old new hs grows stored)

-- ---- a session

pub heads_stay : (old new : Parts) (hs : List Head) → Grows old new → ∥ All (IsStored old) hs ∥₁
    → ∥ All (IsStored new) hs ∥₁
heads_stay old new hs grows stored =
    ∥∥₁_map stored
    (λ all. λ k d within. stored_stays old new (get_or hs k d) grows (all k d within))

pub heads_pushed : (old new : Parts) (hs : List Head) (h : Head) → Grows old new
    → ∥ All (IsStored old) hs ∥₁ → ∥ IsStored new h ∥₁ → ∥ All (IsStored new) (hs ++ h ∷ []) ∥₁
heads_pushed old new hs h grows stored one =
    ∥∥₁_elim (heads_stay old new hs grows stored) (hlevel props)
    (λ all. ∥∥₁_map one (λ s. All-push (IsStored new) hs h all s))

pub messages_pushed : (old new : Parts) (hs : List Head) (h : Head) (m : Sent) → Grows old new
    → ∥ All (IsStored old) hs ∥₁ → message_at new h ≡ m
    → map (message_at new) (hs ++ h ∷ []) ≡ map (message_at old) hs ++ m ∷ []
messages_pushed old new hs h m grows stored is =
    map-append (message_at new) hs (h ∷ [])
    ∙ ap₂ (λ ms n. ms ++ n ∷ []) (messages_stay old new hs grows stored) is
